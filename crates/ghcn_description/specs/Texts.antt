-- The text of a description: its lines are written with the line feed before them, and the last one with one after.
use Rattle.std.specs.Prelude.{ℕ, zero, suc, List, [], ◌++◌, codes, Option, None, Some, ℤ}
use Rattle.std.specs.List.{flat_map}
use Rattle.std.specs.Fmt.{decimal}
use Rattle.ghcn_fields.specs.Meaning.Dates.{date_text}
use Rattle.ghcn_files.specs.Meaning.Elements.{code_of}
use Rattle.ghcn_description.specs.declared.counts.Description.{Description}
use Rattle.ghcn_description.specs.declared.counts.ElementCounts.{ElementCounts}
use Rattle.ghcn_description.specs.declared.counts.Span.{Span}
use Rattle.ghcn_description.specs.declared.counts.CodeCount.{CodeCount}

-- a word and a number after it
abbrev pub counted_text : List ℕ → ℕ → List ℕ
counted_text word n = word ++ decimal n

-- a word and a day after it
abbrev pub dated : List ℕ → ℤ → List ℕ
dated word day = word ++ date_text day

-- the first and the last day
abbrev pub days_text : Span → List ℕ
days_text span = dated (codes " from ") span.first ++ dated (codes " to ") span.last

-- the same, if there are any
abbrev pub span_text : Option Span → List ℕ
span_text None = []
span_text (Some span) = days_text span

-- the line of an element
abbrev pub element_line : ElementCounts → List ℕ
element_line c =
    codes "\nelement " ++ code_of c.element ++ counted_text (codes " lines ") c.lines
    ++ counted_text (codes " series ") c.series ++ counted_text (codes " days ") c.days
    ++ counted_text (codes " flagged ") c.flagged ++ span_text c.span

-- the line of another code
abbrev pub code_line : CodeCount → List ℕ
code_line c = codes "\nother " ++ c.code ++ counted_text (codes " lines ") c.lines

-- the line of further codes, if a line has one
abbrev pub further_line : ℕ → List ℕ
further_line zero = []
further_line (suc n) = counted_text (codes "\nothers lines ") (suc n)

-- the text of a description
abbrev pub description_text : Description → List ℕ
description_text d =
    codes "extremes description 1"
    ++ counted_text (codes "\nstations ") d.stations
    ++ counted_text (codes "\nfiles ") d.files
    ++ counted_text (codes "\nlines ") d.lines
    ++ flat_map element_line d.elements
    ++ flat_map code_line d.others.items
    ++ further_line d.further
    ++ counted_text (codes "\nodd lines ") d.warnings.odd.count
    ++ counted_text (codes "\nunlisted lines ") d.unlisted
    ++ counted_text (codes "\nblank lines ") d.blank
    ++ codes "\nend\n"
