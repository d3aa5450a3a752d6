-- Worked examples of the lines on standard error.
use Rattle.std.proofs.Common.{◌≡◌, ℕ, List, [], ◌∷◌, ◌++◌, None, Some, refl}
use Rattle.std.specs.Prelude.{codes}
use Rattle.std.specs.Fmt.{digits}
use Rattle.explanations.specs.Shown.{shown_text}
use Rattle.ghcn_series.specs.declared.fault.DailyWhy.TheVariants.{DuplicateMonth}
use Rattle.rank_input.specs.declared.fault.Fault.TheVariants.{DailyLine, QueryEnds}
use Rattle.extremes.specs.Messages.{foreign_warning, odd_warning, warning_lines, unlisted_warning, not_read_line}
use Rattle.extremes.specs.Messages.{not_written_line, place_lines, unnumbered_place}

-- two daily files
abbrev paths : List (List ℕ)
paths = codes "a.dly" ∷ codes "b c.dly" ∷ []

-- no file is foreign
no-foreign : foreign_warning paths (record { count = 0; first = None }) ≡ []
no-foreign = refl

-- twelve are, from the second on
foreign : foreign_warning paths (record { count = 12; first = Some 1 })
    ≡ Some (codes "foreign 12 " ++ shown_text (codes "b c.dly")) ∷ []
unfolding digits
foreign = refl

-- line 7 of the first file is odd, and two more
odd : odd_warning paths (record { count = 3; first = Some (record { file = 0; line = 7 }) })
    ≡ Some (codes "odd 3 " ++ shown_text (codes "a.dly") ++ codes ":" ++ codes "7") ∷ []
unfolding digits
odd = refl

-- foreign files come before odd lines
both : warning_lines paths (record {
  foreign = record { count = 1; first = Some 0 };
  odd = record { count = 1; first = Some (record { file = 1; line = 20 }) };
}) ≡ Some (codes "foreign 1 " ++ shown_text (codes "a.dly"))
    ∷ Some (codes "odd 1 " ++ shown_text (codes "b c.dly") ++ codes ":" ++ codes "20") ∷ []
unfolding digits
both = refl

-- no line is of an unlisted station, or 3000 are
no-unlisted : unlisted_warning 0 ≡ []
no-unlisted = refl

unlisted : unlisted_warning 3000 ≡ Some (codes "unlisted 3000") ∷ []
unfolding digits
unlisted = refl

-- files that can't be read or written
not-read : not_read_line (codes "-") ≡ Some (codes "file not read " ++ shown_text (codes "-"))
not-read = refl

not-written : not_written_line (codes "out") ≡ Some (codes "file not written " ++ shown_text (codes "out"))
not-written = refl

-- line 30 of the second file is bad, and the arguments are a folder, or these files
placed : unnumbered_place (codes "folder" ∷ []) paths (DailyLine 2 30 DuplicateMonth)
    ≡ Some (codes "at " ++ shown_text (codes "b c.dly") ++ codes ":" ++ codes "30") ∷ []
unfolding digits
placed = refl

numbered : unnumbered_place paths paths (DailyLine 2 30 DuplicateMonth) ≡ []
numbered = refl

-- there is no third file, and no file 0
absent : place_lines paths (DailyLine 3 30 DuplicateMonth) ≡ []
absent = refl

before-first : place_lines paths (DailyLine 0 30 DuplicateMonth) ≡ []
before-first = refl

-- the query isn't in a daily file
unplaced : unnumbered_place [] paths QueryEnds ≡ []
unplaced = refl
