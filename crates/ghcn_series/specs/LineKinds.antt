-- What is on the lines of daily files, the files that have none of the five elements, and the odd lines.
use Rattle.std.specs.Prelude.{ℕ, ◌-◌, Bool, false, ◌&&◌, ◌||◌, not, if◌then◌else◌}
use Rattle.std.specs.Prelude.{List, [], ◌∷◌, map, filter, drop, get_or}
use Rattle.std.specs.List.{flat_map, list_any, list_all, count_by, enumerate_from, slice_get, find}
use Rattle.std.specs.Option.{is_some, option_map}
use Rattle.std.specs.Char.{is_ascii_uppercase, is_ascii_digit}
use Rattle.ghcn_fields.specs.Meaning.Bytes.{is_blank}
use Rattle.ghcn_fields.specs.Meaning.Lines.{columns, lines}
use Rattle.ghcn_files.specs.Elements.{element_of}
use Rattle.ghcn_series.specs.declared.counts.LineKind.{LineKind}
use Rattle.ghcn_series.specs.declared.counts.LineKind.TheVariants.{Blank, OfElement, Other, Odd}
use Rattle.ghcn_series.specs.declared.counts.Foreign.{Foreign}
use Rattle.ghcn_series.specs.declared.counts.LinePlace.{LinePlace}
use Rattle.ghcn_series.specs.declared.counts.OddLines.{OddLines}
use Rattle.ghcn_series.specs.declared.counts.Warnings.{Warnings}
use Rattle.ghcn_series.specs.DailyFaults.{FileLine, daily_lines}

-- the lines of all files, blank ones too
abbrev pub all_lines : List (List ℕ) → List (List ℕ)
all_lines files = flat_map lines files

-- how many lines are blank
abbrev pub blank_lines : List (List ℕ) → ℕ
blank_lines files = count_by is_blank (all_lines files)

-- the line has the code of one of the five elements
abbrev pub has_element : List ℕ → Bool
has_element line = is_some (element_of (columns 18 21 line))

-- a code may have a byte after its first: the byte is a capital letter or a digit
abbrev pub may_follow : ℕ → Bool
may_follow b = is_ascii_uppercase b || is_ascii_digit b

-- bytes are a code: a capital letter, which capitals or digits follow
abbrev pub is_code : List ℕ → Bool
is_code [] = false
is_code (b ∷ bytes) = is_ascii_uppercase b && list_all may_follow bytes

-- the line has a code in the columns of an element's code
abbrev pub has_code : List ℕ → Bool
has_code line = is_code (columns 18 21 line)

-- the line has the form of all lines of daily files: a code, and only blanks after the last column
abbrev pub has_form : List ℕ → Bool
has_form line = has_code line && is_blank (drop 269 line)

-- what is on a line
abbrev pub line_kind : List ℕ → LineKind
line_kind line =
    if is_blank line then Blank else if has_element line then OfElement else if has_form line then Other else Odd

-- a line is odd: it isn't blank, has none of the five elements, and hasn't the form of lines of daily files
abbrev pub is_odd : List ℕ → Bool
is_odd line = not (is_blank line) && not (has_element line) && not (has_form line)

-- a file is foreign: it has a line that isn't blank, and none of the five elements
abbrev pub is_foreign : List ℕ → Bool
is_foreign file = list_any (λ l. not (is_blank l)) (lines file) && not (list_any has_element (lines file))

-- a file has a part before files, the first of which is its other part: the part before is foreign by itself, or the
-- other one is although the part before has a line that isn't blank
abbrev pub cuts_foreign : List ℕ → List (List ℕ) → Bool
cuts_foreign before files =
    is_foreign before || (list_any (λ l. not (is_blank l)) (lines before) && is_foreign (get_or files 0 []))

-- the places of the foreign files among all files, from 0
abbrev pub foreign_places : List (List ℕ) → List ℕ
foreign_places files = map (λ f. f.0) (filter (λ f. is_foreign f.1) (enumerate_from 0 files))

-- the foreign files, by their number and the place of the first of them
abbrev pub foreign_of : List (List ℕ) → Foreign
foreign_of files = record { count = count_by is_foreign files; first = slice_get (foreign_places files) 0 }

-- the place of a line of the files, by the place of its file among all files, from 0
abbrev pub place_of : FileLine → LinePlace
place_of l = record { file = l.file - 1; line = l.line }

-- the odd ones among lines of files, by their number and the place of the first of them
abbrev pub odd_among : List FileLine → OddLines
odd_among ls = record {
  count = count_by (λ l. is_odd l.bytes) ls;
  first = option_map place_of (find (λ l. is_odd l.bytes) ls);
}

-- what a run warns of: the foreign files, and the odd lines of all files
abbrev pub warnings_of : List (List ℕ) → Warnings
warnings_of files = record { foreign = foreign_of files; odd = odd_among (daily_lines files) }
