-- The lines of daily files by what is on them.
use Rattle.std.specs.Prelude.{ℕ, Bool, ◌&&◌, not, if◌then◌else◌, List, map}
use Rattle.std.specs.List.{filter_map, count_by}
use Rattle.ghcn_fields.specs.Meaning.Bytes.{same_bytes}
use Rattle.ghcn_fields.specs.Meaning.Lines.{columns}
use Rattle.ghcn_files.specs.declared.element.Element.{Element}
use Rattle.ghcn_files.specs.declared.station.Station.{Station}
use Rattle.ghcn_files.specs.declared.month.Month.{Month}
use Rattle.ghcn_files.specs.Meaning.Ids.{is_visible}
use Rattle.ghcn_files.specs.Elements.{same_element}
use Rattle.ghcn_series.specs.DailyFaults.{FileLine, month_on, is_listed}
use Rattle.ghcn_series.specs.LineKinds.{has_element}

-- the month's station is listed, and its element is this one
abbrev pub is_listed_of : List Station → Element → Month → Bool
is_listed_of stations e m = is_listed stations m.id && same_element m.element e

-- how many lines of listed stations have an element
abbrev pub lines_of_element : List Station → List FileLine → Element → ℕ
lines_of_element stations ls e = count_by (is_listed_of stations e) (filter_map month_on ls)

-- how many lines of the five elements have a station that isn't listed
abbrev pub unlisted_lines : List Station → List FileLine → ℕ
unlisted_lines stations ls = count_by (λ m. not (is_listed stations m.id)) (filter_map month_on ls)

-- the line has a code that isn't one of the five elements'
abbrev pub is_other : FileLine → Bool
is_other l = not (has_element l.bytes)

-- how many lines have such a code
abbrev pub other_lines : List FileLine → ℕ
other_lines ls = count_by is_other ls

-- a byte as a description shows it: a question mark for one that can't be seen
abbrev pub shown : ℕ → ℕ
shown b = if is_visible b then b else 63

-- the code of a line as a description shows it
abbrev pub code_on : FileLine → List ℕ
code_on l = map shown (columns 18 21 l.bytes)

-- how many lines have another code that is shown so
abbrev pub lines_with : List FileLine → List ℕ → ℕ
lines_with ls code = count_by (λ l. is_other l && same_bytes (code_on l) code) ls
