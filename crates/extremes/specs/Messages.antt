-- What is printed on standard error: lines, each by its text.
use Rattle.std.specs.Prelude.{ℕ, zero, suc, if◌then◌else◌, List, [], ◌∷◌, ◌++◌, codes, Option, None, Some}
use Rattle.std.specs.Prelude.{bytes_eq, string_bytes}
use Rattle.std.specs.Cmp.Lexicographic.{pointwise}
use Rattle.std.specs.List.{FoldsTo, slice_get}
use Rattle.std.specs.Option.{option_and_then}
use Rattle.std.specs.Fmt.{decimal}
use Rattle.explanations.specs.Shown.{shown_text}
use Rattle.ghcn_series.specs.declared.counts.Foreign.{Foreign}
use Rattle.ghcn_series.specs.declared.counts.LinePlace.{LinePlace}
use Rattle.ghcn_series.specs.declared.counts.OddLines.{OddLines}
use Rattle.ghcn_series.specs.declared.counts.Warnings.{Warnings}
use Rattle.rank_input.specs.declared.fault.Fault.{Fault}
use Rattle.rank_input.specs.declared.fault.Fault.TheVariants.{StationLine, TooManyStations, Memory, DailyLine}
use Rattle.rank_input.specs.declared.fault.Fault.TheVariants.{TooManyFiles, QueryTooLong, UnexpectedWord, QueryEnds}
use Rattle.rank_input.specs.declared.fault.Fault.TheVariants.{OutOfLimits, BadDate, BadBox, EmptyPeriod, BadWorkers}
use Rattle.rank_input.specs.declared.fault.Fault.TheVariants.{BadGuess}
use Rattle.rank_input.specs.declared.named.NotNamed.{NotNamed}
use Rattle.rank_input.specs.declared.named.NotNamed.TheVariants as naming

-- the text of a line, without its line feed, if it is known
abbrev pub Line : Type 0
Line = Option (List ℕ)

-- how printing a line may change what prints it
abbrev pub LinePrinting : Type 0 → Type 1
LinePrinting M = M → Line → M → Type 0

-- which lines are printed, all of them, in order
abbrev pub Saying : Type 1
Saying = List Line → Type 0

-- those that took what prints from one state to another, one after the other
abbrev pub ArePrintedLines : {M : Type 0} → LinePrinting M → M → M → Saying
ArePrintedLines prints before after lines = FoldsTo prints before lines after

-- which lines standard error was given, and what standard output was given before, and after
pub record Streams : Type 1 where
  pub says : Saying
  pub before : Option (List ℕ)
  pub after : Option (List ℕ)

-- streams of these
abbrev pub streams : Saying → Option (List ℕ) → Option (List ℕ) → Streams
streams says before after = record { says = says; before = before; after = after }

-- the streams once standard error was given these lines
abbrev pub after_lines : List Line → Streams → Streams
after_lines first s = streams (λ lines. s.says (first ++ lines)) s.before s.after

-- the line that names a file by its path, if there is one
abbrev pub line_naming : (List ℕ → List ℕ) → Option (List ℕ) → List Line
line_naming text None = []
line_naming text (Some path) = Some (text path) ∷ []

-- that this number of files are foreign, and the path of the first
abbrev pub foreign_text : ℕ → List ℕ → List ℕ
foreign_text count path = codes "foreign " ++ decimal count ++ codes " " ++ shown_text path

-- that this number of lines are odd, and of the first its number and the path of its file
abbrev pub odd_text : ℕ → ℕ → List ℕ → List ℕ
odd_text count line path = codes "odd " ++ decimal count ++ codes " " ++ shown_text path ++ codes ":" ++ decimal line

-- the line on foreign files of these paths, if there are any
abbrev pub foreign_warning : List (List ℕ) → Foreign → List Line
foreign_warning paths foreign =
    line_naming (foreign_text foreign.count) (option_and_then (slice_get paths) foreign.first)

-- the line on this number of odd lines, of which the first is at a place, if there are any
abbrev pub odd_warning_at : List (List ℕ) → ℕ → Option LinePlace → List Line
odd_warning_at paths count None = []
odd_warning_at paths count (Some first) = line_naming (odd_text count first.line) (slice_get paths first.file)

-- the line on odd lines in files of these paths, if there are any
abbrev pub odd_warning : List (List ℕ) → OddLines → List Line
odd_warning paths odd = odd_warning_at paths odd.count odd.first

-- the lines on what a run warns of in files of these paths: the foreign files, and then the odd lines
abbrev pub warning_lines : List (List ℕ) → Warnings → List Line
warning_lines paths warnings = foreign_warning paths warnings.foreign ++ odd_warning paths warnings.odd

-- the line on this number of lines of unlisted stations, if there are any
abbrev pub unlisted_warning : ℕ → List Line
unlisted_warning zero = []
unlisted_warning (suc n) = Some (codes "unlisted " ++ decimal (suc n)) ∷ []

-- that the file of a path can't be read
abbrev pub not_read_line : List ℕ → Line
not_read_line path = Some (codes "file not read " ++ shown_text path)

-- that it can't be written
abbrev pub not_written_line : List ℕ → Line
not_written_line path = Some (codes "file not written " ++ shown_text path)

-- the line of an error, and no other
abbrev pub only_line : {F : Type 0} → (F → Line) → F → List Line
only_line line fault = line fault ∷ []

-- the path of the file of this number; files count from 1
abbrev pub numbered_path : List (List ℕ) → ℕ → Option (List ℕ)
numbered_path paths zero = None
numbered_path paths (suc place) = slice_get paths place

-- where a line is: the path of its file, and its number
abbrev pub place_text : ℕ → List ℕ → List ℕ
place_text line path = codes "at " ++ shown_text path ++ codes ":" ++ decimal line

-- the line on where a daily line is that an error names, if it names one
abbrev pub place_lines : List (List ℕ) → Fault → List Line
place_lines paths (StationLine line why) = []
place_lines paths TooManyStations = []
place_lines paths (Memory m) = []
place_lines paths (DailyLine file line why) = line_naming (place_text line) (numbered_path paths file)
place_lines paths TooManyFiles = []
place_lines paths QueryTooLong = []
place_lines paths (UnexpectedWord at) = []
place_lines paths QueryEnds = []
place_lines paths (OutOfLimits at) = []
place_lines paths (BadDate at) = []
place_lines paths (BadBox at) = []
place_lines paths EmptyPeriod = []
place_lines paths BadWorkers = []
place_lines paths BadGuess = []

-- that line, if these arguments aren't the paths of the files: then the number of a file isn't that of an argument
abbrev pub unnumbered_place : List (List ℕ) → List (List ℕ) → Fault → List Line
unnumbered_place arguments paths fault = if pointwise bytes_eq paths arguments then [] else place_lines paths fault

-- the lines of an error of the input: its own, and then where the daily line is
abbrev pub input_lines : (Fault → Line) → List (List ℕ) → List (List ℕ) → Fault → List Line
input_lines line arguments paths fault = line fault ∷ unnumbered_place arguments paths fault

-- the line of naming that stops: that the folder, the list or the file can't be read, or that memory ran out
abbrev pub naming_line : (Fault → Line) → NotNamed → Line
naming_line line (naming.Unreadable at) = not_read_line (string_bytes at)
naming_line line (naming.Empty at) = not_read_line (string_bytes at)
naming_line line (naming.NotText at) = not_read_line (string_bytes at)
naming_line line naming.Memory = line (Memory (record {}))
