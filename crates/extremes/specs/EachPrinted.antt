-- How the reports of a list of queries are printed, and why a list is refused.
use Rattle.std.specs.Prelude.{◌≡◌, ℕ, List, [], ◌∷◌, ◌++◌, Some, Ok, Err, string_bytes}
use Rattle.rank_input.specs.declared.fault.Fault.{Fault}
use Rattle.rank_input.specs.declared.fault.Fault.TheVariants as faults
use Rattle.rank_input.specs.declared.queries.QueriesFault.{QueriesFault}
use Rattle.rank_input.specs.declared.queries.QueriesFault.TheVariants.{Line, NotText, Memory}
use Rattle.rank_input.specs.Input.{of_query}
use Rattle.extremes.specs.declared.ending.Ending.{Ending}
use Rattle.extremes.specs.declared.ending.Ending.TheVariants.{Refused, File}
use Rattle.extremes.specs.declared.papers_folder.Stop.TheVariants.{Input, NotWritten}
use Rattle.extremes.specs.Each.{Reports}
use Rattle.extremes.specs.Messages as messages
use Rattle.extremes.specs.Messages.{Streams, after_lines, not_read_line, not_written_line, place_text, unlisted_warning}
use Rattle.extremes.specs.Printed.{IsRefused, IsShown}

-- a list with a line that isn't text can't be read; any other error of a list refuses it
abbrev pub list_ending : QueriesFault → Ending
list_ending (Line line why) = Refused
list_ending (NotText line) = File
list_ending (Memory m) = Refused

-- the lines on a list that is refused: that of the error, and then where its first bad line is
abbrev pub list_lines : (Fault → messages.Line) → List ℕ → QueriesFault → List messages.Line
list_lines text path (Line line why) = text (of_query why) ∷ Some (place_text line path) ∷ []
list_lines text path (NotText line) = not_read_line path ∷ Some (place_text line path) ∷ []
list_lines text path (Memory m) = text (faults.Memory m) ∷ []

-- the file of a path isn't written, and nothing is printed but a line on standard error that names it
pub record EndsAtPaper (s : Streams) (path : List ℕ) (ending : Ending) : Type 0 where
  pub ends : ending ≡ File
  pub unprinted : s.after ≡ s.before
  pub said : s.says (not_written_line path ∷ [])

-- after the warnings and the line on unlisted stations all reports are shown as one text; an error prints its lines
-- alone, and so does a file that isn't written whole
abbrev pub AreReportsPrinted : (Fault → List messages.Line) → Streams → Reports → List messages.Line → ℕ → Ending
    → Type 0
AreReportsPrinted lines s (Ok reports) warnings unlisted ending =
    IsShown (after_lines (warnings ++ unlisted_warning unlisted) s) reports.items ending
AreReportsPrinted lines s (Err (Input fault)) warnings unlisted ending = IsRefused lines s fault ending
AreReportsPrinted lines s (Err (NotWritten path)) warnings unlisted ending = EndsAtPaper s (string_bytes path) ending
