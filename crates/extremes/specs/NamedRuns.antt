-- How a run goes on with the daily files that its command names.
use Rattle.std.specs.Prelude.{◌≡◌, ℕ, List, [], ◌∷◌, map, Option, option_map, Vec, String, string_bytes}
use Rattle.std.specs.Global.{Global}
use Rattle.command_line.specs.declared.asked.NamedFiles.{NamedFiles}
use Rattle.rank_input.specs.declared.named.NotNamed.{NotNamed}
use Rattle.rank_input.specs.declared.named.NotNamed.TheVariants.{Unreadable, Empty, NotText, Memory}
use Rattle.rank_input.specs.declared.fault.Fault.{Fault}
use Rattle.rank_input.specs.Feeding.{Opening, StopsAt}
use Rattle.rank_input.specs.Named.{StandFor}
use Rattle.rank_input.specs.NamingStops.{StopsNaming}
use Rattle.extremes.specs.declared.ending.Ending.{Ending}
use Rattle.extremes.specs.declared.ending.Ending.TheVariants.{File, Refused}
use Rattle.extremes.specs.Environments.{Folders}
use Rattle.extremes.specs.Merges.{Known}
use Rattle.extremes.specs.Messages.{Line, Streams, naming_line, not_read_line}

-- the paths of daily files
abbrev pub Paths : Type 0
Paths = Vec (String Global) Global

-- the arguments of a command that name files or folders
abbrev pub arguments_of : NamedFiles → List (List ℕ)
arguments_of files = map string_bytes files.paths.items

-- the list of a command, if it has one
abbrev pub list_of : NamedFiles → Option (List ℕ)
list_of files = option_map string_bytes files.list

-- these are the files that the arguments and the list of a command stand for
abbrev pub StandForNamed : Known → Opening → Folders → NamedFiles → Paths → Type 0
StandForNamed bytes_of opens names_of files paths =
    StandFor bytes_of opens names_of files.null (list_of files) (arguments_of files) (map string_bytes paths.items)

-- naming stops at an argument or in the list of a command
abbrev pub StopsNamed : Known → Opening → Folders → NamedFiles → NotNamed → Type 0
StopsNamed bytes_of opens names_of files =
    StopsNaming bytes_of opens names_of files.null (list_of files) (arguments_of files)

-- a run whose files can't be named is refused if memory ran out, and ends at a file otherwise
abbrev pub naming_ending : NotNamed → Ending
naming_ending (Unreadable at) = File
naming_ending (Empty at) = File
naming_ending (NotText at) = File
naming_ending Memory = Refused

-- the files of a command can't be named, and nothing is printed but a line on standard error that says why
pub record EndsUnnamed (bytes_of : Known) (opens : Opening) (names_of : Folders) (line : Fault → Line) (s : Streams)
    (files : NamedFiles) (ending : Ending) : Type 0 where
  pub why : NotNamed
  pub stops : StopsNamed bytes_of opens names_of files why
  pub ends : ending ≡ naming_ending why
  pub unprinted : s.after ≡ s.before
  pub said : s.says (naming_line line why ∷ [])

-- the files of a command are named, and it runs over them
pub record RunsOver (bytes_of : Known) (opens : Opening) (names_of : Folders) (files : NamedFiles)
    (runs : Paths → Ending → Type 0) (ending : Ending) : Type 0 where
  pub paths : Paths
  pub stand : StandForNamed bytes_of opens names_of files paths
  pub ran : runs paths ending

-- of the files that are named one can't be read, those before it were opened, and nothing is printed but a line on
-- standard error that names it
pub record EndsAtAFile (opens : Opening) (s : Streams) (paths : List (List ℕ)) (ending : Ending) : Type 0 where
  pub path : List ℕ
  pub stops : StopsAt opens paths path
  pub ends : ending ≡ File
  pub unprinted : s.after ≡ s.before
  pub said : s.says (not_read_line path ∷ [])
