-- What the arguments ask for, in the terms of `clap`.
use Rattle.std.specs.Prelude.{◌≡◌, ◌↔◌, ◌⊎◌, IsSome, IfSome, List, [], ◌∷◌, map, codes, Option, Some, None, unwrap_or, Bool, true}
use Rattle.std.specs.Prelude.{String, string_bytes, ⊤}
use Rattle.std.specs.Prelude.{ℕ, ◌<◌, ◌^◌, ℤ, pos, negsuc, FitsSigned}
use Rattle.std.specs.Option.{option_map}
use Rattle.std.specs.List.{flat_map}
use Rattle.clap.specs.declared.builder.Arg.{Arg}
use Rattle.std.specs.Int.{w64}
use Rattle.std.specs.Str.Parse.{IsNumeral, without_leading_sign, without_leading_plus, signed_digits_value}
use Rattle.std.specs.Str.Parse.{digits_value}
use Rattle.clap.specs.Words.{App, Row, Rule, Text, all_of, first_of, one_of, new_app, new_rule, subcommand_of}
use Rattle.clap.specs.Words.{with_rule, with_subcommand, fault_of, IsAmong}
use Rattle.clap.specs.declared.error.ErrorKind.TheVariants.{DisplayVersion}
use Rattle.clap.specs.Lexer.{usize_max}
use Rattle.clap.specs.declared.builder.ArgAction.TheVariants.{Set, SetTrue, Append}
use Rattle.clap.specs.declared.builder.ValueParser.{ValueParser}
use Rattle.clap.specs.declared.builder.ValueParser.TheVariants.{Signed, Unsigned}
use Rattle.command_line.specs.Fitting.{FitTogether, RanksOne, RanksEach, ChecksOne, ChecksEach, papers_to_merge}
use Rattle.command_line.specs.declared.asked.Part.{Part}
use Rattle.command_line.specs.declared.asked.TableArguments.{TableArguments}
use Rattle.command_line.specs.declared.asked.NamedFiles.{NamedFiles}
use Rattle.command_line.specs.declared.asked.CommandFault.{CommandFault}
use Rattle.command_line.specs.declared.asked.CommandFault.TheVariants as fault
use Rattle.command_line.specs.declared.asked.Command.{Command}
use Rattle.command_line.specs.declared.asked.Command.TheVariants.{Sample, Rank, RankEach, Merge, Check, CheckEach, Describe, Table}

-- `--NAME VALUE`: an option with one value, which may be given once
abbrev pub option_of : Text → Rule
option_of name = record (new_rule name) { long = Some name; value_names = 1; action = Some Set }

-- `--NAME`: a flag, which may be given once
abbrev pub flag_of : Text → Rule
flag_of name = record (new_rule name) { long = Some name; action = Some SetTrue }

-- `-CHAR` is the same flag
abbrev pub short_by : ℕ → Rule → Rule
short_by char rule = record rule { short = Some char }

-- an option which must be given
abbrev pub required : Rule → Rule
required rule = record rule { required = true }

-- the same, whose value such a parser accepts
abbrev pub parsed : ValueParser → Rule → Rule
parsed parser rule = record rule { parser = Some parser }

-- an argument that subcommands have too
abbrev pub is_global : Arg → Bool
is_global a = a.global

-- the values that are whole numbers of 64 bits
abbrev pub whole_number : ValueParser
whole_number = Signed (negsuc 9223372036854775807) (pos 9223372036854775807)

-- the values that are whole numbers of 64 bits from 0 on
abbrev pub whole_count : ValueParser
whole_count = Unsigned 0 18446744073709551615

-- the values that are numbers of threads that may read
abbrev pub few_readers : ValueParser
few_readers = Unsigned 1 64

-- what comes after them, any number, under a name
abbrev pub many_of : Text → Rule
many_of name = record (new_rule name) {
  range = Some (record { start_inclusive = 0; end_inclusive = usize_max });
  value_names = 1;
  action = Some Append;
}

-- a subcommand that daily files are given: a list of more, `--null` or `-0`, `--progress`, and then the files
abbrev pub and_files : App → App
and_files app = with_rule (with_rule (with_rule (with_rule app
    (option_of (codes "files-from")))
    (short_by 48 (flag_of (codes "null"))))
    (flag_of (codes "progress"))) (many_of (codes "files"))

-- `rank` with its options, of which the station list must be given, and files
abbrev pub rank_app : App
rank_app = and_files (with_rule (with_rule (with_rule (with_rule (with_rule (with_rule (with_rule (new_app (codes "rank"))
    (required (option_of (codes "stations"))))
    (option_of (codes "query")))
    (option_of (codes "queries")))
    (option_of (codes "papers")))
    (parsed whole_count (option_of (codes "workers"))))
    (parsed whole_number (option_of (codes "guess"))))
    (option_of (codes "certificate")))

-- `merge` with its options, of which the query must be given, and the reports and certificates of parts
abbrev pub merge_app : App
merge_app = with_rule (with_rule (with_rule (new_app (codes "merge"))
    (required (option_of (codes "query"))))
    (option_of (codes "certificate"))) (many_of (codes "papers"))

-- `check` with its options, of which the station list must be given, its flag and files
abbrev pub check_app : App
check_app = and_files (with_rule (with_rule (with_rule (with_rule (with_rule (with_rule (with_rule (with_rule
    (new_app (codes "check"))
    (required (option_of (codes "stations"))))
    (option_of (codes "query")))
    (option_of (codes "report")))
    (option_of (codes "certificate")))
    (option_of (codes "queries")))
    (option_of (codes "papers")))
    (flag_of (codes "part")))
    (parsed few_readers (option_of (codes "workers"))))

-- `describe` with its options, of which the station list must be given, and files
abbrev pub describe_app : App
describe_app = and_files (with_rule (with_rule (new_app (codes "describe"))
    (required (option_of (codes "stations"))))
    (parsed few_readers (option_of (codes "workers"))))

-- `table` with its options, of which none must be given, and files of reports
abbrev pub table_app : App
table_app = with_rule (with_rule (new_app (codes "table"))
    (option_of (codes "stations"))) (many_of (codes "reports"))

-- the program's command line: it has a version and the subcommands `rank`, `merge`, `check`, `describe` and `table`, and
-- needs one of these
abbrev pub extremes_app : App
extremes_app = with_subcommand (with_subcommand (with_subcommand (with_subcommand (with_subcommand (record (new_app (codes "extremes")) {
  top = record (new_app (codes "extremes")).top {
    has_version = true;
    subcommand_required = true;
    disable_help_subcommand = true;
  };
}) rank_app.top) merge_app.top) check_app.top) describe_app.top) table_app.top

-- all arguments, the program's name first
abbrev pub all_words : {A : Type 0} → List (String A) → List Text
all_words words = codes "extremes" ∷ map (λ w. string_bytes w) words

-- the arguments are a valid command line: `clap` reports no error, and what the subcommand is given fits together
pub record AreRightWords (words : List Text) : Type 0 where
  pub read : fault_of extremes_app words ≡ []
  pub together : IfSome (subcommand_of extremes_app words) (λ met. FitTogether met.0 met.1)

-- the guess is the number of 64 bits that the text writes; there is none if no text is given
abbrev pub IsGuess : Option Text → Option ℤ → Type 0
IsGuess None guess = guess ≡ None
IsGuess (Some text) None = IsNumeral 10 (without_leading_sign text) × FitsSigned w64 (signed_digits_value 10 text) → ⊥
IsGuess (Some text) (Some number) = IsNumeral 10 (without_leading_sign text) × (number ≡ signed_digits_value 10 text)

-- the count is the number of 64 bits that the text writes; there is none if no text is given
abbrev pub IsCount : Option Text → Option ℕ → Type 0
IsCount None count = count ≡ None
IsCount (Some text) None =
    IsNumeral 10 (without_leading_plus text) × (digits_value 10 (without_leading_plus text) < 2 ^ 64) → ⊥
IsCount (Some text) (Some number) =
    IsNumeral 10 (without_leading_plus text) × (number ≡ digits_value 10 (without_leading_plus text))

-- the text writes that many workers; there are 4 if no text is given
abbrev pub AreWorkers : Option Text → ℕ → Type 0
AreWorkers text workers = (given : Option ℕ) × IsCount text given × (workers ≡ unwrap_or given 4)

-- a flag is on if and only if its text is `true`, which `clap` sets if the flag is given
abbrev pub IsFlag : Option Text → Bool → Type 0
IsFlag text on = (on ≡ true) ↔ (text ≡ Some (codes "true"))

-- the files and the list of more are those that a subcommand's matches have, and so is whether the names of the list
-- end by NUL, and whether progress is shown
pub record AreFiles (rows : List Row) (files : NamedFiles) : Type 0 where
  pub paths : map (λ s. string_bytes s) files.paths.items ≡ unwrap_or (all_of (codes "files") rows) []
  pub list : option_map (λ s. string_bytes s) files.list ≡ first_of (codes "files-from") rows
  pub null : IsFlag (one_of (codes "null") rows) files.null
  pub listed : files.null ≡ true → IsSome files.list
  pub progress : IsFlag (one_of (codes "progress") rows) files.progress

-- the command has the options and files of a subcommand's matches
abbrev pub IsRank : List Row → Command → Type 0
IsRank rows Sample = ⊥
IsRank rows (Merge asked) = ⊥
IsRank rows (Check asked) = ⊥
IsRank rows (CheckEach asked) = ⊥
IsRank rows (Describe asked) = ⊥
IsRank rows (Table asked) = ⊥
IsRank rows (Rank asked) = RanksOne rows
    × (string_bytes asked.stations ≡ unwrap_or (first_of (codes "stations") rows) [])
    × (string_bytes asked.query ≡ unwrap_or (first_of (codes "query") rows) [])
    × AreWorkers (one_of (codes "workers") rows) asked.workers
    × IsGuess (one_of (codes "guess") rows) asked.guess
    × (option_map (λ s. string_bytes s) asked.certificate ≡ first_of (codes "certificate") rows)
    × AreFiles rows asked.files
IsRank rows (RankEach asked) = RanksEach rows
    × (string_bytes asked.stations ≡ unwrap_or (first_of (codes "stations") rows) [])
    × (string_bytes asked.queries ≡ unwrap_or (first_of (codes "queries") rows) [])
    × (option_map (λ s. string_bytes s) asked.papers ≡ first_of (codes "papers") rows)
    × AreWorkers (one_of (codes "workers") rows) asked.workers
    × AreFiles rows asked.files

-- the paths of the reports and certificates of parts, those of a part side by side
abbrev pub paths_of : List Part → List Text
paths_of parts = flat_map (λ p. string_bytes p.report ∷ string_bytes p.certificate ∷ []) parts

-- the same for a subcommand that merges parts
abbrev pub IsMerge : List Row → Command → Type 0
IsMerge rows Sample = ⊥
IsMerge rows (Rank asked) = ⊥
IsMerge rows (RankEach asked) = ⊥
IsMerge rows (Check asked) = ⊥
IsMerge rows (CheckEach asked) = ⊥
IsMerge rows (Describe asked) = ⊥
IsMerge rows (Table asked) = ⊥
IsMerge rows (Merge asked) = (string_bytes asked.query ≡ unwrap_or (first_of (codes "query") rows) [])
    × (option_map (λ s. string_bytes s) asked.certificate ≡ first_of (codes "certificate") rows)
    × (paths_of asked.parts.items ≡ papers_to_merge rows)

-- the same for a subcommand that checks a report and a certificate
abbrev pub IsCheck : List Row → Command → Type 0
IsCheck rows Sample = ⊥
IsCheck rows (Merge asked) = ⊥
IsCheck rows (Rank asked) = ⊥
IsCheck rows (RankEach asked) = ⊥
IsCheck rows (Describe asked) = ⊥
IsCheck rows (Table asked) = ⊥
IsCheck rows (Check asked) = ChecksOne rows
    × (string_bytes asked.stations ≡ unwrap_or (first_of (codes "stations") rows) [])
    × (string_bytes asked.query ≡ unwrap_or (first_of (codes "query") rows) [])
    × (string_bytes asked.report ≡ unwrap_or (first_of (codes "report") rows) [])
    × (string_bytes asked.certificate ≡ unwrap_or (first_of (codes "certificate") rows) [])
    × IsFlag (one_of (codes "part") rows) asked.part
    × AreWorkers (one_of (codes "workers") rows) asked.workers
    × AreFiles rows asked.files
IsCheck rows (CheckEach asked) = ChecksEach rows
    × (string_bytes asked.stations ≡ unwrap_or (first_of (codes "stations") rows) [])
    × (string_bytes asked.queries ≡ unwrap_or (first_of (codes "queries") rows) [])
    × (string_bytes asked.papers ≡ unwrap_or (first_of (codes "papers") rows) [])
    × IsFlag (one_of (codes "part") rows) asked.part
    × AreWorkers (one_of (codes "workers") rows) asked.workers
    × AreFiles rows asked.files

-- the same for a subcommand that describes files
abbrev pub IsDescribe : List Row → Command → Type 0
IsDescribe rows Sample = ⊥
IsDescribe rows (Rank asked) = ⊥
IsDescribe rows (RankEach asked) = ⊥
IsDescribe rows (Merge asked) = ⊥
IsDescribe rows (Check asked) = ⊥
IsDescribe rows (CheckEach asked) = ⊥
IsDescribe rows (Table asked) = ⊥
IsDescribe rows (Describe asked) = (string_bytes asked.stations ≡ unwrap_or (first_of (codes "stations") rows) [])
    × AreWorkers (one_of (codes "workers") rows) asked.workers
    × AreFiles rows asked.files

-- the files that are named, or standard input if none is
abbrev pub or_input : List Text → List Text
or_input [] = codes "-" ∷ []
or_input (path ∷ paths) = path ∷ paths

-- the arguments are those that the matches of a subcommand that makes a table have
pub record IsTable (rows : List Row) (asked : TableArguments) : Type 0 where
  pub stations : option_map (λ s. string_bytes s) asked.stations ≡ first_of (codes "stations") rows
  pub reports : map (λ s. string_bytes s) asked.reports.items ≡ or_input (unwrap_or (all_of (codes "reports") rows) [])

-- the command has them
abbrev pub IsTabling : List Row → Command → Type 0
IsTabling rows Sample = ⊥
IsTabling rows (Rank asked) = ⊥
IsTabling rows (RankEach asked) = ⊥
IsTabling rows (Merge asked) = ⊥
IsTabling rows (Check asked) = ⊥
IsTabling rows (CheckEach asked) = ⊥
IsTabling rows (Describe asked) = ⊥
IsTabling rows (Table asked) = IsTable rows asked

-- it is the name of a subcommand
abbrev pub IsName : Text → Type 0
IsName name = (name ≡ codes "rank") ⊎ ((name ≡ codes "merge") ⊎ ((name ≡ codes "check")
    ⊎ ((name ≡ codes "describe") ⊎ (name ≡ codes "table"))))

-- the command is that of the subcommand of this name, `rank`, `merge`, `check`, `describe` or `table`
abbrev pub IsCommand : Text → List Row → Command → Type 0
IsCommand name rows c = ((name ≡ codes "rank") × IsRank rows c)
    ⊎ (((name ≡ codes "merge") × IsMerge rows c)
    ⊎ (((name ≡ codes "check") × IsCheck rows c)
    ⊎ (((name ≡ codes "describe") × IsDescribe rows c) ⊎ ((name ≡ codes "table") × IsTabling rows c))))

-- the arguments are valid and name a subcommand, and the command has what `clap` reads after it
pub record IsCommandOf (words : List Text) (c : Command) : Type 0 where
  pub name : Text
  pub rows : List Row
  pub right : AreRightWords words
  pub entered : subcommand_of extremes_app words ≡ Some (name, rows)
  pub named : IsCommand name rows c

-- the arguments ask for the version: that is all that `clap` has to report about them
abbrev pub AskVersion : List Text → Type 0
AskVersion words = fault_of extremes_app words ≡ DisplayVersion ∷ []

-- the version is among what `clap` may have to report about the arguments
abbrev pub MayAskVersion : List Text → Type 0
MayAskVersion words = IsAmong DisplayVersion (fault_of extremes_app words)

-- the version is reported, or memory was refused
abbrev pub TellsVersion : CommandFault → Type 0
TellsVersion (fault.Words text) = ⊥
TellsVersion (fault.Version text) = ⊤
TellsVersion fault.Memory = ⊤

-- a fact that holds if the version is reported
abbrev pub OnVersion : Type 0 → CommandFault → Type 0
OnVersion P (fault.Version text) = P
OnVersion P f = ⊤
