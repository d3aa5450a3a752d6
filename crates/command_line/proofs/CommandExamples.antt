-- The meaning of arguments that are written out.
use Rattle.std.proofs.Common.{◌≡◌, List, [], ◌∷◌, Some, None, option_map, codes, refl, true, false, IfSome}
use Rattle.clap.specs.Words.{Text, fault_of, subcommand_of, first_of, one_of, all_of}
use Rattle.clap.specs.declared.error.ErrorKind.TheVariants.{DisplayVersion, MissingRequiredArgument, ValueValidation, UnknownArgument}
use Rattle.clap.specs.declared.error.ErrorKind.TheVariants.{ArgumentConflict}
use Rattle.clap.proofs.OnLiterals.{clap_on_literals}
use Rattle.command_line.specs.CommandLine.{extremes_app}
use Rattle.command_line.specs.Fitting.{papers_to_merge, FitTogether}

-- a command line with both options, a guess and two files
abbrev words : List Text
words = codes "extremes" ∷ codes "rank" ∷ codes "a" ∷ codes "--query=q" ∷ codes "--stations" ∷ codes "s"
    ∷ codes "--guess=-3" ∷ codes "b" ∷ []

-- `clap` has no error to report
right : fault_of extremes_app words ≡ []
unfolding clap_on_literals
right = refl

-- its stations are s
stations : option_map (λ p. first_of (codes "stations") p.1) (subcommand_of extremes_app words)
    ≡ Some (Some (codes "s"))
unfolding clap_on_literals
stations = refl

-- its guess is written -3
guess : option_map (λ p. one_of (codes "guess") p.1) (subcommand_of extremes_app words)
    ≡ Some (Some (codes "-3"))
unfolding clap_on_literals
guess = refl

-- its files are a and b
files : option_map (λ p. all_of (codes "files") p.1) (subcommand_of extremes_app words)
    ≡ Some (Some (codes "a" ∷ codes "b" ∷ []))
unfolding clap_on_literals
files = refl

-- a command line without the stations lacks an argument
without : fault_of extremes_app (codes "extremes" ∷ codes "rank" ∷ codes "--query=q" ∷ [])
    ≡ MissingRequiredArgument ∷ []
unfolding clap_on_literals
without = refl

-- a guess has to be a number
no_number : fault_of extremes_app (codes "extremes" ∷ codes "rank" ∷ codes "--query=q"
    ∷ codes "--stations=s" ∷ codes "--guess=x" ∷ []) ≡ ValueValidation ∷ []
unfolding clap_on_literals
no_number = refl

-- a command line to check a report and a certificate
abbrev to_check : List Text
to_check = codes "extremes" ∷ codes "check" ∷ codes "--query=q" ∷ codes "--stations=s" ∷ codes "--certificate=c"
    ∷ codes "--report" ∷ codes "r" ∷ codes "a" ∷ []

-- `clap` has no error to report
check_right : fault_of extremes_app to_check ≡ []
unfolding clap_on_literals
check_right = refl

-- its report is r
check_report : option_map (λ p. first_of (codes "report") p.1) (subcommand_of extremes_app to_check)
    ≡ Some (Some (codes "r"))
unfolding clap_on_literals
check_report = refl

-- its files aren't a part
check_whole : option_map (λ p. one_of (codes "part") p.1) (subcommand_of extremes_app to_check)
    ≡ Some (Some (codes "false"))
unfolding clap_on_literals
check_whole = refl

-- a command line to check a report and a certificate of a whole archive by a part of it
abbrev to_check_part : List Text
to_check_part = codes "extremes" ∷ codes "check" ∷ codes "--part" ∷ codes "--query=q" ∷ codes "--stations=s"
    ∷ codes "--certificate=c" ∷ codes "--report=r" ∷ codes "a" ∷ []

-- `clap` has no error to report
check_part_right : fault_of extremes_app to_check_part ≡ []
unfolding clap_on_literals
check_part_right = refl

-- its files are a part
check_part : option_map (λ p. one_of (codes "part") p.1) (subcommand_of extremes_app to_check_part)
    ≡ Some (Some (codes "true"))
unfolding clap_on_literals
check_part = refl

-- and they are not the flag's value
check_part_files : option_map (λ p. all_of (codes "files") p.1) (subcommand_of extremes_app to_check_part)
    ≡ Some (Some (codes "a" ∷ []))
unfolding clap_on_literals
check_part_files = refl

-- a command line to merge the reports and certificates of two parts
abbrev to_merge : List Text
to_merge = codes "extremes" ∷ codes "merge" ∷ codes "r" ∷ codes "c" ∷ codes "--query=q" ∷ codes "s" ∷ codes "d" ∷ []

-- `clap` has no error to report
merge_read : fault_of extremes_app to_merge ≡ []
unfolding clap_on_literals
merge_read = refl

-- its reports and certificates are those four, in order
merge_papers : option_map (λ p. papers_to_merge p.1) (subcommand_of extremes_app to_merge)
    ≡ Some (codes "r" ∷ codes "c" ∷ codes "s" ∷ codes "d" ∷ [])
unfolding clap_on_literals
merge_papers = refl

-- it names no certificate to write
merge_writes : option_map (λ p. first_of (codes "certificate") p.1) (subcommand_of extremes_app to_merge) ≡ Some None
unfolding clap_on_literals
merge_writes = refl

-- without reports and certificates there are none to merge
no_papers : option_map (λ p. papers_to_merge p.1)
    (subcommand_of extremes_app (codes "extremes" ∷ codes "merge" ∷ codes "--query=q" ∷ [])) ≡ Some []
unfolding clap_on_literals
no_papers = refl

-- parts can't be merged without a query
merge_without : fault_of extremes_app (codes "extremes" ∷ codes "merge" ∷ codes "r" ∷ codes "c" ∷ [])
    ≡ MissingRequiredArgument ∷ []
unfolding clap_on_literals
merge_without = refl

-- a command line with a report alone
abbrev odd : List Text
odd = codes "extremes" ∷ codes "merge" ∷ codes "--query=q" ∷ codes "r" ∷ []

-- `clap` has no error to report about it
odd_read : fault_of extremes_app odd ≡ []
unfolding clap_on_literals
odd_read = refl

-- its subcommand has that one report
odd_papers : option_map (λ p. papers_to_merge p.1) (subcommand_of extremes_app odd) ≡ Some (codes "r" ∷ [])
unfolding clap_on_literals
odd_papers = refl

-- the version can be asked for
version : fault_of extremes_app (codes "extremes" ∷ codes "--version" ∷ []) ≡ DisplayVersion ∷ []
unfolding clap_on_literals
version = refl

-- a file of that name can be ranked
no_version : fault_of extremes_app (codes "extremes" ∷ codes "rank" ∷ codes "--query=q" ∷ codes "--stations=s"
    ∷ codes "--" ∷ codes "--version" ∷ []) ≡ []
unfolding clap_on_literals
no_version = refl

-- a command line to describe files
abbrev to_describe : List Text
to_describe = codes "extremes" ∷ codes "describe" ∷ codes "a" ∷ codes "--stations=s" ∷ codes "b" ∷ []

-- `clap` has no error to report
describe_right : fault_of extremes_app to_describe ≡ []
unfolding clap_on_literals
describe_right = refl

-- its files are a and b
describe_files : option_map (λ p. all_of (codes "files") p.1) (subcommand_of extremes_app to_describe)
    ≡ Some (Some (codes "a" ∷ codes "b" ∷ []))
unfolding clap_on_literals
describe_files = refl

-- files can't be described without stations
describe_without : fault_of extremes_app (codes "extremes" ∷ codes "describe" ∷ codes "a" ∷ [])
    ≡ MissingRequiredArgument ∷ []
unfolding clap_on_literals
describe_without = refl

-- a command line whose files are a, and those of a list whose names end by NUL
abbrev of_a_list : List Text
of_a_list = codes "extremes" ∷ codes "rank" ∷ codes "--query=q" ∷ codes "--stations=s" ∷ codes "a" ∷ codes "-0"
    ∷ codes "--files-from" ∷ codes "l" ∷ []

-- `clap` has no error to report
list_right : fault_of extremes_app of_a_list ≡ []
unfolding clap_on_literals
list_right = refl

-- its list is l
list_named : option_map (λ p. first_of (codes "files-from") p.1) (subcommand_of extremes_app of_a_list)
    ≡ Some (Some (codes "l"))
unfolding clap_on_literals
list_named = refl

-- `-0` is `--null`
list_null : option_map (λ p. one_of (codes "null") p.1) (subcommand_of extremes_app of_a_list)
    ≡ Some (Some (codes "true"))
unfolding clap_on_literals
list_null = refl

-- and its file is a
list_files : option_map (λ p. all_of (codes "files") p.1) (subcommand_of extremes_app of_a_list)
    ≡ Some (Some (codes "a" ∷ []))
unfolding clap_on_literals
list_files = refl

-- without these options there is no list
no_list : option_map (λ p. first_of (codes "files-from") p.1) (subcommand_of extremes_app to_check) ≡ Some None
unfolding clap_on_literals
no_list = refl

-- and names don't end by NUL
no_null : option_map (λ p. one_of (codes "null") p.1) (subcommand_of extremes_app to_check)
    ≡ Some (Some (codes "false"))
unfolding clap_on_literals
no_null = refl

-- a list can be described
list_described : fault_of extremes_app (codes "extremes" ∷ codes "describe" ∷ codes "--stations=s"
    ∷ codes "--files-from=-" ∷ codes "--null" ∷ []) ≡ []
unfolding clap_on_literals
list_described = refl

-- and checked as a part
list_checked : fault_of extremes_app (codes "extremes" ∷ codes "check" ∷ codes "--part" ∷ codes "--query=q"
    ∷ codes "--stations=s" ∷ codes "--certificate=c" ∷ codes "--report=r" ∷ codes "--files-from=l" ∷ codes "-0" ∷ [])
    ≡ []
unfolding clap_on_literals
list_checked = refl

-- there is one list at most
two_lists : fault_of extremes_app (codes "extremes" ∷ codes "describe" ∷ codes "--stations=s" ∷ codes "--files-from=l"
    ∷ codes "--files-from=m" ∷ []) ≡ ArgumentConflict ∷ []
unfolding clap_on_literals
two_lists = refl

-- reports and certificates to merge have no list
merge_list : fault_of extremes_app (codes "extremes" ∷ codes "merge" ∷ codes "--query=q" ∷ codes "--files-from=l" ∷ [])
    ≡ UnknownArgument ∷ []
unfolding clap_on_literals
merge_list = refl

-- and their names don't end by NUL
merge_null : fault_of extremes_app (codes "extremes" ∷ codes "merge" ∷ codes "--query=q" ∷ codes "-0" ∷ [])
    ≡ UnknownArgument ∷ []
unfolding clap_on_literals
merge_null = refl

-- a command line whose names end by NUL, though it has no list
abbrev null_alone : List Text
null_alone = codes "extremes" ∷ codes "describe" ∷ codes "--stations=s" ∷ codes "-0" ∷ codes "a" ∷ []

-- `clap` has no error to report
null_alone_read : fault_of extremes_app null_alone ≡ []
unfolding clap_on_literals
null_alone_read = refl

-- but what it is given doesn't fit together
null_without_list : IfSome (subcommand_of extremes_app null_alone) (λ met. FitTogether met.0 met.1) → ⊥
unfolding clap_on_literals
null_without_list fit = let bad : false ≡ true = fit.describe refl refl in absurd cc

-- a command line that asks for progress
abbrev with_progress : List Text
with_progress = codes "extremes" ∷ codes "describe" ∷ codes "--stations=s" ∷ codes "--progress" ∷ codes "a" ∷ []

-- `clap` has no error to report
progress_right : fault_of extremes_app with_progress ≡ []
unfolding clap_on_literals
progress_right = refl

-- it asks for it
progress_asked : option_map (λ p. one_of (codes "progress") p.1) (subcommand_of extremes_app with_progress)
    ≡ Some (Some (codes "true"))
unfolding clap_on_literals
progress_asked = refl

-- the command line without it doesn't
no_progress : option_map (λ p. one_of (codes "progress") p.1) (subcommand_of extremes_app null_alone)
    ≡ Some (Some (codes "false"))
unfolding clap_on_literals
no_progress = refl

-- `merge` reads no daily files, so it has no progress
merge_progress : fault_of extremes_app (codes "extremes" ∷ codes "merge" ∷ codes "--query=q" ∷ codes "--progress" ∷ [])
    ≡ UnknownArgument ∷ []
unfolding clap_on_literals
merge_progress = refl

-- a command line that makes a table of two files of reports, with a station list
abbrev table_words : List Text
table_words = codes "extremes" ∷ codes "table" ∷ codes "--stations" ∷ codes "s" ∷ codes "a" ∷ codes "-" ∷ []

-- `clap` has no error to report
table_right : fault_of extremes_app table_words ≡ []
unfolding clap_on_literals
table_right = refl

-- its reports are a and -
table_reports : option_map (λ p. all_of (codes "reports") p.1) (subcommand_of extremes_app table_words)
    ≡ Some (Some (codes "a" ∷ codes "-" ∷ []))
unfolding clap_on_literals
table_reports = refl

-- its station list is s
table_stations : option_map (λ p. first_of (codes "stations") p.1) (subcommand_of extremes_app table_words)
    ≡ Some (Some (codes "s"))
unfolding clap_on_literals
table_stations = refl

-- it needs neither
table_alone : fault_of extremes_app (codes "extremes" ∷ codes "table" ∷ []) ≡ []
unfolding clap_on_literals
table_alone = refl

-- it has no query
table_query : fault_of extremes_app (codes "extremes" ∷ codes "table" ∷ codes "--query=q" ∷ []) ≡ UnknownArgument ∷ []
unfolding clap_on_literals
table_query = refl
