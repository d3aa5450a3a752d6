use Rattle.std.proofs.Common.{◌∙◌, List, Option, IfSome, subst, sym}
use Rattle.std.proofs.lemmas.Result.{IfOk-weaker, IfErr-weaker}
use Rattle.clap.specs.Words.{Row, Text, IsAmong}
use Rattle.clap.specs.declared.error.ErrorKind.TheVariants.{DisplayVersion}
use Rattle.clap.proofs.CallerLemmas.{subcommand_required}
use Rattle.command_line.specs.CommandLine.{all_words, IsName, MayAskVersion, OnVersion}
use Rattle.command_line.specs.Fitting.{FitTogether}
use Rattle.command_line.proofs.CommandLines.{only_memory, only_version, version_among, never_told, not_asked, only_name}
use Rattle.command_line.proofs.CommandLines.{met_one, met_some}
use Rattle.command_line.proofs.Fitting.{command-met}
use Rattle.command_line.proofs.Subcommands.{are-given}
use Rattle.command_line.proofs.words.named_command.Goals as goal

-- valid arguments are refused only if memory runs out, and the version is reported if and only if it may be
pub returns : goal.returns
returns c =
    let given = are-given _ _ _ _ c.in_ok-program.ensures.app c.as_slice.ensures.value c.in_ok-all.ensures in
    let kinds = c.in-Err.ensures.kinds given.free in
    record {
      ok = tt;
      right = λ right. c.fault_of.ensures.memory (only_memory _ _ (given.faults ∙ right.read) kinds);
      version = λ asks. only_version _ _ _ (given.faults ∙ asks) kinds c.fault_of.ensures.memory
          c.fault_of.ensures.version;
      asked = subst (λ ks. OnVersion (IsAmong DisplayVersion ks) c.fault_of.result) given.faults
          (version_among _ _ c.fault_of.result c.fault_of.ensures.asked kinds);
    }

-- a command line without an error has met `rank`, `merge`, `check`, `describe` or `table`
pub command_of-requires : goal.command_of-requires
command_of-requires c =
    let given = are-given _ _ _ _ c.in_ok-program.ensures.app c.as_slice.ensures.value c.in_ok-all.ensures in
    met_one IsName _ _ (subcommand_required _ _ c.in-Ok.ensures.parsed c.in_ok-program.ensures.local given.needs)
    ((c.in-Ok.ensures.matches given.simple).1 ∙ given.subcommand) (only_name (all_words c.args.words.now))

-- what is read of the subcommand is the command; right words fit together, so they are refused for memory alone; and
-- arguments that are read don't ask for the version, and it isn't reported for them
pub returns-in-Ok : goal.returns-in-Ok
returns-in-Ok c =
    let given = are-given _ _ _ _ c.in_ok-program.ensures.app c.as_slice.ensures.value c.in_ok-all.ensures in
    let has = subcommand_required _ _ c.in-Ok.ensures.parsed c.in_ok-program.ensures.local given.needs in
    let rows = (c.in-Ok.ensures.matches given.simple).1 ∙ given.subcommand in
    let read = sym given.faults ∙ c.in-Ok.ensures.kinds given.free in
    record {
      ok = IfOk-weaker c.command_of.result _ _ (λ command is. command-met _ _ command read rows (met_some _ has) is)
          c.command_of.ensures.ok;
      right = λ right. c.command_of.ensures.together (subst (λ (o : Option (Text × List Row)). IfSome o
          (λ met. FitTogether met.0 met.1)) (sym rows) right.together);
      version = λ asks. absurd (not_asked _ read asks);
      asked = IfErr-weaker c.command_of.result _ _ (never_told (MayAskVersion (all_words c.args.words.now)))
          c.command_of.ensures.asked;
    }
