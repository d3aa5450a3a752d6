use Rattle.std.proofs.Common.{◌≡◌, [], refl, sym, subst}
use Rattle.std.specs.Prelude.{None, Result}
use Rattle.rank_input.specs.declared.fault.Fault.{Fault}
use Rattle.command_line.specs.declared.asked.Command.{Command}
use Rattle.command_line.specs.declared.asked.Command.TheVariants.{Sample, Rank, RankEach, Merge, Check, CheckEach}
use Rattle.command_line.specs.declared.asked.Command.TheVariants.{Describe, Table}
use Rattle.extremes.specs.declared.papers.Papers.{Papers}
use Rattle.extremes.specs.declared.ending.Ending.{Ending}
use Rattle.extremes.specs.Printed.{IsPrinted}
use Rattle.extremes.specs.Commands.{IsCommandRun, IsSampleRanked}
use Rattle.extremes.specs.Environments.{Environment}
use Rattle.extremes.specs.Messages.{only_line}
use Rattle.extremes.proofs.run.run_command.Goals as goal

-- a run of the same command is one of it
as-asked : (e : Environment) (asked named : Command) (ending : Ending) → asked ≡ named → IsCommandRun e named ending
    → IsCommandRun e asked ending
as-asked e asked named ending same ran = subst (λ (a : Command). IsCommandRun e a ending) (sym same) ran

-- a run that prints the ranking of the built-in texts is one of the sample
sample-run : (e : Environment) (asked : Command) (ending : Ending) (answer : Result Papers Fault) → asked ≡ Sample
    → IsSampleRanked answer → IsPrinted (only_line e.line) e.streams answer [] None e.puts ending → IsCommandRun e asked ending
sample-run e asked ending answer same ranked printed =
    as-asked e asked Sample ending same (record { answer = answer; ranked = ranked; printed = printed })

-- the built-in texts are ranked
pub returns-in-Sample : goal.returns-in-Sample
returns-in-Sample g c =
    sample-run _ _ _ c.rank_sample.result c.in-Sample.is c.rank_sample.ensures c.print_answer.ensures

-- files are ranked
pub returns-in-Rank : goal.returns-in-Rank
returns-in-Rank g c = as-asked _ _ (Rank c.in-Rank.asked) _ c.in-Rank.is c.run_ranking.ensures

-- for one query, or for each of a list
pub returns-in-RankEach : goal.returns-in-RankEach
returns-in-RankEach g c =
    as-asked _ _ (RankEach c.in-RankEach.asked) _ c.in-RankEach.is c.run_ranking_each.ensures

-- or the reports and certificates of parts are merged
pub returns-in-Merge : goal.returns-in-Merge
returns-in-Merge g c = as-asked _ _ (Merge c.in-Merge.asked) _ c.in-Merge.is c.run_merging.ensures

-- or a report and a certificate are checked
pub returns-in-Check : goal.returns-in-Check
returns-in-Check g c = as-asked _ _ (Check c.in-Check.asked) _ c.in-Check.is (refl, c.run_judging.ensures)

-- or those of each query of a list are
pub returns-in-CheckEach : goal.returns-in-CheckEach
returns-in-CheckEach g c =
    as-asked _ _ (CheckEach c.in-CheckEach.asked) _ c.in-CheckEach.is (refl, c.run_judging_each.ensures)

-- or files are described
pub returns-in-Describe : goal.returns-in-Describe
returns-in-Describe g c =
    as-asked _ _ (Describe c.in-Describe.asked) _ c.in-Describe.is (refl, c.run_describing.ensures)

-- or a table is made of reports
pub returns-in-Table : goal.returns-in-Table
returns-in-Table g c =
    as-asked _ _ (Table c.in-Table.asked) _ c.in-Table.is (refl, c.run_tabling.ensures)
