use Rattle.std.proofs.Common.{subst}
use Rattle.ghcn_fields.specs.Faults.{HaveNoFault}
use Rattle.ghcn_series.specs.DailyFaults.{daily_fault, daily_lines}
use Rattle.ghcn_description.proofs.describer.RowDescriberLineReader.finish.Goals as goal

-- the files that were read are described
pub returns : goal.returns
returns c = record {
  is = λ stations keep files few read number counted. record {
    few = few;
    right = subst (λ ss. HaveNoFault (daily_fault ss) (daily_lines files)) read.read.listed read.read.read.right;
    is = c.finish.ensures.is stations keep files read number counted;
  };
}
