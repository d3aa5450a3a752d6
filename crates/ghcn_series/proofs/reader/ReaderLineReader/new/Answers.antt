use Rattle.ghcn_series.proofs.Cited.{refl, daily_fault}
use Rattle.ghcn_files.proofs.FaultLaws.{no_fault-nil}
use Rattle.ghcn_series.proofs.ReadMonths.{none_read}
use Rattle.ghcn_series.proofs.reader.ReaderLineReader.new.Goals as goal

-- nothing is read yet
pub returns : goal.returns
returns c = record {
  listed = refl;
  kept = refl;
  read = record {
    months = record {
      listed = c.in_ok-gathered.ensures.listed;
      right = tt;
      unlisted = refl;
      gathered = rw c.in_ok-gathered.ensures.nothing (none_read c.args.keep c.args.stations);
    };
    right = no_fault-nil (daily_fault c.args.stations);
  };
}
