use Rattle.ghcn_series.proofs.Cited.{daily_lines, contents}
use Rattle.ghcn_series.proofs.CountedLines.{warned}
use Rattle.ghcn_series.proofs.ReadFiles.{data_of-right}
use Rattle.ghcn_series.proofs.reader.ReaderLineReader.finish.Goals as goal

-- the data of all files that were read, and what a run warns of
pub returns : goal.returns
returns c = record {
  is = λ stations keep files few read number counted. record {
    held = record {
      whole = contents stations (daily_lines files);
      read = data_of-right stations files few (rw (← read.listed) read.read.right);
      is = rw (← read.listed, ← read.kept) (c.in_ok-data.ensures.is (daily_lines files) read.read);
    };
    warned = warned c.args.counts.now files counted;
  };
}
