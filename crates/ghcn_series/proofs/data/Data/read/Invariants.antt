use Rattle.ghcn_series.proofs.Cited.{everything, HasFed}
use Rattle.ghcn_series.specs.Gathered.{HasReadByRows}
use Rattle.ghcn_series.proofs.FedFiles.{fed_files}
use Rattle.ghcn_series.proofs.data.Data.read.Given as goal

-- the files so far were fed
abbrev pub invariant-loop-file : goal.invariant-loop-file
invariant-loop-file l = HasFed HasReadByRows l.cutter (fed_files everything l.fn.stations l.files l.file-index)
