use Rattle.ghcn_series.proofs.Cited.{◌≡◌, length, HasReadSome, Fed, HasReadFed}
use Rattle.ghcn_series.proofs.FedPieces.{IsWithinPiece}
use Rattle.ghcn_series.proofs.cutter.Cutter.read.Given as goal

-- some lines of the piece are read
abbrev pub invariant-loop-line : goal.invariant-loop-line
invariant-loop-line g l = record {
  ended : l.self.ended ≡ l.initial.self.ended;
  begun : l.self.begun ≡ l.initial.self.begun;
  some : HasReadSome g.L.LineReader.has_read l.self.reader;
  read : (fed : Fed) → l.initial.self.ended ≡ length fed.files.ended
      → HasReadFed g.L.LineReader.has_read l.initial.self fed
      → IsWithinPiece g.L.LineReader.has_read l.self fed l.left l.bytes;
}

-- each line leaves less
abbrev pub decreases-loop-line : goal.decreases-loop-line
decreases-loop-line g l = length l.left
