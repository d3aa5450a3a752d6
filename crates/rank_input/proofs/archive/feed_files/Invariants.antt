use Rattle.std.proofs.Common.{take, map}
use Rattle.std.specs.Prelude.{string_bytes}
use Rattle.rank_input.specs.Takes.{HasTakenSome}
use Rattle.rank_input.specs.Feeding.{AreOpened, FeedsFiles}
use Rattle.rank_input.proofs.archive.feed_files.Given as goal

-- the files so far are opened and fed
abbrev pub invariant-loop-path : goal.invariant-loop-path
invariant-loop-path g l = record {
  some : HasTakenSome g.L.LineReader.has_read l.intake;
  fed : FeedsFiles g.L.LineReader.has_read l.initial.intake l.intake
      (map (λ path. g.A.Archive.bytes_of l.archive (string_bytes path)) (take l.path-index l.paths));
  opened : AreOpened (g.A.Archive.opens l.archive) (map string_bytes (take l.path-index l.paths));
}
