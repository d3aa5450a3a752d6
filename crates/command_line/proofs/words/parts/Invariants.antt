use Rattle.std.specs.Slice.Iter.{chunks_exact_rest, chunks_exact_size}
use Rattle.command_line.proofs.Pairs.{HasPaired}
use Rattle.command_line.proofs.words.parts.Given as goal

-- the reports and certificates so far are those of parts
abbrev pub invariant-loop-pair : goal.invariant-loop-pair
invariant-loop-pair l = HasPaired l.papers (chunks_exact_rest l.pair-iterator) (chunks_exact_size l.pair-iterator)
    l.parts.items
