use Rattle.rank_input.proofs.ListPieces.{AreTakenTo}
use Rattle.rank_input.proofs.list.take_lines.Given as goal

-- the whole lines of what was read so far are taken
abbrev pub invariant-loop : goal.invariant-loop
invariant-loop g l =
    AreTakenTo (g.S.Read.remaining l.initial.source) (g.S.Read.remaining l.source) l.reader l.text.items
