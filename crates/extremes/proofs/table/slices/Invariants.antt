use Rattle.std.proofs.Common.{◌≡◌, take, map}
use Rattle.rank_table.specs.Reports.{texts_in}
use Rattle.extremes.proofs.table.slices.Given as goal

-- the texts so far are lent
abbrev pub invariant-loop-text : goal.invariant-loop-text
invariant-loop-text l = texts_in l.lent.items ≡ map (λ t. t.items) (take l.text-index l.texts)
