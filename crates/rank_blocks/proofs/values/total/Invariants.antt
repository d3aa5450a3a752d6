use Rattle.rank_blocks.proofs.Cited.{◌≡◌, ◌*◌, drop, pos, neg_ℤ, ◌≤ℤ◌, ◌+ℤ◌, total}
use Rattle.rank_blocks.proofs.values.total.Given as goal

-- the sum so far and the total of what is left make the whole
abbrev pub invariant-loop-value : goal.invariant-loop-value
invariant-loop-value l = record {
  low : neg_ℤ (pos (2_147_483_648 * l.value-index)) ≤ℤ l.total;
  high : l.total ≤ℤ pos (2_147_483_648 * l.value-index);
  whole : (l.total +ℤ total (drop l.value-index l.values)) ≡ total l.values;
}
