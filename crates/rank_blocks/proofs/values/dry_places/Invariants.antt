use Rattle.rank_blocks.proofs.Cited.{◌≡◌, ℕ, ◌<◌, ◌≤◌, get_or, pos, ◌==◌, bit_at, test_of}
use Rattle.rank_scores.specs.declared.spell.Spell.TheVariants as spells
use Rattle.rank_blocks.proofs.values.dry_places.Given as goal

-- the bits so far are those of the values read
abbrev pub invariant-loop-place : goal.invariant-loop-place
invariant-loop-place l = record {
  read : (j : ℕ) → j < l.place → (bit_at l.dry j == 1) ≡ (test_of spells.Dry) (get_or l.values j (pos 0));
  unread : (j : ℕ) → l.place ≤ j → bit_at l.dry j ≡ 0;
}
