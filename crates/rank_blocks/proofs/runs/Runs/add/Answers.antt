use Rattle.rank_blocks.proofs.Cited.{◌≡◌, ℤ, ap, sym, ◌∙◌, arith, rules, SFits, to_z, of_z, w32, ints, to_z-of_z}
use Rattle.rank_blocks.proofs.Cited.{by_lt_z, AreRuns, IsLongest, has_bit, ℕ, max, ◌+◌, subst, trailing_ones}
use Rattle.rank_blocks.proofs.LongestRuns.{runs-later, runs-more}
use Rattle.rank_blocks.proofs.WordRuns.{first-ones, last-ones}
use Rattle.rank_blocks.proofs.runs.Runs.add.Goals.{then-block-self, else-block-self}
use Rattle.rank_blocks.proofs.runs.Runs.add.Goals as goal

-- if the block is the next one, it has the same number when read
same-read : (a b : ℤ) → SFits w32 a → SFits w32 b → of_z w32 a ≡ of_z w32 b → a ≡ b
same-read a b fits_a fits_b e = sym (to_z-of_z w32 a fits_a) ∙ ap (to_z w32) e ∙ to_z-of_z w32 b fits_b

-- up to the block, and with it
pub returns-clause-runs : goal.returns-clause-runs
returns-clause-runs c = λ such are none bits.
    let self = c.args.self in
    let n = c.args.block.now.number in
    let word = c.args.block.now.days in
    let known : c.max-longest.result ≡ max self.longest (c.if-block-self.before + trailing_ones w32 word) =
    c.max-longest.ensures
    ∙ ap (λ (first : ℕ). max self.longest (c.if-block-self.before + first)) c.trailing_ones-first.ensures in
    let told : AreRuns such (record { next = n; last = c.if-block-self.before; longest = self.longest }) =
    elim c.if-block-self.branch [
      | then-block-self w ↦
          let same : n ≡ self.next = same-read n self.next (search rules) (search rules) w.if-block-self.true in
          rw (same, w.before-is) are
      | else-block-self w ↦
          let later = by_lt_z self.next n (λ lt. lt) (λ ge. let same : n ≡ self.next = omega (arith, ints) in
          absurd (w.if-block-self.false (ap (of_z w32) same))) in
          rw w.before-is (runs-later such self n are later none)
    ] in
    runs-more such _ told word _ _ _ bits (first-ones word (search rules)) (last-ones word (search rules))
    (subst (λ (k : ℕ). IsLongest (has_bit word) 32 k c.longest_with.result) known c.longest_with.ensures)
    _ (omega (arith, ints)) (λ all. search (rules, arith)) (λ few. search (rules, arith))
    (omega arith)
