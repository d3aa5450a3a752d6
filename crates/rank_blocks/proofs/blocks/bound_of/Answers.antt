use Rattle.rank_blocks.proofs.Cited.{◌≡◌, inl, inr, ℤ, pos, neg_ℤ, ◌*ℤ◌, to_z, of_z, w64, sym, ◌∙◌, arith, int_min}
use Rattle.rank_blocks.proofs.Cited.{ints, Highest, Lowest, Spell, AreOfBlocks, HasDay, ap₂}
use Rattle.rank_blocks.proofs.BlockSteps.{near-read}
use Rattle.rank_blocks.proofs.BoundsMet.{score_of, day-met, spell-met, sum-met, bound-for}
use Rattle.rank_scores.specs.declared.spell.Spell.TheVariants as kinds
use Rattle.rank_blocks.proofs.blocks.bound_of.Goals as goal

-- the greatest score of a day
pub returns-in-Highest-clause-bound : goal.returns-in-Highest-clause-bound
returns-in-Highest-clause-bound c = λ s are of.
    let met = λ (f : ℤ → ℤ) (have : AreOfBlocks (HasDay f s.days) s c.args.blocks.now).
    day-met _ _ s _ c.of-range.ensures.range of f _ have c.greatest_day.ensures.value in
    let score = sym c.score.ensures.score in
    rw (near-read _ c.greatest_day.ensures.near) (elim c.in-Highest.is [
      | inl highest ↦
          let is = score ∙ highest.1 in bound-for _ s (Highest highest.0) _ is (met (λ v. v) (rw is at are))
      | inr lowest ↦ let is = score ∙ lowest.1 in bound-for _ s (Lowest lowest.0) _ is (met neg_ℤ (rw is at are))
    ])

-- the smaller of n times the greatest value and the greatest total
pub returns-in-Sum-clause-bound : goal.returns-in-Sum-clause-bound
returns-in-Sum-clause-bound c = λ s are of.
    let is = sym c.score.ensures.score ∙ c.in-Sum.is in
    let day = near-read _ c.greatest_day-in-Sum.ensures.near in
    let total : to_z w64 (of_z w64 c.greatest_total.result) ≡ c.greatest_total.result = omega (arith, ints) in
    let fits : to_z w64 (of_z w64 c.smaller.result) ≡ c.smaller.result = omega (arith, ints) in
    sum-met _ _ s _ c.of-range.ensures.range of (rw is at are)
    c.in-Sum.n c.in-Sum.field-1 _ c.greatest_total.result _ c.score.ensures.asked is
    c.greatest_day-in-Sum.ensures.value
    (λ falls rises. rw (← c.window_blocks.ensures) (c.greatest_total.ensures falls rises))
    (fits ∙ c.smaller.ensures ∙ ap₂ (λ (y z : ℤ). int_min (pos c.in-Sum.n *ℤ y) z) day total)

-- the longest run of days that count
pub returns-in-Dry-clause-bound : goal.returns-in-Dry-clause-bound
returns-in-Dry-clause-bound c = λ s are of.
    let read : c.longest_run.result ≡ to_z w64 (of_z w64 c.longest_run.result) = omega (arith, ints) in
    let score = sym c.score.ensures.score in
    let met = λ (k : Spell) (is : c.args.query.now.score ≡ score_of k). spell-met _ _ s _ c.of-range.ensures.range of k
    c.longest_run.result is are (c.longest_run.ensures k s) in
    rw (← read) (elim c.in-Dry.is [
      | inl dry ↦ met kinds.Dry (score ∙ dry)
      | inr others ↦
          elim others [
            | inl wet ↦ met kinds.Wet (score ∙ wet)
            | inr degrees ↦
                elim degrees [
                  | inl hot ↦ met (kinds.Hot hot.0) (score ∙ hot.1)
                  | inr cold ↦ met (kinds.Cold cold.0) (score ∙ cold.1)
                ]
          ]
    ])
