use Rattle.rank_blocks.proofs.Cited.{◌≡◌, map, to_z, of_z, SFits, w32, ap, ◌∙◌, arith, rules, int_le, ints, to_z-of_z}
use Rattle.rank_blocks.proofs.Cited.{days_in, total, neg_ℤ, ap₂, sym, ℤ, test_of}
use Rattle.rank_blocks.proofs.BlockDays.{block-score, block-sum, has-day, has-days}
use Rattle.rank_blocks.proofs.HotBlocks.{block-bits, from-cold, from-hot, int_le-neg}
use Rattle.rank_scores.specs.declared.spell.Spell.TheVariants as kinds
use Rattle.rank_blocks.proofs.summary.Summary.of_block.Goals as goal

-- the greatest value
pub returns-in-Highest-clause-summary : goal.returns-in-Highest-clause-summary
returns-in-Highest-clause-summary c = λ days rise of_block.
    rw c.in-Highest.is (has-day (λ v. v) days c.args.number c.greatest.result c.of_day.result
    (omega (arith, ints)) (omega (arith, ints)) (search (rules, arith, ints, block-score)))

-- the greatest of the values negated
pub returns-in-Lowest-clause-summary : goal.returns-in-Lowest-clause-summary
returns-in-Lowest-clause-summary c = λ days rise of_block.
    rw c.in-Lowest.is (has-day neg_ℤ days c.args.number (neg_ℤ c.least.result) c.of_day-in-Lowest.result
    (omega (arith, ints)) (omega (arith, ints)) (search (rules, arith, ints, block-score)))

-- the greatest value and the total
pub returns-in-Sum-clause-summary : goal.returns-in-Sum-clause-summary
returns-in-Sum-clause-summary c = λ days rise of_block.
    let number : c.of_sum.result.number ≡ c.args.number = omega (arith, ints) in
    rw c.in-Sum.is (record {
      greatest_value = has-day (λ v. v) days c.args.number c.greatest-in-Sum.result c.of_sum.result number
          (omega (arith, ints)) (search (rules, arith, ints, block-score));
      total_value = ap (λ (n : ℤ). total (map (λ x. x.1) (days_in days n))) number
          ∙ block-sum days rise c.args.number c.args.block.now.0 c.args.block.now.1 of_block c.values.ensures.size
          ∙ ap total (sym c.values.ensures.values) ∙ omega (arith, ints);
    })

-- all days, or none, by the greatest value
pub returns-in-Hot-clause-summary : goal.returns-in-Hot-clause-summary
returns-in-Hot-clause-summary c = λ days rise of_block.
    let fits : SFits w32 c.in-Hot.least = search rules in
    let degrees : to_z w32 (of_z w32 c.in-Hot.least) ≡ c.in-Hot.least = to_z-of_z w32 _ fits in
    let z = c.greatest-in-Hot.result in
    let value : to_z w32 (of_z w32 z) ≡ z = omega (arith, ints) in
    rw c.in-Hot.is (has-days (kinds.Hot c.in-Hot.least) days c.args.number c.all_or_none.result
    c.of_days-in-Hot.result (omega (arith, ints)) (omega arith)
    (block-bits (λ v. v) c.in-Hot.least (test_of (kinds.Hot c.in-Hot.least)) (from-hot c.in-Hot.least)
    days c.args.number z (search (rules, arith, ints, block-score)) c.all_or_none.result
    (λ j lt. c.all_or_none.ensures j lt ∙ ap₂ int_le degrees value)))

-- all days, or none, by the least value
pub returns-in-Cold-clause-summary : goal.returns-in-Cold-clause-summary
returns-in-Cold-clause-summary c = λ days rise of_block.
    let fits : SFits w32 c.in-Cold.most = search rules in
    let degrees : to_z w32 (of_z w32 c.in-Cold.most) ≡ c.in-Cold.most = to_z-of_z w32 _ fits in
    let z = c.least-in-Cold.result in
    let value : to_z w32 (of_z w32 z) ≡ z = omega (arith, ints) in
    rw c.in-Cold.is (has-days (kinds.Cold c.in-Cold.most) days c.args.number c.all_or_none-in-Cold.result
    c.of_days-in-Cold.result (omega (arith, ints)) (omega arith)
    (block-bits neg_ℤ (neg_ℤ c.in-Cold.most) (test_of (kinds.Cold c.in-Cold.most)) (from-cold c.in-Cold.most)
    days c.args.number (neg_ℤ z) (search (rules, arith, ints, block-score)) c.all_or_none-in-Cold.result
    (λ j lt. c.all_or_none-in-Cold.ensures j lt ∙ ap₂ int_le value degrees ∙ int_le-neg z c.in-Cold.most)))
