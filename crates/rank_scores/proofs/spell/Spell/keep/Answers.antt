use Rattle.std.proofs.Common.{◌≡◌, ◌∙◌, true, arith, pos, neg_ℤ, ◌≤ℤ◌}
use Rattle.std.proofs.lemmas.Int.{ints}
use Rattle.rank_query.specs.Meaning.Asked.{is_heat}
use Rattle.rank_scores.proofs.SpellDays.{filter-below_next}
use Rattle.rank_scores.proofs.spell.Spell.keep.Goals as goal

-- the degrees of cold days are within their limits, so they have a next number, and cold days are below it
pub returns-in-Cold : goal.returns-in-Cold
returns-in-Cold c =
    let inside : is_heat c.in-Cold.most ≡ true = rw c.in-Cold.is at c.requires in
    let low : neg_ℤ (pos 1_000) ≤ℤ c.in-Cold.most = grind (arith, ints) in
    let high : c.in-Cold.most ≤ℤ pos 1_000 = grind (arith, ints) in
    rw c.in-Cold.is (c.keep_below-in-Cold.ensures
    ∙ filter-below_next c.in-Cold.most _ c.args.days.now (omega (arith, ints)))
