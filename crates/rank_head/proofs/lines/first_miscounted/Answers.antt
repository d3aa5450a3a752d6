use Rattle.std.proofs.Common.{◌≡◌, ◌==◌, ℕ, true, false, rules, tests}
use Rattle.std.specs.List.{zip}
use Rattle.std.proofs.lemmas.Iterator.{IsFirst-from_position, YieldsList-from_slice, YieldsList-from_zip}
use Rattle.std.proofs.lemmas.Iterator.Consumers.{YieldsList-at}
use Rattle.rank_head.proofs.FirstPlaces.{first_place}
use Rattle.rank_head.proofs.lines.first_miscounted.Goals as goal

-- the first pair that differs
pub returns-clause-place : goal.returns-clause-place
returns-clause-place c =
    let road = YieldsList-from_zip
    (YieldsList-at c.zip-pairs.ensures.first (YieldsList-from_slice c.args.counts.now c.iter.ensures.rest))
    (YieldsList-at c.zip-pairs.ensures.second (YieldsList-from_slice c.args.wanted.now c.iter-2.ensures.rest)) in
    first_place (λ (two : ℕ × ℕ). two.0 == two.1) (zip c.args.counts.now c.args.wanted.now) c.position.result
    (IsFirst-from_position c.position.new.self _ c.position.result (λ two. (two.0 == two.1) ≡ false)
    (λ two. (two.0 == two.1) ≡ true)
    c.position.ensures.ran road (λ x q k. search (rules, tests)) (λ x q k. search (rules, tests)))
