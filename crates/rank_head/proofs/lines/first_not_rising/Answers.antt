use Rattle.std.proofs.Common.{◌≡◌, true, false, rules, tests, subst, sym, ◌∙◌, drop}
use Rattle.std.specs.List.{zip}
use Rattle.std.proofs.lemmas.Iterator.{IsFirst-from_position, YieldsList-from_slice, YieldsList-from_zip}
use Rattle.std.proofs.lemmas.Iterator.Consumers.{YieldsList-at}
use Rattle.rank_papers.specs.Certificate.{Line}
use Rattle.rank_head.specs.FirstPlaces.{IsFirstPlace}
use Rattle.rank_head.specs.HeadTests.{stands_before}
use Rattle.rank_head.proofs.FirstPlaces.{first_place, neighbours-zip, behind_first}
use Rattle.rank_head.proofs.lines.first_not_rising.Goals as goal

-- the first pair of neighbours that doesn't rise
pub returns-clause-place : goal.returns-clause-place
returns-clause-place c =
    let lines = c.args.lines.now in
    let road = YieldsList-from_zip
    (YieldsList-at c.zip-pairs.ensures.first (YieldsList-from_slice c.args.lines.now c.iter.ensures.rest))
    (YieldsList-at c.zip-pairs.ensures.second
    (YieldsList-from_slice (drop 1 c.args.lines.now) (c.iter-2.ensures.rest ∙ behind_first c.args.lines.now))) in
    subst (λ l. IsFirstPlace (λ two. stands_before two.0.id two.1.id) l c.position.result) (sym (neighbours-zip lines))
    (first_place (λ (two : Line × Line). stands_before two.0.id two.1.id) (zip lines (drop 1 lines)) c.position.result
    (IsFirst-from_position c.position.new.self _ c.position.result (λ two. stands_before two.0.id two.1.id ≡ false)
    (λ two. stands_before two.0.id two.1.id ≡ true)
    c.position.ensures.ran road (λ x q k. search (rules, tests)) (λ x q k. search (rules, tests))))
