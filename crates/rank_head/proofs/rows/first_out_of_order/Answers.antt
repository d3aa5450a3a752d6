use Rattle.std.proofs.Common.{◌≡◌, true, false, rules, tests, subst, sym, ap, ◌∙◌, drop, map}
use Rattle.std.specs.List.{zip}
use Rattle.std.proofs.lemmas.Iterator.{IsFirst-from_position, YieldsList-from_slice, YieldsList-from_zip}
use Rattle.std.proofs.lemmas.Iterator.Consumers.{YieldsList-at}
use Rattle.rank_scores.specs.declared.candidate.Candidate.{Candidate}
use Rattle.rank_scores.specs.Meaning.Order.{precedes}
use Rattle.rank_papers.specs.declared.paper.Row.{Row}
use Rattle.rank_papers.specs.Papers.{neighbours}
use Rattle.rank_papers.proofs.NamedRows.{candidates_named}
use Rattle.rank_head.specs.FirstPlaces.{IsFirstPlace}
use Rattle.rank_head.proofs.FirstPlaces.{first_place, first_place-map, neighbours-zip, neighbours-map, behind_first}
use Rattle.rank_head.proofs.rows.first_out_of_order.Goals as goal

-- the first pair of neighbours that isn't in order
pub returns-clause-place : goal.returns-clause-place
returns-clause-place c =
    let rows = c.args.rows.now in
    let road = YieldsList-from_zip
    (YieldsList-at c.zip-pairs.ensures.first (YieldsList-from_slice c.args.rows.now c.iter.ensures.rest))
    (YieldsList-at c.zip-pairs.ensures.second
    (YieldsList-from_slice (drop 1 c.args.rows.now) (c.iter-2.ensures.rest ∙ behind_first c.args.rows.now))) in
    subst (λ l. IsFirstPlace (λ (two : Candidate × Candidate). precedes two.0 two.1) l c.position.result)
    (sym (ap neighbours (sym (candidates_named rows)) ∙ neighbours-map (λ (row : Row). row.candidate) rows
    ∙ ap (map (λ (two : Row × Row). (two.0.candidate, two.1.candidate))) (neighbours-zip rows)))
    (first_place-map (λ (two : Row × Row). (two.0.candidate, two.1.candidate)) (λ two. precedes two.0 two.1)
    (zip rows (drop 1 rows)) c.position.result
    (first_place (λ (two : Row × Row). precedes two.0.candidate two.1.candidate) (zip rows (drop 1 rows))
    c.position.result
    (IsFirst-from_position c.position.new.self _ c.position.result
    (λ two. precedes two.0.candidate two.1.candidate ≡ false)
    (λ two. precedes two.0.candidate two.1.candidate ≡ true)
    c.position.ensures.ran road (λ x q k. search (rules, tests)) (λ x q k. search (rules, tests)))))
