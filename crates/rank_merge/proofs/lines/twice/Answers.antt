use Rattle.rank_merge.proofs.Cited.{◌≡◌, drop, ◌∙◌, rules, tests, option_map, Line, behind_first, twice}
use Rattle.std.proofs.lemmas.Iterator.{YieldsList-from_slice, YieldsList-from_zip}
use Rattle.std.proofs.lemmas.Iterator.Consumers.{YieldsList-at}
use Rattle.std.proofs.lemmas.Iterator.Search.{find_from_yields_List}
use Rattle.rank_merge.proofs.Orders.{IsTwice, twice_found}
use Rattle.rank_merge.proofs.lines.twice.Goals.{After-find}
use Rattle.rank_merge.proofs.lines.twice.Goals as goal

-- the ID that the search finds is the first that two lines have
found : (c : After-find)
    → option_map (λ (two : Line × Line). two.0.id) (option_map (λ p. (p.0.now, p.1.now)) c.find.result)
    ≡ twice c.args.lines.now
found c =
    let lines = c.args.lines.now in
    let road = YieldsList-from_zip
    (YieldsList-at c.zip-pairs.ensures.first (YieldsList-from_slice c.args.lines.now c.iter.ensures.rest))
    (YieldsList-at c.zip-pairs.ensures.second (YieldsList-from_slice (drop 1 c.args.lines.now)
    (c.iter-2.ensures.rest ∙ behind_first c.args.lines.now))) in
    twice_found lines _ c.requires (find_from_yields_List IsTwice c.find.new.self _ c.find.result
    c.find.ensures.ran road (λ x b q k. search (rules, tests)))

-- no two lines have one ID
pub returns-in_err-line : goal.returns-in_err-line
returns-in_err-line c =
    c.from_residual.ensures ∙ (rw c.in_err-line.was at (found (goal.at.returns-in_err-line c).After-find))

-- two lines have one ID
pub returns : goal.returns
returns c = rw c.in_ok-line.was at (found (goal.at.returns c).After-find)
