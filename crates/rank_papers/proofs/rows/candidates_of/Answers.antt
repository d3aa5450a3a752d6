use Rattle.std.proofs.Common.{◌≡◌, ◌∙◌, map, subst, rules}
use Rattle.std.specs.Prelude.{IfOk}
use Rattle.std.proofs.lemmas.Iterator.{YieldsList-from_slice, YieldsList-from_map, items_from_collect}
use Rattle.rank_papers.specs.declared.paper.Row.{Row}
use Rattle.rank_papers.proofs.NamedRows.{candidates_named}
use Rattle.rank_papers.proofs.rows.candidates_of.Goals as goal

-- those of the rows, as the report says them
pub returns : goal.returns
returns c =
    subst (λ r. IfOk r (λ found. found.items ≡ map (λ (row : Row). row.candidate) c.args.rows.now)) c.in_ok-collect.was
    (items_from_collect c.collect.result c.collect.ensures.ran
    (YieldsList-from_map _ (λ (row : Row). row.candidate) (YieldsList-from_slice c.args.rows.now cc)
    c.map.ensures.closure (λ x r q k. search rules)))
    ∙ candidates_named c.args.rows.now
