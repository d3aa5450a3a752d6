use Rattle.std.proofs.Common.{◌≡◌, ◌+◌, List, [], ◌∷◌, ◌++◌, take, sym, ap, ◌∙◌}
use Rattle.std.proofs.lemmas.List.{take_more}
use Rattle.rank_query.specs.Meaning.Asked.{Query}
use Rattle.rank_input.proofs.QueryElements.{needed-push}
use Rattle.rank_input.proofs.queries.needed_by.Goals as goal

-- one query more
pub loop-query-preserved : goal.loop-query-preserved
loop-query-preserved c =
    let qs : List Query = c.args.queries.now in
    let k = c.loop-query.query-index in
    let q : Query = c.query-item.result in
    let more : take (k + 1) qs ≡ take k qs ++ q ∷ [] = take_more qs k q c.loop-query-test.true
    ∙ ap (λ (p : Query). take k qs ++ p ∷ []) (sym c.query-item.is) in
    rw (more, c.with-keep.ensures, c.element.ensures.element)
    (needed-push (take k qs) q c.loop-query.keep c.loop-query.invariant)
