use Rattle.std.proofs.Common.{ℕ, List, ◌≡◌, ◌<◌, ◌++◌, ◌∙◌, ap, length, subst, sym, Option, ℤ}
use Rattle.std.specs.List.{flat_map}
use Rattle.std.proofs.lemmas.List.{length-map}
use Rattle.rank_query.specs.Meaning.Asked.{Query}
use Rattle.rank_papers.specs.Meaning.Certificate.{kth_line, entry_line}
use Rattle.rank_papers.specs.Certificate.{kth_of_best, counted, count_of}
use Rattle.rank_papers.proofs.PlanPapers.{some_asked, certificate-made}
use Rattle.rank_papers.proofs.certificate_text.certificate_of_best.Goals as goal

-- at least one candidate is asked for
pub kth_score-requires : goal.kth_score-requires
kth_score-requires c = subst (λ (k : ℕ). 0 < k) (sym c.k.ensures.k) (some_asked c.args.query.now c.k.ensures.asked)

-- there is a count for each line
pub push_lines-requires : goal.push_lines-requires
push_lines-requires c =
    ap (λ (ns : List ℕ). length ns) (c.as_slice.ensures.value ∙ c.in_ok-counts.ensures)
    ∙ length-map c.args.lines.now (count_of c.args.best.now)

-- the parts were added in their order
pub returns-clause-text : goal.returns-clause-text
returns-clause-text c =
    let q : Query = c.args.query.now in
    let score : c.kth_score.result ≡ kth_of_best q.k c.args.best.now =
    c.kth_score.ensures ∙ ap (λ (k : ℕ). kth_of_best k c.args.best.now) c.k.ensures.k in
    certificate-made q c.args.best.now c.args.lines.now c.in_ok-paper.paper.items _ _ _ _
    (c.in_ok-paper.ensures.items ∙ c.title.ensures) c.in_ok-push_query.ensures
    (c.in_ok-push_kth.ensures ∙ ap (λ (s : Option ℤ). c.push_query.new.paper.items ++ kth_line s) score)
    (c.in_ok-push_lines.ensures.text
    ∙ ap (λ (ns : List ℕ). c.push_kth.new.paper.items ++ flat_map (entry_line 2) (counted c.args.lines.now ns))
    (c.as_slice.ensures.value ∙ c.in_ok-counts.ensures))
    c.in_ok-push_end.ensures
