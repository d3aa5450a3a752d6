use Rattle.std.proofs.Common.{◌≡◌, ℕ, List, [], ◌∷◌, true, length, sym, ap, ◌∙◌}
use Rattle.std.specs.Option.{option_eq}
use Rattle.std.specs.Ordering.{int_eq}
use Rattle.std.proofs.lemmas.List.{length-map}
use Rattle.ghcn_fields.specs.Faults.{first_failing}
use Rattle.rank_scores.specs.Morsels.{morsels, kth_of_query}
use Rattle.rank_scores.specs.declared.candidate.Candidate.{Candidate}
use Rattle.rank_papers.specs.Certificate.{Line}
use Rattle.rank_papers.specs.CertificateLines.{certified_in}
use Rattle.rank_papers.specs.Papers.{same_query, candidates_of}
use Rattle.rank_check.specs.declared.survey.Top.{Top}
use Rattle.rank_check.specs.Survey.{top}
use Rattle.rank_check.specs.Tests.{length_test, tests_of_lines}
use Rattle.rank_check.proofs.Judging.{certificate_decided, not_denied}
use Rattle.rank_check.proofs.judge.certificate_fault.Goals as goal

-- the lines decide, or otherwise their number
pub returns : goal.returns
returns c = λ dataset kth tops.
    let q = c.args.query.now in
    let z = c.args.certificate.now in
    let rows : List Candidate = candidates_of c.args.rows.now in
    let same : same_query z.query q ≡ true = sym c.in_ok-is_same_query.ensures ∙ c.if-not-branch.false in
    let score : option_eq int_eq z.kth (kth_of_query q dataset) ≡ true =
    ap (option_eq int_eq z.kth) (sym kth)
    ∙ not_denied (option_eq int_eq z.kth c.args.kth) (sym c.ne.ensures ∙ c.if-ne.false) in
    let counted = c.as_slice.ensures.value ∙ c.in_ok-wanted.ensures in
    let found = c.as_slice-tops.ensures.value ∙ tops in
    let long = ap (λ (l : List Top). length l) found ∙ length-map (morsels q dataset) (top q) in
    let few =
    c.length_fault-few.ensures
    ∙ ap (λ (n : ℕ). first_failing (length_test n (length c.as_slice-lines.result.now) ∷ [])) long
    ∙ ap (λ (es : List Line). first_failing (length_test (length (morsels q dataset)) (length es) ∷ []))
    c.as_slice-lines.ensures.value in
    c.or.ensures ∙ certificate_decided q dataset rows (certified_in z) c.lines_fault.result c.length_fault-few.result
    same
    score
    (c.lines_fault.ensures rows counted q dataset found
    ∙ ap (λ (ns : List ℕ). first_failing (tests_of_lines q dataset z.kth rows ns c.as_slice-lines.result.now))
    c.as_slice-counts.ensures.value
    ∙ ap (λ (es : List Line). first_failing (tests_of_lines q dataset z.kth rows z.counts.items es))
    c.as_slice-lines.ensures.value) few
