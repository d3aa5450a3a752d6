-- The k-th score of a report none of whose tests fails.
use Rattle.std.proofs.Common.{◌≡◌, ℕ, zero, suc, ◌-◌, ◌≤◌, List, [], ◌∷◌, length, take, map, None, refl, sym, ap, ◌∙◌}
use Rattle.std.proofs.Common.{subst, arith}
use Rattle.std.specs.Prelude.{slice_get, nat_le}
use Rattle.std.specs.Option.{option_map}
use Rattle.std.proofs.lemmas.Bool.{leb-true, and_parts}
use Rattle.ghcn_fields.specs.Faults.{first_failing}
use Rattle.ghcn_series.specs.Series.{Data}
use Rattle.rank_query.specs.Meaning.Asked.{Query, IsAsked}
use Rattle.rank_scores.specs.declared.candidate.Candidate.{Candidate}
use Rattle.rank_scores.specs.Order.{AreApart, best, kth_score}
use Rattle.rank_scores.specs.Morsels.{all_candidates, kth_of_query}
use Rattle.rank_scores.proofs.Ranks.{of_rank-is}
use Rattle.rank_papers.specs.Certificate.{kth_of_best}
use Rattle.rank_papers.specs.ReportLines.{Reported, IsReported}
use Rattle.rank_papers.specs.Laws.{CertificatesAreRead}
use Rattle.rank_papers.proofs.FirstFailing.{none_fails}
use Rattle.rank_papers.proofs.SameQueries.{one_query}
use Rattle.rank_check.specs.Tests.{report_tests, tests_of_rows}
use Rattle.rank_check.proofs.Each.{each-parts}
use Rattle.rank_check.proofs.Accepted.{Passes}
use Rattle.rank_check.proofs.RightRows.{rows_best}
use Rattle.rank_check.proofs.SortedCandidates.{in_order, ordered-permutation, ordered-descends, best_first}

-- the last of those taken
pub last_taken : (n : ℕ) (xs : List Candidate) → slice_get (take (suc n) xs) n ≡ slice_get xs n
last_taken zero [] = refl
last_taken zero (x ∷ xs) = refl
last_taken (suc n) [] = refl
last_taken (suc n) (x ∷ xs) = last_taken n xs

-- the score of the k-th of the best is the k-th score
pub kth-best : (k : ℕ) (all : List Candidate) → AreApart all → 1 ≤ k → kth_of_best k (best k all) ≡ kth_score k all
kth-best zero all apart some = absurd (omega arith)
kth-best (suc n) all apart some =
    let place : suc n - 1 ≡ n = omega arith in
    ap (λ (m : ℕ). option_map (λ (c : Candidate). c.score) (slice_get (best (suc n) all) m)) place
    ∙ ap (λ (l : List Candidate). option_map (λ (c : Candidate). c.score) (slice_get l n)) (best_first all apart (suc
    n))
    ∙ ap (option_map (λ (c : Candidate). c.score)) (last_taken n (in_order all))
    ∙ ap (option_map (λ (c : Candidate). c.score))
    (sym (of_rank-is all (in_order all) (ordered-permutation all) (ordered-descends all apart) n))

-- so it is with the rows of a report none of whose tests fails
pub kth_known : CertificatesAreRead → (q : Query) (c : Data) → IsAsked q → AreApart (all_candidates q c)
    → (r : Reported) → IsReported r → first_failing (report_tests q c r) ≡ None
    → kth_of_best q.k (map (λ row. row.0) r.rows) ≡ kth_of_query q c
kth_known certificates q c asked apart r can none =
    let pass = none_fails (report_tests q c r) none in
    let parts = each-parts Passes (tests_of_rows q c r.rows) _ pass.1 in
    let same : r.query ≡ q = one_query certificates r.query q can.asked asked pass.0 in
    let few : length r.rows ≤ q.k =
    subst (λ (a : Query). length r.rows ≤ a.k) same (leb-true (length r.rows) r.query.k can.few) in
    let some : 1 ≤ q.k = leb-true 1 q.k (and_parts (nat_le 1 q.k) (nat_le q.k 1000) asked.k).0 in
    ap (λ (l : List Candidate). kth_of_best q.k l) (rows_best q c apart r.rows few parts.0 parts.1.0)
    ∙ kth-best q.k (all_candidates q c) apart some
