-- The report and the certificate of a plan's answer: its best candidates and lines are those of the query.
use Rattle.std.proofs.Common.{◌≡◌, inr, ℕ, zero, suc, ◌-◌, ◌<◌, List, [], ◌∷◌, ◌++◌, length, take, Option, Result, Ok, Err, refl, sym, ap, ◌∙◌, subst, arith, ℤ}
use Rattle.std.specs.Prelude.{slice_get, IfOk}
use Rattle.std.specs.List.{flat_map, AllZip}
use Rattle.std.specs.Option.{option_map}
use Rattle.std.proofs.lemmas.Bool.Decides.{nat_tests}
use Rattle.ghcn_files.specs.declared.station.Station.{Station}
use Rattle.ghcn_series.specs.Series.{Data}
use Rattle.ghcn_series.specs.Held.{IsContents}
use Rattle.rank_query.specs.Meaning.Asked.{Query, IsAsked}
use Rattle.rank_scores.specs.declared.candidate.Candidate.{Candidate}
use Rattle.rank_scores.specs.Order.{AreApart, best, kth_score}
use Rattle.rank_scores.specs.Morsels.{morsels, all_candidates, best_of_query, kth_of_query}
use Rattle.rank_scores.specs.QueryCandidates.{AreOfListed}
use Rattle.rank_scores.proofs.QueryCandidates.{all_apart, best_listed}
use Rattle.rank_pool.specs.First.{in_order}
use Rattle.rank_pool.proofs.Ranked.{best-first, kth_score-kth}
use Rattle.rank_sched.specs.declared.answer.Answer.{Answer}
use Rattle.rank_sched.specs.Plan.{Plan, IsPlan, planned}
use Rattle.rank_sched.specs.Answers.{best_of_plan, IsAnswerOfPlan, IsAnswerOfCrew}
use Rattle.rank_sched.proofs.PlanBest.{plan_has_best}
use Rattle.rank_papers.specs.Meaning.Report.{IsReportOfBest, query_line}
use Rattle.rank_papers.specs.Meaning.Certificate.{title_line, kth_line, entry_line, end_line}
use Rattle.rank_papers.specs.Certificate.{Line, counted, counts_of, kth_of_best, certificate_text, AreInRange}
use Rattle.rank_papers.specs.Certificate.{certificate_of_best}
use Rattle.rank_papers.specs.PlanPapers.{IsReportOfPlan, IsCertificateOfPlan}
use Rattle.rank_papers.proofs.PlanLines.{IsLineOf, right_entries, bounds_are, lines_right}

-- ---- the best

-- the best of an answer are the query's, whatever the data of which this is the plan
pub best_is : (p : Plan) (a : Answer) (q : Query) (c : Data) → IsAnswerOfPlan p a → IsAsked q → IsContents c
    → p ≡ planned q c → a.best.items ≡ best_of_query q c
best_is p a q c answer asked right is = answer.best_are ∙ ap best_of_plan is ∙ (plan_has_best q c asked right).0

-- they belong to the plan's stations
pub answer_listed : (p : Plan) (a : Answer) → IsPlan p → IsAnswerOfPlan p a → AreOfListed p.stations a.best.items
answer_listed p a plan answer =
    let same : a.best.items ≡ best_of_query p.query plan.dataset =
    best_is p a p.query plan.dataset answer plan.asked plan.right plan.plan in
    subst (λ (sts : List Station). AreOfListed sts a.best.items) (sym (ap (λ (x : Plan). x.stations) plan.plan))
    (subst (AreOfListed plan.dataset.stations) (sym same) (best_listed p.query plan.dataset plan.right))

-- so the report of these best is the plan's
pub report-of_plan : {X E : Type 0} (items : X → List ℕ) (p : Plan) (a : Answer) (q : Query) (stations : List
    Station)
    (best : List Candidate) (r : Result X E) → IsAnswerOfPlan p a → q ≡ p.query → stations ≡ p.stations
    → best ≡ a.best.items → IfOk r (λ paper. IsReportOfBest q stations best (items paper))
    → IfOk r (λ paper. IsReportOfPlan p (items paper))
report-of_plan items p a q stations best (Err e) answer query listed same h = h
report-of_plan items p a q stations best (Ok paper) answer query listed same h = λ q2 c asked right is.
    let own : q ≡ q2 = query ∙ ap (λ (x : Plan). x.query) is in
    let theirs : best ≡ best_of_query q2 c = same ∙ best_is p a q2 c answer asked right is in
    let list : stations ≡ c.stations = listed ∙ ap (λ (x : Plan). x.stations) is in
    subst (λ (x : Query). IsReportOfBest x c.stations (best_of_query q2 c) (items paper)) own
    (subst (λ (ss : List Station). IsReportOfBest q ss (best_of_query q2 c) (items paper)) list
    (subst (λ (b : List Candidate). IsReportOfBest q stations b (items paper)) theirs h))

-- ---- the k-th score

-- what is at a place is there among the first of a list
get-take : {X : Type 0} (ys : List X) (r : ℕ) → slice_get (take (suc r) ys) r ≡ slice_get ys r
get-take [] r = refl
get-take (y ∷ ys) zero = refl
get-take (y ∷ ys) (suc r) = get-take ys r

-- the score of the k-th of the best is the k-th score
pub kth-best : (k : ℕ) (xs : List Candidate) → 0 < k → AreApart xs → kth_of_best k (best k xs) ≡ kth_score k xs
kth-best zero xs some apart = absurd (omega arith)
kth-best (suc r) xs some apart =
    let score : Option Candidate → Option ℤ = option_map (λ c. c.score) in
    let place : suc r - 1 ≡ r = omega arith in
    ap (λ (i : ℕ). score (slice_get (best (suc r) xs) i)) place
    ∙ ap (λ (l : List Candidate). score (slice_get l r)) (best-first (suc r) xs apart)
    ∙ ap score (get-take (in_order xs) r)
    ∙ sym (kth_score-kth (suc r) xs apart)

-- what can be asked is for one candidate at least
pub some_asked : (q : Query) → IsAsked q → 0 < q.k
some_asked q asked = let limits = asked.k in grind (arith, nat_tests)

-- the last of k best of a query has the k-th score
kth_is : (q : Query) (c : Data) (cs : List Candidate) → IsAsked q → IsContents c → cs ≡ best_of_query q c
    → kth_of_best q.k cs ≡ kth_of_query q c
kth_is q c cs asked right e =
    ap (kth_of_best q.k) e ∙ kth-best q.k (all_candidates q c) (some_asked q asked) (all_apart q c right)

-- ---- the certificate

-- the parts of a certificate, one after the other, make its text
pub certificate-made : (q : Query) (best : List Candidate) (es : List Line) (t u v w x : List ℕ)
    → t ≡ title_line 2 → u ≡ t ++ query_line q → v ≡ u ++ kth_line (kth_of_best q.k best)
    → w ≡ v ++ flat_map (entry_line 2) (counted es (counts_of 2 best es)) → x ≡ w ++ end_line (length es)
    → x ≡ certificate_of_best q best es
certificate-made q best es t u v w x title query score lines end =
    let after_title : List ℕ → List ℕ = λ b. b ++ query_line q in
    let after_query : List ℕ → List ℕ = λ b. b ++ kth_line (kth_of_best q.k best) in
    let after_score : List ℕ → List ℕ = λ b. b ++ flat_map (entry_line 2) (counted es (counts_of 2 best es)) in
    end ∙ ap (λ (b : List ℕ). b ++ end_line (length es))
    (lines ∙ ap after_score (score ∙ ap after_query (query ∙ ap after_title title)))

-- with the lines of a plan's answer it is a right one, with the series' bounds
pub certificate-of_plan : (p : Plan) (a : Answer) (bytes : List ℕ) → IsAnswerOfPlan p a
    → AreInRange a.lines.items
    → bytes ≡ certificate_of_best p.query a.best.items a.lines.items → IsCertificateOfPlan p bytes
certificate-of_plan p a bytes answer fits text q c asked right is =
    let own : IsAnswerOfPlan (planned q c) a = subst (λ (x : Plan). IsAnswerOfPlan x a) is answer in
    let lines = lines_right q c asked right own.hauls own.sound in
    let of_kth : kth_of_best p.query.k a.best.items ≡ kth_of_query q c =
    ap (λ (x : Plan). kth_of_best x.query.k a.best.items) is
    ∙ kth_is q c a.best.items asked right (best_is p a q c answer asked right is) in
    let IsRight : List Line → Type 0 = λ es. AllZip (IsLineOf q (kth_of_query q c)) es (morsels q c) in
    let are : IsRight a.lines.items = subst IsRight (sym own.lines_are) lines in
    let best : a.best.items ≡ best_of_query q c = best_is p a q c answer asked right is in
    record {
      certificate = record {
        version = 2;
        known = inr refl;
        entries = a.lines.items;
        right = right_entries q (kth_of_query q c) a.lines.items (morsels q c) fits are;
        text = text ∙ λ i. certificate_text (record {
          version = 2;
          query = (is i).query;
          kth = of_kth i;
          entries = a.lines.items;
          counts = counts_of 2 (best i) a.lines.items;
        });
      };
      version = refl;
      bounds = bounds_are q (kth_of_query q c) a.lines.items (morsels q c) are;
    }

-- ---- the answer of a crew

-- a crew's answer is one of its plan
pub answer_of_crew : (p : Plan) (guess : Option ℤ) (workers : ℕ) (a : Answer) → IsAnswerOfCrew p guess workers a
    → IsAnswerOfPlan p a
answer_of_crew p guess workers a is = record {
  hauls = is.hauls;
  sound = is.sound;
  best_are = is.answer.best_are;
  lines_are = is.answer.lines_are;
}
