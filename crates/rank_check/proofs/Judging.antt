-- The first test that fails of a report, and of a certificate.
use Rattle.std.proofs.Common.{◌≡◌, ℕ, ◌+◌, ◌<◌, ◌≤◌, Bool, true, false, cond, List, [], ◌∷◌, ◌++◌, length, map, Option}
use Rattle.std.proofs.Common.{Some, not, refl, sym, ap, ◌∙◌, subst, arith, ◌||◌}
use Rattle.std.specs.Prelude.{nat_le}
use Rattle.std.specs.Option.{option_or, option_eq}
use Rattle.std.specs.Ordering.{int_eq}
use Rattle.std.proofs.lemmas.Bool.{leb-true, leb-false, le-leb, lt-leb, and_parts}
use Rattle.std.proofs.lemmas.List.{length-map}
use Rattle.ghcn_fields.specs.Faults.{first_failing}
use Rattle.ghcn_files.specs.declared.station.Station.{Station}
use Rattle.ghcn_series.specs.Series.{Data}
use Rattle.ghcn_series.specs.Says.{in_64_bits}
use Rattle.rank_query.specs.Meaning.Asked.{Query}
use Rattle.rank_scores.specs.declared.candidate.Candidate.{Candidate}
use Rattle.rank_scores.specs.Morsels.{all_candidates, morsels, kth_of_query}
use Rattle.rank_papers.specs.declared.paper.Report.{Report as ReadReport}
use Rattle.rank_papers.specs.declared.paper.Row.{Row}
use Rattle.rank_papers.specs.ReportLines.{Reported, IsReported, reported_in, named_in}
use Rattle.rank_papers.specs.Certificate.{Certified}
use Rattle.rank_papers.specs.Papers.{same_query, candidates_of}
use Rattle.rank_check.specs.declared.survey.Findings.{Findings}
use Rattle.rank_papers.specs.declared.fault.Paper.TheVariants.{Report, Certificate}
use Rattle.rank_check.specs.declared.verdict.Why.TheVariants.{TooFew, OtherQuery, OtherFloor}
use Rattle.rank_check.specs.declared.refusal.Refusal.{Refusal}
use Rattle.rank_check.specs.Tests.{refusal, Test, number_test, length_test, tests_of_rows, report_tests, tests_of_lines}
use Rattle.rank_check.specs.FoundFaults.{IsFaultOfRows}
use Rattle.rank_check.specs.Survey.{AreFindings}
use Rattle.rank_check.specs.Tests.{certificate_tests}
use Rattle.rank_papers.proofs.FirstFailing.{first_failing-append}

-- ---- the number of rows

-- a count that stops at 64 bits compares with few rows as the number itself does
counted : (n rows : ℕ) → rows ≤ 1000 → nat_le (in_64_bits n) rows ≡ nat_le n rows
counted n rows few = by (nat_le n rows) refl
  where
    by : (b : Bool) → nat_le n rows ≡ b → nat_le (in_64_bits n) rows ≡ b
    by true e = let low : n ≤ rows = leb-true n rows e in le-leb (in_64_bits n) rows (omega arith)
    by false e = let high : rows < n = leb-false n rows e in lt-leb (in_64_bits n) rows (omega arith)

-- so the test of the number is that of the count
numbered : (k n count all : ℕ) → n ≤ 1000 → count ≡ in_64_bits all → number_test k count n ≡ number_test k all n
numbered k n count all few e =
    ap (λ (b : Bool). (nat_le k n || b, refusal Report (n + 3) TooFew))
    (ap (λ (m : ℕ). nat_le m n) e ∙ counted all n few)

-- a report that was read has few rows
pub few_rows : (r : ReadReport) → IsReported (reported_in r) → length r.rows.items ≤ 1000
few_rows r can =
    let k = r.query.k in
    let low : length (map named_in r.rows.items) ≤ k = leb-true (length (map named_in r.rows.items)) k can.few in
    let high : k ≤ 1000 = leb-true k 1000 (and_parts (nat_le 1 k) (nat_le k 1000) can.asked.k).1 in
    omega (arith, low, high, length-map r.rows.items named_in)

-- ---- a report, whose rows are lent

module _ (q : Query) (c : Data) (own rows : List Row) (lent : rows ≡ own) (found : Findings)
    (are : AreFindings q c (candidates_of own) found) where
  -- what the number of rows comes to
  pub number_decided : (few : Option Refusal) → length own ≤ 1000
      → few ≡ first_failing (number_test q.k found.count (length rows) ∷ [])
      → few ≡ first_failing (number_test q.k (length (all_candidates q c)) (length (map named_in own)) ∷ [])
  number_decided few low e =
      e ∙ ap (λ (rs : List Row). first_failing (number_test q.k found.count (length rs) ∷ [])) lent
      ∙ ap (λ (t : Test). first_failing (t ∷ []))
      (numbered q.k (length own) found.count (length (all_candidates q c)) low are.count)
      ∙ ap (λ (n : ℕ). first_failing (number_test q.k (length (all_candidates q c)) n ∷ []))
      (sym (length-map own named_in))

  -- what the rows come to
  pub rows_decided : (stations : List Station) (fault : Option Refusal) → stations ≡ c.stations
      → IsFaultOfRows stations rows found fault → fault ≡ first_failing (tests_of_rows q c (map named_in own))
  rows_decided stations fault listed is =
      subst (λ (rs : List Row). IsFaultOfRows stations rs found fault) lent is q c listed are

-- the error of the rows, or otherwise of their number, is that of the report
pub report_decided : (q : Query) (c : Data) (r : Reported) (fault few : Option Refusal)
    → same_query r.query q ≡ true → fault ≡ first_failing (tests_of_rows q c r.rows)
    → few ≡ first_failing (number_test q.k (length (all_candidates q c)) (length r.rows) ∷ [])
    → option_or fault few ≡ first_failing (report_tests q c r)
report_decided q c r fault few same rows number =
    let last : List Test = number_test q.k (length (all_candidates q c)) (length r.rows) ∷ [] in
    let behind : List Test = tests_of_rows q c r.rows ++ last in
    ap (λ (o : Option Refusal). option_or o few) rows
    ∙ ap (option_or (first_failing (tests_of_rows q c r.rows))) number
    ∙ first_failing-append (tests_of_rows q c r.rows) last
    ∙ ap (λ (b : Bool). cond b (first_failing behind) (Some (refusal Report 2 OtherQuery))) (sym same)

-- ---- a certificate

-- what isn't denied is so
pub not_denied : (b : Bool) → not b ≡ false → b ≡ true
not_denied true e = refl
not_denied false e = absurd cc

-- the error of the lines, or otherwise of their number, is that of the certificate
pub certificate_decided : (q : Query) (c : Data) (rows : List Candidate) (z : Certified)
    (fault few : Option Refusal)
    → same_query z.query q ≡ true → option_eq int_eq z.kth (kth_of_query q c) ≡ true
    → fault ≡ first_failing (tests_of_lines q c z.kth rows z.counts z.entries)
    → few ≡ first_failing (length_test (length (morsels q c)) (length z.entries) ∷ [])
    → option_or fault few ≡ first_failing (certificate_tests q c rows z)
certificate_decided q c rows z fault few same score lines number =
    let last : List Test = length_test (length (morsels q c)) (length z.entries) ∷ [] in
    let behind : List Test = tests_of_lines q c z.kth rows z.counts z.entries ++ last in
    ap (λ (o : Option Refusal). option_or o few) lines
    ∙ ap (option_or (first_failing (tests_of_lines q c z.kth rows z.counts z.entries))) number
    ∙ first_failing-append (tests_of_lines q c z.kth rows z.counts z.entries) last
    ∙ ap (λ (b : Bool). cond b (first_failing behind) (Some (refusal Certificate 3 OtherFloor))) (sym score)
    ∙ ap (λ (b : Bool). cond b (cond (option_eq int_eq z.kth (kth_of_query q c)) (first_failing behind)
    (Some (refusal Certificate 3 OtherFloor))) (Some (refusal Certificate 2 OtherQuery))) (sym same)
