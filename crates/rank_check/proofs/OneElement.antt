-- A verdict rests on the series of the query's element alone.
use Rattle.std.proofs.Common.{◌≡◌, ℕ, List, [], ◌∷◌, ◌++◌, length, Result, Ok, Err, refl, ap}
use Rattle.std.specs.List.{flat_map, enumerate_from}
use Rattle.std.specs.Option.{option_eq}
use Rattle.std.specs.Ordering.{int_eq}
use Rattle.std.proofs.Math.Path.{fun_ext}
use Rattle.ghcn_fields.specs.Faults.{first_failing}
use Rattle.ghcn_series.specs.Series.{Data}
use Rattle.rank_query.specs.Meaning.Asked.{Query}
use Rattle.rank_scores.specs.declared.candidate.Candidate.{Candidate}
use Rattle.rank_scores.specs.Morsels.{all_candidates, morsels, kth_of_query}
use Rattle.rank_scores.specs.OneElement.{data_for, CandidatesStay, MorselsStay, KthStays}
use Rattle.rank_papers.specs.declared.fault.Paper.{Paper}
use Rattle.rank_papers.specs.ReportLines.{Reported}
use Rattle.rank_papers.specs.Certificate.{Certified}
use Rattle.rank_papers.specs.Papers.{read_papers, same_query, of_rows}
use Rattle.rank_papers.specs.declared.fault.Paper.TheVariants.{Report, Certificate}
use Rattle.rank_check.specs.declared.verdict.Why.TheVariants.{OtherQuery, OtherFloor}
use Rattle.rank_check.specs.Tests.{refusal, row_tests, report_tests, entry_tests, number_test, length_test}
use Rattle.rank_check.specs.Tests.{certificate_tests, refused, verdict_of}
use Rattle.rank_check.specs.Laws.{VerdictStays}

module _ (candidates : CandidatesStay) (series : MorselsStay) (score : KthStays) (q : Query) (c : Data) where
  -- the tests of a report are the same
  reports_tested : (r : Reported) → report_tests q (data_for q c) r ≡ report_tests q c r
  reports_tested r =
      let all : all_candidates q (data_for q c) ≡ all_candidates q c = candidates q c in
      let rows : row_tests q (data_for q c) r.rows ≡ row_tests q c r.rows = fun_ext (λ row. rw (candidates q c)) in
      λ i. (same_query r.query q, refusal Report 2 OtherQuery)
      ∷ flat_map (rows i) (enumerate_from 1 r.rows)
      ++ number_test q.k (length (all i)) (length r.rows)
      ∷ []

  -- those of a certificate too
  certificates_tested : (rows : List Candidate) (z : Certified)
      → certificate_tests q (data_for q c) rows z ≡ certificate_tests q c rows z
  certificates_tested rows z =
      let kth : kth_of_query q (data_for q c) ≡ kth_of_query q c = score q c in
      let all : morsels q (data_for q c) ≡ morsels q c = series q c in
      let lines : entry_tests q (data_for q c) z.kth rows z.counts ≡ entry_tests q c z.kth rows z.counts =
      fun_ext (λ l. rw (series q c)) in
      λ i. (same_query z.query q, refusal Certificate 2 OtherQuery)
      ∷ (option_eq int_eq z.kth (kth i), refusal Certificate 3 OtherFloor)
      ∷ flat_map (lines i) (enumerate_from 1 z.entries)
      ++ length_test (length (all i)) (length z.entries)
      ∷ []

  -- so the same is refused
  pub refused-same : (p : Result (Reported × Certified) (Paper × ℕ)) → refused q (data_for q c) p ≡ refused q c p
  refused-same (Err bad) = refl
  refused-same (Ok (r, z)) =
      let report : report_tests q (data_for q c) r ≡ report_tests q c r = reports_tested r in
      let rows : List Candidate = of_rows r.rows in
      let certificate : certificate_tests q (data_for q c) rows z ≡ certificate_tests q c rows z =
      certificates_tested rows z in
      λ i. first_failing (report i ++ certificate i)

-- on the texts of a report and a certificate
pub verdict_stays : CandidatesStay → MorselsStay → KthStays → VerdictStays
verdict_stays candidates series score q c report certificate =
    ap verdict_of (refused-same candidates series score q c (read_papers report certificate))
