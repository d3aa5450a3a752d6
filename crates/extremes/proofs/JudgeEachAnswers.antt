-- What is returned for the reports and the certificates of some queries over one reading.
use Rattle.std.proofs.Common.{◌≡◌, ℕ, suc, ◌+◌, ◌<◌, ◌≤◌, Bool, true, false, List, [], ◌∷◌, ◌++◌, length, take, get_or}
use Rattle.std.proofs.Common.{refl, sym, ap, ◌∙◌, subst, arith}
use Rattle.std.specs.Prelude.{◌↔◌, ⊤, Result, Ok, Err}
use Rattle.std.specs.List.{AllByRecursion, AllZip}
use Rattle.std.proofs.lemmas.List.{append-nil, length-take-le, take_more}
use Rattle.std.proofs.lemmas.List.Elements.{recursion_from_All}
use Rattle.std.proofs.lemmas.Grind.{flat_map-append}
use Rattle.ghcn_fields.specs.Refusals.{IsRefusal}
use Rattle.ghcn_files.specs.Elements.{is_kept}
use Rattle.ghcn_series.specs.declared.counts.Warnings.{Warnings}
use Rattle.ghcn_series.specs.declared.rows.RowReader.{RowReader}
use Rattle.ghcn_series.specs.Fed.{files_of}
use Rattle.ghcn_series.specs.Gathered.{HasReadByRows}
use Rattle.ghcn_series.specs.Kept.{HoldFiles, kept}
use Rattle.ghcn_series.specs.SaidLists.{stations_said}
use Rattle.ghcn_series.specs.Series.{Data}
use Rattle.rank_query.specs.Meaning.Asked.{Query, score_element}
use Rattle.rank_query.specs.Meaning.Asks.{Asks}
use Rattle.rank_query.proofs.Asks.{asks_read}
use Rattle.rank_scores.specs.OneElement.{KeptAreEnough, data_for}
use Rattle.rank_papers.specs.RightLaws.{CertificatesAreSaid, ReportsAreSaid, RightCertificateStays, RightReportStays}
use Rattle.rank_check.specs.declared.verdict.Verdict.{Verdict}
use Rattle.rank_check.specs.Laws.{VerdictStays}
use Rattle.rank_check.specs.Tests.{verdict}
use Rattle.rank_parts.specs.Laws.{PartVerdictStays}
use Rattle.rank_parts.specs.Parts.{part_verdict}
use Rattle.rank_merge.specs.Merging.{Texts}
use Rattle.rank_input.specs.declared.fault.Fault.{Fault}
use Rattle.rank_input.specs.declared.intake.Intake.{Intake}
use Rattle.rank_input.specs.Feeding.{Opening, StopsAt}
use Rattle.rank_input.specs.Input as input
use Rattle.rank_input.specs.Input.{IsReadOf, read_files, read_input}
use Rattle.rank_input.specs.Takes.{MakesTaken, RefusesTaken}
use Rattle.rank_input.proofs.Questions.{refused_input}
use Rattle.extremes.specs.declared.checked_papers.JudgingStop.{JudgingStop}
use Rattle.extremes.specs.declared.checked_papers.JudgingStop.TheVariants.{Input, NotRead}
use Rattle.extremes.specs.declared.ending.Ending.{Ending}
use Rattle.extremes.specs.declared.ending.Ending.TheVariants as endings
use Rattle.extremes.specs.declared.judge_each.Verdicts.{Verdicts}
use Rattle.extremes.specs.declared.judgement.Judgement.{Judgement}
use Rattle.extremes.specs.declared.judgement.Judgement.TheVariants.{Whole, Part}
use Rattle.extremes.specs.Answer.{IsFaultless}
use Rattle.extremes.specs.Ending.{ending_of}
use Rattle.extremes.specs.JudgeEach.{AddsVerdict, AreJudgedFrom, HasVerdictsOf, IsJudgedOver, IsVerdictOver, JudgesOver}
use Rattle.extremes.specs.JudgeEach.{JudgesTaken, JudgesTexts, StopsJudging, ending_of_all, lines_of, then_ending}
use Rattle.extremes.specs.Judged.{IsJudged}
use Rattle.extremes.specs.Merges.{Known}
use Rattle.extremes.specs.PaperPaths.{all_paths}
use Rattle.extremes.specs.Printed.{judgement_line}
use Rattle.extremes.specs.Runs.{IsJudgedAs}
use Rattle.extremes.proofs.Answering.{right_for, texts_said}
use Rattle.extremes.proofs.Comparing.{take-whole}
use Rattle.extremes.proofs.Readings.{data_is_said}

-- ---- one judgement after the other

-- how a run ends by three judgements doesn't depend on which two come together
then-later : (a b c : Ending) → then_ending (then_ending a b) c ≡ then_ending a (then_ending b c)
then-later endings.Done b c = refl
then-later endings.Refused b c = refl
then-later endings.Words b c = refl
then-later endings.File b c = refl

-- nothing after it changes how a run ends
then-done : (a : Ending) → then_ending a endings.Done ≡ a
then-done endings.Done = refl
then-done endings.Refused = refl
then-done endings.Words = refl
then-done endings.File = refl

-- a run ends by one judgement more
ending-more : (js : List Judgement) (j : Judgement)
    → ending_of_all (js ++ j ∷ []) ≡ then_ending (ending_of_all js) (ending_of j)
ending-more [] j = then-done (ending_of j)
ending-more (x ∷ js) j =
    ap (then_ending (ending_of x)) (ending-more js j)
    ∙ sym (then-later (ending_of x) (ending_of_all js) (ending_of j))

-- the line of one judgement more comes after the others
lines-more : (js : List Judgement) (j : Judgement) → lines_of (js ++ j ∷ []) ≡ lines_of js ++ judgement_line j
lines-more js j = flat_map-append judgement_line js (j ∷ [])
    ∙ ap (λ (t : List ℕ). lines_of js ++ t) (append-nil (judgement_line j))

module _ {Q : Type 0} (judges : ℕ → Q → Judgement → Type 0) where
  -- one query more is judged
  judged-more : (n number : ℕ) (qs : List Q) (js : List Judgement) (q : Q) (j : Judgement) → number ≡ n + length qs
      → AreJudgedFrom judges n qs js → judges number q j → AreJudgedFrom judges n (qs ++ q ∷ []) (js ++ j ∷ [])
  judged-more n number [] [] q j at all is = (subst (λ (k : ℕ). judges k q j) (omega (arith, at)) is, tt)
  judged-more n number [] (y ∷ js) q j at all is = absurd all
  judged-more n number (x ∷ qs) [] q j at all is = absurd all
  judged-more n number (x ∷ qs) (y ∷ js) q j at all is =
      (all.0, judged-more (suc n) number qs js q j (omega (arith, at)) all.1 is)

  -- the verdict on it comes after the others
  verdict-more : (qs : List Q) (q : Q) (number : ℕ) (before after : Verdicts) → number ≡ 1 + length qs
      → HasVerdictsOf judges qs before → AddsVerdict (judges number q) before after
      → HasVerdictsOf judges (qs ++ q ∷ []) after
  verdict-more qs q number before after at was adds = record {
    judgements = was.judgements ++ adds.judgement ∷ [];
    judged = judged-more 1 number qs was.judgements q adds.judgement at was.judged adds.judged;
    lines = adds.lines ∙ ap (λ (t : List ℕ). t ++ judgement_line adds.judgement) was.lines
        ∙ sym (lines-more was.judgements adds.judgement);
    ending = adds.ending ∙ ap (λ (e : Ending). then_ending e (ending_of adds.judgement)) was.ending
        ∙ sym (ending-more was.judgements adds.judgement);
  }

  -- so it is with the next query of some
  pub verdicts-next : (qs : List Q) (i number : ℕ) (q : Q) (before after : Verdicts) → number ≡ i + 1 → i < length qs
      → get_or qs i q ≡ q → HasVerdictsOf judges (take i qs) before → AddsVerdict (judges number q) before after
      → HasVerdictsOf judges (take (i + 1) qs) after
  verdicts-next qs i number q before after at lt is was adds =
      let count = length-take-le i qs (omega (arith, lt)) in
      subst (λ (xs : List Q). HasVerdictsOf judges xs after)
      (sym (take_more qs i q lt ∙ ap (λ (x : Q). take i qs ++ x ∷ []) is))
      (verdict-more (take i qs) q number before after (omega (arith, at, count)) was adds)

  -- as many queries as there are, or more, are all
  pub verdicts-all : (qs : List Q) (i : ℕ) (verdicts : Verdicts) → length qs ≤ i
      → HasVerdictsOf judges (take i qs) verdicts → HasVerdictsOf judges qs verdicts
  verdicts-all qs i verdicts le was = subst (λ (xs : List Q). HasVerdictsOf judges xs verdicts) (take-whole (λ (q : Q). ⊤) qs i le) was

-- ---- the data of one element among those of others

module _ (reports : RightReportStays) (certificates : RightCertificateStays) (reports_said : ReportsAreSaid)
    (certificates_said : CertificatesAreSaid) (verdicts : VerdictStays) (parts : PartVerdictStays) (q : Query)
    (c whole : Data) (same : data_for q c ≡ data_for q whole) (query stations : List ℕ) (files : List (List ℕ))
    (read : IsReadOf query stations files q whole) where
  -- a verdict over data is that on the texts of other data of which the query needs the same
  verdict-among : (papers : Texts) (v : Verdict) → IsVerdictOver q c papers v
      → IsJudged query stations files papers.0 papers.1 v
  verdict-among papers v is =
      let within = right_for q (data_for q c) c papers.0 papers.1 reports certificates refl in
      let among = right_for q (data_for q c) whole papers.0 papers.1 reports certificates same in
      let said = texts_said reports_said certificates_said q (stations_said stations) files whole papers.0 papers.1
      (data_is_said query stations files q whole read) in
      record {
        asked = q;
        dataset = whole;
        read = read;
        verdict = is.verdict ∙ sym (verdicts q c papers.0 papers.1)
            ∙ ap (λ (h : Data). verdict q h papers.0 papers.1) same ∙ verdicts q whole papers.0 papers.1;
        accepted = (
          λ a. said.0 (among.0 (within.1 (is.accepted.0 a))),
          λ r. is.accepted.1 (within.0 (among.1 (said.1 r))),
        );
      }

  -- and so is a judgement
  judged-among : (part : Bool) (papers : Texts) (j : Judgement) → IsJudgedOver part q c papers j
      → IsJudgedAs part query stations files papers.0 papers.1 j
  judged-among false papers (Whole v) is = verdict-among papers v is
  judged-among false papers (Part v) is = is
  judged-among true papers (Whole v) is = is
  judged-among true papers (Part v) is = record {
    asked = q;
    dataset = whole;
    read = read;
    verdict = is ∙ sym (parts q c papers.0 papers.1)
        ∙ ap (λ (h : Data). part_verdict q h papers.0 papers.1) same ∙ parts q whole papers.0 papers.1;
  }

  -- of the report and the certificate of a query in a folder
  judged-in : (part : Bool) (bytes_of : Known) (opens : Opening) (folder : List ℕ) (number : ℕ) (j : Judgement)
      → JudgesOver part bytes_of opens folder c number q j
      → JudgesTexts part bytes_of opens folder stations files number query j
  judged-in part bytes_of opens folder number j is = record {
    opened = is.opened;
    papers = is.papers;
    whole = is.whole;
    judged = judged-among part is.papers j is.judged;
  }

-- if each query is denoted by a line and is judged, each line is
judged-through : {A B : Type 0} (P : A → B → Type 0) (K : B → Type 0) (R : ℕ → B → Judgement → Type 0)
    (S : ℕ → A → Judgement → Type 0)
    → ((x : A) (y : B) (n : ℕ) (j : Judgement) → P x y → K y → R n y j → S n x j) → (n : ℕ) (xs : List A) (ys : List B)
    (js : List Judgement) → AllZip P xs ys → AllByRecursion K ys → AreJudgedFrom R n ys js → AreJudgedFrom S n xs js
judged-through P K R S step n [] [] [] p k r = tt
judged-through P K R S step n [] [] (j ∷ js) p k r = absurd r
judged-through P K R S step n [] (y ∷ ys) js p k r = absurd p
judged-through P K R S step n (x ∷ xs) [] js p k r = absurd p
judged-through P K R S step n (x ∷ xs) (y ∷ ys) [] p k r = absurd r
judged-through P K R S step n (x ∷ xs) (y ∷ ys) (j ∷ js) p k r =
    (step x y n j p.0 k.0 r.0, judged-through P K R S step (suc n) xs ys js p.1 k.1 r.1)

-- what is so for each query and a line that denotes it is so for each line
lines-through : {A B : Type 0} (P : A → B → Type 0) (S : A → Type 0) → ((x : A) (y : B) → P x y → S x) → (xs : List A)
    (ys : List B) → AllZip P xs ys → AllByRecursion S xs
lines-through P S step [] [] p = tt
lines-through P S step [] (y ∷ ys) p = absurd p
lines-through P S step (x ∷ xs) [] p = absurd p
lines-through P S step (x ∷ xs) (y ∷ ys) p = (step x y p.0, lines-through P S step xs ys p.1)

-- there are as many lines as queries
pub as-many : {A B : Type 0} (P : A → B → Type 0) (xs : List A) (ys : List B) → AllZip P xs ys → length ys ≡ length xs
as-many P [] [] p = refl
as-many P [] (y ∷ ys) p = absurd p
as-many P (x ∷ xs) [] p = absurd p
as-many P (x ∷ xs) (y ∷ ys) p = ap suc (as-many P xs ys p.1)

-- ---- what an intake was given

module _ (part : Bool) (bytes_of : Known) (opens : Opening) (folder : List ℕ) (t : Intake RowReader)
    (queries : List Query) where
  -- an error of the files is that of each query's
  pub refused-taken : (fault : Fault) → RefusesTaken HasReadByRows t fault
      → JudgesTaken part bytes_of opens folder t queries (Err (Input fault))
  refused-taken fault refuses = record {
    is = λ s taken keeps lines asks.
        let error = refuses.is s taken in
        lines-through Asks
        (λ query. IsRefusal input.is_memory fault (read_input query s.stations (files_of s.files)))
        (λ line q asked. refused_input line s.stations (files_of s.files) q fault (asks_read line q asked) error)
        lines queries asks;
  }

  -- out of memory is a refusal of any texts
  memory-taken : (fault : Fault) → input.is_memory fault ≡ true
      → JudgesTaken part bytes_of opens folder t queries (Err (Input fault))
  memory-taken fault is = record {
    is = λ s taken keeps lines asks.
        lines-through Asks
        (λ query. IsRefusal input.is_memory fault (read_input query s.stations (files_of s.files)))
        (λ line q asked. rw is tt) lines queries asks;
  }

  module _ (enough : KeptAreEnough) (reports : RightReportStays) (certificates : RightCertificateStays)
      (reports_said : ReportsAreSaid) (certificates_said : CertificatesAreSaid) (verdicts : VerdictStays)
      (parts : PartVerdictStays) (made : Data × Warnings) (makes : MakesTaken HasReadByRows HoldFiles t made) where
    -- verdicts over what an intake kept are those on the texts
    pub judged-taken : (found : Verdicts) (warnings : Warnings) → warnings ≡ made.1
        → HasVerdictsOf (JudgesOver part bytes_of opens folder made.0) queries found
        → JudgesTaken part bytes_of opens folder t queries (Ok (found, warnings))
    judged-taken found warnings same has = record {
      is = λ s taken keeps lines asks.
          let all = makes.is s taken in
          let held = all.made.held in (
            record {
              judgements = has.judgements;
              judged = judged-through Asks (λ q. is_kept s.keep (score_element q.score) ≡ true)
                  (JudgesOver part bytes_of opens folder made.0)
                  (JudgesTexts part bytes_of opens folder s.stations (files_of s.files))
                  (λ line q n j asked own are.
                  judged-in reports certificates reports_said certificates_said verdicts parts q made.0 held.whole
                  (ap (data_for q) held.is ∙ enough s.keep q held.whole own) line s.stations (files_of s.files)
                  (record { list = all.list; asks = asked; lists = all.lists; holds = held.read }) part bytes_of opens
                  folder n j are) 1 lines queries has.judgements asks
                  (recursion_from_All (λ q. is_kept s.keep (score_element q.score) ≡ true) queries keeps) has.judged;
              lines = has.lines;
              ending = has.ending;
            },
            same ∙ all.made.warned,
          );
    }

    -- or the checks stop
    pub stopped-taken : (stop : JudgingStop) → StopsJudging opens (all_paths folder 1 (length queries)) stop
        → JudgesTaken part bytes_of opens folder t queries (Err stop)
    stopped-taken (Input fault) stops = memory-taken fault stops
    stopped-taken (NotRead path) stops = record {
      is = λ s taken keeps lines asks.
          let all = makes.is s taken in
          let held = all.made.held in (
            lines-through Asks (λ query. IsFaultless query s.stations (files_of s.files))
                (λ line q asked. record {
                  asked = q;
                  dataset = held.whole;
                  read = record { list = all.list; asks = asked; lists = all.lists; holds = held.read };
                }) lines queries asks,
            subst (λ (n : ℕ). StopsJudging opens (all_paths folder 1 n) (NotRead path))
                (as-many Asks lines queries asks) stops,
          );
    }
