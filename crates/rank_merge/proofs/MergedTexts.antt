-- What is merged of right reports and certificates is right for all files.
use Rattle.rank_merge.proofs.Cited.{◌≡◌, inr, ℕ, suc, Bool, false, cond, List, [], ◌∷◌, map, Option, Some, None, Result}
use Rattle.rank_merge.proofs.Cited.{Ok, Err, refl, sym, ap, ◌∙◌, subst, arith, ap₂, ◌↔◌, list_any, AllByRecursion}
use Rattle.rank_merge.proofs.Cited.{AllZip, find, cons_option, le-leb, length-take, map-append, IsPermutation}
use Rattle.rank_merge.proofs.Cited.{IsPermutation-sym, IsPermutation-map, IsRefusal, OrMemory, Station, StationId}
use Rattle.rank_merge.proofs.Cited.{same_id, same_id-turned, Data, IsContents, each-append, Query, IsAsked, Filed}
use Rattle.rank_merge.proofs.Cited.{IsDataOf, morsel_ids, CutByFiles, id_comes_first, IsFoundReport, report_text}
use Rattle.rank_merge.proofs.Cited.{with_stations, IsReportOf, IsRow, SaysRightReport, Reported, Line, IsFoundCertificate}
use Rattle.rank_merge.proofs.Cited.{SaysRightCertificate, certificate_text, Certified, IsCertificateOf}
use Rattle.rank_merge.proofs.Cited.{read_certificate, HeadsAreRight, MergeFault, Part, rows_of, entries_of_parts}
use Rattle.rank_merge.proofs.Cited.{rows_in_order, merged_entries, merged_report, merged_certificate, Texts, part_of}
use Rattle.rank_merge.proofs.Cited.{and_parts, parts_from, twice, papers_unless, papers_of, merge, is_memory}
use Rattle.rank_merge.proofs.Cited.{with_right_head, said, unless_fault, all_files, all_texts, AreAllParts}
use Rattle.rank_merge.proofs.Cited.{IsRightOutcome, IsOutcomeWhereRight, MergedAreRight, RightAreMerged, take-all}
use Rattle.rank_merge.proofs.Cited.{sorted-all, Candidate, ints, option_map, of_both}
use Rattle.std.specs.List.{IsDistinct}
use Rattle.std.proofs.lemmas.Map.Keys.{IsDistinct-IsPermutation}
use Rattle.ghcn_series.specs.Laws.{DataAreRight}
use Rattle.ghcn_series.specs.Says.{data_of}
use Rattle.rank_papers.specs.Laws.{CertificatesAreRead, RightCertificatesSayRight, ReportsAreRead, RightReportsSayRight}
use Rattle.ghcn_files.specs.Meaning.Listed.{is_station_of}
use Rattle.ghcn_files.specs.Listed.{listed}
use Rattle.rank_head.specs.declared.fault.HeadFault.{HeadFault}
use Rattle.ghcn_files.proofs.Ordered as ordered
use Rattle.rank_merge.proofs.Lists.{zip-same}
use Rattle.rank_merge.proofs.ReadParts.{unless_memory}
use Rattle.rank_merge.proofs.RightHeads.{right_head}
use Rattle.rank_merge.proofs.MergedPapers.{WithData, IsRightPart, data_of_parts, parts_alone, merged_say}

-- ---- the parts that are read

-- what is known of data and of texts that are read, and of heads
pub record Known : Type 0 where
  pub dataset : DataAreRight
  pub certificates : CertificatesAreRead
  pub right_certificates : RightCertificatesSayRight
  pub reports : ReportsAreRead
  pub right_reports : RightReportsSayRight
  pub heads : HeadsAreRight

module _ (known : Known) (q : Query) (asked : IsAsked q) (list : List ℕ) (stations : List Station)
    (lists : listed list ≡ Ok stations) where
  -- a right part passes that is read of texts
  passes : (n : ℕ) (texts : Texts) (w : WithData) → IsRightPart q w → IsReportOf w.1.report texts.0
      → IsCertificateOf w.1.certificate texts.1 → part_of q n texts ≡ Ok w.1
  passes n texts w right r z =
      let head = right_head q w.0 asked right.contents w.1.report w.1.certificate right.report right.certificate in
      ap₂ (λ (a : Result Reported ℕ) (b : Result Certified ℕ). with_right_head q n (said n (of_both a b)))
      ((known.reports texts.0 w.1.report).1 r) ((known.certificates texts.1 w.1.certificate).1 z)
      ∙ ap (λ (o : Option HeadFault). unless_fault n o w.1)
      ((known.heads q w.1.report w.1.certificate asked r.can_be z.can_be).1 head)

  -- all parts pass, and what is known of them
  pub record AllRead (n : ℕ) (parts : List Filed) : Type 0 where
    pub read : List WithData
    pub right : AllByRecursion (IsRightPart q) read
    pub rows : AllByRecursion IsRow (rows_of (parts_alone read))
    pub data_are : AllZip (IsDataOf stations) parts (data_of_parts read)
    pub certificates_are : AllZip (λ p w. read_certificate p.1.1 ≡ Ok w.1.certificate) parts read
    pub passed : parts_from q n (all_texts parts) ≡ Ok (parts_alone read)

  -- all parts
  read_all : (n : ℕ) (parts : List Filed) → AreAllParts q stations parts → AllRead n parts
  read_all n [] h = record { read = []; right = tt; rows = tt; data_are = tt; certificates_are = tt; passed = refl }
  read_all n (p ∷ parts) h =
      let contents = known.dataset list stations p.0 h.0.dataset lists h.0.read in
      let r = (known.right_reports q h.0.dataset p.1.0 asked contents).0 h.0.report in
      let z = (known.right_certificates q h.0.dataset p.1.1 asked contents).0 h.0.certificate in
      let one : WithData = (h.0.dataset, record { report = r.0; certificate = z.0 }) in
      let right : IsRightPart q one = record { contents = contents; report = r.2; certificate = z.2 } in
      let rest = read_all (suc n) parts h.1 in
      record {
        read = one ∷ rest.read;
        right = (right, rest.right);
        rows = each-append IsRow r.0.rows (rows_of (parts_alone rest.read)) r.1.can_be.rows rest.rows;
        data_are = (h.0.read, rest.data_are);
        certificates_are = ((known.certificates p.1.1 z.0).1 z.1, rest.certificates_are);
        passed = ap₂ and_parts (passes n p.1 one right r.1 z.1) rest.passed;
      }

-- ---- no ID twice

-- the IDs of lines
abbrev ids_of : List Line → List StationId
ids_of es = map (λ (e : Line). e.id) es

-- if there is no result, the test fails, and there is no other result
none_of : (b : Bool) (i : StationId) (o : Option StationId) → cond b (Some i) o ≡ None → (b ≡ false) × (o ≡ None)
none_of b i o e = grind arith

-- no later line has the ID
none_behind : (i : StationId) (es : List Line)
    → (list_any (λ f. same_id i f.id) es ≡ false) ↔ AllByRecursion (λ j. same_id i j ≡ false) (ids_of es)
none_behind i [] = (λ h. tt, λ h. refl)
none_behind i (f ∷ es) = (
  λ h. let rest = (none_behind i es).0 in grind arith,
  λ h. let rest = (none_behind i es).1 h.1 in grind arith,
)

-- no ID is found twice if and only if no two are the same
once_apart : (es : List Line) → (twice es ≡ None) ↔ IsDistinct same_id (ids_of es)
unfolding IsDistinct
once_apart [] = (λ h. tt, λ d. refl)
once_apart (e ∷ es) = (
  λ h. let none = none_of (list_any (λ f. same_id e.id f.id) es) e.id (twice es) h in
      ((none_behind e.id es).0 none.0, (once_apart es).0 none.1),
  λ d. grind (arith, ints, (none_behind e.id es).1 d.0, (once_apart es).1 d.1),
)

-- the IDs of the lines of all parts are those of their morsels
part_ids : (q : Query) (ws : List WithData) → AllByRecursion (IsRightPart q) ws
    → ids_of (entries_of_parts (parts_alone ws)) ≡ morsel_ids q (data_of_parts ws)
part_ids q [] h = refl
part_ids q (w ∷ ws) h = grind (arith, ints, map-append, parts_alone ws, zip-same, part_ids q ws h.1, data_of_parts ws)

-- no ID is found twice if and only if no station has morsels in two parts
parts_apart : (q : Query) (ws : List WithData) → AllByRecursion (IsRightPart q) ws
    → (twice (merged_entries (parts_alone ws)) ≡ None) ↔ IsDistinct same_id (morsel_ids q (data_of_parts ws))
parts_apart q ws right =
    let lines : List Line = entries_of_parts (parts_alone ws) in
    let apart = once_apart (merged_entries (parts_alone ws)) in
    let moved : IsPermutation (morsel_ids q (data_of_parts ws)) (ids_of (merged_entries (parts_alone ws))) =
    subst (λ (l : List StationId). IsPermutation l (ids_of (merged_entries (parts_alone ws)))) (part_ids q ws right)
    (IsPermutation-map (λ (x : Line). x.id) lines (merged_entries (parts_alone ws))
    (ordered.sorted-permutation (λ (a b : Line). id_comes_first a.id b.id) lines)) in (
      λ once. IsDistinct-IsPermutation same_id same_id-turned _ _ (IsPermutation-sym _ _ moved) (apart.0 once),
      λ d. apart.1 (IsDistinct-IsPermutation same_id same_id-turned _ _ moved d),
    )

-- ---- one report

-- rows with their listed stations are those of their candidates
rows_are : (stations : List Station) (xs : List (Candidate × Station))
    → AllByRecursion (λ row. find (is_station_of row.0.id) stations ≡ Some row.1) xs
    → xs ≡ with_stations stations (map (λ row. row.0) xs)
rows_are stations [] h = refl
rows_are stations (x ∷ xs) h =
    ap (λ (l : List (Candidate × Station)). x ∷ l) (rows_are stations xs h.1)
    ∙ sym (ap (λ (o : Option Station). cons_option (option_map (λ (s : Station). (x.0, s)) o)
    (with_stations stations (map (λ row. row.0) xs))) h.0)

-- so two right reports are the same
pub one_report : (q : Query) (c : Data) (a b : List ℕ) → IsFoundReport q c a → IsFoundReport q c b → a ≡ b
one_report q c a b h k =
    let same : h.rows ≡ k.rows = rows_are c.stations h.rows h.listed
    ∙ ap (with_stations c.stations) (h.best ∙ sym k.best) ∙ sym (rows_are c.stations k.rows k.listed) in
    grind (arith, ints, same)

-- ---- the theorem

-- texts that are returned are those of the parts, and no two lines have one ID
answered : (q : Query) (ps : List Part) (t : Texts) (o : Option StationId) → papers_unless o q ps ≡ Ok t
    → (o ≡ None) × ((report_text q (merged_report q ps).rows, certificate_text (merged_certificate q ps)) ≡ t)
answered q ps t (Some id) h = absurd cc
answered q ps t None h = (refl, cc)

module _ (known : Known) (cut : CutByFiles) (q : Query) (list : List ℕ) (stations : List Station)
    (parts : List Filed) {dataset : Data} {papers : Texts} (lists : listed list ≡ Ok stations) (asked : IsAsked q)
    (merged : merge q (all_texts parts) ≡ Ok papers) (are : AreAllParts q stations parts)
    (read : data_of stations (all_files parts) ≡ Ok dataset) where
  -- all parts
  pub all : AllRead known q asked list stations lists 1 parts
  all = read_all known q asked list stations lists 1 parts are

  -- the data of all files are right
  contents : IsContents dataset
  contents = known.dataset list stations (all_files parts) dataset lists read

  -- what was read of them
  abbrev whole : List Part
  whole = parts_alone all.read

  -- no two lines have one ID, and the texts are those of what was read
  told : (twice (merged_entries whole) ≡ None)
      × ((report_text q (merged_report q whole).rows, certificate_text (merged_certificate q whole)) ≡ papers)
  told = answered q whole papers (twice (merged_entries whole)) (sym (ap (papers_of q) all.passed) ∙ merged)

  -- they say what is right
  say : SaysRightReport q dataset (merged_report q whole) × SaysRightCertificate q dataset (merged_certificate q whole)
  say = merged_say q dataset asked contents all.read (cut q stations parts (data_of_parts all.read) dataset
      all.data_are read ((parts_apart q all.read all.right).0 told.0)) all.right

  -- the report can be
  is_text : IsReportOf (merged_report q whole) papers.0
  is_text =
      grind (arith, ints, length-take q.k (rows_in_order (rows_of whole)), le-leb, take-all, sorted-all, all, told)

  -- the report is right
  pub is_report : IsFoundReport q dataset papers.0
  is_report = (known.right_reports q dataset papers.0 asked contents).1 (merged_report q whole, is_text, say.0)

  -- and the certificate is, which has the merged lines
  pub is_certificate : (z : IsFoundCertificate q dataset papers.1) × (z.version ≡ 2) × (z.entries ≡ merged_entries whole)
  is_certificate = (
    record {
      version = 2;
      known = inr refl;
      entries = merged_entries whole;
      right = say.1.entries;
      text = ap (λ (t : Texts). t.1) (sym told.1)
          ∙ λ i. certificate_text (record (merged_certificate q whole) { kth = say.1.kth i; counts = say.1.counts i });
    },
    refl,
    refl,
  )

-- by the laws of texts, and by that of files in parts
pub merged_right : Known → CutByFiles → MergedAreRight
merged_right known cut q texts papers asked merged list stations parts dataset lists same are read =
    let text : merge q (all_texts parts) ≡ Ok papers = ap (merge q) same ∙ merged in
    let report = is_report known cut q list stations parts lists asked text are read in
    let certificate = is_certificate known cut q list stations parts lists asked text are read in
    ((report, λ other h. one_report q dataset other papers.0 h report), certificate.0)

-- ---- when right parts are refused

-- the data of files are one
pub same_data : (stations : List Station) (parts : List Filed) (ds es : List Data)
    → AllZip (IsDataOf stations) parts ds → AllZip (IsDataOf stations) parts es → ds ≡ es
same_data stations [] [] [] h k = refl
same_data stations [] [] (e ∷ es) h k = absurd k
same_data stations [] (d ∷ ds) es h k = absurd h
same_data stations (p ∷ parts) [] es h k = absurd h
same_data stations (p ∷ parts) (d ∷ ds) [] h k = absurd k
same_data stations (p ∷ parts) (d ∷ ds) (e ∷ es) h k = grind (arith, ints, same_data stations parts ds es h.1 k.1)

-- right parts are merged if and only if no station has morsels in two of them
pub right_merged : Known → RightAreMerged
right_merged known q list stations parts ds asked lists are dataset =
    let all = read_all known q asked list stations lists 1 parts are in
    let same = same_data stations parts (data_of_parts all.read) ds all.data_are dataset in
    subst (λ (l : List Data). IsRightOutcome q l (merge q (all_texts parts))) same
    (subst (IsRightOutcome q (data_of_parts all.read)) (sym (ap (papers_of q) all.passed))
    (by all.read all.right (twice (merged_entries (parts_alone all.read))) refl))
  where
    -- by the ID that is found twice
    by : (ws : List WithData) → AllByRecursion (IsRightPart q) ws → (o : Option StationId)
        → twice (merged_entries (parts_alone ws)) ≡ o
        → IsRightOutcome q (data_of_parts ws) (papers_unless o q (parts_alone ws))
    by ws right None e = (parts_apart q ws right).0 e
    by ws right (Some id) e =
        ((id, refl), λ apart. absurd (let no : None ≡ Some id = sym ((parts_apart q ws right).1 apart) ∙ e in cc))

-- so it is said of the outcome that there is
pub outcome_told : RightAreMerged → (q : Query) (texts : List Texts) (outcome : Result Texts MergeFault) → IsAsked q
    → merge q texts ≡ outcome → IsOutcomeWhereRight q texts outcome
outcome_told law q texts outcome asked is list stations parts ds lists same are dataset = grind (arith, ints)

-- and of a refusal, unless memory ran out
pub refusal_told : RightAreMerged → (q : Query) (texts : List Texts) (why : MergeFault) → IsAsked q
    → IsRefusal is_memory why (merge q texts)
    → OrMemory is_memory (λ (w : MergeFault). IsOutcomeWhereRight q texts (Err w)) why
refusal_told law q texts why asked h = grind (arith, ints, unless_memory, outcome_told)
