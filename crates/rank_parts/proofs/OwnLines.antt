-- What parts say that accept a report and a certificate is so of all data, and back.
use Rattle.rank_parts.proofs.Cited.{◌≡◌, ℕ, suc, Bool, true, cond, List, [], ◌∷◌, length, Option, Some, None, refl, Ok}
use Rattle.rank_parts.proofs.Cited.{◌+◌, AllByRecursion, option_or, option_map, option_map_or, Data, Query, morsels}
use Rattle.rank_parts.proofs.Cited.{Reported, Line, Certified, HeadFault, head_fault, Why, Certificate, OtherSeries}
use Rattle.rank_parts.proofs.Cited.{Refusal, refusal, Accepted, Refused, refusal_of, why_of_line, first_refused}
use Rattle.rank_parts.proofs.Cited.{have_lines, part_judged, ◌↔◌, sym, ◌∙◌, ◌≤◌, not, map, ap, subst, arith, ◌||◌, ◌&&◌}
use Rattle.rank_parts.proofs.Cited.{◌==◌, int_le, find, list_all, sum, flat_map, AllZip, length-map, cond_both}
use Rattle.rank_parts.proofs.Cited.{length-flat_map, IsPermutation-sym, length_permutation, sum-map, AllZip-long}
use Rattle.rank_parts.proofs.Cited.{AllZip-map, same_bytes, first_failing, sorted_by, sorted-permutation, Station}
use Rattle.rank_parts.proofs.Cited.{StationId, same_id, is_station_of, Series, series_of, IsContents, zip-weaker, In}
use Rattle.rank_parts.proofs.Cited.{of_one, in_map, map_in, in_all, for_each, all_in, and_parts, morsel_of}
use Rattle.rank_parts.proofs.Cited.{score_element, admits_station, Candidate, IsSameFor, IsCut, series_first, Named}
use Rattle.rank_parts.proofs.Cited.{trimmed, count_of, of_rows, NotACandidate, NotCounted, NotBest, NoBound, NotBelow}
use Rattle.rank_parts.proofs.Cited.{is_one_of, is_morsel, is_within_worst, score_of, piece_tests, zip_in, each_passes}
use Rattle.rank_parts.proofs.Cited.{or_rest, permuted_in, own_id, listed_found, station_of, is_morsel_of, rows_with}
use Rattle.rank_parts.proofs.Cited.{worst_of, own_series, IsAccepted, IsAbsent, is_own, has_line, bound_is_below}
use Rattle.rank_parts.proofs.Cited.{option_and_then, found_in, all_passes, or_made, AreRightPieces, why_at, refused}
use Rattle.rank_parts.proofs.Cited.{Result, Err, fun_ext, same_element, is_kept, only, is_kept-only, is_series_of}
use Rattle.rank_parts.proofs.Cited.{data_for, MorselsStay, find-filter, Paper, read_papers, PartVerdictStays}
use Rattle.rank_parts.proofs.Walks.{is_listed}
use Rattle.rank_parts.proofs.EntryLists.{in_zip, ids_among, zip_each, line_of, has_where, RiseAll, ids_of}
use Rattle.rank_parts.proofs.EntryLists.{morsel_ids, no_others}
use Rattle.rank_parts.proofs.LineReasons.{failing, why_is}

-- ---- what a part says

-- no line is refused if and only if none has a reason
pub none_refused : (reason : Line → Option Why) (es : List Line) (k : ℕ)
    → (first_refused reason k es ≡ None) ↔ AllByRecursion (λ e. reason e ≡ None) es
none_refused reason [] k = (λ e. tt, λ h. refl)
none_refused reason (f ∷ es) k =
    elim (reason f) as (λ o. reason f ≡ o
    → (option_or (option_map (refusal Certificate k) o) (first_refused reason (suc k) es) ≡ None)
    ↔ ((reason f ≡ None) × AllByRecursion (λ g. reason g ≡ None) es)) [
      | None ↦ λ s. let rest = none_refused reason es (suc k) in (λ g. (s, rest.0 g), λ h. rest.1 h.1)
      | Some w ↦ λ s. (λ g. absurd cc, λ h. absurd (let no : None ≡ Some w = sym h.0 ∙ s in cc))
    ] refl

-- a part that accepts sees nothing to refuse: in the head, at any line, after the lines; and the numbers are these
pub record SeesNothing (q : Query) (d : Data) (r : Reported) (z : Certified) (n m : ℕ) : Type 0 where
  pub head : head_fault q r z ≡ None
  pub lines : AllByRecursion (λ e. why_of_line q d r.rows e ≡ None) z.entries
  pub all : have_lines q d z.entries ≡ true
  pub series : length (morsels q d) ≡ n
  pub long : length z.entries ≡ m

-- so it is
pub sees_nothing : (q : Query) (d : Data) (r : Reported) (z : Certified) (n m : ℕ)
    → part_judged q d (Ok (r, z)) ≡ Accepted n m → SeesNothing q d r z n m
sees_nothing q d r z n m e = by (head_fault q r z) (first_refused (why_of_line q d r.rows) 4 z.entries)
    (have_lines q d z.entries) refl refl refl e
  where
    by : (h : Option HeadFault) (l : Option Refusal) (b : Bool) → head_fault q r z ≡ h
        → first_refused (why_of_line q d r.rows) 4 z.entries ≡ l → have_lines q d z.entries ≡ b
        → option_map_or Refused (option_or (option_map refusal_of h)
        (option_or l (cond b None (Some (refusal Certificate (length z.entries + 4) OtherSeries)))))
        (Accepted (length (morsels q d)) (length z.entries)) ≡ Accepted n m
        → SeesNothing q d r z n m
    by None None true s t u g = let lines = (none_refused (why_of_line q d r.rows) z.entries 4).0 t in
        record { head = s; lines = lines; all = u; series = cc; long = cc }
    by _ _ _ s t u g = absurd cc

-- ---- series that are the same for a query

-- a line of a station fails the same test with each of them, if both are morsels, or neither is
same_tests : (q : Query) (st : Station) (u v : Series) → IsSameFor q u v
    → is_morsel q st (Some u) ≡ is_morsel q st (Some v) → (e : Line) (n : ℕ) (rows : List Named)
    (worst : Option Candidate) → first_failing (piece_tests q st (Some u) e n rows worst)
    ≡ first_failing (piece_tests q st (Some v) e n rows worst)
same_tests q st u v same own e n rows worst = let all = same.candidates in λ i. first_failing (
    (same_id st.id e.id && own i, OtherSeries) ∷ (n == length rows, NotCounted)
    ∷ (list_all (λ (row : Named). is_one_of (all i) row.0 && same_bytes (trimmed st.name) row.1) rows, NotACandidate)
    ∷ (list_all (λ (x : Candidate). not (is_within_worst worst x) || is_one_of (of_rows rows) x) (all i), NotBest)
    ∷ (list_all (λ (x : Candidate). int_le x.score e.bound) (all i), NoBound)
    ∷ (not e.skipped || bound_is_below (score_of worst) e.bound, NotBelow) ∷ [])

-- ---- the morsels of the parts and of the whole

module _ (q : Query) (c : Data) (ds : List Data) (cut : IsCut q c ds) where
  -- those of the parts, by increasing ID
  abbrev sorted : List Series
  sorted = sorted_by series_first (flat_map (morsels q) ds)

  -- one of all data takes the place of one of a part
  part_of : (v : Series) → In (morsels q c) v
      → (d : Data) × In ds d × (u : Series) × In (morsels q d) u × IsSameFor q u v
  part_of v h = let u = zip_in (IsSameFor q) sorted (morsels q c) cut.morsels v h in
      let back = IsPermutation-sym _ _ (sorted-permutation series_first (flat_map (morsels q) ds)) in
      let d = all_in (morsels q) ds u.0 (permuted_in sorted (flat_map (morsels q) ds) back u.0 u.1) in
      (d.0, d.1, u.0, d.2, u.2)

  -- and back
  whole_of : (d : Data) → In ds d → (u : Series) → In (morsels q d) u
      → (v : Series) × In (morsels q c) v × IsSameFor q u v
  whole_of d h u k = in_zip (IsSameFor q) sorted (morsels q c) cut.morsels u
      (permuted_in _ _ (sorted-permutation series_first (flat_map (morsels q) ds)) u (in_all (morsels q) ds d u h k))

  -- the numbers of the parts' morsels add up to that of all data
  pub add_up : sum (map (λ (d : Data). length (morsels q d)) ds) ≡ length (morsels q c)
  add_up = sum-map (λ (d : Data). length (morsels q d)) ds ∙ sym (length-flat_map (morsels q) ds)
      ∙ sym (length_permutation _ _ (sorted-permutation series_first (flat_map (morsels q) ds)))
      ∙ sym (AllZip-long (IsSameFor q) sorted (morsels q c) cut.morsels)

  module _ (d : Data) (h : In ds d) where
    -- a part's stations are those of all data
    pub same_stations : d.stations ≡ c.stations
    same_stations = of_one (λ (x : Data). x.stations ≡ c.stations) ds d cut.stations h

    -- a station with a morsel of the part has one of all data, with which a line of it fails the same test
    pub same_morsel : (st : Station) → In d.stations st → is_own q d st ≡ true
        → (is_own q c st ≡ true) × ((e : Line) (n : ℕ) (rows : List Named) (worst : Option Candidate)
        → first_failing (piece_tests q st (own_series q d st) e n rows worst)
        ≡ first_failing (piece_tests q st (own_series q c st) e n rows worst))
    same_morsel st k mine =
        let u = morsel_of q d st k mine in let v = whole_of d h u.0 u.2 in let s = station_of q c v.0 v.1 in
        let id : s.0.id ≡ st.id = sym (own_id q c s.0 v.0 s.3) ∙ sym v.2.id ∙ own_id q d st u.0 u.1 in
        let here : own_series q c st ≡ Some v.0 =
        ap (λ (i : StationId). series_of c i (score_element q.score)) (sym id) ∙ s.3 in
        let also = is_morsel_of q c st v.0 (and_parts (admits_station q st) _ mine).0 here v.1 in
        let own : is_morsel q st (Some u.0) ≡ is_morsel q st (Some v.0) =
        ap (is_morsel q st) (sym u.1) ∙ mine ∙ sym also ∙ ap (is_morsel q st) here in (
          also,
          λ e n rows worst. ap (λ (o : Option Series). first_failing (piece_tests q st o e n rows worst)) u.1
              ∙ same_tests q st u.0 v.0 v.2 own e n rows worst
              ∙ ap (λ (o : Option Series). first_failing (piece_tests q st o e n rows worst)) (sym here),
        )

-- ---- the parts and the whole

module _ (q : Query) (c : Data) (ds : List Data) (right : IsContents c) (cut : IsCut q c ds) (r : Reported)
    (z : Certified) (ns : List ℕ) (m : ℕ) (seen : AllZip (λ d n. SeesNothing q d r z n m) ds ns) where
  -- what a part sees
  seen_by : (d : Data) → In ds d → (n : ℕ) × SeesNothing q d r z n m
  seen_by d h = let s = in_zip (λ (x : Data) (n : ℕ). SeesNothing q x r z n m) ds ns seen d h in (s.0, s.2)

  -- a morsel has a line
  pub line_for : (v : Series) → In (morsels q c) v → (e : Line) × In z.entries e × (e.id ≡ v.id)
  line_for v h = let p = part_of q c ds cut v h in let st = station_of q p.0 p.2 p.3 in
      let each = each_passes (is_listed q p.0 z.entries) p.0.stations (seen_by p.0 p.1).1.all in
      let own = of_one (λ (s : Station). is_listed q p.0 z.entries s ≡ true) p.0.stations st.0 each st.1 in
      let e = line_of z.entries st.0.id (or_rest (is_own q p.0 st.0) (has_line z.entries st.0.id) own
      (is_morsel_of q p.0 st.0 p.2 st.2 st.3 p.3)) in (e.0, e.1, e.2 ∙ sym (own_id q p.0 st.0 p.2 st.3) ∙ p.4.id)

  module _ (up : RiseAll (ids_of z.entries)) (long : length z.entries ≡ m) (adds : sum ns ≡ m) where
    -- each line belongs to a morsel, since there are at most as many lines as morsels
    morsel_for : (e : Line) → In z.entries e → (v : Series) × In (morsels q c) v × (v.id ≡ e.id)
    morsel_for e h =
        let own : ns ≡ map (λ (d : Data). length (morsels q d)) ds =
        AllZip-map (λ (d : Data). length (morsels q d)) ds ns
        (zip-weaker (λ (d : Data) (n : ℕ). SeesNothing q d r z n m)
        (λ (d : Data) (n : ℕ). n ≡ length (morsels q d)) ds ns (λ d n s. sym s.series) seen) in
        let many = ap (λ (ks : List ℕ). sum ks) own ∙ add_up q c ds cut in
        let ids = length-map z.entries (λ (e : Line). e.id) in
        let few : length (ids_of z.entries) ≤ length (map (λ (s : Series). s.id) (morsels q c)) =
        omega (arith, many, ids, long, adds, length-map (morsels q c) (λ (s : Series). s.id)) in
        map_in (λ (s : Series). s.id) (morsels q c) e.id
        (no_others (map (λ (s : Series). s.id) (morsels q c)) (ids_of z.entries) (morsel_ids q c right) up
        (ids_among q c z.entries line_for) few e.id (in_map (λ (x : Line). x.id) z.entries e h))

    -- each line is accepted by itself
    pub line_accepted : (e : Line) → In z.entries e → IsAccepted q c r.rows e (count_of (of_rows r.rows) e)
    line_accepted e h = let v = morsel_for e h in let p = part_of q c ds cut v.0 v.1 in
        let st = station_of q p.0 p.2 p.3 in let mine = is_morsel_of q p.0 st.0 p.2 st.2 st.3 p.3 in
        let id : st.0.id ≡ e.id = sym (own_id q p.0 st.0 p.2 st.3) ∙ p.4.id ∙ v.2 in
        let listed : p.0.stations ≡ c.stations = same_stations q c ds cut p.0 p.1 in
        let found : find (is_station_of e.id) c.stations ≡ Some st.0 =
        ap (λ (i : StationId). find (is_station_of i) c.stations) (sym id)
        ∙ listed_found q c right st.0 (subst (λ (l : List Station). In l st.0) listed st.1) in
        let reason = why_is q p.0 r.rows e st.0 (own_series q p.0 st.0) true
        (ap (λ (i : StationId). series_of p.0 i (score_element q.score)) (sym id))
        (ap (find (is_station_of e.id)) listed ∙ found) mine in
        let same = (same_morsel q c ds cut p.0 p.1 st.0 st.1 mine).1 e (count_of (of_rows r.rows) e)
        (rows_with e.id r.rows) (worst_of q.k r.rows) in
        let none = of_one (λ (x : Line). why_of_line q p.0 r.rows x ≡ None) z.entries e (seen_by p.0 p.1).1.lines h in
        (st.0, found, sym same ∙ sym reason ∙ none)

-- ---- a report and a certificate that are right for the whole are accepted by all parts

-- the certificate of version 2 with the counts of some rows
abbrev pub recounted : List Named → Certified → Certified
recounted rows z = record z { version = 2; counts = map (count_of (of_rows rows)) z.entries }

module _ (q : Query) (c : Data) (ds : List Data) (cut : IsCut q c ds) (r : Reported) (z : Certified)
    (pieces : AreRightPieces q c r (recounted r.rows z)) (d : Data) (h : In ds d) where
  -- no line is refused by the part
  no_reason : (e : Line) → In z.entries e → why_of_line q d r.rows e ≡ None
  no_reason e k =
      let whole = (zip_each (IsAccepted q c r.rows) (count_of (of_rows r.rows)) z.entries).0 pieces.lines e k in
      let st : Station = whole.0 in
      let found : find (is_station_of e.id) d.stations ≡ Some whole.0 =
      ap (find (is_station_of e.id)) (same_stations q c ds cut d h) ∙ whole.1 in
      let there = (found_in (is_station_of e.id) d.stations whole.0 found).0 in
      ap (option_and_then (why_at q d r.rows e)) found
      ∙ cond_both (is_own q d st) (failing q d r.rows e st (own_series q d st)) None (λ o. o ≡ None)
      (λ own. (same_morsel q c ds cut d h st there own).1 e (count_of (of_rows r.rows) e) (rows_with e.id r.rows)
      (worst_of q.k r.rows) ∙ whole.2) (λ own. refl)

  -- each morsel of the part has a line
  all_have : have_lines q d z.entries ≡ true
  all_have = all_passes (is_listed q d z.entries) d.stations
      (for_each (λ (st : Station). is_listed q d z.entries st ≡ true) d.stations (λ st k.
      or_made (is_own q d st) (has_line z.entries st.id) (λ own. has_where q c z.entries st
      (of_one (IsAbsent q c z.entries) c.stations st pieces.absent
      (subst (λ (l : List Station). In l st) (same_stations q c ds cut d h) k))
      (same_morsel q c ds cut d h st k own).0)))

  -- so the part refuses nothing
  pub nothing_refused : head_fault q r z ≡ None → refused q d r z ≡ None
  nothing_refused fine =
      let lines : first_refused (why_of_line q d r.rows) 4 z.entries ≡ None =
      (none_refused (why_of_line q d r.rows) z.entries 4).1
      (for_each (λ e. why_of_line q d r.rows e ≡ None) z.entries no_reason) in
      λ i. option_or (option_map refusal_of (fine i)) (option_or (lines i)
      (cond (all_have i) None (Some (refusal Certificate (length z.entries + 4) OtherSeries))))

-- ---- the verdict of a part rests on the series of the query's element alone

module _ (series : MorselsStay) (q : Query) (c : Data) where
  -- a station has the same series
  own : own_series q (data_for q c) ≡ own_series q c
  own = let e = score_element q.score in fun_ext (λ (st : Station).
      find-filter (is_series_of st.id e) (λ u. is_kept (only e) u.element) c.series
      (λ u is. is_kept-only e u.element ∙ (and_parts (same_id u.id st.id) (same_element u.element e) is).1))

  -- so the verdict is the same
  judged-same : (p : Result (Reported × Certified) (Paper × ℕ)) → part_judged q (data_for q c) p ≡ part_judged q c p
  judged-same (Err bad) = refl
  judged-same (Ok (r, z)) = λ i. option_map_or Refused (option_or (option_map refusal_of (head_fault q r z))
      (option_or (first_refused (λ e. option_and_then (λ st. cond (is_morsel q st (own i st))
      (first_failing (piece_tests q st (own i st) e (count_of (of_rows r.rows) e) (rows_with e.id r.rows)
      (worst_of q.k r.rows))) None) (find (is_station_of e.id) c.stations)) 4 z.entries)
      (cond (list_all (λ st. not (is_morsel q st (own i st)) || has_line z.entries st.id) c.stations) None
      (Some (refusal Certificate (length z.entries + 4) OtherSeries)))))
      (Accepted (length (series q c i)) (length z.entries))

-- on the texts of a report and a certificate
pub verdict_stays : MorselsStay → PartVerdictStays
verdict_stays series q c report certificate = judged-same series q c (read_papers report certificate)
