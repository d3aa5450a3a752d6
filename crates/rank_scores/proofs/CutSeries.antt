-- What a query sees of the series that files hold, from the facts of the files.
use Rattle.std.proofs.Common.{◌≡◌, Bool, true, false, cond, not, List, [], ◌∷◌, ◌++◌, length, map, filter, refl, sym}
use Rattle.std.proofs.Common.{ap, ◌∙◌, Option, None, Some, ℕ, arith, rules}
use Rattle.std.specs.Prelude.{◌==◌}
use Rattle.std.specs.List.{filter_map, flat_map, cons_option, AllByRecursion, AllZip, IsDistinct}
use Rattle.std.proofs.lemmas.Bool.{not-false}
use Rattle.ghcn_fields.specs.Sorting.{sorted_by}
use Rattle.ghcn_files.specs.declared.station.Station.{Station}
use Rattle.ghcn_files.specs.declared.station.StationId.{StationId}
use Rattle.ghcn_files.specs.Meaning.Ids.{same_id}
use Rattle.ghcn_files.proofs.Ordered.{distinct-map, distinct-mapped, sorted-map}
use Rattle.ghcn_series.specs.Meaning.Series.{DayValue, Series}
use Rattle.ghcn_series.specs.Series.{series_of}
use Rattle.ghcn_series.specs.DailyFaults.{is_listed}
use Rattle.ghcn_series.specs.Meaning.Says.{Fact}
use Rattle.ghcn_series.specs.Says.{days_of, usable_of}
use Rattle.ghcn_series.specs.JoinedFiles.{facts_in}
use Rattle.ghcn_series.proofs.AllSeries.{all_listed}
use Rattle.ghcn_series.proofs.FoundSeries.{if_it_has_days, series_of-listed}
use Rattle.ghcn_series.proofs.JoinedFiles.{contents_in, none_in}
use Rattle.ghcn_series.proofs.ListFacts.{all-filter}
use Rattle.rank_query.specs.Meaning.Asked.{Query, score_element}
use Rattle.rank_query.specs.Admits.{admits_station}
use Rattle.rank_scores.specs.declared.candidate.Candidate.{Candidate}
use Rattle.rank_scores.specs.Meaning.Candidates.{shape, admitted}
use Rattle.rank_scores.specs.Candidates.{candidates, contenders_among}
use Rattle.rank_scores.specs.Groups.{leaders}
use Rattle.rank_scores.specs.Stretches.{admitted_among}
use Rattle.rank_scores.specs.Morsels.{admitted_series, all_candidates, has_admitted, id_comes_first, morsels}
use Rattle.rank_scores.specs.Cut.{IsSameFor, series_first}

-- ---- what a query sees of a series

-- its ID and its admitted days
abbrev pub Seen : Type 0
Seen = StationId × List DayValue

-- there is an admitted day
abbrev pub has_any : Seen → Bool
has_any x = not (length x.1 == 0)

-- two belong to one station
abbrev pub of_one : Seen → Seen → Bool
of_one a b = same_id a.0 b.0

-- which of two comes first, by ID
abbrev pub comes_first : Seen → Seen → Bool
comes_first a b = id_comes_first a.0 b.0

module _ (q : Query) where
  -- what the query sees of a series
  abbrev pub seen : Series → Seen
  seen s = (s.id, admitted q s)

  -- the candidates of what it sees
  abbrev pub candidates_seen : Seen → List Candidate
  candidates_seen x = leaders q.per (contenders_among x.0 (shape q.score) x.1)

  -- what it sees of a station, from some facts
  abbrev pub seen_in : List Fact → Station → Seen
  seen_in facts st = (st.id, admitted_among q (days_of facts st.id (score_element q.score)))

  -- nothing seen has no candidate
  pub nothing_seen : (x : Seen) → has_any x ≡ false → candidates_seen x ≡ []
  nothing_seen x none = search (rules, arith, none_in, not-false)

  -- all candidates of series are those of what is seen if there is an admitted day
  candidates-seen : (ss : List Series)
      → flat_map (candidates q) ss ≡ flat_map candidates_seen (map seen (filter (has_admitted q) ss))
  candidates-seen [] = refl
  candidates-seen (s ∷ ss) =
      let kept : List Series = filter (has_admitted q) ss in
      elim (has_admitted q s) as (λ b. has_admitted q s ≡ b → candidates q s ++ flat_map (candidates q) ss
      ≡ flat_map candidates_seen (map seen (cond b (s ∷ kept) kept))) [
        | true ↦ λ some. ap (λ (l : List Candidate). candidates q s ++ l) (candidates-seen ss)
        | false ↦ λ none.
            ap (λ (l : List Candidate). l ++ flat_map (candidates q) ss) (nothing_seen (seen s) none)
            ∙ candidates-seen ss
      ] refl

  -- series of which the same is seen, one by one, can take each other's place
  pub same_seen : (us vs : List Series) → map seen us ≡ map seen vs → AllZip (IsSameFor q) us vs
  same_seen [] [] e = tt
  same_seen [] (v ∷ vs) e = absurd cc
  same_seen (u ∷ us) [] e = absurd cc
  same_seen (u ∷ us) (v ∷ vs) e =
      let one : seen u ≡ seen v = cc in
      let rest : map seen us ≡ map seen vs = cc in (
        record { id = ap (λ (x : Seen). x.0) one; candidates = ap candidates_seen one },
        same_seen us vs rest,
      )

  -- series of different stations are seen as of different ones
  pub distinct_seen : (us : List Series) → IsDistinct same_id (map (λ (s : Series). s.id) us)
      → IsDistinct of_one (map seen us)
  distinct_seen us d = distinct-map seen of_one us (distinct-mapped (λ (s : Series). s.id) same_id us d)

  -- morsels in their order are seen in their order
  pub sorted-seen : (us : List Series) → map seen (sorted_by series_first us) ≡ sorted_by comes_first (map seen us)
  sorted-seen us = sorted-map seen comes_first us

  -- ---- in what files hold

  module _ (stations : List Station) where
    -- the stations that the query admits
    abbrev pub admitted_stations : List Station
    admitted_stations = filter (admits_station q) stations

    -- what it sees of them, if there is an admitted day
    abbrev pub held_in : List Fact → List Seen
    held_in facts = filter has_any (map (seen_in facts) admitted_stations)

    -- the series that facts give a station
    abbrev pub given : List Fact → Station → Series
    given facts st = usable_of facts st (score_element q.score)

    -- those of the stations that have a day
    abbrev pub all_given : List Fact → List Station → List Series
    all_given facts sts = filter_map (λ st. if_it_has_days (given facts st)) sts

    -- the series of listed stations are those that the facts give
    series_given : (files : List (List ℕ)) (sts : List Station)
        → AllByRecursion (λ s. is_listed stations s.id ≡ true) sts
        → filter_map (λ st. series_of (contents_in stations files) st.id (score_element q.score)) sts
        ≡ all_given (facts_in stations files) sts
    series_given files [] h = refl
    series_given files (st ∷ sts) h =
        ap (λ (o : Option Series). cons_option o
        (filter_map (λ s. series_of (contents_in stations files) s.id (score_element q.score)) sts))
        (series_of-listed stations files st (score_element q.score) h.0)
        ∙ ap (cons_option (if_it_has_days (given (facts_in stations files) st))) (series_given files sts h.1)

    -- so are the series that the query is about
    pub admitted_series-given : (files : List (List ℕ)) → admitted_series q (contents_in stations files)
        ≡ all_given (facts_in stations files) admitted_stations
    admitted_series-given files = search (rules, arith, series_given, all-filter, all_listed)

    -- without a day there is no admitted one
    no_day : (s : Series) → (length s.days == 0) ≡ true → has_admitted q s ≡ false
    no_day s none = ap (λ (days : List DayValue). not (length (admitted_among q days) == 0)) (none_in s.days none)

    -- what is seen of given series with an admitted day
    seen-given : (facts : List Fact) (sts : List Station) → map seen (filter (has_admitted q) (all_given facts sts))
        ≡ filter has_any (map (seen_in facts) sts)
    seen-given facts [] = refl
    seen-given facts (st ∷ sts) =
        let u : Series = given facts st in
        let us : List Series = all_given facts sts in
        let xs : List Seen = filter has_any (map (seen_in facts) sts) in
        let kept : List Series = filter (has_admitted q) us in
        elim (length u.days == 0) as (λ b. (length u.days == 0) ≡ b
        → map seen (filter (has_admitted q) (cons_option (cond b None (Some u)) us))
        ≡ cond (has_admitted q u) (seen u ∷ xs) xs) [
          | true ↦ λ none.
              seen-given facts sts ∙ sym (ap (λ (b : Bool). cond b (seen u ∷ xs) xs) (no_day u none))
          | false ↦ λ some.
              elim (has_admitted q u) as (λ b. map seen (cond b (u ∷ kept) kept) ≡ cond b (seen u ∷ xs) xs) [
                | true ↦ ap (λ (l : List Seen). seen u ∷ l) (seen-given facts sts)
                | false ↦ seen-given facts sts
              ]
        ] refl

    -- what is seen of the series of files with an admitted day
    seen_held : (files : List (List ℕ))
        → map seen (filter (has_admitted q) (admitted_series q (contents_in stations files)))
        ≡ held_in (facts_in stations files)
    seen_held files = search (rules, arith, admitted_series-given, seen-given)

    -- all candidates of files
    pub candidates_held : (files : List (List ℕ)) → all_candidates q (contents_in stations files)
        ≡ flat_map candidates_seen (held_in (facts_in stations files))
    candidates_held files = search (rules, arith, candidates-seen, contents_in, seen_held)

    -- the morsels of files
    pub morsels_held : (files : List (List ℕ)) → map seen (morsels q (contents_in stations files))
        ≡ sorted_by comes_first (held_in (facts_in stations files))
    morsels_held files = search (rules, arith, sorted-seen, contents_in, seen_held)
