-- A right report is a text of the form that says what is right.
use Rattle.std.proofs.Common.{◌≡◌, ℕ, ◌≤◌, true, List, [], ◌∷◌, length, map, Option, Some, None, refl, sym, ap, ◌∙◌, subst, arith}
use Rattle.std.specs.List.{cons_option, find, flat_map, list_all, range_with_len, AllByRecursion}
use Rattle.std.specs.Option.{option_map, is_some}
use Rattle.std.proofs.lemmas.Bool.{le-leb}
use Rattle.std.proofs.lemmas.List.{length-map}
use Rattle.std.proofs.lemmas.List.FromFn.{length-range_with_len}
use Rattle.std.proofs.lemmas.Simd.{map-map}
use Rattle.ghcn_fields.specs.Floor.{IsScore}
use Rattle.ghcn_files.specs.declared.station.Station.{Station}
use Rattle.ghcn_files.specs.declared.station.StationId.{StationId}
use Rattle.ghcn_files.specs.Ids.{is_id}
use Rattle.ghcn_files.specs.Meaning.Listed.{is_station_of}
use Rattle.ghcn_files.specs.StationLines.{is_station}
use Rattle.ghcn_files.proofs.Ordered.{each-mapped}
use Rattle.ghcn_series.specs.Meaning.Series.{Series}
use Rattle.ghcn_series.specs.Series.{Data, IsSeries}
use Rattle.ghcn_series.specs.Held.{IsContents}
use Rattle.rank_query.specs.Meaning.Asked.{Query, IsAsked}
use Rattle.rank_scores.specs.declared.candidate.Candidate.{Candidate}
use Rattle.rank_scores.specs.Candidates.{candidates}
use Rattle.rank_scores.specs.Order.{of_rank, best}
use Rattle.rank_scores.specs.Morsels.{admitted_series, all_candidates, best_of_query}
use Rattle.rank_scores.specs.QueryCandidates.{AreOfListed}
use Rattle.rank_scores.proofs.QueryCandidates.{best-holds}
use Rattle.rank_sched.proofs.Lists.{each-append}
use Rattle.rank_sched.proofs.PlanMade.{kept-length}
use Rattle.rank_papers.specs.Meaning.Report.{trimmed, report_text}
use Rattle.rank_papers.specs.Report.{Named, named, with_stations, IsFoundReport}
use Rattle.rank_papers.specs.ReportLines.{Reported, IsReported, IsReportOf, IsRow, name_of, SaysRightReport}
use Rattle.rank_papers.specs.Laws.{RightReportsSayRight}
use Rattle.rank_papers.proofs.CandidateDays.{IsOfDays, candidates_of_days}
use Rattle.rank_papers.proofs.ListedStations.{station_fields, found_station, trimmed_name}
use Rattle.rank_papers.proofs.ReportRows.{candidates_are, stations_are}
use Rattle.rank_papers.proofs.RightCertificates.{series_hold, score_fits, candidates_fit}

-- ---- the best are few, of days and with scores

-- the best k of some are at most k
best_few : (k : ℕ) (all : List Candidate) → length (best k all) ≤ k
best_few k all = omega (arith, kept-length (of_rank all) (range_with_len 0 k), length-range_with_len 0 k)

-- the candidates of series begin and end on days of the calendar
series_of_days : (q : Query) (ss : List Series) → IsAsked q → AllByRecursion IsOfDays (flat_map (candidates q) ss)
series_of_days q [] asked = tt
series_of_days q (s ∷ ss) asked =
    each-append IsOfDays (candidates q s) (flat_map (candidates q) ss) (candidates_of_days q s asked)
    (series_of_days q ss asked)

-- ---- the rows of a right report

-- each row belongs to a listed station
abbrev AreListedRows : List Station → List (Candidate × Station) → Type 0
AreListedRows stations rows = AllByRecursion (λ row. find (is_station_of row.0.id) stations ≡ Some row.1) rows

-- a row of a listed station can be, if its candidate begins and ends on days of the calendar and has a score
row_can_be : (stations : List Station) (c : Candidate) (s : Station) → list_all is_station stations ≡ true
    → find (is_station_of c.id) stations ≡ Some s → IsOfDays c → IsScore c.score → IsRow (named (c, s))
row_can_be stations c s right found days score =
    let station = found_station c.id stations s right found in
    let fields = station_fields s station.0 in
    record {
      id = ap (λ (i : StationId). is_id i.0) (sym station.1) ∙ fields.id;
      first = days.0;
      last = days.1;
      score = score_fits c.score score;
      name = trimmed_name s fields;
    }

module _ (stations : List Station) where
  -- so can all of them
  rows_can_be : (rows : List (Candidate × Station)) → list_all is_station stations ≡ true → AreListedRows stations rows
      → AllByRecursion (λ row. IsOfDays row.0) rows → AllByRecursion (λ row. IsScore row.0.score) rows
      → AllByRecursion IsRow (map named rows)
  rows_can_be [] right listed days scores = tt
  rows_can_be (row ∷ rows) right listed days scores = (
    row_can_be stations row.0 row.1 right listed.0 days.0 scores.0,
    rows_can_be rows right listed.1 days.1 scores.1,
  )

  -- each has its listed station's name
  rows_named : (rows : List (Candidate × Station)) → AreListedRows stations rows
      → AllByRecursion (λ row. name_of stations row.0.id ≡ Some row.1) (map named rows)
  rows_named [] h = tt
  rows_named (row ∷ rows) h =
      (ap (λ (o : Option Station). option_map (λ (s : Station). trimmed s.name) o) h.0, rows_named rows h.1)

  -- the name is that of a station that is found
  name_found : (id : StationId) (name : List ℕ) → name_of stations id ≡ Some name
      → (s : Station) × (find (is_station_of id) stations ≡ Some s) × (trimmed s.name ≡ name)
  name_found id name h = by (find (is_station_of id) stations) refl h
    where
      by : (o : Option Station) → find (is_station_of id) stations ≡ o
          → option_map (λ (s : Station). trimmed s.name) o ≡ Some name
          → (s : Station) × (find (is_station_of id) stations ≡ Some s) × (trimmed s.name ≡ name)
      by None e f = absurd cc
      by (Some s) e f = (s, e, cc)

  -- rows that have such names belong to listed stations
  names_listed : (rows : List Named) → AllByRecursion (λ row. name_of stations row.0.id ≡ Some row.1) rows
      → AreOfListed stations (map (λ row. row.0) rows)
  names_listed [] h = tt
  names_listed (row ∷ rows) h =
      let found = name_found row.0.id row.1 h.0 in (ap is_some found.1, names_listed rows h.1)

  -- and are the rows of those stations
  rows_back : (rows : List Named) → AllByRecursion (λ row. name_of stations row.0.id ≡ Some row.1) rows
      → map named (with_stations stations (map (λ row. row.0) rows)) ≡ rows
  rows_back [] h = refl
  rows_back (row ∷ rows) h =
      let found = name_found row.0.id row.1 h.0 in
      ap (λ (o : Option Station). map named (cons_option (option_map (λ (s : Station). (row.0, s)) o)
      (with_stations stations (map (λ row. row.0) rows)))) found.1
      ∙ ap (λ (name : List ℕ). (row.0, name) ∷ map named (with_stations stations (map (λ row. row.0) rows))) found.2
      ∙ ap (λ (more : List Named). row ∷ more) (rows_back rows h.1)

-- ---- what a right report says

module _ (q : Query) (c : Data) (bytes : List ℕ) (asked : IsAsked q) (right : IsContents c) where
  -- what holds of all candidates holds of those of the rows
  rows_hold : (P : Candidate → Type 0) (rows : List (Candidate × Station)) → map (λ row. row.0) rows ≡ best_of_query q c
      → AllByRecursion P (all_candidates q c) → AllByRecursion (λ row. P row.0) rows
  rows_hold P rows is all =
      each-mapped (λ row. row.0) P rows
      (subst (AllByRecursion P) (sym is) (best-holds P q.k (all_candidates q c) all))

  -- what a right report says can be
  can_be : (rows : List (Candidate × Station)) → map (λ row. row.0) rows ≡ best_of_query q c
      → AreListedRows c.stations rows → IsReported (record { query = q; rows = map named rows })
  can_be rows is listed =
      let count : length (map named rows) ≡ length (best_of_query q c) =
      length-map rows named ∙ sym (length-map rows (λ (row : Candidate × Station). row.0)) ∙ ap length is in
      record {
        asked = asked;
        few = le-leb (length (map named rows)) q.k (omega (arith, count, best_few q.k (all_candidates q c)));
        rows = rows_can_be c.stations rows right.listed.right listed
            (rows_hold IsOfDays rows is (series_of_days q (admitted_series q c) asked))
            (rows_hold (λ d. IsScore d.score) rows is
            (candidates_fit q (admitted_series q c) asked (series_hold IsSeries q c right.series.right)));
      }

  -- a right report has the form, and says what is right
  says_right : IsFoundReport q c bytes → (v : Reported) × IsReportOf v bytes × SaysRightReport q c v
  says_right h = (
    record { query = q; rows = map named h.rows },
    record { can_be = can_be h.rows h.best h.listed; text = h.text },
    record {
      asked = refl;
      best = map-map (λ (row : Named). row.0) named h.rows ∙ h.best;
      named = rows_named c.stations h.rows h.listed;
    },
  )

  -- and what says so is a right report
  right_where : (v : Reported) → IsReportOf v bytes → SaysRightReport q c v → IsFoundReport q c bytes
  right_where v is says =
      let listed : AreOfListed c.stations (map (λ row. row.0) v.rows) = names_listed c.stations v.rows says.named in
      record {
        rows = with_stations c.stations (map (λ row. row.0) v.rows);
        best = candidates_are c.stations (map (λ row. row.0) v.rows) listed ∙ says.best;
        listed = stations_are c.stations (map (λ row. row.0) v.rows);
        text = is.text
            ∙ ap (λ (x : Query). report_text x v.rows) says.asked
            ∙ ap (report_text q) (sym (rows_back c.stations v.rows says.named));
      }

-- both directions
pub right_reports : RightReportsSayRight
right_reports q c bytes asked right =
    (says_right q c bytes asked right, λ h. right_where q c bytes asked right h.0 h.1 h.2)
