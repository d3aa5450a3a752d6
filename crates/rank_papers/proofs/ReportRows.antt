-- Rows of candidates with their stations, one after the other.
use Rattle.std.proofs.Common.{◌≡◌, ℕ, ◌+◌, ◌<◌, List, [], ◌∷◌, ◌++◌, length, take, get_or, Option, Some, None, refl, sym, ap, ◌∙◌, append_assoc, append-nil, length-append, arith, map, IsTrue}
use Rattle.std.specs.Prelude.{codes}
use Rattle.std.specs.List.{enumerate_from, find, cons_option, AllByRecursion}
use Rattle.std.specs.Option.{option_map, is_some}
use Rattle.std.proofs.lemmas.List.{take_more, length-map, map-append}
use Rattle.std.proofs.lemmas.List.Elements.{filter_map-append}
use Rattle.std.proofs.lemmas.Grind.{flat_map-append}
use Rattle.ghcn_files.specs.declared.station.Station.{Station}
use Rattle.ghcn_files.specs.Meaning.Listed.{is_station_of}
use Rattle.ghcn_files.proofs.LineLaws.{enumerate_from-append}
use Rattle.rank_query.specs.Meaning.Asked.{Query}
use Rattle.rank_scores.specs.declared.candidate.Candidate.{Candidate}
use Rattle.rank_scores.specs.QueryCandidates.{AreOfListed}
use Rattle.rank_papers.specs.Meaning.Report.{trimmed, text_line, row_fields, end_fields, query_line, report_text}
use Rattle.rank_papers.specs.Meaning.Report.{IsReportOfBest}
use Rattle.rank_papers.specs.Report.{Named, named, with_stations, with_station, rows_of_best, text_of_best}
use Rattle.rank_papers.proofs.RowText.{rows_text}

-- the line of one row more follows the lines of the rows before it
rows_text-push : (q : Query) (rows : List Named) (row : Named) →
    rows_text q (enumerate_from 1 (rows ++ row ∷ []))
    ≡ rows_text q (enumerate_from 1 rows) ++ text_line (row_fields q (1 + length rows, row))
rows_text-push q rows row =
    ap (rows_text q) (enumerate_from-append 1 rows (row ∷ []))
    ∙ flat_map-append (λ r. text_line (row_fields q r)) (enumerate_from 1 rows) ((1 + length rows, row) ∷ [])
    ∙ ap (λ (text : List ℕ). rows_text q (enumerate_from 1 rows) ++ text) (append-nil _)

module _ (q : Query) (names : List Named) where
  -- one row more was written after others
  pub rows-more : (row : Named) (n : ℕ) (before paper : List ℕ) → n ≡ length names
      → paper ≡ before ++ rows_text q (enumerate_from 1 names)
      → paper ++ text_line (row_fields q (n + 1, row)) ≡ before ++ rows_text q (enumerate_from 1 (names ++ row ∷ []))
  rows-more row n before paper count text =
      let line : ℕ → List ℕ = λ rank. text_line (row_fields q (rank, row)) in
      let rank : n + 1 ≡ 1 + length names = omega (arith, count) in
      ap (λ (p : List ℕ). p ++ line (n + 1)) text
      ∙ append_assoc before (rows_text q (enumerate_from 1 names)) (line (n + 1))
      ∙ ap (λ (m : ℕ). before ++ (rows_text q (enumerate_from 1 names) ++ line m)) rank
      ∙ ap (λ (t : List ℕ). before ++ t) (sym (rows_text-push q names row))

  -- the parts of a report, one after the other, make its text
  pub report-made : (n : ℕ) (b c d : List ℕ) → length names ≡ n → b ≡ codes "extremes report 1\n" ++ query_line q
      → c ≡ b ++ rows_text q (enumerate_from 1 names) → d ≡ c ++ text_line (end_fields q.k n) → d ≡ report_text q names
  report-made n b c d count head rows end =
      let lines : List ℕ → List ℕ = λ x. x ++ rows_text q (enumerate_from 1 names) in
      let last : ℕ → List ℕ = λ m. text_line (end_fields q.k m) in
      end ∙ ap (λ (x : List ℕ). x ++ last n) (rows ∙ ap lines head)
      ∙ ap (λ (m : ℕ). lines (codes "extremes report 1\n" ++ query_line q) ++ last m) (sym count)

-- one candidate of a listed station more is one row more, that of the candidate and its station
rows_of_best-push : (stations : List Station) (cs : List Candidate) (c : Candidate) (s : Station) →
    find (is_station_of c.id) stations ≡ Some s →
    rows_of_best stations (cs ++ c ∷ []) ≡ rows_of_best stations cs ++ (c, trimmed s.name) ∷ []
rows_of_best-push stations cs c s e =
    let front : List (Candidate × Station) = with_stations stations cs in
    ap (map named) (filter_map-append (with_station stations) cs (c ∷ []))
    ∙ ap (λ (o : Option Station). map named (front ++ cons_option (option_map (λ station. (c, station)) o) [])) e
    ∙ map-append named front ((c, s) ∷ [])

-- how far the rows of some candidates have been written
pub record HasRows (q : Query) (stations : List Station) (best : List Candidate) (i : ℕ) (before paper : List ℕ)
    : Type 0 where
  pub count : length (rows_of_best stations (take i best)) ≡ i
  pub text : paper ≡ before ++ rows_text q (enumerate_from 1 (rows_of_best stations (take i best)))

module _ (q : Query) (stations : List Station) (best : List Candidate) where
  -- the row of the next candidate was written
  pub HasRows-more : (i : ℕ) (c : Candidate) (s : Station) (before paper : List ℕ) →
      i < length best → c ≡ get_or best i c → find (is_station_of c.id) stations ≡ Some s →
      HasRows q stations best i before paper →
      HasRows q stations best (i + 1) before (paper ++ text_line (row_fields q (i + 1, (c, trimmed s.name))))
  HasRows-more i c s before paper below at found h =
      let names : List Named = rows_of_best stations (take i best) in
      let row : Named = (c, trimmed s.name) in
      let taken : take (i + 1) best ≡ take i best ++ c ∷ [] =
      take_more best i c below ∙ ap (λ (x : Candidate). take i best ++ x ∷ []) (sym at) in
      let more : rows_of_best stations (take (i + 1) best) ≡ names ++ row ∷ [] =
      ap (rows_of_best stations) taken ∙ rows_of_best-push stations (take i best) c s found in
      record {
        count = ap length more ∙ omega (arith, length-append names (row ∷ []), h.count);
        text =
            rows-more q names row i before paper (sym h.count) h.text
            ∙ ap (λ (rows : List Named). before ++ rows_text q (enumerate_from 1 rows)) (sym more);
      }

-- ---- candidates of listed stations are rows, all of them

module _ (stations : List Station) where
  -- a candidate whose station is found comes first
  first_is : (c : Candidate) (cs : List Candidate) (o : Option Station) → IsTrue (is_some o) →
      map (λ row. row.0) (cons_option (option_map (λ station. (c, station)) o) (with_stations stations cs))
      ≡ c ∷ map (λ row. row.0) (with_stations stations cs)
  first_is c cs None h = absurd cc
  first_is c cs (Some s) h = refl

  -- so no candidate is left out
  pub candidates_are : (cs : List Candidate) → AreOfListed stations cs →
      map (λ row. row.0) (with_stations stations cs) ≡ cs
  candidates_are [] h = refl
  candidates_are (c ∷ cs) h =
      first_is c cs (find (is_station_of c.id) stations) h.0
      ∙ ap (λ (ds : List Candidate). c ∷ ds) (candidates_are cs h.1)

  -- and each has its listed station
  pub stations_are : (cs : List Candidate) →
      AllByRecursion (λ row. find (is_station_of row.0.id) stations ≡ Some row.1) (with_stations stations cs)
  stations_are [] = tt
  stations_are (c ∷ cs) = elim (find (is_station_of c.id) stations) as (λ o.
      find (is_station_of c.id) stations ≡ o →
      AllByRecursion (λ row. find (is_station_of row.0.id) stations ≡ Some row.1)
      (cons_option (option_map (λ station. (c, station)) o) (with_stations stations cs))) [
        | None ↦ λ e. stations_are cs
        | Some s ↦ λ e. (e, stations_are cs)
      ] refl

  -- there are as many rows as candidates
  pub length-rows_of_best : (cs : List Candidate) → AreOfListed stations cs →
      length (rows_of_best stations cs) ≡ length cs
  length-rows_of_best cs h =
      let rows : List (Candidate × Station) = with_stations stations cs in
      length-map rows named ∙ sym (length-map rows (λ (row : Candidate × Station). row.0))
      ∙ ap length (candidates_are cs h)

-- ---- the report

module _ (q : Query) (stations : List Station) (best : List Candidate) (listed : AreOfListed stations best) where
  -- that text is the report of these candidates
  pub report-right : (bytes : List ℕ) → bytes ≡ text_of_best q stations best → IsReportOfBest q stations best bytes
  report-right bytes text = record {
    rows = with_stations stations best;
    best = candidates_are stations best listed;
    listed = stations_are stations best;
    text = text;
  }
