-- The report and the certificate that are right for the data of files are those of what the files say.
use Rattle.std.proofs.Common.{◌≡◌, ℕ, true, List, Option, Some, filter, Ok, sym, ap, ◌∙◌, subst}
use Rattle.std.specs.Prelude.{◌↔◌}
use Rattle.std.proofs.lemmas.Bool.{and_parts}
use Rattle.ghcn_files.specs.declared.element.Element.{Element}
use Rattle.ghcn_files.specs.declared.station.Station.{Station}
use Rattle.ghcn_files.specs.declared.station.StationId.{StationId}
use Rattle.ghcn_files.specs.Meaning.Ids.{same_id}
use Rattle.ghcn_files.proofs.IdLaws.{same_id-is, same_id-laws}
use Rattle.ghcn_files.specs.Meaning.Listed.{is_station_of}
use Rattle.ghcn_files.specs.Elements.{same_element}
use Rattle.ghcn_series.specs.DailyFaults.{is_listed}
use Rattle.ghcn_series.specs.Says.{data_of}
use Rattle.ghcn_series.specs.Meaning.Series.{Series}
use Rattle.ghcn_series.specs.Series.{Data, is_series_of, series_of}
use Rattle.ghcn_series.proofs.AllSeries.{same_element-is}
use Rattle.ghcn_series.proofs.Members.{In, contains-in, in-contains, found_in, kept_in, in_kept, made_in, in_made, in_any}
use Rattle.ghcn_series.proofs.SaidLines.{held-said}
use Rattle.ghcn_series.proofs.SaidSeries.{series_said}
use Rattle.rank_query.specs.Admits.{admits_station}
use Rattle.rank_query.specs.Meaning.Asked.{Query, score_element}
use Rattle.rank_papers.specs.Meaning.Right.{IsAdmittedSeries}
use Rattle.rank_papers.specs.Right.{IsRightReport}
use Rattle.rank_papers.specs.RightLaws.{IsHeldSeries, ReportsAreSaid, CertificatesAreSaid}
use Rattle.rank_papers.proofs.FoundPapers.{report-moved, certificate-moved, turned}

-- ---- the series of a query

-- a station of the list is listed
listed_is : (stations : List Station) (st : Station) → In stations st → is_listed stations st.id ≡ true
listed_is stations st h = in_any (is_station_of st.id) stations st h (same_id-laws.refl st.id)

-- a series that is found has the station and element
is_of_both : (c : Data) (id : StationId) (e : Element) (s : Series) → series_of c id e ≡ Some s
    → (s.id ≡ id) × (s.element ≡ e)
is_of_both c id e s found =
    let both = and_parts (same_id s.id id) (same_element s.element e) (found_in (is_series_of id e) c.series s found).1
    in
    (same_id-is s.id id both.0, same_element-is s.element e both.1)

module _ (q : Query) (stations : List Station) (files : List (List ℕ)) (c : Data)
    (is : data_of stations files ≡ Ok c) where
  -- the list is that of the data
  same_list : c.stations ≡ stations
  same_list = ap (λ (d : Data). d.stations) (held-said stations files c is)

  -- the series of the query's element of a station
  abbrev of_station : Station → Option Series
  of_station st = series_of c st.id (score_element q.score)

  -- a series that the data hold is one that the files say
  held_said : (s : Series) → IsHeldSeries q c s → IsAdmittedSeries q stations files s
  held_said s h =
      let there = made_in of_station (filter (admits_station q) c.stations) s (contains-in _ s h) in
      let st : Station = there.0 in
      let kept = kept_in (admits_station q) c.stations st there.1 in
      let both = is_of_both c st.id (score_element q.score) s there.2 in
      let listed : In stations st = subst (λ (ss : List Station). In ss st) same_list kept.0 in
      record {
        station = (st, in-contains stations st listed, sym both.0, kept.1);
        of_element = both.1;
        made = (series_said stations files c is s
            (ap (is_listed stations) both.0 ∙ listed_is stations st listed)).0
            (ap (λ (id : StationId). series_of c id s.element) both.0 ∙ ap (series_of c st.id) both.1 ∙ there.2);
      }

  -- and the other way round
  said_held : (s : Series) → IsAdmittedSeries q stations files s → IsHeldSeries q c s
  said_held s is_one =
      let st : Station = is_one.station.0 in
      let listed : In stations st = contains-in stations st is_one.station.1 in
      let id : st.id ≡ s.id = is_one.station.2 in
      let there : In c.stations st = subst (λ (ss : List Station). In ss st) (sym same_list) listed in
      let own : series_of c s.id s.element ≡ Some s = (series_said stations files c is s
      (ap (is_listed stations) (sym id) ∙ listed_is stations st listed)).1 is_one.made in
      in-contains _ s (in_made of_station (filter (admits_station q) c.stations) st s
      (in_kept (admits_station q) c.stations st there is_one.station.3)
      (ap (λ (i : StationId). series_of c i (score_element q.score)) id
      ∙ ap (series_of c s.id) (sym is_one.of_element) ∙ own))

  -- both
  series-said : (s : Series) → IsHeldSeries q c s ↔ IsAdmittedSeries q stations files s
  series-said s = (held_said s, said_held s)

-- so a right report of the data is that of what the files say
pub reports_said : ReportsAreSaid
reports_said q stations files c bytes is =
    subst (λ (ss : List Station). IsRightReport q ss (IsHeldSeries q c) bytes
    ↔ IsRightReport q stations (IsAdmittedSeries q stations files) bytes) (sym (same_list q stations files c is)) (
      report-moved q (IsHeldSeries q c) (IsAdmittedSeries q stations files)
          (series-said q stations files c is) stations bytes,
      report-moved q (IsAdmittedSeries q stations files) (IsHeldSeries q c)
          (λ s. turned (series-said q stations files c is s)) stations bytes,
    )

-- and a right certificate
pub certificates_said : CertificatesAreSaid
certificates_said version q stations files c bytes is = (
  certificate-moved q (IsHeldSeries q c) (IsAdmittedSeries q stations files)
      (series-said q stations files c is) version bytes,
  certificate-moved q (IsAdmittedSeries q stations files) (IsHeldSeries q c)
      (λ s. turned (series-said q stations files c is s)) version bytes,
)
