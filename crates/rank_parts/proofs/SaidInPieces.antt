-- A report and a certificate say what is right if and only if all their pieces are right.
use Rattle.rank_parts.proofs.Cited.{RightCertificatesSayRight, SaysRightCertificate, RightReportsSayRight, kth_of_query}
use Rattle.rank_parts.proofs.Cited.{CertificatesAreRead, false_from_ne_true, CandidatesAreApart, AcceptedWhereRight, ap}
use Rattle.rank_parts.proofs.Cited.{read_certificate, AcceptedInPieces, SaysRightReport, is_within_worst, is_station_of}
use Rattle.rank_parts.proofs.Cited.{IsCertificateOf, bound_is_below, all_candidates, order_descends, AreRightPieces, In}
use Rattle.rank_parts.proofs.Cited.{ReportsAreRead, descends_order, best_of_query, in_candidates, RightInPieces, Option}
use Rattle.rank_parts.proofs.Cited.{IsRightEntry, IsRightPiece, candidate_in, listed_found, is_morsel_of, candidate_id}
use Rattle.rank_parts.proofs.Cited.{morsels_rise, contains-in, in-contains, IsCertified, right_piece, read_report, true}
use Rattle.rank_parts.proofs.Cited.{option_map, same_id-is, IsContents, candidates, IsReported, is_scanned, one_morsel}
use Rattle.rank_parts.proofs.Cited.{own_series, IsAccepted, station_of, IsReportOf, and_parts, Candidate, Certified, Ok}
use Rattle.rank_parts.proofs.Cited.{counts_of, morsel_of, same_rows, rows_with, StationId, Data, for_each, found_in}
use Rattle.rank_parts.proofs.Cited.{AreApart, Descends, Reported, worst_of, count_of, score_of, Station, same_id, subst}
use Rattle.rank_parts.proofs.Cited.{in_kept, IsAsked, morsels, IsAbove, trimmed, name_of, IsEntry, of_rows, kept_in, ℕ}
use Rattle.rank_parts.proofs.Cited.{Series, of_one, any_in, in_map, map_in, own_id, Result, AllZip, in_any, zip_in, ◌≡◌}
use Rattle.rank_parts.proofs.Cited.{Query, Named, List, Some, ◌&&◌, find, Line, Bool, ◌≤ℤ◌, not, map, sym, ◌∙◌, ◌↔◌, ℤ}
use Rattle.rank_parts.proofs.StationRows.{inside, inside_are, inside_falls, inside_best, kth_best, kth_worst}
use Rattle.rank_parts.proofs.StationRows.{in_station, each_within, rows_within, best_inside, of_station, count_rows}
use Rattle.rank_parts.proofs.StationRows.{few_rows, station_within}
use Rattle.rank_parts.proofs.EntryLists.{in_zip, zip_ids, same_to, line_where, zip_each, absent_where, below_out}
use Rattle.rank_parts.proofs.EntryLists.{ids_among, ids_of, same_ids, rise_ids, morsel_ids, entries_rise}

-- ---- if all pieces are right, the two say what is right

module _ (q : Query) (c : Data) (r : Reported) (z : Certified) (asked : IsAsked q) (right : IsContents c)
    (apart : AreApart (all_candidates q c)) (can : IsReported r) (is : IsCertified z)
    (pieces : AreRightPieces q c r z) where
  -- ---- lines

  -- what an accepted line comes to
  record Piece (e : Line) : Type 0 where
    count : ℕ
    station : Station
    listed : find (is_station_of e.id) c.stations ≡ Some station
    line : IsRightPiece q station (own_series q c station) e count (rows_with e.id r.rows) (worst_of q.k r.rows)
    morsel : In (morsels q c) line.series
    named : e.id ≡ line.series.id

  -- by its tests
  piece : (e : Line) → In z.entries e → Piece e
  piece e k = let one = in_zip (IsAccepted q c r.rows) z.entries z.counts pieces.lines e k in
      let line = (right_piece q one.2.0 (own_series q c one.2.0) e one.0 (rows_with e.id r.rows) (worst_of q.k r.rows)
      (rows_within q r.rows e.id asked pieces.head.order (few_rows q r can pieces.head.report))).0 one.2.2 in
      let own = morsel_of q c one.2.0 (found_in (is_station_of e.id) c.stations one.2.0 one.2.1).0 line.morsel in
      let same : own.0 ≡ line.series = cc (sym own.1 ∙ line.there) in
      let morsel = subst (In (morsels q c)) same own.2 in
      let named = sym line.named ∙ sym (own_id q c one.2.0 line.series line.there) in
      record { count = one.0; station = one.2.0; listed = one.2.1; line = line; morsel = morsel; named = named }

  -- ---- rows

  -- a row is a candidate, with the name of its station
  row_right : (row : Named) → In r.rows row
      → In (all_candidates q c) row.0 × (name_of c.stations row.0.id ≡ Some row.1)
  row_right row h = let e = any_in (λ (x : Line). not x.skipped && same_id x.id row.0.id) z.entries
      (of_one (λ (x : Named). is_scanned z.entries x.0.id ≡ true) r.rows row pieces.head.scanned h) in
      let id : row.0.id ≡ e.0.id = sym (same_id-is e.0.id row.0.id (and_parts _ _ e.2).1) in let p = piece e.0 e.1 in
      let own = in_kept (λ (x : Named). same_id x.0.id e.0.id) r.rows row h (same_to row.0.id e.0.id id) in
      let held = (p.line.rows_are row.0).0 (in-contains (of_rows (rows_with e.0.id r.rows)) row.0
      (in_map (λ (x : Named). x.0) (rows_with e.0.id r.rows) row own)) in
      let name : trimmed p.station.name ≡ row.1 =
      of_one (λ (x : Named). trimmed p.station.name ≡ x.1) (rows_with e.0.id r.rows) row p.line.names own in (
        in_candidates q c p.line.series row.0 p.morsel (contains-in (candidates q p.line.series) row.0 held.0),
        ap (name_of c.stations) id ∙ ap (option_map (λ (s : Station). trimmed s.name)) p.listed ∙ ap Some name,
      )

  -- a candidate that is within is one of the rows
  all_rows : (d : Candidate) → In (all_candidates q c) d → is_within_worst (worst_of q.k r.rows) d ≡ true
      → In (of_rows r.rows) d
  all_rows d h w = let u = candidate_in q c d h in
      let e = line_where q c z.entries pieces.absent u.0 u.1 in let p = piece e.0 e.1 in
      let same = one_morsel q c u.0 p.line.series u.1 p.morsel (sym e.2 ∙ p.named) in
      let own = in-contains (candidates q p.line.series) d (subst (λ (s : Series). In (candidates q s) d) same u.2) in
      (in_station r.rows e.0.id d (contains-in _ d ((p.line.rows_are d).1 (own, w)))).0

  -- so the rows are the best
  best : of_rows r.rows ≡ best_of_query q c
  best = let few = few_rows q r can pieces.head.report in
      let falls = order_descends (of_rows r.rows) pieces.head.order in
      inside_best q c apart r.rows asked few (same_rows (of_rows r.rows) (inside q c r.rows) falls
      (inside_falls q c apart r.rows) (λ d k. let row = map_in (λ (x : Named). x.0) r.rows d k in
      let held = subst (In (all_candidates q c)) row.2 (row_right row.0 row.1).0 in
      (inside_are q c r.rows d).1 (held, each_within q r.rows asked few falls d k))
      (λ d k. let kept = (inside_are q c r.rows d).0 k in all_rows d kept.0 kept.1))

  -- ---- lines and morsels

  -- a line and a morsel of one ID are right
  entry_right : (e : Line) (u : Series) → In z.entries e → In (morsels q c) u → e.id ≡ u.id
      → IsRightEntry q (kth_of_query q c) e u
  entry_right e u h k named = let p = piece e h in
      let same = one_morsel q c p.line.series u p.morsel k (sym p.named ∙ named) in
      record {
        named = named;
        above = subst (λ (s : Series). IsAbove q s e.bound) same p.line.above;
        fits = (of_one IsEntry z.entries e is.entries h).bound;
        passed_over = λ s. subst (λ (o : Option ℤ). bound_is_below o e.bound ≡ true)
            (kth_worst q c apart r.rows asked best) (p.line.passed_over s);
      }

  -- so the report and the certificate say what is right, since the IDs of the lines are those of the morsels
  pub pieces_say : SaysRightReport q c r × SaysRightCertificate q c z
  pieces_say =
      let ids = same_ids (ids_of z.entries) (map (λ (s : Series). s.id) (morsels q c))
      (rise_ids z.entries pieces.head.rise) (morsel_ids q c right)
      (λ i h. let e = map_in (λ (x : Line). x.id) z.entries i h in let p = piece e.0 e.1 in
      subst (In (map (λ (s : Series). s.id) (morsels q c))) (sym p.named ∙ e.2)
      (in_map (λ (s : Series). s.id) (morsels q c) p.line.series p.morsel))
      (ids_among q c z.entries (line_where q c z.entries pieces.absent)) in
      let named = for_each (λ (row : Named). name_of c.stations row.0.id ≡ Some row.1) r.rows
      (λ row k. (row_right row k).1) in
      let kth = pieces.head.kth ∙ kth_best q c apart r.rows asked best in
      let entries = zip_ids (IsRightEntry q (kth_of_query q c)) z.entries (morsels q c) ids entry_right in
      let counts = pieces.head.counts ∙ ap (λ (l : List Candidate). counts_of z.version l z.entries) best in (
        record { asked = pieces.head.report; best = best; named = named },
        record { asked = pieces.head.certificate; kth = kth; entries = entries; counts = counts },
      )

-- ---- if they do, all pieces are right

module _ (q : Query) (c : Data) (r : Reported) (z : Certified) (asked : IsAsked q) (right : IsContents c)
    (apart : AreApart (all_candidates q c)) (version : z.version ≡ 2)
    (says : SaysRightReport q c r × SaysRightCertificate q c z) where
  -- ---- rows

  -- the rows are the candidates up to the worst of them
  rows_inside : of_rows r.rows ≡ inside q c r.rows
  rows_inside = best_inside q c apart r.rows asked says.0.best

  -- each precedes all after it
  rows_fall : Descends (of_rows r.rows)
  rows_fall = subst Descends (sym rows_inside) (inside_falls q c apart r.rows)

  -- the rows are the candidates that are within
  rows_are : (d : Candidate) →
      In (of_rows r.rows) d ↔ (In (all_candidates q c) d × (is_within_worst (worst_of q.k r.rows) d ≡ true))
  rows_are d = rw rows_inside (inside_are q c r.rows d)

  -- ---- lines and morsels

  module _ (e : Line) (u : Series) (h : In (morsels q c) u) (line : IsRightEntry q (kth_of_query q c) e u) where
    -- a row of a morsel's station is one of its candidates
    of_morsel : (d : Candidate) → In (of_rows r.rows) d → d.id ≡ u.id
        → In (candidates q u) d × (is_within_worst (worst_of q.k r.rows) d ≡ true)
    of_morsel d k i = let is = (rows_are d).0 k in let v = candidate_in q c d is.0 in
        let same = one_morsel q c v.0 u v.1 h (sym (candidate_id q c v.0 d v.2) ∙ i) in
        (subst (λ (s : Series). In (candidates q s) d) same v.2, is.1)

    -- a line that is skipped has a bound below the worst
    low : e.skipped ≡ true → bound_is_below (score_of (worst_of q.k r.rows)) e.bound ≡ true
    low s = subst (λ (o : Option ℤ). bound_is_below o e.bound ≡ true)
        (sym (kth_worst q c apart r.rows asked says.0.best)) (line.passed_over s)

    -- so no row belongs to it
    none_skipped : e.skipped ≡ true → (row : Named) → In r.rows row → row.0.id ≡ u.id → ⊥
    none_skipped s row k i = let own = of_morsel row.0 (in_map (λ (x : Named). x.0) r.rows row k) i in
        below_out (worst_of q.k r.rows) e.bound row.0 (low s) own.1
        (of_one (λ d. d.score ≤ℤ e.bound) (candidates q u) row.0 line.above own.0)

    -- a right line is accepted by itself
    line_accepted : IsAccepted q c r.rows e (count_of (of_rows r.rows) e)
    line_accepted = let there = station_of q c u h in
        let id : e.id ≡ there.0.id = line.named ∙ own_id q c there.0 u there.3 in
        let found : find (is_station_of e.id) c.stations ≡ Some there.0 =
        ap (λ (i : StationId). find (is_station_of i) c.stations) id ∙ listed_found q c right there.0 there.1 in
        let mine : List Named = rows_with e.id r.rows in (
          there.0,
          found,
          (right_piece q there.0 (own_series q c there.0) e (count_of (of_rows r.rows) e) (rows_with e.id r.rows)
              (worst_of q.k r.rows)
              (station_within (worst_of q.k r.rows) r.rows e.id rows_fall (λ d k. ((rows_are d).0 k).1))).1 (record {
                series = u;
                there = there.3;
                named = sym id;
                morsel = is_morsel_of q c there.0 u there.2 there.3 h;
                counted = count_rows r.rows e (λ s row k i. none_skipped s row k (i ∙ line.named));
                rows_are = λ d. (
                  λ k. let row = in_station r.rows e.id d (contains-in (of_rows mine) d k) in
                      let is = of_morsel d row.0 (row.1 ∙ line.named) in
                      (in-contains (candidates q u) d is.0, is.1),
                  λ k. let own = contains-in (candidates q u) d k.0 in
                      in-contains (of_rows mine) d (of_station r.rows e.id d
                      ((rows_are d).1 (in_candidates q c u d h own, k.1)) (candidate_id q c u d own ∙ sym line.named)),
                );
                names = for_each (λ row. trimmed there.0.name ≡ row.1) mine (λ row k.
                    let kept = kept_in (λ (x : Named). same_id x.0.id e.id) r.rows row k in
                    let named : Some row.1 ≡ Some (trimmed there.0.name) =
                    sym (of_one (λ (x : Named). name_of c.stations x.0.id ≡ Some x.1) r.rows row says.0.named kept.0)
                    ∙ ap (name_of c.stations) (same_id-is row.0.id e.id kept.1)
                    ∙ ap (option_map (λ (s : Station). trimmed s.name)) found in cc);
                above = line.above;
                passed_over = low;
              }),
        )

  -- each row belongs to a series that was scanned
  scanned_row : (row : Named) → In r.rows row → is_scanned z.entries row.0.id ≡ true
  scanned_row row h =
      let u = candidate_in q c row.0 ((rows_are row.0).0 (in_map (λ (x : Named). x.0) r.rows row h)).0 in
      let e = zip_in (IsRightEntry q (kth_of_query q c)) z.entries (morsels q c) says.1.entries u.0 u.1 in
      let id : row.0.id ≡ u.0.id = candidate_id q c u.0 row.0 u.2 in
      let scanned = false_from_ne_true (e.0.skipped) (λ s. none_skipped e.0 u.0 u.1 e.2 s row h id) in
      in_any (λ (x : Line). not x.skipped && same_id x.id row.0.id) z.entries e.0 e.1
      (ap (λ (b : Bool). not b && same_id e.0.id row.0.id) scanned ∙ same_to e.0.id row.0.id (e.2.named ∙ sym id))

  -- so all pieces are right
  pub said_in_pieces : AreRightPieces q c r z
  said_in_pieces =
      let counts : z.counts ≡ counts_of z.version (of_rows r.rows) z.entries =
      says.1.counts ∙ ap (λ (l : List Candidate). counts_of z.version l z.entries) (sym says.0.best) in
      record {
        head = record {
          report = says.0.asked;
          certificate = says.1.asked;
          order = descends_order (of_rows r.rows) rows_fall;
          kth = says.1.kth ∙ sym (kth_best q c apart r.rows asked says.0.best);
          rise = entries_rise q (kth_of_query q c) z.entries (morsels q c) says.1.entries (morsels_rise q c right);
          scanned = for_each (λ row. is_scanned z.entries row.0.id ≡ true) r.rows scanned_row;
          counts = counts;
        };
        lines = subst (AllZip (IsAccepted q c r.rows) z.entries)
            (sym (counts ∙ ap (λ (v : ℕ). counts_of v (of_rows r.rows) z.entries) version))
            ((zip_each (IsAccepted q c r.rows) (count_of (of_rows r.rows)) z.entries).1 (λ e h.
            let u = in_zip (IsRightEntry q (kth_of_query q c)) z.entries (morsels q c) says.1.entries e h in
            line_accepted e u.0 u.1 u.2));
        absent = absent_where q c z.entries (λ u h.
            let e = zip_in (IsRightEntry q (kth_of_query q c)) z.entries (morsels q c) says.1.entries u h in
            (e.0, e.1, e.2.named));
      }

-- both directions
pub right_in_pieces : CandidatesAreApart → RightInPieces
right_in_pieces apart q c r z asked right can is version = (
  said_in_pieces q c r z asked right (apart q c right) version,
  pieces_say q c r z asked right (apart q c right) can is,
)

-- what is so of some value that is read of a text is so of the one that is
of_read : {V : Type 0} (read : Result V ℕ) (Of Says : V → Type 0) → ((v : V) → (read ≡ Ok v) ↔ Of v) → (r : V) → Of r
    → ((v : V) × Of v × Says v) → Says r
of_read read Of Says are r own (v, is, says) =
    let same : v ≡ r = cc ((are v).1 is, (are r).1 own) in subst Says same says

-- the verdict on texts, by what is known of texts that are read
pub accepted_in_pieces : CertificatesAreRead → RightCertificatesSayRight → ReportsAreRead → RightReportsSayRight
    → AcceptedWhereRight → RightInPieces → AcceptedInPieces
accepted_in_pieces certificates right_certificates reports right_reports accepted pieces q c report certificate r z
    asked right is_report is_certificate version =
    let law = pieces q c r z asked right is_report.can_be is_certificate.can_be version in
    let whole = accepted q c report certificate asked right in let of_report = right_reports q c report asked right in
    let of_certificate = right_certificates q c certificate asked right in
    let says_report = of_read (read_report report) (λ (v : Reported). IsReportOf v report) (SaysRightReport q c)
    (reports report) r is_report in
    let says_certificate = of_read (read_certificate certificate) (λ (v : Certified). IsCertificateOf v certificate)
    (SaysRightCertificate q c) (certificates certificate) z is_certificate in (
      λ e. law.0 (says_report (of_report.0 (whole.0 e).0), says_certificate (of_certificate.0 (whole.0 e).1)),
      λ h. let said = law.1 h in
          whole.1 (of_report.1 (r, is_report, said.0), of_certificate.1 (z, is_certificate, said.1)),
    )
