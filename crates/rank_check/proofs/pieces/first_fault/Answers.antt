use Rattle.std.proofs.Common.{◌≡◌, Bool, true, false, List, length, map, Option, Some, sym, ap, ◌∙◌, eq-eqb, arith}
use Rattle.std.specs.Prelude.{◌==◌, ◌&&◌}
use Rattle.std.specs.Option.{option_copied}
use Rattle.std.proofs.lemmas.List.{length-map}
use Rattle.std.proofs.lemmas.List.Folds.{list_all-map}
use Rattle.ghcn_fields.specs.Faults.{first_failing}
use Rattle.ghcn_files.specs.Meaning.Ids.{same_id}
use Rattle.ghcn_series.specs.Meaning.Series.{Series}
use Rattle.rank_scores.specs.declared.candidate.Candidate.{Candidate}
use Rattle.rank_papers.specs.Report.{Named}
use Rattle.rank_papers.specs.ReportLines.{named_in}
use Rattle.rank_check.specs.Pieces.{is_morsel, is_row_of, piece_tests}
use Rattle.rank_check.proofs.Piecing.{piece-by}
use Rattle.rank_check.proofs.pieces.first_fault.Goals as goal

-- a row isn't a candidate of the series
pub returns-then-not-are_candidates : goal.returns-then-not-are_candidates
returns-then-not-are_candidates c =
    let q = c.args.query.now in
    let st = c.args.station.now in
    let e = c.args.line.now in
    let u : Series = c.in-Some.own.now in
    let rows : List Named = map named_in c.args.rows.now in
    let worst : Option Candidate = option_copied c.args.worst in
    let is : option_copied c.args.series ≡ Some c.in-Some.own.now = ap (λ o. option_copied o) c.in-Some.is in
    let morsel : is_morsel c.args.query.now c.args.station.now (Some c.in-Some.own.now) ≡ true =
    ap (is_morsel q st) (sym is) ∙ sym c.is_morsel.ensures ∙ c.if-is_morsel.true in
    let own : (same_id c.args.station.now.id c.args.line.now.id
    && is_morsel c.args.query.now c.args.station.now (Some c.in-Some.own.now)) ≡ true =
    ap (λ (b : Bool). b && is_morsel q st (Some u)) (sym c.eq.ensures ∙ c.if-eq.true) ∙ morsel in
    let counted : (c.args.printed == length (map named_in c.args.rows.now)) ≡ true =
    eq-eqb c.args.printed (length (map named_in c.args.rows.now))
    (omega (arith, c.if-printed-rows.false, length-map c.args.rows.now named_in)) in
    let rows_are = list_all-map (is_row_of q st u) named_in c.args.rows.now ∙ sym c.are_candidates.ensures
    ∙ c.if-not-are_candidates.true in
    sym (ap (λ (o : Option Series). first_failing (piece_tests q st o e c.args.printed rows worst)) is
    ∙ piece-by q st u e c.args.printed rows worst true true false own counted rows_are)

-- the rest decides
pub returns : goal.returns
returns c =
    let q = c.args.query.now in
    let st = c.args.station.now in
    let e = c.args.line.now in
    let u : Series = c.in-Some.own.now in
    let rows : List Named = map named_in c.args.rows.now in
    let worst : Option Candidate = option_copied c.args.worst in
    let is : option_copied c.args.series ≡ Some c.in-Some.own.now = ap (λ o. option_copied o) c.in-Some.is in
    let morsel : is_morsel c.args.query.now c.args.station.now (Some c.in-Some.own.now) ≡ true =
    ap (is_morsel q st) (sym is) ∙ sym c.is_morsel.ensures ∙ c.if-is_morsel.true in
    let own : (same_id c.args.station.now.id c.args.line.now.id
    && is_morsel c.args.query.now c.args.station.now (Some c.in-Some.own.now)) ≡ true =
    ap (λ (b : Bool). b && is_morsel q st (Some u)) (sym c.eq.ensures ∙ c.if-eq.true) ∙ morsel in
    let counted : (c.args.printed == length (map named_in c.args.rows.now)) ≡ true =
    eq-eqb c.args.printed (length (map named_in c.args.rows.now))
    (omega (arith, c.if-printed-rows.false, length-map c.args.rows.now named_in)) in
    let rows_are = list_all-map (is_row_of q st u) named_in c.args.rows.now ∙ sym c.are_candidates.ensures
    ∙ c.if-not-are_candidates.false in
    c.line_fault.ensures
    ∙ sym (ap (λ (o : Option Series). first_failing (piece_tests q st o e c.args.printed rows worst)) is
    ∙ piece-by q st u e c.args.printed rows worst true true true own counted rows_are)
