use Rattle.std.proofs.Common.{◌≡◌, ◌∙◌, List, map, sym, subst, IfOk, Ok, Err}
use Rattle.std.specs.List.Sorted.{IsPermutation}
use Rattle.ghcn_files.specs.declared.station.StationId.{StationId}
use Rattle.rank_scores.specs.declared.candidate.Candidate.{Candidate}
use Rattle.rank_papers.specs.Certificate.{Line, count_of}
use Rattle.rank_papers.specs.StationRows.{count_in}
use Rattle.rank_papers.proofs.StationRows.{counts-rows}
use Rattle.rank_papers.proofs.station_rows.row_counts.Goals as goal

-- the IDs of the rows count as the rows do
pub returns : goal.returns
returns c =
    let rows : List Candidate = c.args.rows.now in
    let lines : List Line = c.args.lines.now in
    let ids : List StationId = c.as_slice.result.now in
    let turned : IsPermutation (map (λ x. x.id) rows) ids =
    subst (IsPermutation (map (λ (x : Candidate). x.id) rows)) (sym c.as_slice.ensures.value) c.in_ok-ids.ensures.all in
    elim c.counts_in.result as (λ r. IfOk r (λ found. found.items ≡ map (count_in ids) lines)
    → IfOk r (λ found. found.items ≡ map (count_of rows) lines)) [
      | Ok found ↦ λ e. e ∙ counts-rows rows ids turned lines
      | Err e ↦ λ _. tt
    ] c.counts_in.ensures
