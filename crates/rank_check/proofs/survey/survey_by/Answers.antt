use Rattle.std.proofs.Common.{◌≡◌, ◌∙◌, List, map, filter, ap, subst}
use Rattle.ghcn_series.specs.Meaning.Series.{Series}
use Rattle.rank_scores.specs.Morsels.{has_admitted, admitted_series}
use Rattle.rank_papers.specs.Papers.{candidates_of}
use Rattle.rank_check.specs.Survey.{AreFoundIn}
use Rattle.rank_check.proofs.survey.survey_by.Goals as goal

-- what was found says all that there is to say
pub returns : goal.returns
returns g c =
    let q = c.args.query.now in
    let dataset = c.args.dataset.now in
    let rows = candidates_of c.args.rows.now in
    let all : map (λ s. s.now) c.as_slice.result.now ≡ filter (has_admitted q) (admitted_series q dataset) =
    ap (map (λ s. s.now)) c.as_slice.ensures.value ∙ c.in_ok-morsels.ensures.morsels in
    c.by_id.ensures q dataset rows c.morsels_of.ensures.contents
    (subst (λ (ss : List Series). AreFoundIn q ss rows c.in_ok-found.found) all c.in_ok-found.ensures)
