use Rattle.std.proofs.Common.{◌≡◌, ◌++◌, List, Result, IfOk, map, subst}
use Rattle.ghcn_series.specs.Meaning.Series.{Series}
use Rattle.rank_papers.specs.Papers.{candidates_of}
use Rattle.rank_check.specs.declared.survey.Findings.{Findings}
use Rattle.rank_check.specs.Survey.{AreFoundIn}
use Rattle.rank_check.proofs.Together.{map_parts}
use Rattle.rank_check.proofs.survey.+fn-scan_parts-join+arg3+scan_parts.Goals as goal

-- the series of both parts are all series
pub returns : goal.returns
returns g t c =
    let q = c.args.query.now in
    let rows = candidates_of c.args.rows.now in
    let front = c.split_at.result.0.now in
    let back = c.split_at.result.1.now in
    let all : map (λ s. s.now) front ++ map (λ s. s.now) back ≡ map (λ s. s.now) c.args.all.now =
    map_parts (λ s. s.now) _ front back c.args.all.now c.split_at.ensures.front c.split_at.ensures.back in
    let one = subst (λ (r : Result Findings _). IfOk r (AreFoundIn q (map (λ s. s.now) front) rows)) c.in_ok-first.was
    c.join-second.ensures.second in
    let two = subst (λ (r : Result Findings _). IfOk r (AreFoundIn q (map (λ s. s.now) back) rows)) c.in_ok-second.was
    c.join-second.ensures.first in
    subst (λ (ss : List Series). IfOk c.both.result (AreFoundIn q ss rows)) all
    (c.both.ensures q (map (λ s. s.now) front) (map (λ s. s.now) back) rows one two)
