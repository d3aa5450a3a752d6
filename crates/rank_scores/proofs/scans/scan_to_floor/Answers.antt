use Rattle.std.proofs.Common.{ap, sym, ◌∙◌, List}
use Rattle.std.specs.List.{fold}
use Rattle.rank_scores.specs.declared.candidate.Candidate.{Candidate}
use Rattle.rank_scores.proofs.Exactly.{each_stays}
use Rattle.rank_scores.proofs.scans.scan_to_floor.Goals as goal

-- without groups each contender is a candidate
pub returns-in-Each : goal.returns-in-Each
returns-in-Each g c =
    c.scan_contenders.ensures.offered ∙ ap (λ (cs : List Candidate). fold g.S.Sink.taken c.args.sink.now cs)
    (sym (each_stays c.args.query.now c.args.series.now (sym c.per.ensures ∙ c.in-Each.is)))
