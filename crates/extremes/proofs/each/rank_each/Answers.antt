use Rattle.std.proofs.Common.{refl}
use Rattle.std.specs.Prelude.{option_map}
use Rattle.std.proofs.lemmas.Result.{IfOk-weaker}
use Rattle.extremes.specs.Targets.{ArePut}
use Rattle.extremes.proofs.EachAnswers.{ends_taken, refuses_taken, warns_of_taken}
use Rattle.extremes.proofs.each.rank_each.Goals as goal

-- the rankings end so for all texts that denote the queries, for all that was given
pub returns-in-Ok-clause-ends : goal.returns-in-Ok-clause-ends
returns-in-Ok-clause-ends g c =
    ends_taken c.own_element_among_others.ensures c.papers_of_one_element.ensures.right_report
    c.papers_of_one_element.ensures.right_certificate c.papers_of_one_element.ensures.measured
    c.one_element_is_enough.ensures.morsels c.papers_are_said.ensures.report c.papers_are_said.ensures.certificate
    c.args.intake (c.in-Ok.dataset, c.in-Ok.warnings) c.in-Ok.ensures.ok c.args.queries.now c.args.workers
    (option_map (λ f. f.now) c.args.folder)
    (ArePut g.T.Target.creates g.T.Target.abandons g.T.Write.contents c.args.target.now c.answer_each.new.target)
    c.answer_each.result (rw c.with_extremes-dataset.ensures at c.answer_each.ensures.ok)
    (rw c.with_extremes-dataset.ensures at c.answer_each.ensures.stopped)

-- and this is what is warned of
pub returns-in-Ok-clause-warnings : goal.returns-in-Ok-clause-warnings
returns-in-Ok-clause-warnings g c =
    IfOk-weaker c.answer_each.result _ _ (λ text has.
    warns_of_taken c.args.intake (c.in-Ok.dataset, c.in-Ok.warnings) _ _ c.in-Ok.ensures.ok refl
    (rw c.with_extremes-dataset.ensures at c.unlisted.ensures))
    c.answer_each.ensures.ok

-- or the files have an error, and nothing is put
pub returns-in-Err-clause-ends : goal.returns-in-Err-clause-ends
returns-in-Err-clause-ends g c =
    rw c.none_ranked.ensures (refuses_taken c.args.intake c.args.queries.now c.args.workers
    (option_map (λ f. f.now) c.args.folder)
    (ArePut g.T.Target.creates g.T.Target.abandons g.T.Write.contents c.args.target.now c.args.target.now)
    c.in-Err.fault c.in-Err.ensures.err refl)
