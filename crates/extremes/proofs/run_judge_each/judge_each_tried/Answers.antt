use Rattle.std.proofs.Common.{ℕ, List, length, inl, inr, refl, ◌∙◌, subst}
use Rattle.std.specs.Prelude.{string_bytes}
use Rattle.rank_query.specs.Meaning.Asks.{Asks}
use Rattle.rank_input.specs.Feeding.{AreOpened}
use Rattle.extremes.specs.FaultTexts.{fault_line}
use Rattle.extremes.specs.JudgeEach.{StopsJudging}
use Rattle.extremes.specs.Messages.{ArePrintedLines, streams}
use Rattle.extremes.specs.PaperPaths.{all_paths}
use Rattle.extremes.proofs.JudgeEachAnswers.{as-many}
use Rattle.extremes.proofs.JudgeEachPrinting.{ends-at-papers}
use Rattle.extremes.proofs.run_judge_each.judge_each_tried.Goals as goal

-- the reports and the certificates are opened, and the run goes on
pub returns-in-Ok : goal.returns-in-Ok
returns-in-Ok g c = λ lines asks.
    let opens = g.A.Archive.opens c.args.archive.now in
    let count = as-many Asks lines c.args.queries.now asks in
    inr (
      subst (λ (f : List ℕ). AreOpened opens (all_paths f 1 (length lines))) c.deref.ensures
          (subst (λ (n : ℕ). AreOpened opens (all_paths c.deref.result.now 1 n)) count c.in-Ok.ensures.opened),
      c.judge_each_asked.ensures lines asks,
    )

-- or one of them can't be
pub returns-in-Err : goal.returns-in-Err
returns-in-Err g c = λ lines asks.
    let opens = g.A.Archive.opens c.args.archive.now in
    let stop = c.in-Err.stop in
    let count = as-many Asks lines c.args.queries.now asks in
    inl (ends-at-papers opens fault_line
    (streams (ArePrintedLines g.M.Messages.prints c.args.messages.now c.print_stop.new.messages)
    (g.W.Write.contents c.args.out.now) (g.W.Write.contents c.args.out.now))
    (all_paths (string_bytes c.args.judging.now.folder) 1 (length lines)) stop c.print_stop.result refl
    (subst (λ (f : List ℕ). StopsJudging opens (all_paths f 1 (length lines)) stop) c.deref.ensures
    (subst (λ (n : ℕ). StopsJudging opens (all_paths c.deref.result.now 1 n) stop) count c.in-Err.ensures.stopped))
    c.print_stop.ensures.ending c.print_stop.ensures.line)
