use Rattle.std.proofs.Common.{ℕ, true, List, [], ◌∷◌, inl, inr, refl, ap, ◌∙◌, sym, subst}
use Rattle.rank_input.specs.Feeding.{AreAllOf, IsTried, StopsAt}
use Rattle.rank_input.specs.Named.{list_path}
use Rattle.rank_input.proofs.Openings.{stops-first}
use Rattle.extremes.specs.FaultTexts.{fault_line}
use Rattle.extremes.specs.JudgeEachRuns.{RunsAskedList, asking_path}
use Rattle.extremes.specs.Messages.{ArePrintedLines, streams}
use Rattle.extremes.proofs.run_judge_each.judge_each_named.Goals as goal

-- the list is read, and the run goes on with it
pub returns-in-Ok : goal.returns-in-Ok
returns-in-Ok g c =
    let bytes_of = g.A.Archive.bytes_of c.args.archive.now in
    let opens = g.A.Archive.opens c.args.archive.now in
    let path = c.list_path-list.ensures ∙ ap (λ (p : List ℕ). list_path p) c.deref.ensures in
    inr (record {
      text = c.in-Ok.text.items;
      opened = subst (λ (p : List ℕ). opens p true) path c.in-Ok.ensures.opened;
      whole = subst (λ (p : List ℕ). AreAllOf (bytes_of p) c.in-Ok.text.items) path c.in-Ok.ensures.whole;
      runs = subst (λ (t : List ℕ). RunsAskedList bytes_of opens fault_line
          (streams (ArePrintedLines g.M.Messages.prints c.args.messages.now c.judge_each_listed.new.messages)
          (g.W.Write.contents c.args.out.now) (g.W.Write.contents c.judge_each_listed.new.out))
          c.args.judging.now c.args.named.now t c.judge_each_listed.result) c.deref-in-Ok.ensures.value
          c.judge_each_listed.ensures;
    })

-- or it can't be read
pub returns-in-Err : goal.returns-in-Err
returns-in-Err g c =
    let opens = g.A.Archive.opens c.args.archive.now in
    let path = c.list_path-list.ensures ∙ ap (λ (p : List ℕ). list_path p) c.deref.ensures in
    inl (record {
      path = c.list_path-list.result.now;
      stops = subst (λ (p : List ℕ). StopsAt opens (asking_path c.args.judging.now ∷ []) p) (sym path)
          (stops-first opens (asking_path c.args.judging.now) []
          (subst (λ (p : List ℕ). IsTried opens p) path c.read_whole.ensures.tried));
      ends = c.not_read.ensures.ending;
      unprinted = refl;
      said = c.not_read.ensures.line;
    })
