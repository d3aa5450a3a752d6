use Rattle.rank_sched.proofs.Cited.{◌≡◌, Bool, List, length, ap, ◌∙◌, subst, arith, Record, task_of, all_records, stays}
use Rattle.rank_sched.proofs.Cited.{AreMarks, marked_lines, unmarked}
use Rattle.rank_sched.proofs.Ending.{lent_within, once_within, back_counted}
use Rattle.rank_sched.proofs.LineOrder.{lines_are}
use Rattle.rank_sched.proofs.ended.finish.Goals as goal

-- each record's morsel has a mark
pub count_back-taken_back-requires : goal.count_back-taken_back-requires
count_back-taken_back-requires c = grind (arith, lent_within)

-- best candidates, lines, records and their number are the answer's
pub returns : goal.returns
returns c =
    let p = c.args.plan.now in
    let all = all_records c.args.hauls.items in
    let marks = c.in_ok-skips.skips.items in
    let held : c.into_sorted.result.items ≡ c.take_back.new.pool.held = cc in
    let lent = c.as_slice.ensures.value ∙ c.in_ok-records.ensures.records in
    let right = subst (λ (rs : List Record). AreMarks (stays (task_of p) rs) (length p.morsels) marks) lent
    c.in_ok-skips.ensures.skips in
    record {
      best_are = held ∙ c.in_ok-skips.ensures.best;
      lines_are = c.in_ok-lines.ensures ∙ ap (λ (l : List Bool). marked_lines l p.morsels) c.as_slice-2.ensures.value
          ∙ lines_are p all marks right;
      records_are = c.in_ok-records.ensures.records;
      taken_back_is = c.count_back-taken_back.ensures
          ∙ ap (λ (l : List Bool). unmarked l c.as_slice-3.result.now) c.as_slice-4.ensures.value
          ∙ ap (unmarked marks) (c.as_slice-3.ensures.value ∙ c.in_ok-records.ensures.records)
          ∙ back_counted (task_of p) all all (length p.morsels) marks
          (once_within (length p.morsels) all c.requires.once) right;
    }
