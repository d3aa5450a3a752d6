use Rattle.rank_sched.proofs.Cited.{◌≡◌, ◌<◌, true, false, length, sym, ap, ◌∙◌, arith, task_of, get_or_read}
use Rattle.rank_sched.proofs.Cited.{is_justified, refl, mark}
use Rattle.rank_sched.proofs.Ending.{once_within, told, all_tried, tried}
use Rattle.rank_sched.proofs.ended.take_back.Goals as goal
use Rattle.rank_sched.proofs.ended.take_back.Goals.{then-index+then-not-is_justified, else-index}
use Rattle.rank_sched.proofs.ended.take_back.Goals.{else-index-via-then-index+else-not-is_justified}
use Rattle.rank_sched.proofs.ended.take_back.Goals.{else-index-via-else-index}

-- the records belong to morsels
pub skips_of-requires : goal.skips_of-requires
skips_of-requires c = grind (arith, once_within)

-- one morsel more was tried
pub loop-morsel-preserved : goal.loop-morsel-preserved
loop-morsel-preserved c =
    let t = task_of c.args.plan.now in
    let rs = c.args.records.now in
    let i = c.loop-morsel.morsel in
    let n = length c.args.plan.now.morsels in
    let marks = c.loop-morsel.skips.items in
    let pool = c.loop-morsel.pool in
    let low : i < n = omega (arith, c.loop-morsel-test.true, c.len-morsel-end.ensures.morsels) in
    let before = c.loop-morsel.invariant in
    let read : mark marks i ≡ c.index.result.now = sym (get_or_read marks i c.index.result.now
    (omega (arith, low, before.marks_are.count)) c.index.ensures false) in
    elim c.if-index.branch [
      | then-index+then-not-is_justified w ↦
          let just = told t rs i n marks pool w.is_justified.result c.len.ensures.fair c.requires.once before
          w.is_justified.ensures in
          tried t rs i n marks _ pool _ true false low (read ∙ w.if-index.true) (sym w.if-not-is_justified.true ∙ just)
          before (ap (λ v. v.items) w.skips-is) (w.pool-is ∙ w.scan_morsel.ensures)
      | else-index w ↦ elim w.else-index.branch [
        | else-index-via-then-index+else-not-is_justified u ↦
            let just = told t rs i n marks pool u.is_justified.result c.len.ensures.fair c.requires.once before
            u.is_justified.ensures in
            tried t rs i n marks _ pool _ true true low (read ∙ u.if-index.true)
            (sym u.if-not-is_justified.false ∙ just) before (ap (λ v. v.items) w.skips-is) w.pool-is
        | else-index-via-else-index u ↦ tried t rs i n marks _ pool _ false (is_justified t rs i) low
            (read ∙ u.if-index.false) refl before (ap (λ v. v.items) w.skips-is) w.pool-is
      ]
    ]

-- all skips were tried
pub returns : goal.returns
returns c =
    let n = length c.args.plan.now.morsels in
    let all : c.loop-morsel.morsel ≡ n =
    omega (arith, c.loop-morsel-test.false, c.loop-morsel.auto.morsel-end, c.len-morsel-end.ensures.morsels) in
    let ends = all_tried (task_of c.args.plan.now) c.args.records.now c.loop-morsel.morsel c.loop-morsel.skips.items
    c.loop-morsel.pool all c.len.ensures.fair c.requires.once c.loop-morsel.invariant in
    record { skips = ends.0; best = ends.1 }
