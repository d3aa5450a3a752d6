use Rattle.rank_sched.proofs.Cited.{◌≡◌, ◌∙◌, Some, true, refl, ap, sym, arith, rules, slice_get, Idle, Looked, Running}
use Rattle.rank_sched.proofs.Cited.{Settle, length-set, slice_get_within}
use Rattle.rank_sched.proofs.MachineSteps.{settle_step, same_state_of, not_looked, running_failed, no_worker_refused}
use Rattle.rank_sched.proofs.MachineSteps.{not_now_refused, still_running}
use Rattle.rank_sched.proofs.TurnsAndHauls.{is_now_by}
use Rattle.rank_sched.proofs.machine.Machine.settle.Goals as goal

-- there is no such worker
pub returns-in_err-morsel : goal.returns-in_err-morsel
returns-in_err-morsel c = no_worker_refused c.args.self.now _ _ _ _ _ (Settle c.args.worker) _ _
    (ap (λ (m : Running). m.state) c.self.view_is) c.requires c.self.invariant.0 c.as_slice.ensures.value
    c.in_err-morsel.ensures.err c.from_residual.ensures

-- the worker has a haul to write to
pub index_mut-requires : goal.index_mut-requires
index_mut-requires c = grind (arith, slice_get_within)

-- the worker has a turn to end
pub index_mut-requires-in-Ok : goal.index_mut-requires-in-Ok
index_mut-requires-in-Ok c = grind (arith, slice_get_within)

-- what is true of every machine is true after the settle
pub invariant_of-self : goal.invariant_of-self
invariant_of-self c =
    let here : slice_get c.self.inside.turns.items c.args.worker ≡ Some (Looked c.in-Looked.morsel c.in-Looked.seen) =
    search rules in (
      length-set c.self.inside.turns.items c.args.worker Idle ∙ c.self.invariant.0
          ∙ sym (length-set c.self.inside.hauls.items c.args.worker c.settle.new.self),
      still_running _ (Settle c.args.worker) _ c.self.inside.failed c.self.invariant.1 (settle_step _ _ _ _ _ _ _ _ _ _
          _ _ _ c.self.invariant.0 here c.index_mut.ensures.value c.record_of-record.ensures c.in-Ok.ensures.settled
          c.in-Ok.ensures.raised c.greater_floor-self-inside.ensures),
    )

-- what is true of every machine is true after it ran out of memory
pub invariant_of-self-in-Err : goal.invariant_of-self-in-Err
invariant_of-self-in-Err c =
    let here : slice_get c.self.inside.turns.items c.args.worker ≡ Some (Looked c.in-Looked.morsel c.in-Looked.seen) =
    search rules in (
      c.self.invariant.0 ∙ sym (length-set c.self.inside.hauls.items c.args.worker c.settle.new.self),
      rw (same_state_of c.self.inside.next c.self.inside.floor _ _ c.args.worker _ _ _ c.self.invariant.0 here
          c.index_mut.ensures.value c.in-Err.ensures.err) (running_failed _ true c.self.invariant.1),
    )

-- the morsel is scanned or skipped
pub returns-in-Ok : goal.returns-in-Ok
returns-in-Ok c =
    let here : slice_get c.self.inside.turns.items c.args.worker ≡ Some (Looked c.in-Looked.morsel c.in-Looked.seen) =
    search rules in
    rw (← c.self.view_is) (record {
      running = ap (λ (m : Running). m.failed) c.self.view_is ∙ c.requires;
      step = settle_step _ _ _ _ _ _ _ _ _ _ _ _ _ c.self.invariant.0 here c.index_mut.ensures.value
          c.record_of-record.ensures c.in-Ok.ensures.settled c.in-Ok.ensures.raised
          c.greater_floor-self-inside.ensures;
      kept = refl;
    })

-- the machine fails
pub returns-in-Err : goal.returns-in-Err
returns-in-Err c =
    let here : slice_get c.self.inside.turns.items c.args.worker ≡ Some (Looked c.in-Looked.morsel c.in-Looked.seen) =
    search rules in
    let same = same_state_of c.self.inside.next c.self.inside.floor _ _ c.args.worker _ _ _ c.self.invariant.0 here
    c.index_mut.ensures.value c.in-Err.ensures.err in
    let now = is_now_by c.self.inside.next c.self.inside.floor _ _ (Settle c.args.worker) _ c.self.invariant.0 here
    refl in
    rw (← c.self.view_is) (record { late = λ running. now; failed = cc })

-- it isn't the worker's turn
pub returns-in_default : goal.returns-in_default
returns-in_default c = not_now_refused c.args.self.now _ _ _ _ _ (Settle c.args.worker) _
    (ap (λ (m : Running). m.state) c.self.view_is) c.requires c.self.invariant.0 c.as_slice.ensures.value
    c.in_ok-morsel.ensures.ok (not_looked c.args.worker c.in_ok-morsel.field-0 c.in_default.not-Looked)
