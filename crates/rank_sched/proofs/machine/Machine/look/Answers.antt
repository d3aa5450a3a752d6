use Rattle.rank_sched.proofs.Cited.{◌∙◌, ap, arith, Running, Look, length-set, slice_get_within, ints}
use Rattle.rank_sched.proofs.MachineSteps.{not_claimed, no_worker_refused, not_now_refused, look_step, still_running}
use Rattle.rank_sched.proofs.machine.Machine.look.Goals as goal

-- there is no such worker
pub returns-in_err-morsel : goal.returns-in_err-morsel
returns-in_err-morsel c = no_worker_refused c.args.self.now _ _ _ _ _ (Look c.args.worker) _ _
    (ap (λ (m : Running). m.state) c.self.view_is) c.requires c.self.invariant.0 c.as_slice.ensures.value
    c.in_err-morsel.ensures.err c.from_residual.ensures

-- the worker has a turn to change
pub index_mut-requires : goal.index_mut-requires
index_mut-requires c =
    let here = slice_get_within c.as_slice.result.now c.args.worker c.in_ok-morsel.field-0 c.in_ok-morsel.ensures.ok in
    grind (arith, ints)

-- what is true of every machine is true after the look
pub invariant_of-self : goal.invariant_of-self
invariant_of-self c = (
  length-set c.self.inside.turns.items c.args.worker _ ∙ c.self.invariant.0,
  still_running _ (Look c.args.worker) _ c.self.inside.failed c.self.invariant.1 (grind (arith, look_step)),
)

-- the worker sees the floor
pub returns-in-Claimed : goal.returns-in-Claimed
returns-in-Claimed c = grind (arith, look_step)

-- it isn't the worker's turn
pub returns-in_default : goal.returns-in_default
returns-in_default c = not_now_refused c.args.self.now _ _ _ _ _ (Look c.args.worker) _
    (ap (λ (m : Running). m.state) c.self.view_is) c.requires c.self.invariant.0 c.as_slice.ensures.value
    c.in_ok-morsel.ensures.ok (not_claimed c.args.worker c.in_ok-morsel.field-0 c.in_default.not-Claimed)
