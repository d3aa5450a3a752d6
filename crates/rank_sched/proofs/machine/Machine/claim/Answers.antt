use Rattle.rank_sched.proofs.Cited.{◌∙◌, ap, arith, Running, Claim, length-set, slice_get_within}
use Rattle.rank_sched.proofs.MachineSteps.{not_idle, no_worker_refused, not_now_refused, claim_step, still_running}
use Rattle.rank_sched.proofs.MachineSteps.{next_small}
use Rattle.rank_sched.proofs.machine.Machine.claim.Goals as goal

-- there is no such worker
pub returns-in_err-turn_of : goal.returns-in_err-turn_of
returns-in_err-turn_of c = no_worker_refused c.args.self.now _ _ _ _ _ (Claim c.args.worker) _ _
    (ap (λ (m : Running). m.state) c.self.view_is) c.requires c.self.invariant.0 c.as_slice.ensures.value
    c.in_err-turn_of.ensures.err c.from_residual.ensures

-- the worker has a turn to change
pub index_mut-requires : goal.index_mut-requires
index_mut-requires c = grind (arith, slice_get_within)

-- the next number is small
pub overflow_add-self : goal.overflow_add-self
overflow_add-self c = let small = next_small _ c.self.invariant.1 in omega (arith, small)

-- what is true of every machine is true after the claim
pub invariant_of-self : goal.invariant_of-self
invariant_of-self c = (
  length-set c.self.inside.turns.items c.args.worker _ ∙ c.self.invariant.0,
  still_running _ (Claim c.args.worker) _ c.self.inside.failed c.self.invariant.1 (grind (arith, claim_step)),
)

-- the worker draws the number
pub returns-in-Idle : goal.returns-in-Idle
returns-in-Idle c = grind (arith, claim_step)

-- it isn't the worker's turn
pub returns-in_default : goal.returns-in_default
returns-in_default c = not_now_refused c.args.self.now _ _ _ _ _ (Claim c.args.worker) _
    (ap (λ (m : Running). m.state) c.self.view_is) c.requires c.self.invariant.0 c.as_slice.ensures.value
    c.in_ok-turn_of.ensures.ok (not_idle c.args.worker c.in_ok-turn_of.field-0 c.in_default.not-Idle)
