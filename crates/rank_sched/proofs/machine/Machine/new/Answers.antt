use Rattle.rank_sched.proofs.Cited.{◌∙◌, false, ap, sym, State, Idle, length, length-replicate}
use Rattle.rank_sched.proofs.MachineSteps.{start_state, start_running}
use Rattle.rank_sched.proofs.machine.Machine.new.Goals as goal

-- what is true of every machine is true at the start
pub invariant_of-result : goal.invariant_of-result
invariant_of-result c =
    let k = c.k.ensures.k ∙ ap (λ q. q.k) c.query.ensures.query in
    let start = start_state c.args.plan.now c.args.guess _ c.args.workers c.in_ok-idle_turns.field-0.items
    c.in_ok-empty_hauls.field-0.items k c.in_ok-idle_turns.ensures c.in_ok-empty_hauls.ensures.len
    c.in_ok-empty_hauls.ensures.empty in (
      ap length c.in_ok-idle_turns.ensures ∙ length-replicate c.args.workers Idle ∙ sym c.in_ok-empty_hauls.ensures.len,
      rw start
          (start_running c.args.plan.now c.args.guess c.args.workers c.query.ensures.planned c.requires.guess
          c.requires.some c.requires.few),
    )

-- the workers have done nothing, and the floor is the guess
pub returns : goal.returns
returns c =
    let k = c.k.ensures.k ∙ ap (λ q. q.k) c.query.ensures.query in
    let start = start_state c.args.plan.now c.args.guess _ c.args.workers c.in_ok-idle_turns.field-0.items
    c.in_ok-empty_hauls.field-0.items k c.in_ok-idle_turns.ensures c.in_ok-empty_hauls.ensures.len
    c.in_ok-empty_hauls.ensures.empty in
    ap (λ (s : State). record { plan = c.args.plan.now; guess = c.args.guess; state = s; failed = false }) start
