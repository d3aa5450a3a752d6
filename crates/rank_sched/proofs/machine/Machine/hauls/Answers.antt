use Rattle.rank_sched.proofs.Cited.{arith, AreHaulsOf}
use Rattle.rank_sched.proofs.MachineSteps.{hauls_of, stopped_sound}
use Rattle.rank_sched.proofs.machine.Machine.hauls.Goals as goal

-- each haul is its worker's, and all are sound and under the floor
pub returns : goal.returns
returns c =
    let mine : AreHaulsOf c.args.self.state.workers c.self.inside.hauls.items = grind (arith, hauls_of) in
    let sound = rw c.self.view_is at c.self.invariant.1 in
    let all = stopped_sound c.args.self c.self.inside.hauls.items sound c.requires mine in
    record { hauls = mine; sound = all.1; under_floor = all.2 }
