use Rattle.rank_sched.proofs.Cited.{◌≡◌, length, AllByRecursion, IsEmptyHaul}
use Rattle.rank_sched.proofs.machine.empty_hauls.Given as goal

-- the hauls so far have nothing
abbrev pub invariant-loop : goal.invariant-loop
invariant-loop l = (length l.made.items ≡ l.counter) × AllByRecursion (IsEmptyHaul l.fn.k) l.made.items
