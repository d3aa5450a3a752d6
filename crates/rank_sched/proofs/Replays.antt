-- A run from a list of events, event by event.
use Rattle.rank_sched.proofs.Cited.{rules, arith, ℕ, ◌+◌, ◌<◌, List, [], ◌∷◌, ◌++◌, length, take, get_or, Option, ℤ}
use Rattle.rank_sched.proofs.Cited.{common_steps, Event, Plan, Task, State, IsStep, Leads, Running, Steps}
use Rattle.rank_sched.proofs.Cited.{IsReplayed, ints}

-- a run goes on by one step at its end
leads-push : (t : Task) (s mid s' : State) (es : List Event) (e : Event) → Leads t s es mid → IsStep t mid e s'
    → Leads t s (es ++ e ∷ []) s'
leads-push t s mid s' [] e l step = search rules
leads-push t s mid s' (d ∷ es) e l step = (l.0, l.1, leads-push t l.0 mid s' es e l.2 step)

-- one event more
pub replayed-push : (p : Plan) (workers : ℕ) (guess : Option ℤ) (es : List Event) (e : Event) (m m' : Running)
    → IsReplayed p workers guess es m → Steps m e m' → IsReplayed p workers guess (es ++ e ∷ []) m'
replayed-push p workers guess es e m m' r s = grind (arith, ints, leads-push)

-- the event at the next place is accepted
pub replayed-more : (p : Plan) (workers : ℕ) (guess : Option ℤ) (es : List Event) (i : ℕ) (d : Event)
    (m m' : Running) → i < length es → IsReplayed p workers guess (take i es) m → Steps m (get_or es i d) m'
    → IsReplayed p workers guess (take (i + 1) es) m'
replayed-more p workers guess es i d m m' lt r s = grind (arith, common_steps, replayed-push)
