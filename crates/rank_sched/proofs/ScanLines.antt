-- A morsel's line is a scan for one cause: its record isn't a skip, or its skip was undone.
use Rattle.rank_sched.proofs.Cited.{rules, ◌≡◌, ℕ, zero, suc, ◌<◌, ◌≤◌, Bool, true, false, not, List, [], ◌∷◌, Some}
use Rattle.rank_sched.proofs.Cited.{arith, common_steps, ◌↔◌, ◌⊎◌, ◌&&◌, slice_get, cases_eq, ne_eqb, times}
use Rattle.rank_sched.proofs.Cited.{one_if_equal-equal, Record, task_of, morsels_of, is_justified, was_skipped}
use Rattle.rank_sched.proofs.Cited.{ScansHaveOneCause}
use Rattle.rank_sched.proofs.Totals.{times-cons}
use Rattle.rank_sched.proofs.Finished.{not_skipped, below_few}

-- the morsel of a record is among those of the records
times_there : (rs : List Record) (i : ℕ) (r : Record) → slice_get rs i ≡ Some r → 0 < times r.morsel (morsels_of rs)
times_there [] i r e = absurd cc
times_there (x ∷ rs) zero r e = grind (arith, common_steps)
times_there (x ∷ rs) (suc i) r e = search (rules, times-cons, times_there rs i r e)

-- a morsel with one record was skipped if and only if that record says so
skipped_once : (rs : List Record) (i : ℕ) (r : Record) → times r.morsel (morsels_of rs) ≤ 1 → slice_get rs i ≡ Some r
    → was_skipped rs r.morsel ≡ r.skipped
skipped_once [] i r few e = absurd cc
skipped_once (x ∷ rs) zero r few e = grind (arith, common_steps, not_skipped)
skipped_once (x ∷ rs) (suc i) r few e =
    let rest = skipped_once rs i r (omega (arith, times-cons r.morsel x.morsel (morsels_of rs))) e in
    grind (arith, common_steps, cases_eq, times_there, times-cons, one_if_equal-equal, ne_eqb)

-- a skip that isn't justified is undone, one that is justified stays
causes : (skipped just : Bool) →
    (((skipped && just) ≡ false) ↔ ((skipped ≡ false) ⊎ ((skipped && not just) ≡ true)))
    × (¬ ((skipped ≡ false) × ((skipped && not just) ≡ true)))
causes skipped just = grind arith

-- the cause of a line
pub one_cause : ScansHaveOneCause
one_cause p rs i r x once e =
    let j = is_justified (task_of p) rs r.morsel in
    let few : times r.morsel (morsels_of rs) ≤ 1 = search (rules, below_few) in
    rw (skipped_once rs i r few e) (causes r.skipped j)
