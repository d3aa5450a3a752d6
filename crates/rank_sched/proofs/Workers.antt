-- The workers of a machine, by their turns and hauls.
use Rattle.rank_sched.proofs.Cited.{◌≡◌, Bool, false, List, [], ◌∷◌, length, refl, arith, ◌&&◌, not, map, zip, list_all}
use Rattle.rank_sched.proofs.Cited.{Turn, Haul, has_stopped, worker_with}

-- all workers have stopped if all turns have
pub turns_stopped : (turns : List Turn) (hauls : List Haul) → length turns ≡ length hauls
    → list_all has_stopped turns ≡ list_all (λ v. has_stopped v.turn) (map worker_with (zip turns hauls))
turns_stopped [] hs e = refl
turns_stopped (t ∷ ts) [] e = absurd (omega arith)
turns_stopped (t ∷ ts) (h ∷ hs) e = cc (turns_stopped ts hs (omega arith))

-- a machine that didn't fail has stopped if its workers have
pub not_failed : (failed stopped : Bool) → failed ≡ false → stopped ≡ (not failed && stopped)
not_failed failed stopped e = cc
