-- The end of a run: hauls are merged, and skips are undone, morsel after morsel.
use Rattle.rank_sched.proofs.Cited.{rules, ◌≡◌, ℕ, ◌+◌, ◌<◌, Bool, true, false, cond, not, List, [], ◌∷◌, ◌++◌, length}
use Rattle.rank_sched.proofs.Cited.{set, refl, sym, ap, ◌∙◌, append-nil, append_assoc, arith, common_steps}
use Rattle.rank_sched.proofs.Cited.{flat_map-append, ◌||◌, ◌&&◌, nat_le, fold, count_by, AllByRecursion, take-nil}
use Rattle.rank_sched.proofs.Cited.{get_or-set_same, get_or-set_other, length-set, HasEachBelow, all_below, Candidate}
use Rattle.rank_sched.proofs.Cited.{bound_is_below, best, Pool, empty_pool, taken, HoldsFirst, last_score, size-fold}
use Rattle.rank_sched.proofs.Cited.{holds-fold, best-first, Record, Haul, Task, all_of_task, IsFair, morsels_of}
use Rattle.rank_sched.proofs.Cited.{best_pool, pool_of, records_of, all_records, AreHaulsFrom, is_justified}
use Rattle.rank_sched.proofs.Cited.{was_skipped, stays, is_taken_back, back_below, mark, AreMarks, AreWithin}
use Rattle.rank_sched.proofs.Cited.{HasBackBelow, unmarked, each-mapped, recursion_from_All}
use Rattle.rank_sched.proofs.Lists.{last_is_kth}
use Rattle.rank_sched.proofs.Finished.{best_there, decides}

-- ---- pools

-- the best of some candidates, and then of others
pub best_more : (k : ℕ) (p : Pool) (xs ys : List Candidate) → p ≡ best_pool k xs
    → fold taken p ys ≡ best_pool k (xs ++ ys)
best_more k p xs ys e = grind (arith, size-fold, holds-fold)

-- a new pool has the best of nothing
pub new_pool : (t : Task) (k : ℕ) (p : Pool) (rs : List Record) → k ≡ t.k → p ≡ empty_pool k → rs ≡ []
    → p ≡ pool_of t rs
new_pool t k p rs same e none = cc (take-nil t.k)

-- a haul whose pool has the best of what its records scanned
pub record HasOwnPool (t : Task) (h : Haul) : Type 0 where
  pub own : h.pool ≡ pool_of t (records_of h)

-- the hauls of workers are such
pub own_pools : (t : Task) (w : ℕ) (hs : List Haul) → AreHaulsFrom t w hs → AllByRecursion (HasOwnPool t) hs
own_pools t w [] h = tt
own_pools t w (x ∷ hs) h = grind (arith, own_pools t (w + 1) hs h.1)

-- a pool that takes another's candidates
pub merged : (t : Task) (p q p' : Pool) (rs ss : List Record) → p ≡ pool_of t rs → q ≡ pool_of t ss
    → p' ≡ fold taken p q.held
    → ((xs ys : List Candidate) → HoldsFirst p xs → HoldsFirst q ys → HoldsFirst p' (xs ++ ys))
    → p' ≡ pool_of t (rs ++ ss)
merged t p q p' rs ss e f took holds = grind (arith, size-fold, flat_map-append)

-- ---- what is left of the hauls, one haul less

module _ (t : Task) where
  -- the first haul's pool is its own, and so are those after it
  pub own_parts : (h : Haul) (rest left : List Haul) → rest ≡ h ∷ left → AllByRecursion (HasOwnPool t) rest
      → HasOwnPool t h × AllByRecursion (HasOwnPool t) left
  own_parts h rest left step all = search rules

-- the records of one haul more
pub records_more : (rs rs' all : List Record) (h : Haul) (rest left : List Haul) → rs' ≡ rs ++ records_of h
    → rest ≡ h ∷ left → rs ++ all_records rest ≡ all → rs' ++ all_records left ≡ all
records_more rs rs' all h rest left e step whole = grind (arith, append_assoc)

-- ---- marks of skips

-- records that occur once for each morsel belong to morsels
pub once_within : (n : ℕ) (rs : List Record) → HasEachBelow n (morsels_of rs) → AreWithin n rs
once_within n rs once = each-mapped (λ (r : Record). r.morsel) (λ x. x < n) rs
    (recursion_from_All (λ x. x < n) (morsels_of rs) (all_below n (morsels_of rs) once))

-- ---- skips that are undone

-- the morsel was skipped, and below i its skip stays
abbrev pub stays_so_far : Task → List Record → ℕ → ℕ → Bool
stays_so_far t rs i m = was_skipped rs m && (nat_le i m || is_justified t rs m)

module _ (t : Task) (rs : List Record) (i : ℕ) where
  -- the skips below one morsel more, if its skip isn't undone
  back_kept : is_taken_back t rs i ≡ false → back_below t rs (i + 1) ≡ back_below t rs i
  back_kept e = grind (arith, append-nil)

  -- what holds of marks and pool before the morsel i
  pub record IsBefore (n : ℕ) (marks : List Bool) (pool : Pool) : Type 0 where
    pub marks_are : AreMarks (stays_so_far t rs i) n marks
    pub pool_is : HasBackBelow t rs i pool

-- a morsel that wasn't skipped, or whose skip stays, changes nothing
step_kept : (t : Task) (rs : List Record) (i n : ℕ) (marks : List Bool) (pool : Pool) → i < n
    → mark marks i ≡ stays t rs i → is_taken_back t rs i ≡ false
    → IsBefore t rs i n marks pool → IsBefore t rs (i + 1) n marks pool
step_kept t rs i n marks pool low own kept h = grind (arith, back_kept)

-- a skip that is undone loses its mark, and its candidates are offered
step_back : (t : Task) (rs : List Record) (i n : ℕ) (marks marks' : List Bool) (pool pool' : Pool) → i < n
    → was_skipped rs i ≡ true → is_justified t rs i ≡ false
    → marks' ≡ set marks i false → length marks' ≡ length marks → pool' ≡ fold taken pool (t.candidates i)
    → IsBefore t rs i n marks pool → IsBefore t rs (i + 1) n marks' pool'
step_back t rs i n marks marks' pool pool' low skipped unjust e len took h = search
    (rules, get_or-set_other, get_or-set_same, best_more, append_assoc)

-- ---- the answer

-- a test, as a number that counts
abbrev one_if : Bool → ℕ
one_if b = cond b 1 0

-- records whose morsels have marks: as many are unmarked as have their skips undone
pub back_counted : (t : Task) (rs all : List Record) (n : ℕ) (marks : List Bool) → AreWithin n rs
    → AreMarks (stays t all) n marks
    → unmarked marks rs ≡ count_by (λ r. r.skipped && not (stays t all r.morsel)) rs
back_counted t [] all n marks within h = refl
back_counted t (r ∷ rs) all n marks within h = grind (arith, common_steps, back_counted t rs all n marks within.1 h)

-- the best of what was scanned, or had its skip undone, are the best
pub best_are : (t : Task) (rs : List Record) (pool : Pool) → IsFair t → HasEachBelow t.len (morsels_of rs)
    → HasBackBelow t rs t.len pool → pool.held ≡ best t.k (all_of_task t)
best_are t rs pool fair once h = grind (arith, best_there, best-first)

-- ---- what the loops and calls of the end return

-- what the pool says of the morsel
pub told : (t : Task) (rs : List Record) (i n : ℕ) (marks : List Bool) (pool : Pool) (just : Bool) → IsFair t
    → HasEachBelow t.len (morsels_of rs) → IsBefore t rs i n marks pool
    → just ≡ bound_is_below (last_score pool) (t.bound i) → just ≡ is_justified t rs i
told t rs i n marks pool just fair once h e = grind (arith, last_is_kth, decides)

-- one morsel more was tried, by its mark and by what the pool said of it
pub tried : (t : Task) (rs : List Record) (i n : ℕ) (marks marks' : List Bool) (pool pool' : Pool)
    (marked just : Bool) → i < n → mark marks i ≡ marked → just ≡ is_justified t rs i → IsBefore t rs i n marks pool
    → marks' ≡ cond (marked && not just) (set marks i false) marks
    → pool' ≡ cond (marked && not just) (fold taken pool (t.candidates i)) pool → IsBefore t rs (i + 1) n marks' pool'
tried t rs i n marks marks' pool pool' true false low read said h e took =
    let skipped : was_skipped rs i ≡ true = grind arith in
    step_back t rs i n marks marks' pool pool' low skipped (sym said) e (ap length e ∙ length-set marks i false) took h
tried t rs i n marks marks' pool pool' true true low read said h e took =
    let skipped : was_skipped rs i ≡ true = grind arith in
    rw (e, took) (step_kept t rs i n marks pool low (grind arith) (grind arith) h)
tried t rs i n marks marks' pool pool' false just low read said h e took =
    let unskipped : was_skipped rs i ≡ false = grind arith in
    rw (e, took) (step_kept t rs i n marks pool low (grind arith) (grind arith) h)

-- before no morsel more, all skips are tried
pub all_tried : (t : Task) (rs : List Record) (i : ℕ) (marks : List Bool) (pool : Pool) → i ≡ t.len → IsFair t
    → HasEachBelow t.len (morsels_of rs) → IsBefore t rs i t.len marks pool
    → AreMarks (stays t rs) t.len marks × (pool.held ≡ best t.k (all_of_task t))
all_tried t rs i marks pool same fair once h = grind (arith, best_are)

-- records and marks that are lent
pub lent_within : (n : ℕ) (all rs lent : List Record) (marks lent_marks : List Bool) → HasEachBelow n (morsels_of all)
    → rs ≡ all → lent ≡ rs → lent_marks ≡ marks → length marks ≡ n → AreWithin (length lent_marks) lent
lent_within n all rs lent marks lent_marks once e f g count = grind (arith, once_within)
