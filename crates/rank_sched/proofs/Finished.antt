-- What was scanned in a sound run, or had its skip undone after it, has the first k of all candidates.
use Rattle.rank_sched.proofs.Cited.{rules, ◌≡◌, ◌≢◌, ℕ, zero, suc, ◌+◌, ◌<◌, ◌≤◌, true, false, cond, not, List, [], ◌∷◌}
use Rattle.rank_sched.proofs.Cited.{◌++◌, length, refl, sym, ap, ◌∙◌, append-nil, append_assoc, inl, inr, arith, All}
use Rattle.rank_sched.proofs.Cited.{common_steps, flat_map-append, ◌||◌, ◌&&◌, ◌==◌, nat_lt, flat_map, range_with_len}
use Rattle.rank_sched.proofs.Cited.{cases_eq, eq-eqb, ne_eqb, All-head, All-tail, times, times_below, HasEachBelow}
use Rattle.rank_sched.proofs.Cited.{one_if_equal-equal, times_below-suc, all_below, length-each_below, times-append}
use Rattle.rank_sched.proofs.Cited.{Candidate, bound_is_below, first, kth, above, below_kth, in_order-append_comm}
use Rattle.rank_sched.proofs.Cited.{first-first_left, first-low, Alike, alike-right, alike-left, alike-first}
use Rattle.rank_sched.proofs.Cited.{alike-middle, Record, Task, all_of_task, IsFair, morsels_of, scanned, all_records}
use Rattle.rank_sched.proofs.Cited.{known_before, is_justified, was_skipped, back_below, BestAreThere, PoolDecides}
use Rattle.rank_sched.proofs.Cited.{has_each, nil_from_length, slice_get_read}
use Rattle.rank_sched.proofs.Lists.{last_is_kth, at}
use Rattle.rank_sched.proofs.Totals.{range-push, times-cons}

-- ---- morsels that have one record each

-- the candidates of numbers that occur there once each
each_alike : (f : ℕ → List Candidate) (n : ℕ) (ms : List ℕ) → HasEachBelow n ms
    → Alike (flat_map f ms) (flat_map f (range_with_len 0 n))
each_alike f zero ms once = cc (nil_from_length ms (length-each_below 0 ms once))
each_alike f (suc n) ms once =
    let found = has_each (suc n) ms once n (omega arith) in
    let s = at ms found.0 n (slice_get_read ms (length ms) found.0 n refl found.1 (sym found.2)) in
    let both : (x : ℕ) → times x ms ≡ times x s.front + times x (n ∷ s.behind) =
    λ x. ap (times x) s.parts ∙ times-append x s.front (n ∷ s.behind) in
    let fewer : HasEachBelow n (s.front ++ s.behind) = λ x.
    let left = times-append x s.front s.behind in
    omega (arith, both x, once x, times-cons x n s.behind, times_below-suc x n (suc n) (omega arith)) in
    let F : List Candidate = flat_map f s.front in
    let B : List Candidate = flat_map f s.behind in
    let R : List Candidate = flat_map f (range_with_len 0 n) in
    let here : flat_map f ms ≡ F ++ (f n ++ B) = grind (arith, flat_map-append) in
    let rest : Alike (F ++ B) R = grind (arith, flat_map-append, each_alike f n (s.front ++ s.behind) fewer) in
    let zero_more : 0 + n ≡ n = omega arith in
    let there : flat_map f (range_with_len 0 (suc n)) ≡ R ++ f n =
    cc (range-push 0 n, flat_map-append f (range_with_len 0 n) (n ∷ []), append-nil (f n)) in
    rw here (grind (arith, alike-middle, alike-left))

-- ---- what is known before one morsel more

-- any morsel but n comes before the next one if and only if it comes before n
lt_same : (m n : ℕ) → m ≢ n → nat_lt m (suc n) ≡ nat_lt m n
lt_same m n ne = grind arith

-- before the first morsel only what was scanned is known
known_zero : (t : Task) (rs : List Record) → known_before t rs 0 ≡ scanned t rs
known_zero t rs = grind arith

-- the candidates of a morsel, if it was skipped
abbrev skip_part : Task → List Record → ℕ → List Candidate
skip_part t rs n = cond (was_skipped rs n) (t.candidates n) []

-- a morsel without a record wasn't skipped
pub not_skipped : (n : ℕ) (rs : List Record) → times n (morsels_of rs) ≡ 0 → was_skipped rs n ≡ false
not_skipped n [] e = refl
not_skipped n (r ∷ rs) e =
    let rest = not_skipped n rs (omega (arith, times-cons n r.morsel (morsels_of rs))) in
    grind (arith, common_steps, cases_eq, times-cons, one_if_equal-equal, ne_eqb)

-- what is known before the next morsel is what was known, and this one's candidates if it was skipped
known_suc : (t : Task) (n : ℕ) (rs : List Record) → times n (morsels_of rs) ≤ 1
    → Alike (known_before t rs (suc n)) (known_before t rs n ++ skip_part t rs n)
known_suc t n [] few = refl
known_suc t n (r ∷ rs) few = elim (cases_eq r.morsel n) [
  | inl same ↦
      let zero_times : times n (morsels_of rs) ≡ 0 =
      search (rules, times-cons, one_if_equal-equal) in
      let none : was_skipped rs n ≡ false = not_skipped n rs zero_times in
      let K : List Candidate = known_before t rs n in
      let rest : Alike (known_before t rs (suc n)) K =
      cc (known_suc t n rs (omega arith), append-nil K) in
      let own : (r.morsel == n) ≡ true = eq-eqb r.morsel n same in
      let C : List Candidate = t.candidates r.morsel in
      let moved : t.candidates n ≡ C = ap t.candidates (sym same) in
      elim r.skipped as (λ u. r.skipped ≡ u → Alike
      (cond (not u || nat_lt r.morsel (suc n)) C [] ++ known_before t rs (suc n))
      ((cond (not u || nat_lt r.morsel n) C [] ++ K) ++ cond (((r.morsel == n) && u) || was_skipped rs n)
      (t.candidates n) [])) [
        | true ↦ grind (arith, alike-right, in_order-append_comm)
        | false ↦ grind (arith, alike-right, append-nil)
      ] refl
  | inr apart ↦
      let rest = known_suc t n rs (omega (arith, times-cons n r.morsel (morsels_of rs))) in
      grind (arith, lt_same, ne_eqb, few, times-cons, alike-right, append_assoc)
]

-- ---- skips that are undone

-- a number counts once or not at all among those below n
pub below_few : (x n : ℕ) → times_below x n ≤ 1
below_few x n = grind arith

module _ (t : Task) (rs : List Record) (fair : IsFair t) (once : HasEachBelow t.len (morsels_of rs)) where
  -- each morsel has at most one record
  few : (n : ℕ) → times n (morsels_of rs) ≤ 1
  few n = omega (arith, below_few n t.len)

  -- what was scanned, or has its skip undone below n, has the first k of all that is known before n
  back_agrees : (n : ℕ) → first t.k (scanned t rs ++ back_below t rs n) ≡ first t.k (known_before t rs n)
  back_agrees zero = simp (append-nil, known_zero)
  back_agrees (suc n) =
      let S : List Candidate = scanned t rs in
      let B : List Candidate = back_below t rs n in
      let K : List Candidate = known_before t rs n in
      let C : List Candidate = t.candidates n in
      let before : first t.k (S ++ B) ≡ first t.k K = back_agrees n in
      let both : first t.k (S ++ (B ++ cond (was_skipped rs n && not (is_justified t rs n)) C [])) ≡ first t.k
      (K ++ cond (was_skipped rs n) C []) =
      elim (was_skipped rs n) as (λ u. first t.k (S ++ (B ++ cond (u && not (is_justified t rs n)) C [])) ≡ first t.k
      (K ++ cond u C [])) [
        | false ↦ grind (arith, append-nil)
        | true ↦ elim (is_justified t rs n) as (λ j. is_justified t rs n ≡ j
            → first t.k (S ++ (B ++ cond (not j) C [])) ≡ first t.k (K ++ C)) [
              | true ↦ λ e.
                  let far : t.k ≤ above (t.bound n) K = (below_kth t.k (t.bound n) K fair.some).0 e in
                  ap (λ (l : List Candidate). first t.k (S ++ l)) (append-nil B) ∙ before
                  ∙ sym (first-low t.k (t.bound n) K C far (fair.bounded n))
              | false ↦ grind (arith, append_assoc S B C, first-first_left t.k (S ++ B) C, first-first_left t.k K C)
            ] refl
      ] in
      both ∙ sym (simp (alike-first, known_suc, few, t.k))

  -- with all morsels before, everything is known
  known_all : (qs : List Record) → All (λ x. x < t.len) (morsels_of qs)
      → known_before t qs t.len ≡ flat_map t.candidates (morsels_of qs)
  known_all [] all = refl
  known_all (r ∷ qs) all =
      let here = All-head (λ x. x < t.len) r.morsel (morsels_of qs) all in
      let rest = known_all qs (All-tail (λ x. x < t.len) r.morsel (morsels_of qs) all) in
      grind arith

  -- once all skips were tried, the first k are those of all candidates
  pub best_there : first t.k (scanned t rs ++ back_below t rs t.len) ≡ first t.k (all_of_task t)
  best_there = search (rules, back_agrees, known_all, all_below, each_alike)

  -- the k-th score of what was scanned, or had its skip undone so far, says whether the next skip stays
  pub decides : (n : ℕ) → bound_is_below (kth t.k (scanned t rs ++ back_below t rs n)) (t.bound n) ≡ is_justified t rs n
  decides n =
      let known = last_is_kth t.k (known_before t rs n) fair.some in
      cc (last_is_kth t.k (scanned t rs ++ back_below t rs n) fair.some, back_agrees n)

-- what was scanned in the run, or had its skip undone after it, has the first k of all candidates
pub best_are_there : BestAreThere
best_are_there t hs fair sound = best_there t (all_records hs) fair sound.once

-- the pool so far says whether a skip stays
pub pool_decides : PoolDecides
pool_decides t hs n fair sound = decides t (all_records hs) fair sound.once n
