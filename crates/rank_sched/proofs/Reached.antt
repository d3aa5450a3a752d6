-- Floors that were seen were reached by scanned candidates, or are the guess: so no skip is undone.
use Rattle.rank_sched.proofs.Cited.{rules, ◌≡◌, ℕ, ◌+◌, ◌<◌, ◌≤◌, ⊎_elim, true, false, cond, not, List, [], ◌∷◌, ◌++◌}
use Rattle.rank_sched.proofs.Cited.{ℤ, pos, ◌-ℤ◌, ◌≤ℤ◌, Option, Some, None, option_to_list, All, refl, append_assoc}
use Rattle.rank_sched.proofs.Cited.{arith, common_steps, ◌&&◌, int_lt, IfSome, IsSomeAnd, count_by, AllByRecursion}
use Rattle.rank_sched.proofs.Cited.{ints, All-nil, All-head, All-append, All-weaker, All-contains, IsGuessOrRaised}
use Rattle.rank_sched.proofs.Cited.{Candidate, bound_is_below, kth, above, above-append, below_kth, Record, Haul, Task}
use Rattle.rank_sched.proofs.Cited.{all_of_task, IsFair, scanned_for, scanned, exchange, exchanges, seen_in, raised_in}
use Rattle.rank_sched.proofs.Cited.{IsRightSkip, records_of, all_records, exchanges_in, turns_of, AreHaulsFrom}
use Rattle.rank_sched.proofs.Cited.{AreSound, AreUnderFloor, known_before, is_justified, was_skipped, stays, IsReached}
use Rattle.rank_sched.proofs.Cited.{RaisedIsReached, IsLowGuess, NoneIsTakenBack, from_both, flat_map-append}
use Rattle.rank_sched.proofs.Cited.{none_above, sym, ◌∙◌}
use Rattle.rank_sched.proofs.Lists.{All-left, All-right, each-append, each-weaker, seen_in-append, raised_in-append}
use Rattle.rank_sched.proofs.Totals.{over, over_records, records_over, fewer_above}

-- ---- raised scores are reached

-- what some candidates reach more candidates reach
more_reached : (t : Task) (xs ys : List Candidate) (z : ℤ) → ((b : ℤ) → above b xs ≤ above b ys) → IsReached t xs z
    → IsReached t ys z
more_reached t xs ys z le h b lt = omega (arith, le b, h b lt)

-- a score, if there is one, is reached if k candidates score above each number below it
one_reached : (t : Task) (xs : List Candidate) (o : Option ℤ) → ((b : ℤ) → bound_is_below o b ≡ true → t.k ≤ above b xs)
    → All (IsReached t xs) (option_to_list o)
one_reached t xs None h = All-nil (IsReached t xs)
one_reached t xs (Some z) h = search rules

-- what a turn raised is reached by all that was scanned up to then, and by more
turn_reached : (t : Task) (before rest : List Candidate) (r : Record) → 0 < t.k
    → All (IsReached t (before ++ (scanned_for t r ++ rest))) (option_to_list (exchange t before r).raised)
turn_reached t before rest r some =
    elim r.skipped as (λ u. All (IsReached t (before ++ (cond u [] (t.candidates r.morsel) ++ rest)))
    (option_to_list (cond u None (kth t.k (before ++ t.candidates r.morsel))))) [
      | true ↦ All-nil (IsReached t (before ++ rest))
      | false ↦
          let xs : List Candidate = before ++ t.candidates r.morsel in
          one_reached t (before ++ (t.candidates r.morsel ++ rest)) (kth t.k xs)
          (λ b h. let k : t.k ≤ above b xs = (below_kth t.k b xs some).0 h in
          let own = above-append b before (t.candidates r.morsel) in
          let behind = above-append b (t.candidates r.morsel) rest in
          omega (arith, above-append b before (t.candidates r.morsel ++ rest)))
    ]

-- what a worker raised is reached by what it scanned
worker_reached : (t : Task) (before : List Candidate) (rs : List Record) → 0 < t.k
    → All (IsReached t (before ++ scanned t rs)) (raised_in (exchanges t before rs))
worker_reached t before [] some = All-nil (IsReached t (before ++ []))
worker_reached t before (r ∷ rs) some =
    All-append (IsReached t (before ++ scanned t (r ∷ rs))) (option_to_list (exchange t before r).raised)
    (raised_in (exchanges t (before ++ scanned_for t r) rs))
    (turn_reached t before (scanned t rs) r some)
    (grind (arith, append_assoc, worker_reached t (before ++ scanned_for t r) rs some))

-- a score that was raised is reached by k candidates of scanned morsels
pub raised_reached : RaisedIsReached
raised_reached t [] some = All-nil (IsReached t [])
raised_reached t (h ∷ hs) some =
    let one : List Record = records_of h in
    let rest : List Record = all_records hs in
    let R : ℤ → Type 0 = IsReached t (scanned t (one ++ rest)) in
    rw (raised_in-append (exchanges_in t h) (turns_of t hs))
    (All-append R (raised_in (exchanges_in t h)) (raised_in (turns_of t hs))
    (grind (arith, common_steps, more_reached, flat_map-append, above-append, worker_reached))
    (All-weaker (IsReached t (scanned t rest)) R
    (grind (arith, common_steps, more_reached, flat_map-append, above-append)) (raised_in (turns_of t hs))
    (raised_reached t hs some)))

-- ---- each record's floor

module _ (Q : ℤ → Type 0) where
  -- what is true of all floors of a turn is true of its floor, if there is one
  if_some : (o : Option ℤ) → All Q (option_to_list o) → IfSome o Q
  if_some None a = tt
  if_some (Some x) a = All-head Q x [] a

  -- what is true of all floors that a worker saw is true of each record's floor
  seen_each : (t : Task) (before : List Candidate) (rs : List Record) → All Q (seen_in (exchanges t before rs))
      → AllByRecursion (λ r. IfSome r.seen Q) rs
  seen_each t before [] a = tt
  seen_each t before (r ∷ rs) a =
      let more : List ℤ = seen_in (exchanges t (before ++ scanned_for t r) rs) in (
        if_some r.seen (All-left Q (option_to_list r.seen) more a),
        seen_each t (before ++ scanned_for t r) rs
            (All-right Q (option_to_list r.seen) more a),
      )

  -- and so it is with the records of all hauls
  all_seen_each : (t : Task) (hs : List Haul) → All Q (seen_in (turns_of t hs))
      → AllByRecursion (λ r. IfSome r.seen Q) (all_records hs)
  all_seen_each t [] a = tt
  all_seen_each t (h ∷ hs) a =
      let both : All Q (seen_in (exchanges_in t h) ++ seen_in (turns_of t hs)) =
      rw (← seen_in-append (exchanges_in t h) (turns_of t hs)) a in
      each-append (λ r. IfSome r.seen Q) (records_of h) (all_records hs)
      (seen_each t [] (records_of h) (All-left Q (seen_in (exchanges_in t h)) (seen_in (turns_of t hs)) both))
      (all_seen_each t hs (All-right Q (seen_in (exchanges_in t h)) (seen_in (turns_of t hs)) both))

-- all records skip what they should
pub all_skips : (t : Task) (w : ℕ) (hs : List Haul) → AreHaulsFrom t w hs
    → AllByRecursion (IsRightSkip t) (all_records hs)
all_skips t w [] a = tt
all_skips t w (h ∷ hs) a = grind (arith, each-append, all_skips t (w + 1) hs a.1)

-- ---- a skip whose floor is reached by what was scanned stays

-- of what is known before a morsel at least as many score above a number as of what was scanned
scanned_over : (t : Task) (b : ℤ) (m : ℕ) (rs : List Record) → above b (scanned t rs) ≤ above b (known_before t rs m)
scanned_over t b m [] = omega arith
scanned_over t b m (r ∷ rs) = grind (arith, common_steps, scanned_over t b m rs)

-- the k-th score of what is known justifies each skip
justified_one : (t : Task) (rs : List Record) (r : Record) → 0 < t.k → IsRightSkip t r
    → IfSome r.seen (IsReached t (scanned t rs)) → r.skipped ≡ true → is_justified t rs r.morsel ≡ true
justified_one t rs r some right q e =
    let b : ℤ = t.bound r.morsel in
    let k : t.k ≤ above b (scanned t rs) = grind arith in
    (below_kth t.k b (known_before t rs r.morsel) some).1 (omega (arith, scanned_over t b r.morsel rs))

-- ---- the guess

-- if the skipped morsels have nothing above c, all that is above c was scanned
only_scanned : (t : Task) (c : ℤ) (rs : List Record)
    → AllByRecursion (λ r. r.skipped ≡ true → over t c r.morsel ≡ 0) rs → over_records t c rs ≡ above c (scanned t rs)
only_scanned t c [] a = refl
only_scanned t c (r ∷ rs) a = grind (arith, common_steps, only_scanned t c rs a.1)

-- a bound below a floor that is at most the guess is below the guess
under_guess : (g b : ℤ) (o : Option ℤ) → IfSome o (λ s. s ≤ℤ g) → bound_is_below o b ≡ true
    → int_lt (g -ℤ pos 1) b ≡ false
under_guess g b o h e = grind (arith, ints)

-- a low guess less one is below the k-th score
fits_below : (g : ℤ) (o : Option ℤ) → IsSomeAnd o (λ s. g ≤ℤ s) → bound_is_below o (g -ℤ pos 1) ≡ true
fits_below g o h = grind (arith, ints)

-- what is below the guess is below a floor that is at least the guess
lt_le_lt : (b g f : ℤ) → int_lt b g ≡ true → g ≤ℤ f → int_lt b f ≡ true
lt_le_lt b g f e h = grind (arith, ints)

module _ (t : Task) (g : ℤ) (hs : List Haul) (fair : IsFair t) (s : AreSound t hs)
    (low_guess : IsLowGuess t (Some g)) where
  -- a morsel that was skipped by a floor of at most the guess has no candidate that scores the guess or more
  skipped_over : (r : Record) → IsRightSkip t r → IfSome r.seen (λ z. z ≤ℤ g) → r.skipped ≡ true
      → over t (g -ℤ pos 1) r.morsel ≡ 0
  skipped_over r right h e = none_above (g -ℤ pos 1) (t.bound r.morsel) (t.candidates r.morsel)
      (under_guess g (t.bound r.morsel) r.seen h (sym right ∙ e)) (fair.bounded r.morsel)

  -- if no score above the guess was seen, all that is at least the guess was scanned
  guess_alone : AllByRecursion (λ r. IfSome r.seen (λ z. z ≤ℤ g)) (all_records hs)
      → IsReached t (scanned t (all_records hs)) g
  guess_alone low b e =
      let c : ℤ = g -ℤ pos 1 in
      let rs : List Record = all_records hs in
      let none : AllByRecursion (λ r. r.skipped ≡ true → over t c r.morsel ≡ 0) rs =
      grind (arith, from_both, skipped_over, all_skips) in
      let k : t.k ≤ above c (all_of_task t) = grind (arith, below_kth, fits_below) in
      let fewer = fewer_above b c (scanned t rs) (omega (arith, ints)) in
      omega (arith, records_over t c rs s.once, only_scanned t c rs none)

  -- the guess is reached, whether it is the floor of the end or a score above it was raised
  guess_top : (floor : Option ℤ) → AreUnderFloor t (Some g) hs floor → IsReached t (scanned t (all_records hs)) g
  guess_top None f = absurd (All-head (λ z. IsSomeAnd None (λ y. z ≤ℤ y)) g [] f.floor_is.guess_below)
  guess_top (Some top) f =
      let raised : List ℤ = raised_in (turns_of t hs) in
      let under : g ≤ℤ top = All-head (λ z. z ≤ℤ top) g [] f.floor_is.guess_below in
      ⊎_elim
      (λ e.
      let here : g ≡ top = cc in
      let low : All (λ z. z ≤ℤ g) raised = search rules in
      guess_alone (all_seen_each (λ z. z ≤ℤ g) t hs (All-weaker (IsGuessOrRaised (Some g) raised) (λ z. z ≤ℤ g)
      (λ z. ⊎_elim (λ own. let same : g ≡ z = cc in omega (arith, ints)) (All-contains (λ z. z ≤ℤ g) raised z low))
      (seen_in (turns_of t hs)) f.seen)))
      (λ there. λ b e. All-contains (IsReached t (scanned t (all_records hs))) raised top
      (raised_reached t hs fair.some) there b (lt_le_lt b g top e under))
      f.floor_is.one_of_them

-- a low guess is reached by what was scanned
guess_reached : (t : Task) (guess : Option ℤ) (hs : List Haul) (floor : Option ℤ) → IsFair t → AreSound t hs
    → AreUnderFloor t guess hs floor → IsLowGuess t guess → IfSome guess (IsReached t (scanned t (all_records hs)))
guess_reached t None hs floor fair s f low = tt
guess_reached t (Some g) hs floor fair s f low = guess_top t g hs fair s low floor f

-- ---- no skip is undone

-- a record that skips what is justified isn't counted
none_counted : (t : Task) (all rs : List Record)
    → AllByRecursion (λ r. r.skipped ≡ true → is_justified t all r.morsel ≡ true) rs
    → AllByRecursion (λ r. r.skipped ≡ true → was_skipped all r.morsel ≡ true) rs
    → count_by (λ r. r.skipped && not (stays t all r.morsel)) rs ≡ 0
none_counted t all [] a w = refl
none_counted t all (r ∷ rs) a w = grind (arith, none_counted t all rs a.1 w.1)

-- a record of a skip is one of the skips of its morsel
own_skip : (all : List Record) → AllByRecursion (λ r. r.skipped ≡ true → was_skipped all r.morsel ≡ true) all
own_skip [] = tt
own_skip (r ∷ rs) = grind (arith, each-weaker, own_skip rs)

-- without a guess, or with one that is at most the k-th score, no skip is undone
pub none_back : NoneIsTakenBack
none_back t guess hs floor fair s f low =
    let rs : List Record = all_records hs in
    let R : ℤ → Type 0 = IsReached t (scanned t rs) in
    let raised : List ℤ = raised_in (turns_of t hs) in
    let known : IfSome guess R = guess_reached t guess hs floor fair s f low in
    let each : All R (seen_in (turns_of t hs)) = All-weaker (IsGuessOrRaised guess raised) R
    (λ z. ⊎_elim (λ e. let it : IfSome (Some z) R = rw e at known in it)
    (λ there. All-contains R raised z (raised_reached t hs fair.some) there)) (seen_in (turns_of t hs)) f.seen in
    none_counted t rs rs (search (rules, from_both, justified_one, all_skips, all_seen_each)) (own_skip rs)
