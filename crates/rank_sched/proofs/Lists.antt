-- What is true of lists and of their elements, and the lists that records give.
use Rattle.rank_sched.proofs.Cited.{rules, ◌≡◌, ℕ, zero, suc, ◌<◌, List, [], ◌∷◌, ◌++◌, length, Option, Some, refl, ap}
use Rattle.rank_sched.proofs.Cited.{◌∙◌, append-nil, append_assoc, arith, ℤ, ◌≤ℤ◌, option_to_list, All, slice_get}
use Rattle.rank_sched.proofs.Cited.{slice_set, IfSome, IsSomeAnd, AllByRecursion, flat_map-append, map-append}
use Rattle.rank_sched.proofs.Cited.{All-append, IsAtLeast, Candidate, first, kth, last_score, Record, Task, Exchange}
use Rattle.rank_sched.proofs.Cited.{morsels_of, scanned_for, scanned, exchange, exchanges, seen_in, raised_in}
use Rattle.rank_sched.proofs.Cited.{SeeUpward, NumbersRise, All-drop, All-take, best_pool, drop_at, last_of_pool}
use Rattle.rank_sched.proofs.Cited.{take_at, subst}
pub use Rattle.ghcn_files.proofs.Among.{each-weaker}
pub use Rattle.ghcn_series.proofs.ListFacts.{each-append}

-- ---- elements

module _ {X : Type 0} (P : X → Type 0) where
  -- what is true of all of two lists is true of all of the first
  pub All-left : (xs ys : List X) → All P (xs ++ ys) → All P xs
  All-left xs ys h = subst (All P) (take_at xs ys (length xs) refl) (All-take P (length xs) (xs ++ ys) h)

  -- and of all of the second
  pub All-right : (xs ys : List X) → All P (xs ++ ys) → All P ys
  All-right xs ys h = subst (All P) (drop_at xs ys (length xs) refl) (All-drop P (length xs) (xs ++ ys) h)

  -- what is true of all of three lists is true of all of the second
  pub All-middle : (F V B : List X) → All P (F ++ (V ++ B)) → All P V
  All-middle F V B h = All-left V B (All-right F (V ++ B) h)

  -- what is true of all of three lists and of another is true of all, if that comes after the second
  pub All-between : (F V Z B : List X) → All P (F ++ (V ++ B)) → All P Z → All P (F ++ ((V ++ Z) ++ B))
  All-between F V Z B h new = All-append P F ((V ++ Z) ++ B) (All-left F (V ++ B) h)
      (All-append P (V ++ Z) B (All-append P V Z (All-middle F V B h) new) (All-right V B (All-right F (V ++ B) h)))

  -- and without that list it is true of all, and of all of it
  pub All-without : (F V Z B : List X) → All P (F ++ ((V ++ Z) ++ B)) → All P (F ++ (V ++ B)) × All P Z
  All-without F V Z B h =
      let both = All-middle F (V ++ Z) B h in
      let behind = All-right (V ++ Z) B (All-right F ((V ++ Z) ++ B) h) in (
        All-append P F (V ++ B) (All-left F ((V ++ Z) ++ B) h) (All-append P V B (All-left V Z both) behind),
        All-right V Z both,
      )

-- what is true of a value, if there is one, is true of the list of it
pub one_there : {X : Type 0} (P : X → Type 0) (o : Option X) → IfSome o P → All P (option_to_list o)
one_there P o h = grind arith

-- ---- lists that rise

-- a list that rises goes on to rise with a number above all of it
pub rise-push : (xs : List ℕ) (x : ℕ) → NumbersRise xs → AllByRecursion (λ y. y < x) xs → NumbersRise (xs ++ x ∷ [])
rise-push [] x h a = (tt, tt)
rise-push (y ∷ ys) x h a = grind (arith, each-append, rise-push ys x h.1 a.1)

-- ---- records

-- the morsel of one record more comes last
pub morsels-push : (rs : List Record) (r : Record) → morsels_of (rs ++ r ∷ []) ≡ morsels_of rs ++ r.morsel ∷ []
morsels-push rs r = grind (arith, map-append)

-- one record more adds the candidates that it stands for
pub scanned-push : (t : Task) (rs : List Record) (r : Record)
    → scanned t (rs ++ r ∷ []) ≡ scanned t rs ++ scanned_for t r
scanned-push t rs r = simp (flat_map-append, append-nil)

-- one record more adds a turn, made after all that was scanned before
pub exchanges-push : (t : Task) (before : List Candidate) (rs : List Record) (r : Record)
    → exchanges t before (rs ++ r ∷ []) ≡ exchanges t before rs ++ exchange t (before ++ scanned t rs) r ∷ []
exchanges-push t before [] r = simp append-nil
exchanges-push t before (q ∷ rs) r =
    let one : List Candidate = scanned_for t q in
    ap (λ (l : List Exchange). exchange t before q ∷ l)
    (exchanges-push t (before ++ one) rs r ∙ ap (λ (l : List Candidate). exchanges t
    (before ++ one) rs ++ exchange t l r ∷ []) (append_assoc before one (scanned t rs)))

-- the floors seen in some turns and then in others
pub seen_in-append : (xs ys : List Exchange) → seen_in (xs ++ ys) ≡ seen_in xs ++ seen_in ys
seen_in-append xs ys = grind (arith, flat_map-append)

-- the scores raised in some turns and then in others
pub raised_in-append : (xs ys : List Exchange) → raised_in (xs ++ ys) ≡ raised_in xs ++ raised_in ys
raised_in-append xs ys = grind (arith, flat_map-append)

-- one turn more, whose floor is at least all that was known at first, seen and raised
pub upward-push : (known : List ℤ) (xs : List Exchange) (x : Exchange) → SeeUpward known xs → IsAtLeast x.seen known
    → IsAtLeast x.seen (seen_in xs) → IsAtLeast x.seen (raised_in xs) → SeeUpward known (xs ++ x ∷ [])
upward-push known [] x h a b c = (a, tt)
upward-push known (y ∷ ys) x h a b c =
    let P : ℤ → Type 0 = λ s. IsSomeAnd x.seen (λ f. s ≤ℤ f) in
    let saw : List ℤ = option_to_list y.seen in
    let up : List ℤ = option_to_list y.raised in (
      h.0,
      upward-push (known ++ (saw ++ up)) ys x h.1 (All-append P known (saw ++ up) a
          (All-append P saw up (All-left P saw (seen_in ys) b) (All-left P up (raised_in ys) c)))
          (All-right P saw (seen_in ys) b) (All-right P up (raised_in ys) c),
    )

-- what is raised in the last turn doesn't matter for what was seen
pub upward-last : (known : List ℤ) (xs : List Exchange) (x y : Exchange) → x.seen ≡ y.seen
    → SeeUpward known (xs ++ x ∷ []) → SeeUpward known (xs ++ y ∷ [])
upward-last known [] x y e h = search rules
upward-last known (z ∷ zs) x y e h = (h.0, upward-last _ zs x y e h.1)

-- ---- a place of a list

-- a list with its element at a place, and with another one there
pub record At {X : Type 0} (xs : List X) (i : ℕ) (x : X) : Type 0 where
  pub front : List X
  pub behind : List X
  pub parts : xs ≡ front ++ x ∷ behind
  pub place : length front ≡ i
  pub put : (y : X) → slice_set xs i y ≡ front ++ y ∷ behind

-- a list has each of its elements between those before and those after
pub at : {X : Type 0} (xs : List X) (i : ℕ) (x : X) → slice_get xs i ≡ Some x → At xs i x
at [] i x h = absurd cc
at (y ∷ ys) zero x h =
    let same : y ≡ x = cc in
    record { front = []; behind = ys; parts = ap (λ z. z ∷ ys) same; place = refl; put = λ z. refl }
at (y ∷ ys) (suc i) x h =
    let a : At ys i x = at ys i x h in
    let more = ap (λ l. y ∷ l) a.parts in
    record { front = y ∷ a.front; behind = a.behind; parts = more; place = omega arith; put = λ z. cc (a.put z) }

-- ---- the last place of a pool

-- the score of the last place is the k-th score of all that was offered
pub last_is_kth : (k : ℕ) (xs : List Candidate) → 0 < k
    → last_score (record { size = k; held = first k xs }) ≡ kth k xs
last_is_kth k xs some = last_of_pool (best_pool k xs) xs some refl
