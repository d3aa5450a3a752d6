-- The first k of some in a stable order: with more after them, and without what k others come before or tie with.
use Rattle.rank_merge.proofs.Cited.{◌≡◌, ℕ, zero, suc, ◌+◌, ◌≤◌, Bool, true, false, cond, not, List, [], ◌∷◌, ◌++◌}
use Rattle.rank_merge.proofs.Cited.{length, take, Some, refl, sym, ap, ◌∙◌, arith, append-nil, append_assoc, slice_get}
use Rattle.rank_merge.proofs.Cited.{AllByRecursion, count_by, IsTotalOrder, Ordering, false_from_ne_true, take-take}
use Rattle.rank_merge.proofs.Cited.{sum_by-IsPermutation, sum_by-cons, sum_by-append, count_by-le-length, placed}
use Rattle.rank_merge.proofs.Cited.{sorted_by, from_all, one_if, sorted-fixed}
use Rattle.ghcn_files.proofs.Ordered as ordered
use Rattle.rank_merge.proofs.Lists.{descend-take}
use Rattle.rank_merge.proofs.StableSorts.{first, first_own, InTurn, sorted_turn}

-- the first k of all in order
abbrev firsts : {X : Type 0} → (X → X → Bool) → ℕ → List X → List X
firsts comes k xs = take k (sorted_by comes xs)

-- one comes before another, and they don't tie
abbrev sooner : {X : Type 0} → (X → X → Bool) → X → X → Bool
sooner comes a b = not (comes b a)

-- to take a place among the first k is enough
placed_cut : {X : Type 0} (comes : X → X → Bool) (k : ℕ) (x : X) (ys : List X)
    → take k (placed comes x (take k ys)) ≡ take k (placed comes x ys)
placed_cut comes zero x ys = refl
placed_cut comes (suc k) x [] = refl
placed_cut comes (suc k) x (y ∷ ys) =
    elim (comes x y) as (λ b. take (suc k) (cond b (x ∷ y ∷ take k ys) (y ∷ placed comes x (take k ys)))
    ≡ take (suc k) (cond b (x ∷ y ∷ ys) (y ∷ placed comes x ys))) [
      | true ↦ ap (λ l. x ∷ l) (take-take k (suc k) (y ∷ ys) (omega arith))
      | false ↦ ap (λ l. y ∷ l) (placed_cut comes k x ys)
    ]

-- ---- one more at the end

module _ {X : Type 0} (comes : X → X → Bool)
    (on : (a b c : X) → comes a b ≡ true → comes b c ≡ true → comes a c ≡ true)
    (back : (a b : X) → comes a b ≡ false → comes b a ≡ true) where
  -- what doesn't come before one, which doesn't come before another, doesn't come before that one
  neither : (x y z : X) → comes x z ≡ false → comes z y ≡ false → comes x y ≡ false
  neither x y z e f = false_from_ne_true _ (λ t. let yes : comes x z ≡ true = on x y z t (back z y f) in cc)

  -- one that comes before what it ties with, and one that comes after it, take their places in either order
  placed_both : (x y : X) (zs : List X)
      → placed comes x (placed (sooner comes) y zs) ≡ placed (sooner comes) y (placed comes x zs)
  placed_both x y [] =
      elim (comes x y) as (λ b. cond b (x ∷ y ∷ []) (y ∷ x ∷ []) ≡ cond (not b) (y ∷ x ∷ []) (x ∷ y ∷ [])) [
        | true ↦ refl
        | false ↦ refl
      ]
  placed_both x y (z ∷ zs) = grind (arith, placed_both x y zs, on x z y, neither x y z)

  -- so one more at the end takes its place after what it ties with
  sorted-push : (xs : List X) (y : X) → sorted_by comes (xs ++ y ∷ []) ≡ placed (sooner comes) y (sorted_by comes xs)
  sorted-push [] y = refl
  sorted-push (x ∷ xs) y = ap (placed comes x) (sorted-push xs y) ∙ placed_both x y (sorted_by comes xs)

  -- two lists with the same first k have the same first k with more after them
  firsts-append : (k : ℕ) (xs ys zs : List X) → firsts comes k xs ≡ firsts comes k ys
      → firsts comes k (xs ++ zs) ≡ firsts comes k (ys ++ zs)
  firsts-append k xs ys [] e =
      ap (firsts comes k) (append-nil xs) ∙ e ∙ sym (ap (firsts comes k) (append-nil ys))
  firsts-append k xs ys (z ∷ zs) e =
      let pushed = λ (l : List X).
      ap (take k) (sorted-push l z) ∙ sym (placed_cut (sooner comes) k z (sorted_by comes l)) in
      let one = pushed xs ∙ ap (λ (l : List X). take k (placed (sooner comes) z l)) e ∙ sym (pushed ys) in
      ap (firsts comes k) (sym (append_assoc xs (z ∷ []) zs))
      ∙ firsts-append k (xs ++ z ∷ []) (ys ++ z ∷ []) zs one
      ∙ ap (firsts comes k) (append_assoc ys (z ∷ []) zs)

-- ---- in a total order

module _ {X : Type 0} (cmp : X → X → Ordering) (total : IsTotalOrder cmp) where
  -- one comes first, or they tie
  abbrev leads : X → X → Bool
  leads = first cmp total

  -- what comes before one comes before what that one comes before
  leads_on : (a b c : X) → leads a b ≡ true → leads b c ≡ true → leads a c ≡ true
  leads_on = ordered.first_trans cmp total leads (λ a b. refl)

  -- of two one comes first
  leads_back : (a b : X) → leads a b ≡ false → leads b a ≡ true
  leads_back = ordered.first_either cmp total leads (λ a b. refl)

  -- two lists with the same first k have the same first k with more after them
  pub same_firsts : (k : ℕ) (xs ys zs : List X) → firsts leads k xs ≡ firsts leads k ys
      → firsts leads k (xs ++ zs) ≡ firsts leads k (ys ++ zs)
  same_firsts = firsts-append leads leads_on leads_back

  -- the first k are in turn
  pub firsts_turn : (k : ℕ) (xs : List X) → InTurn cmp total (firsts leads k xs)
  firsts_turn k xs = descend-take (λ a b. leads a b ≡ true) k (sorted_by leads xs) (sorted_turn cmp total xs)

  -- the first k of the first k are these
  pub first_again : (k : ℕ) (xs new : List X) → new ≡ firsts leads k xs → firsts leads k new ≡ firsts leads k xs
  first_again k xs new e = rw e (ap (take k) (sorted-fixed leads (firsts leads k xs) (firsts_turn k xs))
      ∙ take-take k k (sorted_by leads xs) (omega arith))

  -- ---- how many come before one

  -- how many of some come before one, or tie with it
  abbrev ahead : X → List X → ℕ
  ahead d xs = count_by (λ x. leads x d) xs

  -- one more that may
  ahead-cons : (d x : X) (xs : List X) → ahead d (x ∷ xs) ≡ one_if (leads x d) + ahead d xs
  ahead-cons d x xs = sum_by-cons (λ (y : X). one_if (leads y d)) x xs

  -- and of two lists
  pub ahead-append : (d : X) (xs ys : List X) → ahead d (xs ++ ys) ≡ ahead d xs + ahead d ys
  ahead-append d xs ys = sum_by-append (λ (y : X). one_if (leads y d)) xs ys

  -- none does of those that come after one that doesn't
  none_ahead : (f z : X) (zs : List X) → leads z f ≡ false → AllByRecursion (λ w. leads z w ≡ true) zs
      → ahead f zs ≡ 0
  none_ahead f z [] e h = refl
  none_ahead f z (w ∷ ws) e h =
      let other : leads w f ≡ false =
      false_from_ne_true _ (λ t. let yes : leads z f ≡ true = leads_on z w f h.0 t in cc) in
      omega (arith, ahead-cons f w ws, ap one_if other, none_ahead f z ws e h.1)

  -- the first of some in turn comes before the one at a place, or ties with it
  first_leads : (x : X) (xs : List X) (n : ℕ) (l : X) → InTurn cmp total (x ∷ xs) → slice_get (x ∷ xs) n ≡ Some l
      → leads x l ≡ true
  first_leads x xs n l h at = from_all (λ y. leads x y ≡ true) (x ∷ xs) n l (first_own cmp total x, h.0) at

  -- all of some in turn come before the last of them, or tie
  pub all_ahead : (xs : List X) (n : ℕ) (l : X) → InTurn cmp total xs → length xs ≤ n + 1 → slice_get xs n ≡ Some l
      → ahead l xs ≡ length xs
  all_ahead [] n l h few at = refl
  all_ahead (x ∷ xs) zero l h few at =
      let own = ap one_if (first_leads x xs zero l h at) in
      omega (arith, own, ahead-cons l x xs, count_by-le-length (λ (y : X). leads y l) xs)
  all_ahead (x ∷ xs) (suc n) l h few at =
      let own = ap one_if (first_leads x xs (suc n) l h at) in
      let rest = all_ahead xs n l h.1 (omega arith) at in
      omega (arith, own, ahead-cons l x xs, rest)

  -- ---- a floor

  -- what comes after an element that k of some in turn come before isn't one of the first k
  past : (k : ℕ) (f d : X) (zs : List X) → leads f d ≡ true → InTurn cmp total zs → k ≤ ahead f zs
      → take k (placed (sooner leads) d zs) ≡ take k zs
  past zero f d zs e h many = refl
  past (suc k) f d [] e h many = absurd (omega arith)
  past (suc k) f d (z ∷ zs) e h many =
      let more = ahead-cons f z zs in
      elim (leads z f) as (λ b. leads z f ≡ b → take (suc k) (placed (sooner leads) d (z ∷ zs)) ≡ z ∷ take k zs) [
        | true ↦ λ t.
            ap (λ b. take (suc k) (cond (not b) (d ∷ z ∷ zs) (z ∷ placed (sooner leads) d zs))) (leads_on z f d t e)
            ∙ ap (λ l. z ∷ l) (past k f d zs e h.1 (omega (arith, many, more, ap one_if t)))
        | false ↦ λ t. absurd (omega (arith, many, more, ap one_if t, none_ahead f z zs t h.0))
      ] refl

  -- so all that come after it can be left out
  pub without_behind : (k : ℕ) (f : X) (ps ds : List X) → k ≤ ahead f ps
      → AllByRecursion (λ d. leads f d ≡ true) ds → firsts leads k (ps ++ ds) ≡ firsts leads k ps
  without_behind k f ps [] many h = ap (firsts leads k) (append-nil ps)
  without_behind k f ps (d ∷ ds) many h =
      let moved = sum_by-IsPermutation (λ (x : X). one_if (leads x f)) ps (sorted_by leads ps)
      (ordered.sorted-permutation leads ps) in
      let one = ap (take k) (sorted-push leads leads_on leads_back ps d)
      ∙ past k f d (sorted_by leads ps) h.0 (sorted_turn cmp total ps) (omega (arith, many, moved)) in
      ap (firsts leads k) (sym (append_assoc ps (d ∷ []) ds))
      ∙ same_firsts k (ps ++ d ∷ []) ps ds one ∙ without_behind k f ps ds many h.1
