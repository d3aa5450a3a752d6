-- The rows of a report, and the candidates that are the worst of them or precede it.
use Rattle.std.proofs.Common.{◌≡◌, inl, inr, ℕ, zero, suc, Bool, true, false, cond, List, [], ◌∷◌, length, take}
use Rattle.std.proofs.Common.{filter, Option, Some, None, refl, sym, ap, ◌∙◌, subst, arith, ◌||◌, ℤ, ◌≤ℤ◌, ◌<ℤ◌}
use Rattle.std.specs.Prelude.{slice_get}
use Rattle.std.specs.List.{AllByRecursion}
use Rattle.std.specs.Ordering.{is_lt, is_eq, int_cmp, nat_cmp, ordering_then, MatchOrdering}
use Rattle.std.specs.Cmp.Lexicographic.{slice_cmp}
use Rattle.std.specs.declared.cmp.Ordering.{Ordering}
use Rattle.std.specs.declared.cmp.Ordering.TheVariants.{Less, Equal, Greater}
use Rattle.std.specs.Cmp.{IsStrictWeakOrder}
use Rattle.std.proofs.lemmas.Cmp.{int_ranked}
use Rattle.std.proofs.lemmas.List.MinMax.{ranks_by}
use Rattle.std.proofs.lemmas.Int.{ints}
use Rattle.rank_scores.specs.declared.candidate.Candidate.{Candidate}
use Rattle.rank_scores.specs.Meaning.Order.{precedes}
use Rattle.rank_scores.specs.Order.{full_cmp}
use Rattle.rank_scores.proofs.Ranks.{rank_cmp_total, Descends}
use Rattle.ghcn_files.proofs.Ordered as ordered
use Rattle.rank_papers.specs.Papers.{AreInOrder}
use Rattle.rank_check.specs.Pieces.{is_within_worst}
use Rattle.ghcn_series.proofs.Members.{In, of_one, for_each}
use Rattle.rank_check.proofs.SortedCandidates.{same_from_tie, own_tie}

-- ---- precedence

-- precedence is an order
ranks : IsStrictWeakOrder precedes
ranks = ranks_by rank_cmp_total (λ c. c)

-- what precedes what precedes
pub precedes_on : (a b c : Candidate) → precedes a b ≡ true → precedes b c ≡ true → precedes a c ≡ true
precedes_on = ordered.before_on precedes ranks

-- of two at most one precedes the other
pub one_way : (a b : Candidate) → precedes a b ≡ true → precedes b a ≡ true → ⊥
one_way = ordered.one_way precedes ranks

-- none precedes itself
not_itself : (a : Candidate) → precedes a a ≡ true → ⊥
not_itself a e = one_way a a e e

-- ---- within

-- the worst is within
pub own_within : (w : Candidate) → is_within_worst (Some w) w ≡ true
own_within w = elim (precedes w w) as (λ b. (b || is_eq (full_cmp w w)) ≡ true) [ true ↦ refl | false ↦ own_tie w ]

-- and so is what precedes it
pub before_within : (w d : Candidate) → precedes d w ≡ true → is_within_worst (Some w) d ≡ true
before_within w d e = ap (λ (b : Bool). b || is_eq (full_cmp d w)) e

-- what the worst precedes isn't within
pub behind_out : (w d : Candidate) → precedes w d ≡ true → is_within_worst (Some w) d ≡ true → ⊥
behind_out w d e f = elim (precedes d w) as (λ b. precedes d w ≡ b → (b || is_eq (full_cmp d w)) ≡ true → ⊥) [
  | true ↦ λ t g. one_way w d e t
  | false ↦ λ t g. let same : d ≡ w = same_from_tie d w g in
      not_itself w (subst (λ (x : Candidate). precedes w x ≡ true) same e)
] refl f

-- what precedes one that is within is within
pub within_on : (worst : Option Candidate) (a b : Candidate) → precedes a b ≡ true → is_within_worst worst b ≡ true
    → is_within_worst worst a ≡ true
within_on None a b e f = refl
within_on (Some w) a b e f =
    elim (precedes b w) as (λ t. precedes b w ≡ t → (t || is_eq (full_cmp b w)) ≡ true
    → is_within_worst (Some w) a ≡ true) [
      | true ↦ λ t g. before_within w a (precedes_on a b w e t)
      | false ↦ λ t g. let same : b ≡ w = same_from_tie b w g in
          before_within w a (subst (λ (x : Candidate). precedes a x ≡ true) same e)
    ] refl f

-- ---- lists in which each precedes all after it

-- what each precedes, the one before it precedes
pub precede_all : (a b : Candidate) (cs : List Candidate) → precedes a b ≡ true
    → AllByRecursion (λ y. precedes b y ≡ true) cs → AllByRecursion (λ y. precedes a y ≡ true) cs
precede_all a b [] e h = tt
precede_all a b (c ∷ cs) e h = (precedes_on a b c e h.0, precede_all a b cs e h.1)

-- rows of which each precedes the next
pub order_descends : (cs : List Candidate) → AreInOrder cs → Descends cs
order_descends [] h = tt
order_descends (c ∷ []) h = (tt, tt)
order_descends (c ∷ d ∷ cs) h =
    let rest = order_descends (d ∷ cs) h.1 in
    ((h.0, precede_all c d cs h.0 rest.0), rest)

-- what holds of each holds of those that are kept
each_kept : (P : Candidate → Type 0) (test : Candidate → Bool) (cs : List Candidate) → AllByRecursion P cs
    → AllByRecursion P (filter test cs)
each_kept P test [] h = tt
each_kept P test (c ∷ cs) h = elim (test c) as (λ b. AllByRecursion P (cond b (c ∷ filter test cs) (filter test cs))) [
  | true ↦ (h.0, each_kept P test cs h.1)
  | false ↦ each_kept P test cs h.1
]

-- of those that are kept each precedes all after it
pub kept_descends : (test : Candidate → Bool) (cs : List Candidate) → Descends cs → Descends (filter test cs)
kept_descends test [] h = tt
kept_descends test (c ∷ cs) h = elim (test c) as (λ b. Descends (cond b (c ∷ filter test cs) (filter test cs))) [
  | true ↦ (each_kept (λ y. precedes c y ≡ true) test cs h.0, kept_descends test cs h.1)
  | false ↦ kept_descends test cs h.1
]

-- nothing is kept if nothing passes
pub none_kept : (test : Candidate → Bool) (cs : List Candidate) → AllByRecursion (λ y. test y ≡ false) cs
    → filter test cs ≡ []
none_kept test [] h = refl
none_kept test (c ∷ cs) h =
    ap (λ (b : Bool). cond b (c ∷ filter test cs) (filter test cs)) h.0 ∙ none_kept test cs h.1

-- a test that isn't passed
not_so : (b : Bool) → (b ≡ true → ⊥) → b ≡ false
not_so true f = absurd (f refl)
not_so false f = refl

-- what is within is a front of the list
pub within_front : (worst : Option Candidate) (cs : List Candidate) → Descends cs
    → filter (is_within_worst worst) cs ≡ take (length (filter (is_within_worst worst) cs)) cs
within_front worst [] h = refl
within_front worst (c ∷ cs) h = by (within_front worst cs h.1) (is_within_worst worst c) refl
  where
    by : filter (is_within_worst worst) cs ≡ take (length (filter (is_within_worst worst) cs)) cs
        → (b : Bool) → is_within_worst worst c ≡ b
        → cond b (c ∷ filter (is_within_worst worst) cs) (filter (is_within_worst worst) cs)
        ≡ take (length (cond b (c ∷ filter (is_within_worst worst) cs) (filter (is_within_worst worst) cs))) (c ∷ cs)
    by rest true e = ap (λ (l : List Candidate). c ∷ l) rest
    by rest false e =
        let none : filter (is_within_worst worst) cs ≡ [] = none_kept (is_within_worst worst) cs
        (for_each (λ y. is_within_worst worst y ≡ false) cs (λ y k. not_so (is_within_worst worst y) (λ f.
        let own = within_on worst c y (of_one (λ z. precedes c z ≡ true) cs y h.0 k) f in
        let no : false ≡ true = sym e ∙ own in absurd cc))) in
        none ∙ ap (λ (l : List Candidate). take (length l) (c ∷ cs)) (sym none)

-- what is within the k-th, or all if there are fewer than k, are the first k
pub first_within : (cs : List Candidate) (n : ℕ) → Descends cs
    → filter (is_within_worst (slice_get cs n)) cs ≡ take (suc n) cs
first_within [] n h = refl
first_within (c ∷ cs) zero h =
    ap (λ (b : Bool). cond b (c ∷ filter (is_within_worst (Some c)) cs) (filter (is_within_worst (Some c)) cs))
    (own_within c)
    ∙ ap (λ (l : List Candidate). c ∷ l) (none_kept (is_within_worst (Some c)) cs
    (for_each (λ y. is_within_worst (Some c) y ≡ false) cs (λ y k. not_so (is_within_worst (Some c) y)
    (behind_out c y (of_one (λ z. precedes c z ≡ true) cs y h.0 k)))))
first_within (c ∷ cs) (suc n) h =
    ap (λ (b : Bool). cond b (c ∷ filter (is_within_worst (slice_get cs n)) cs)
    (filter (is_within_worst (slice_get cs n)) cs))
    (by (slice_get cs n) refl) ∙ ap (λ (l : List Candidate). c ∷ l) (first_within cs n h.1)
  where
    at : (xs : List Candidate) (i : ℕ) (w : Candidate) → slice_get xs i ≡ Some w → In xs w
    at [] i w e = absurd cc
    at (x ∷ xs) zero w e = let same : x ≡ w = cc in inl same
    at (x ∷ xs) (suc i) w e = inr (at xs i w e)

    by : (o : Option Candidate) → slice_get cs n ≡ o → is_within_worst o c ≡ true
    by None e = refl
    by (Some w) e = before_within w c (of_one (λ z. precedes c z ≡ true) cs w h.0 (at cs n w e))

-- ---- one list

-- two lists of the same candidates, in each of which each precedes all after it, are equal
pub same_rows : (xs ys : List Candidate) → Descends xs → Descends ys → ((c : Candidate) → In xs c → In ys c)
    → ((c : Candidate) → In ys c → In xs c) → xs ≡ ys
same_rows = ordered.one_rising precedes ranks

-- ---- scores

-- what precedes scores at least as much
score_by : (o p : Ordering) → is_lt (ordering_then o p) ≡ true → (o ≡ Greater → ⊥)
score_by Less p e f = cc
score_by Equal p e f = cc
score_by Greater p e f = absurd cc

-- a number below another is at most it
below_low : (a b : ℤ) → a <ℤ b → a ≤ℤ b
below_low a b h = grind (arith, ints)

-- so is one that is equal
same_low : (a b : ℤ) → a ≡ b → a ≤ℤ b
same_low a b h = grind (arith, ints)

-- numbers of which the first isn't the greater
not_greater : (a b : ℤ) → (int_cmp a b ≡ Greater → ⊥) → a ≤ℤ b
not_greater a b f = by (int_cmp a b) refl (int_ranked a b (int_cmp a b) refl)
  where
    by : (o : Ordering) → int_cmp a b ≡ o → MatchOrdering o (a <ℤ b) (a ≡ b) (b <ℤ a) → a ≤ℤ b
    by Less e g = below_low a b g
    by Equal e g = same_low a b g
    by Greater e g = absurd (f e)

-- what precedes another scores at least as much
pub precedes_score : (d w : Candidate) → precedes d w ≡ true → w.score ≤ℤ d.score
precedes_score d w e =
    not_greater w.score d.score (score_by (int_cmp w.score d.score)
    (ordering_then (slice_cmp nat_cmp d.id.0 w.id.0) (int_cmp d.first w.first)) e)

-- what is within scores at least the k-th score
pub within_score : (w d : Candidate) → is_within_worst (Some w) d ≡ true → w.score ≤ℤ d.score
within_score w d e =
    elim (precedes d w) as (λ b. precedes d w ≡ b → (b || is_eq (full_cmp d w)) ≡ true → w.score ≤ℤ d.score) [
      | true ↦ λ t f. precedes_score d w t
      | false ↦ λ t f. let same : d ≡ w = same_from_tie d w f in
          same_low w.score d.score (ap (λ (x : Candidate). x.score) (sym same))
    ] refl e
