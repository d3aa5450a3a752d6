-- Places in the order of candidates: which of the marks a candidate precedes.
use Rattle.std.proofs.Common.{◌≡◌, ℕ, ◌<◌, ◌≤◌, Bool, true, false, List, [], ◌∷◌, length, refl, sym, ap, ◌∙◌, subst}
use Rattle.std.proofs.Common.{arith, get_or, not, ltb, ltb-true, ltb-false}
use Rattle.std.specs.List.{Contains}
use Rattle.std.specs.List.Sorted.{IsPartitionPoint, IsPartitionedBy, IsSorted}
use Rattle.std.specs.Ordering.{is_lt, int_cmp, ordering_then}
use Rattle.std.specs.declared.cmp.Ordering.{Ordering}
use Rattle.std.specs.declared.cmp.Ordering.TheVariants.{Less, Equal, Greater}
use Rattle.std.proofs.lemmas.List.{length-map}
use Rattle.std.proofs.lemmas.List.Sorted.{ranks_by, sorted_far}
use Rattle.std.proofs.Math.ListN.{get_or-map}
use Rattle.rank_scores.specs.declared.candidate.Candidate.{Candidate}
use Rattle.rank_scores.specs.Meaning.Order.{rank_cmp, precedes}
use Rattle.rank_scores.specs.Order.{full_cmp}
use Rattle.rank_scores.proofs.Listing.{full_cmp_total}
use Rattle.rank_scores.proofs.Ranks.{rank_cmp_total}
use Rattle.rank_check.specs.declared.tally.Mark.{Mark}
use Rattle.rank_check.specs.Marks.{candidates_at, unmet, IsPlace, precedes_first, AreMarksInOrder}

-- ---- the order of candidates

-- what isn't less by two comparisons isn't by the first
not_less : (o p : Ordering) → is_lt (ordering_then o p) ≡ false → is_lt o ≡ false
not_less Less p e = absurd cc
not_less Equal p e = refl
not_less Greater p e = refl

-- nor does it precede
not_preceding : (a b : Candidate) → is_lt (full_cmp a b) ≡ false → precedes a b ≡ false
not_preceding a b e = not_less (rank_cmp a b) (int_cmp a.last b.last) e

-- a candidate that precedes another precedes what doesn't precede that one
pub carried : (d a b : Candidate) → precedes d a ≡ true → precedes b a ≡ false → precedes d b ≡ true
carried d a b h e = elim (precedes d b) as (λ t. precedes d b ≡ t → t ≡ true) [
  | true ↦ λ _. refl
  | false ↦ λ f.
      let no : precedes d a ≡ false = (ranks_by rank_cmp_total (λ (c : Candidate). c)).chain d b a f e in
      absurd cc
] refl

-- none precedes itself
pub not_itself : (c : Candidate) → precedes c c ≡ false
not_itself c = elim (precedes c c) as (λ t. precedes c c ≡ t → t ≡ false) [
  | true ↦ λ h. sym h ∙ (ranks_by rank_cmp_total (λ (c : Candidate). c)).one_way c c h
  | false ↦ λ _. refl
] refl

module _ (ks : List Candidate) (up : IsSorted full_cmp ks) where
  -- what is later isn't before what is earlier
  pub not_before : (i j : ℕ) (d : Candidate) → i ≤ j → j < length ks
      → is_lt (full_cmp (get_or ks j d) (get_or ks i d)) ≡ false
  not_before i j d le lt =
      sorted_far (λ y z. is_lt (full_cmp y z)) (ranks_by full_cmp_total (λ c. c)) ks up i j d le lt

  -- nor does it precede that
  pub in_turn : (i j : ℕ) (d : Candidate) → i ≤ j → j < length ks → precedes (get_or ks j d) (get_or ks i d) ≡ false
  in_turn i j d le lt = not_preceding (get_or ks j d) (get_or ks i d) (not_before i j d le lt)

  module _ (d : Candidate) (p : ℕ) (here : IsPlace ks d p) where
    -- if there is a candidate at the place, the offered one precedes just those that don't precede that one
    pub precedes-at : (c : Candidate) → Contains ks c → p < length ks
        → precedes d c ≡ not (precedes c (get_or ks p c))
    precedes-at c (j, lt, e) within =
        elim (precedes c (get_or ks p c)) as (λ t. precedes c (get_or ks p c) ≡ t → precedes d c ≡ not t) [
          | true ↦ λ h. elim (ltb j p) as (λ t. ltb j p ≡ t → precedes d c ≡ false) [
            | true ↦ λ b. ap (precedes d) (sym e) ∙ here.0 j c (omega arith) (ltb-true j p b)
            | false ↦ λ b.
                let back : precedes (get_or ks j c) (get_or ks p c) ≡ false = in_turn p j c (ltb-false j p b) lt in
                let no : precedes c (get_or ks p c) ≡ false =
                subst (λ (x : Candidate). precedes x (get_or ks p c) ≡ false) e back in
                absurd cc
          ] refl
          | false ↦ λ h. carried d (get_or ks p c) c (here.1 p c (omega arith) within) h
        ] refl

    -- otherwise it precedes none
    pub precedes-none : (c : Candidate) → Contains ks c → length ks ≤ p → precedes d c ≡ false
    precedes-none c (j, lt, e) beyond = ap (precedes d) (sym e) ∙ here.0 j c (omega arith) (omega arith)

-- the candidate at a place
pub at-mark : (marks : List Mark) (i : ℕ) (c : Candidate) → get_or (candidates_at marks) i c
    ≡ (get_or marks i (unmet c)).candidate
at-mark marks i c = get_or-map (λ m. m.candidate) marks i (unmet c)

-- ---- places

-- the marks that a candidate doesn't precede come before the others
pub parted : (marks : List Mark) → AreMarksInOrder marks → (d : Candidate)
    → IsPartitionedBy (λ m. not (precedes d m.candidate)) marks
parted marks up d i j m le lt e =
    let a : Candidate = (get_or marks i m).candidate in
    let b : Candidate = (get_or marks j m).candidate in
    let turn : precedes b a ≡ false =
    ap (λ (x : Candidate). precedes x a) (sym (get_or-map (λ (y : Mark). y.candidate) marks j m))
    ∙ ap (precedes (get_or (candidates_at marks) j m.candidate))
    (sym (get_or-map (λ (y : Mark). y.candidate) marks i m))
    ∙ in_turn (candidates_at marks) up i j m.candidate le (omega (arith, lt, length-map marks (λ m. m.candidate))) in
    elim (precedes d a) as (λ t. precedes d a ≡ t → not t ≡ true) [
      | true ↦ λ h. absurd (let no : not (precedes d b) ≡ false = ap not (carried d a b h turn) in cc)
      | false ↦ λ _. refl
    ] refl

-- a test that fails
not_true : (b : Bool) → not b ≡ true → b ≡ false
not_true true e = absurd cc
not_true false e = refl

-- a test that holds
not_false : (b : Bool) → not b ≡ false → b ≡ true
not_false true e = refl
not_false false e = absurd cc

-- so the place among marks is the place among candidates
pub place-found : (marks : List Mark) (d : Candidate) (p : ℕ) → p ≤ length marks
    → IsPartitionPoint (λ (m : Mark). not (precedes d m.candidate) ≡ true)
    (λ (m : Mark). not (precedes d m.candidate) ≡ false) marks p
    → IsPlace (candidates_at marks) d p
place-found marks d p bound point = (
  λ k c low lt.
      ap (precedes d) (at-mark marks k c)
      ∙ not_true (precedes d (get_or marks k (unmet c)).candidate) (point.0 k (unmet c) low lt),
  λ k c low lt.
      ap (precedes d) (at-mark marks k c)
      ∙ not_false (precedes d (get_or marks k (unmet c)).candidate)
      (point.1 k (unmet c) low (omega (arith, lt, length-map marks (λ m. m.candidate)))),
)

-- a candidate that precedes the first mark precedes all
pub place-first : (marks : List Mark) → AreMarksInOrder marks → (d : Candidate) → precedes_first d marks ≡ true
    → IsPlace (candidates_at marks) d 0
place-first [] up d e = absurd cc
place-first (m ∷ marks) up d e = (
  λ k c low lt. absurd (omega arith),
  λ k c low lt.
      carried d m.candidate (get_or (candidates_at (m ∷ marks)) k c) e
      (in_turn (candidates_at (m ∷ marks)) up 0 k c (omega arith) lt),
)
