-- IDs in order, counted by two searches, and the rows that they belong to.
use Rattle.std.proofs.Common.{◌≡◌, ℕ, zero, suc, ◌+◌, ◌-◌, ◌≤◌, Bool, true, false, cond, List, [], ◌∷◌, length, take}
use Rattle.std.proofs.Common.{map, refl, sym, ap, ◌∙◌, subst, arith, get_or, leb, ◌<◌, inl, inr, Option}
use Rattle.std.specs.List.{count_by}
use Rattle.std.specs.List.Sorted.{IsPartitionPoint, IsPartitionedBy, IsPermutation}
use Rattle.std.specs.Prelude.{slice_get, ◌==◌, ◌||◌}
use Rattle.std.specs.Option.{option_map_or}
use Rattle.std.specs.Ordering.{is_eq, is_lt, is_le, is_gt, nat_cmp, ordering_index}
use Rattle.std.specs.declared.cmp.Ordering.{Ordering}
use Rattle.std.specs.declared.cmp.Ordering.TheVariants.{Less, Equal, Greater}
use Rattle.std.specs.Cmp.Lexicographic.{slice_cmp}
use Rattle.std.proofs.lemmas.Cmp.{nat_list_cmp_total}
use Rattle.std.proofs.lemmas.List.{take_all, get_or_default}
use Rattle.std.proofs.Math.Dec.{eqb-suc-zero}
use Rattle.std.proofs.lemmas.Bool.{and_parts, false_from_ne_true}
use Rattle.std.proofs.lemmas.Option.{slice_get-get_or, slice_get_cases}
use Rattle.std.proofs.lemmas.List.Sums.{count_by_more_yes, count_by_more_no, sum_by-cons}
use Rattle.std.proofs.lemmas.List.Sorted.{searchable_from_sorted, IsPartitionedBy-leb, sum_by-IsPermutation}
use Rattle.std.proofs.lemmas.Map.Text.{is_eq-slice_cmp}
use Rattle.ghcn_files.specs.declared.station.StationId.{StationId}
use Rattle.ghcn_files.specs.Meaning.Ids.{same_id}
use Rattle.rank_scores.specs.declared.candidate.Candidate.{Candidate}
use Rattle.rank_papers.specs.Certificate.{Line, count_of}
use Rattle.rank_papers.specs.StationRows.{AreIdsInOrder, count_in, is_gap}

-- ---- how many pass a test that the first ones pass

module _ {X : Type 0} (q : X → Bool) (xs : List X) (k : ℕ) (d : X) (within : k ≤ length xs)
    (here : IsPartitionPoint (λ x. q x ≡ true) (λ x. q x ≡ false) xs k) where
  -- before the point each passes
  counted-before : (i : ℕ) → i ≤ k → count_by q (take i xs) ≡ i
  counted-before zero le = refl
  counted-before (suc i) le =
      subst (λ (n : ℕ). count_by q (take n xs) ≡ n) {x = i + 1} {y = suc i} (omega arith)
      (count_by_more_yes q xs i d (omega arith) (here.0 i d (omega arith) (omega arith))
      ∙ ap (λ (n : ℕ). n + 1) (counted-before i (omega arith)))

  -- after it none does
  counted-behind : (m : ℕ) → k + m ≤ length xs → count_by q (take (k + m) xs) ≡ k
  counted-behind zero le =
      subst (λ (n : ℕ). count_by q (take n xs) ≡ k) {x = k} {y = k + zero} (omega arith)
      (counted-before k (omega arith))
  counted-behind (suc m) le =
      subst (λ (n : ℕ). count_by q (take n xs) ≡ k) {x = k + m + 1} {y = k + suc m} (omega arith)
      (count_by_more_no q xs (k + m) d (omega arith) (here.1 (k + m) d (omega arith) (omega arith))
      ∙ counted-behind m (omega arith))

  -- so as many pass as come before the point
  pub counted-point : count_by q xs ≡ k
  counted-point =
      subst (λ (l : List X). count_by q l ≡ k) (take_all (k + (length xs - k)) xs (omega arith))
      (counted-behind (length xs - k) (omega arith))

-- ---- IDs in order

-- a comparison's result says that the first is less
less-index : (o : Ordering) → leb (ordering_index o) 0 ≡ is_lt o
less-index Less = refl
less-index Equal = refl
less-index Greater = refl

-- or at most
most-index : (o : Ordering) → leb (ordering_index o) 1 ≡ is_le o
most-index Less = refl
most-index Equal = refl
most-index Greater = refl

-- what is at most is less or the same
parts : (o : Ordering) → cond (is_le o) 1 0 ≡ cond (is_lt o) 1 0 + cond (is_eq o) 1 0
parts Less = refl
parts Equal = refl
parts Greater = refl

module _ (id : StationId) where
  -- an ID beside this one
  abbrev pub beside : StationId → Ordering
  beside i = slice_cmp nat_cmp i.0 id.0

  module _ (ids : List StationId) (up : AreIdsInOrder ids) where
    -- those before this ID come first
    pub less_first : IsPartitionedBy (λ i. is_lt (beside i)) ids
    less_first i j d le lt e =
        sym (less-index (beside (get_or ids i d)))
        ∙ IsPartitionedBy-leb (λ i. ordering_index (beside i)) ids 0
        (searchable_from_sorted nat_list_cmp_total (λ i. i.0) ids id.0 up) i j d le lt
        (less-index (beside (get_or ids j d)) ∙ e)

    -- and so do those that aren't after it
    pub most_first : IsPartitionedBy (λ i. is_le (beside i)) ids
    most_first i j d le lt e =
        sym (most-index (beside (get_or ids i d)))
        ∙ IsPartitionedBy-leb (λ i. ordering_index (beside i)) ids 1
        (searchable_from_sorted nat_list_cmp_total (λ i. i.0) ids id.0 up) i j d le lt
        (most-index (beside (get_or ids j d)) ∙ e)

  -- one ID that isn't after this one is before it or the same
  part : (i : StationId) → cond (is_le (beside i)) 1 0 ≡ cond (is_lt (beside i)) 1 0 + cond (same_id i id) 1 0
  part i =
      subst (λ (b : Bool). cond (is_le (beside i)) 1 0 ≡ cond (is_lt (beside i)) 1 0 + cond b 1 0)
      (is_eq-slice_cmp i.0 id.0) (parts (beside i))

  -- all that aren't after it are before it or the same
  pub split : (ids : List StationId) → count_by (λ i. is_le (beside i)) ids
      ≡ count_by (λ i. is_lt (beside i)) ids + count_by (λ i. same_id i id) ids
  split [] = refl
  split (i ∷ ids) = omega (
    arith,
    sum_by-cons (λ i. cond (is_le (beside i)) 1 0) i ids,
    sum_by-cons (λ i. cond (is_lt (beside i)) 1 0) i ids,
    sum_by-cons (λ i. cond (same_id i id) 1 0) i ids,
    part i,
    split ids,
  )

  -- so the same ones lie between the two points
  pub counted-between : (ids : List StationId) (b t : ℕ) → b ≤ length ids → t ≤ length ids
      → IsPartitionPoint (λ i. is_lt (beside i) ≡ true) (λ i. is_lt (beside i) ≡ false) ids b
      → IsPartitionPoint (λ i. is_le (beside i) ≡ true) (λ i. is_le (beside i) ≡ false) ids t
      → t ≡ b + count_by (λ i. same_id i id) ids
  counted-between ids b t low high before through =
      sym (counted-point (λ i. is_le (beside i)) ids t id high through)
      ∙ split ids
      ∙ ap (λ (n : ℕ). n + count_by (λ i. same_id i id) ids)
      (counted-point (λ i. is_lt (beside i)) ids b id low before)

-- ---- a place between two IDs

-- of two tests the second passes, if one does and the first doesn't
or_rest : (a b : Bool) → a ≡ false → (a || b) ≡ true → b ≡ true
or_rest true b never h = absurd cc
or_rest false b never h = h

-- what is less is at most
at_most : (o : Ordering) → is_lt o ≡ true → is_le o ≡ true
at_most Less e = refl
at_most Equal e = absurd cc
at_most Greater e = absurd cc

-- what is greater isn't at most
greater : (o : Ordering) → is_gt o ≡ true → is_le o ≡ false
greater Less e = absurd cc
greater Equal e = absurd cc
greater Greater e = refl

module _ (id : StationId) (ids : List StationId) (up : AreIdsInOrder ids) (place : ℕ) (within : place ≤ length ids)
    (lower : 0 < place → is_lt (beside id (get_or ids (place - 1) id)) ≡ true)
    (higher : place < length ids → is_le (beside id (get_or ids place id)) ≡ false) where
  -- those in front of the place are before the ID
  front : (k : ℕ) → k < place → is_lt (beside id (get_or ids k id)) ≡ true
  front k lt = less_first id ids up k (place - 1) id (omega (arith, lt)) (omega (arith, lt, within))
      (lower (omega (arith, lt)))

  -- those after it aren't
  back : (k : ℕ) → place ≤ k → k < length ids → is_le (beside id (get_or ids k id)) ≡ false
  back k le lt = false_from_ne_true _ (λ e. let no = higher (omega (arith, le, lt)) in
      let so = most_first id ids up place k id le lt e in absurd cc)

  -- so none of them is the same
  pub gap-counts : count_by (λ i. same_id i id) ids ≡ 0
  gap-counts =
      omega (
        arith,
        counted-between id ids place place within within (
          λ k d low lt. subst (λ x. is_lt (beside id x) ≡ true) (get_or_default ids k id d (omega (arith, lt, within)))
              (front k lt),
          λ k d low lt. subst (λ x. is_lt (beside id x) ≡ false) (get_or_default ids k id d lt)
              (false_from_ne_true _ (λ e. let so = at_most _ e in let no = back k low lt in absurd cc)),
        ) (
          λ k d low lt. subst (λ x. is_le (beside id x) ≡ true) (get_or_default ids k id d (omega (arith, lt, within)))
              (at_most _ (front k lt)),
          λ k d low lt. subst (λ x. is_le (beside id x) ≡ false) (get_or_default ids k id d lt) (back k low lt),
        ),
      )

module _ (id : StationId) (ids : List StationId) (p : StationId → Bool) where
  -- what a look at a place says is so of the ID there
  at_place : (b : Bool) (place : ℕ) → place < length ids → option_map_or p (slice_get ids place) b ≡ true
      → p (get_or ids place id) ≡ true
  at_place b place lt h = subst (λ (o : Option StationId). option_map_or p o b ≡ true)
      (slice_get-get_or ids place id lt) h

  -- a look that finds one is at a place inside the list
  is_inside : (place : ℕ) → option_map_or p (slice_get ids place) false ≡ true → place < length ids
  is_inside place h = elim (slice_get_cases ids place).1 [
    | inl here ↦ here.1
    | inr past ↦
        let no : false ≡ true = subst (λ (o : Option StationId). option_map_or p o false ≡ true) past.1 h in absurd cc
  ]

-- an ID that would come at a place among some in order, and is the same as neither neighbour, isn't among them
pub gap-none : (id : StationId) (ids : List StationId) → AreIdsInOrder ids → (place : ℕ) → is_gap ids id place ≡ true
    → count_by (λ i. same_id i id) ids ≡ 0
gap-none id ids up zero h =
    gap-counts id ids up zero (omega arith) (λ lt. absurd (omega (arith, lt)))
    (λ lt. greater _ (at_place id ids (λ i. is_gt (beside id i)) true zero lt (and_parts _ _ h).0))
gap-none id ids up (suc n) h =
    let low = or_rest (suc n == 0) _ (eqb-suc-zero n) (and_parts _ _ h).1 in
    let inside = is_inside id ids (λ i. is_lt (beside id i)) (suc n - 1) low in
    gap-counts id ids up (suc n) (omega (arith, inside))
    (λ lt. at_place id ids (λ i. is_lt (beside id i)) false (suc n - 1) inside low)
    (λ lt. greater _ (at_place id ids (λ i. is_gt (beside id i)) true (suc n) lt (and_parts _ _ h).0))

-- ---- the rows after IDs

-- IDs of rows, counted by a test
count-ids : (p : StationId → Bool) (rows : List Candidate)
    → count_by p (map (λ c. c.id) rows) ≡ count_by (λ c. p c.id) rows
count-ids p [] = refl
count-ids p (c ∷ rows) = omega (
  arith,
  sum_by-cons (λ i. cond (p i) 1 0) c.id (map (λ (x : Candidate). x.id) rows),
  sum_by-cons (λ (x : Candidate). cond (p x.id) 1 0) c rows,
  count-ids p rows,
)

-- the IDs of rows in another order count as the rows do
count-rows : (rows : List Candidate) (ids : List StationId) → IsPermutation (map (λ c. c.id) rows) ids → (e : Line)
    → count_in ids e ≡ count_of rows e
count-rows rows ids turned e =
    ap (λ (n : ℕ). cond e.skipped 0 n) (sum_by-IsPermutation (λ i. cond (same_id i e.id) 1 0) (map (λ c. c.id) rows) ids
    turned ∙ count-ids (λ i. same_id i e.id) rows)

-- so they do for all entries
pub counts-rows : (rows : List Candidate) (ids : List StationId) → IsPermutation (map (λ c. c.id) rows) ids
    → (es : List Line) → map (count_in ids) es ≡ map (count_of rows) es
counts-rows rows ids turned [] = refl
counts-rows rows ids turned (e ∷ es) =
    ap (λ (n : ℕ). n ∷ map (count_in ids) es) (count-rows rows ids turned e)
    ∙ ap (λ (ns : List ℕ). count_of rows e ∷ ns) (counts-rows rows ids turned es)
