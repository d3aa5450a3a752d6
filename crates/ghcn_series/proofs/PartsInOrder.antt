-- Parts added again in the order of their numbers: they have the same days, which then rise.
use Rattle.ghcn_series.proofs.Cited.{◌≡◌, ℕ, ◌+◌, ◌-◌, ◌<◌, ◌^◌, false, List, [], ◌∷◌, length, get_or, drop, map}
use Rattle.ghcn_series.proofs.Cited.{Option, Some, None, IsSome, ◌⊎◌, inl, inr, refl, sym, ap, subst, ◌∙◌, arith, ℤ}
use Rattle.ghcn_series.proofs.Cited.{pos, ◌+ℤ◌, w32, ◌≤ℤ◌, ◌==◌, trailing_zeros, range_with_len, IsPermutation}
use Rattle.ghcn_series.proofs.Cited.{option_or, int_cmp, nat_cmp, is_lt, Ordering, Less, Equal, false≢true, int_ranked}
use Rattle.ghcn_series.proofs.Cited.{ints, get_or-map, length-map, drop_all, All-permutation, sum_by-cons}
use Rattle.ghcn_series.proofs.Cited.{bit_at-trailing_zeros, map-map, block_of, value_on, Block, block_start, if_so}
use Rattle.ghcn_series.proofs.Cited.{block_days, days_of_blocks, blocks_of, IsPacked, AreBlocks, AreRising, AreDisjoint}
use Rattle.ghcn_series.proofs.Cited.{AreParts, AreEmpty, KeepsOrder, JoinsPart, IsNewPart, days_held}
use Rattle.std.specs.List.{sum_by}
use Rattle.std.specs.List.Sorted.{IsSorted}
use Rattle.std.specs.Ordering.{ordering_then}
use Rattle.std.specs.declared.cmp.Ordering.TheVariants.{Greater}
use Rattle.std.proofs.lemmas.List.FromFn.{fill_by_all, length-map-range_with_len, get_or-map-range_with_len}
use Rattle.std.proofs.lemmas.List.Sorted.{IsPermutation-map, sum_by-IsPermutation}
use Rattle.std.proofs.lemmas.List.Sums.{sum_by-drop_more}
use borrow.Author.Differences.{up, down}
use Rattle.ghcn_series.specs.Parts.{AreOrdered}
use Rattle.ghcn_series.specs.Parts.{HaveSameDays, AreByNumber, last_number, with_places}
use Rattle.ghcn_series.specs.declared.parts.Parts.{Parts}
use Rattle.ghcn_series.proofs.Lookups.{no_block, block-value, block-of_place, value_on-append, blocks-at, blocks-length}
use Rattle.ghcn_series.proofs.JoinedDays.{none-at}
use Rattle.ghcn_series.proofs.PartsAdded.{packed-at}
use Rattle.ghcn_series.proofs.RowParts.{own-block}
use Rattle.ghcn_series.proofs.RisingDays.{columns-rise}

-- the days of parts in order rise
pub ordered-rise : (p : Parts) → AreOrdered p → AreRising (days_held p)
ordered-rise p is = columns-rise p.numbers.items p.words.items p.values.items
    (record { blocks = is.parts.blocks; rise = is.parts.rise is.in_order })

-- of two of which one is there, one is
either-some : (a b : Option ℤ) → IsSome (option_or a b) → IsSome a ⊎ IsSome b
either-some None b some = inr some
either-some (Some x) b some = inl some

-- ---- what values weigh determines them

-- what a value weighs, and 0 if there is none
abbrev pub weight : (ℤ → ℕ) → Option ℤ → ℕ
weight g None = 0
weight g (Some v) = g v

-- every value weighs 1
abbrev each_one : ℤ → ℕ
each_one v = 1

-- two values of which one is absent weigh as much as the one
weight-or : (g : ℤ → ℕ) (a b : Option ℤ) → (IsSome b → a ≡ None) → weight g (option_or a b) ≡ weight g a + weight g b
weight-or g None b apart = omega arith
weight-or g (Some v) None apart = omega arith
weight-or g (Some v) (Some w) apart = let none = apart refl in absurd cc

-- values that weigh the same however they are weighed are the same
same-from_weights : (a b : Option ℤ) → ((g : ℤ → ℕ) → weight g a ≡ weight g b) → a ≡ b
same-from_weights None None same = refl
same-from_weights (Some v) (Some w) same = let is : v ≡ w = omega (arith, ints, same up, same down) in cc
same-from_weights _ _ same = absurd (omega (arith, same each_one))

-- beside a value that is there another one is absent, if both weigh no more than one
none-from_weights : (a b c : Option ℤ) (rest : ℕ) → weight each_one a + (weight each_one b + rest) ≡ weight each_one c
    → IsSome b → a ≡ None
none-from_weights None b c rest e some = refl
none-from_weights (Some v) None c rest e some = absurd cc
none-from_weights (Some v) (Some w) None rest e some = absurd (omega (arith, e))
none-from_weights (Some v) (Some w) (Some x) rest e some = absurd (omega (arith, e))

-- what the values of one day in some blocks weigh together
abbrev pub weight_on : (ℤ → ℕ) → ℤ → List Block → ℕ
weight_on g d bs = sum_by (λ b. weight g (value_on (block_days b) d)) bs

-- in blocks that are apart they weigh what the day's value among all days does
weight-apart : (g : ℤ → ℕ) (d : ℤ) (bs : List Block) → AreDisjoint bs
    → weight_on g d bs ≡ weight g (value_on (days_of_blocks bs) d)
weight-apart g d [] apart = refl
weight-apart g d (b ∷ bs) apart = simp (sum_by-cons, weight-apart g d bs apart.1, value_on-append)
    (sym (weight-or g (value_on (block_days b) d) (value_on (days_of_blocks bs) d) (apart.0 d)))

-- ---- the parts in the order of their numbers

-- the part of a number with its place
abbrev pub part_at : List ℕ → List (List ℤ) → ℤ × ℕ → Block
part_at ws vs p = (p.0, (get_or ws p.1 0, get_or vs p.1 []))

-- the parts in an order
abbrev pub parts_in : Parts → List (ℤ × ℕ) → List Block
parts_in p order = map (part_at p.words.items p.values.items) order

-- the part at a place of an order
abbrev pub part_in : Parts → List (ℤ × ℕ) → ℕ → Block
part_in p order k = part_at p.words.items p.values.items (get_or order k (pos 0, 0))

-- a number is at its place
pub record StandsAt (numbers : List ℤ) (at : ℤ × ℕ) : Type 0 where
  pub in_range : at.1 < length numbers
  pub is : at.0 ≡ get_or numbers at.1 (pos 0)

-- of two numbers that are compared first and aren't less, the second is no greater
not-less : (a b : ℤ) (o : Ordering) → is_lt (ordering_then (int_cmp a b) o) ≡ false → b ≤ℤ a
not-less a b o e = elim (int_cmp a b) as (λ r. r ≡ int_cmp a b → is_lt (ordering_then r o) ≡ false → b ≤ℤ a) [
  | Less ↦ λ is no. absurd cc
  | Equal ↦ λ is no. let same = int_ranked a b Equal is in omega (arith, ints)
  | Greater ↦ λ is no. let less = int_ranked a b Greater is in omega (arith, ints)
] refl e

-- sorted numbers with their places are in order
pub sorted-by_number : (ns : List ℤ) (items order : List (ℤ × ℕ)) → items ≡ with_places ns → IsPermutation items order
    → IsSorted (λ a b. ordering_then (int_cmp a.0 b.0) (nat_cmp a.1 b.1)) order → AreByNumber ns order
sorted-by_number ns items order is all sorted = record {
  all = subst (λ (l : List (ℤ × ℕ)). IsPermutation l order) is all;
  rise = λ k less. not-less _ _ _ (sorted k (pos 0, 0) (omega arith) less);
}

module _ (ns : List ℤ) (order : List (ℤ × ℕ)) (is : AreByNumber ns order) where
  -- each number of the order is at its place
  pub stands : (k : ℕ) → k < length order → StandsAt ns (get_or order k (pos 0, 0))
  stands k lt = All-permutation (StandsAt ns) (with_places ns) order is.all (λ i at in_range.
      let h : ℕ → ℤ × ℕ = λ j. (get_or ns j (pos 0), j) in
      let less : i < length ns = omega (arith, in_range, length-map-range_with_len h 0 (length ns)) in
      subst (StandsAt ns) (sym (get_or-map-range_with_len h 0 (length ns) i i at less (omega arith)))
      (record { in_range = less; is = refl })) k (pos 0, 0) lt

  -- the blocks in this order are the same
  moved : (ws : List ℕ) (vs : List (List ℤ)) → AreBlocks ns ws vs
      → IsPermutation (blocks_of ns ws vs) (map (part_at ws vs) order)
  moved ws vs bs =
      let all : blocks_of ns ws vs ≡ map (part_at ws vs) (with_places ns) =
      fill_by_all (λ k. (get_or ns k (pos 0), (get_or ws k 0, get_or vs k []))) (blocks_of ns ws vs) (length ns)
      no_block (blocks-length ns ws vs bs.enough_words bs.enough_values)
      (λ k lt. blocks-at ns ws vs k bs.enough_words bs.enough_values lt)
      ∙ sym (map-map (part_at ws vs) (λ k. (get_or ns k (pos 0), k)) (range_with_len 0 (length ns))) in
      rw all (IsPermutation-map (part_at ws vs) (with_places ns) order is.all)

-- the first parts of an order are added: with the others they have all days, and none of a later block than the next
pub record AreAdded (old : Parts) (order : List (ℤ × ℕ)) (k : ℕ) (new : Parts) : Type 0 where
  pub ordered : AreOrdered new
  pub held : (g : ℤ → ℕ) (d : ℤ) → weight g (value_on (days_held new) d) + weight_on g d (drop k (parts_in old order))
      ≡ weight g (value_on (days_held old) d)
  pub below : k < length order → (d : ℤ) → IsSome (value_on (days_held new) d)
      → block_of d ≤ℤ (get_or order k (pos 0, 0)).0

-- a block with a bit set has a day
some-day : (b : Block) → 0 < b.1.0 → b.1.0 < 2 ^ 32 → (d : ℤ) × (block_of d ≡ b.0) × IsSome (value_on (block_days b) d)
some-day b some fits =
    let lowest = bit_at-trailing_zeros w32 b.1.0 some fits in
    let j : ℕ = trailing_zeros w32 b.1.0 in let v : ℤ = get_or b.1.1 j (pos 0) in
    let has : value_on (block_days b) (block_start b.0 +ℤ pos j) ≡ Some v = block-value b j lowest.0
    ∙ ap (λ (k : ℕ). if_so (k == 1) v) lowest.1 in
    (block_start b.0 +ℤ pos j, block-of_place b.0 j lowest.0, subst IsSome (sym has) refl)

-- if no day is in a later block, the last number is no greater
last-le : (p : Parts) (n : ℤ) → AreParts p → ((d : ℤ) → IsSome (value_on (days_held p) d) → block_of d ≤ℤ n)
    → 0 < length p.numbers.items → last_number p ≤ℤ n
last-le p n is below some =
    let ns : List ℤ = p.numbers.items in let ws : List ℕ = p.words.items in
    let vs : List (List ℤ) = p.values.items in let i : ℕ = length ns - 1 in
    let lt : i < length ns = omega arith in
    let packed = packed-at ns ws vs is.blocks i lt in
    let day = some-day (get_or ns i (pos 0), (get_or ws i 0, get_or vs i [])) packed.present packed.fits in
    elim (value_on (days_held p) day.0) as (λ o. value_on (days_held p) day.0 ≡ o → last_number p ≤ℤ n) [
      | Some v ↦ λ e. subst (λ (z : ℤ). z ≤ℤ n) day.1 (below day.0 (subst IsSome (sym e) refl))
      | None ↦ λ e. absurd (false≢true (subst IsSome
          (none-at ns ws vs i day.0 is.blocks.enough_words is.blocks.enough_values lt e) day.2))
    ] refl

module _ (old : Parts) (order : List (ℤ × ℕ)) (is : AreParts old) (by : AreByNumber old.numbers.items order) where
  -- nothing is added yet
  pub added-none : (new : Parts) → AreEmpty new → AreAdded old order 0 new
  added-none new none = record {
    ordered = none.order;
    held = λ g d.
        let all : weight_on g d (parts_in old order) ≡ weight g (value_on (days_held old) d) =
        sum_by-IsPermutation (λ (b : Block). weight g (value_on (block_days b) d)) _ (parts_in old order)
        (moved old.numbers.items order by old.words.items old.values.items is.blocks) ∙ weight-apart g d _ is.apart in
        rw none.none (omega (arith, all));
    below = λ lt d some. let no = rw none.none at some in absurd cc;
  }

  module _ (k : ℕ) (new : Parts) (lt : k < length order) (added : AreAdded old order k new) where
    -- the next part
    abbrev next : Block
    next = part_in old order k

    -- it and those after it
    next-weight : (g : ℤ → ℕ) (d : ℤ) → weight_on g d (drop k (parts_in old order))
        ≡ weight g (value_on (block_days next) d) + weight_on g d (drop (k + 1) (parts_in old order))
    next-weight g d =
        let f : Block → ℕ = λ b. weight g (value_on (block_days b) d) in let ps : List Block = parts_in old order in
        let at : get_or ps k no_block ≡ next =
        get_or-map (part_at old.words.items old.values.items) order k (pos 0, 0) no_block lt in
        let long : length ps ≡ length order = length-map order (part_at old.words.items old.values.items) in
        sum_by-drop_more f ps k no_block (omega (arith, long)) ∙ ap (λ (b : Block). f b + sum_by f (drop (k + 1) ps)) at

    -- it is as it may be
    pub next-packed : IsPacked next
    next-packed =
        let at = stands old.numbers.items order by k lt in
        subst (λ (n : ℤ). IsPacked (n, next.1)) (sym at.is)
        (packed-at _ _ _ is.blocks (get_or order k (pos 0, 0)).1 at.in_range)

    -- and its days are new
    pub next-new : IsNewPart new next
    next-new d some =
        none-from_weights (value_on (days_held new) d) (value_on (block_days next) d) (value_on (days_held old) d)
        (weight_on each_one d (drop (k + 1) (parts_in old order)))
        (omega (arith, added.held each_one d, next-weight each_one d)) some

    -- if it is added too, one part more is
    pub added-more : (more : Parts) → AreParts more → JoinsPart new next more → KeepsOrder new next.0 more
        → AreAdded old order (k + 1) more
    added-more more parts joins keeps = record {
      ordered = record {
        parts = parts;
        in_order = keeps added.ordered.in_order (last-le new next.0 added.ordered.parts (added.below lt));
      };
      held = λ g d.
          let both : weight g (value_on (days_held more) d)
          ≡ weight g (value_on (days_held new) d) + weight g (value_on (block_days next) d) = ap (weight g) (joins d)
          ∙ weight-or g (value_on (days_held new) d) (value_on (block_days next) d) (next-new d) in
          omega (arith, both, added.held g d, next-weight g d);
      below = λ less d some.
          let rise = by.rise k less in
          elim (either-some (value_on (days_held new) d) (value_on (block_days next) d) (subst IsSome (joins d) some)) [
            | inl there ↦ let le = added.below lt d there in omega (arith, ints, le, rise)
            | inr own ↦ subst (λ (z : ℤ). z ≤ℤ (get_or order (k + 1) (pos 0, 0)).0) (own-block next d own) rise
          ];
    }

  -- if all are added, the days are the same
  pub added-all : (k : ℕ) (new : Parts) → length order ≡ k → AreAdded old order k new → HaveSameDays old new
  added-all k new all added d = same-from_weights (value_on (days_held new) d) (value_on (days_held old) d) (λ g.
      let long : length (parts_in old order) ≡ length order =
      length-map order (part_at old.words.items old.values.items) in
      let same = rw (drop_all k (parts_in old order) (omega (arith, long))) at (added.held g d) in omega (arith, same))
