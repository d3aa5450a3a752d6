-- The floor that is left if every number drawn was raised as a score.
use Rattle.std.proofs.Common.{◌≡◌, ℕ, ◌+◌, ◌-◌, ◌<◌, List, [], ◌∷◌, ◌++◌, length, map, ℤ, pos, negsuc, ◌≤ℤ◌, Option}
use Rattle.std.proofs.Common.{Some, None, All, Contains, refl, sym, ap, ap₂, subst, ⊎_elim, ◌∙◌, arith, length-append}
use Rattle.std.proofs.lemmas.Int.{ints}
use Rattle.std.proofs.lemmas.List.Elements.{All-nil, All-cons, All-head, All-tail, All-weaker, All-contains}
use Rattle.ghcn_fields.specs.Counting.{HasEachBelow}
use Rattle.ghcn_fields.specs.Floor.{IsFloorOf}
use Rattle.ghcn_fields.proofs.CountingLaws.{all_below, has_each}
use Rattle.rank_board.specs.declared.board.Board.{Board}
use Rattle.rank_board.specs.declared.board.Closed.{Closed}
use Rattle.rank_board.specs.declared.seat.Seat.{Seat}
use Rattle.rank_board.specs.Seats.{claims_of, raised_of, rights_of, IsWhole}
use Rattle.rank_board.specs.Calls.{OpensBoard, Splits, Joins, AccountsForAll}

-- what holds of all scores holds of each number whose score is among them
All-map : (P : ℤ → Type 0) (xs : List ℕ) → All P (map pos xs) → All (λ x. P (pos x)) xs
All-map P [] all = All-nil (λ x. P (pos x))
All-map P (x ∷ xs) all =
    All-cons (λ y. P (pos y)) x xs (All-head P (pos x) (map pos xs) all)
    (All-map P xs (All-tail P (pos x) (map pos xs) all))

-- and the other way round
map-All : (P : ℤ → Type 0) (xs : List ℕ) → All (λ x. P (pos x)) xs → All P (map pos xs)
map-All P [] all = All-nil P
map-All P (x ∷ xs) all =
    All-cons P (pos x) (map pos xs) (All-head (λ y. P (pos y)) x xs all)
    (map-All P xs (All-tail (λ y. P (pos y)) x xs all))

-- the scores of two lists of numbers, one after the other
map-append : (xs ys : List ℕ) → map pos xs ++ map pos ys ≡ map pos (xs ++ ys)
map-append [] ys = refl
map-append (x ∷ xs) ys = ap (λ (l : List ℤ). pos x ∷ l) (map-append xs ys)

module _ (next last : ℕ) (claims : List ℕ) (some_claim : next ≡ last + 1) (each : HasEachBelow next claims) where
  -- the last number was drawn
  last_drawn : Contains claims last
  last_drawn = has_each next claims each last (omega arith)

  -- no number past the last was drawn
  none_above : All (λ s. s ≤ℤ pos last) (map pos claims)
  none_above =
      map-All (λ s. s ≤ℤ pos last) claims
      (All-weaker (λ x. x < next) (λ x. pos x ≤ℤ pos last) (λ x under. omega (arith, ints)) claims
      (all_below next claims each))

  -- the floor is the last number drawn
  floor_at_last : (floor : Option ℤ) → IsFloorOf None (map pos claims) floor → floor ≡ Some (pos last)
  floor_at_last None k = absurd (All-contains (λ x. ⊥) claims last (All-map (λ s. ⊥) claims k.raised_below) last_drawn)
  floor_at_last (Some f) k =
      let up : pos last ≤ℤ f = All-contains (λ x. pos x ≤ℤ f) claims last
      (All-map (λ s. s ≤ℤ f) claims k.raised_below) last_drawn in
      let down : f ≤ℤ pos last = ⊎_elim (λ e. absurd (none_is_some f e))
      (λ there. All-contains (λ s. s ≤ℤ pos last) (map pos claims) f none_above there) k.one_of_them in
      ap Some (same_score f up down)
    where
      none_is_some : (s : ℤ) → None ≡ Some s → ⊥
      none_is_some s e = grind arith

      same_score : (s : ℤ) → pos last ≤ℤ s → s ≤ℤ pos last → s ≡ pos last
      same_score (pos n) a b = omega (arith, ints)
      same_score (negsuc n) a b = omega (arith, ints)

-- each right of the seat was spent on a number, and each number that it claimed it raised
abbrev pub DrewAll : Seat → Seat → Type 0
DrewAll before after =
    (rights_of after ≡ 0) × (length (claims_of after) ≡ length (claims_of before) + rights_of before)
    × (raised_of after ≡ map pos (claims_of after))

module _ (rights part : ℕ) (board : Board) (start left right one two seat : Seat)
    (o : OpensBoard rights None board start)
    (s : Splits start part left right)
    (a : DrewAll left one) (b : DrewAll right two) (j : Joins one two seat) where
  -- all rights were spent
  all_claims : length (claims_of seat) ≡ rights
  all_claims = omega (
    arith,
    ap length j.claims,
    length-append (claims_of one) (claims_of two),
    a.1,
    b.1,
    ap length s.claims,
    ap length s.new_claims,
    ap length o.claims,
    s.rights_kept,
    s.rights_given,
    o.rights_given,
  )

  -- so all has come back to the seat
  whole : IsWhole board seat
  whole = omega (arith, all_claims, j.all_rights, a.0, b.0, o.all_rights)

  -- and each number that was claimed was raised
  all_raised : raised_of seat ≡ map pos (claims_of seat)
  all_raised =
      j.raised ∙ ap₂ (λ xs ys. xs ++ ys) a.2 b.2 ∙ map-append (claims_of one) (claims_of two)
      ∙ ap (λ xs. map pos xs) (sym j.claims)

  -- two seats that drew all rights of a board without a guess leave the last number as its floor
  pub floor_of_two : (closed : Closed) → 0 < rights → (IsWhole board seat → AccountsForAll board seat closed)
      → closed.floor ≡ Some (pos (rights - 1))
  floor_of_two closed some_rights close = let ends = close whole in
      floor_at_last closed.next (rights - 1) (claims_of seat)
      (omega (arith, ends.count, all_claims)) ends.once closed.floor
      (subst (λ (p : Option ℤ × List ℤ). IsFloorOf p.0 p.1 closed.floor)
      (λ i. (o.first_floor i, all_raised i)) ends.floor)
