-- The first k of rows that were read, and the floors under them.
use Rattle.rank_merge.proofs.Cited.{◌≡◌, ℕ, ◌+◌, ◌-◌, ◌≤◌, ◌<◌, true, List, [], ◌∷◌, ◌++◌, length, get_or, take, drop}
use Rattle.rank_merge.proofs.Cited.{map, Option, None, Some, refl, sym, ap, ◌∙◌, subst, arith, append_assoc, slice_get}
use Rattle.rank_merge.proofs.Cited.{AllByRecursion, option_map, take-append-drop, length-take, length-map, map-append}
use Rattle.rank_merge.proofs.Cited.{drop_more, length_permutation, Candidate, comes_first, Row, Named, named_in}
use Rattle.rank_merge.proofs.Cited.{IsFloor, IsCutBehind, IsCut, first_rows, rows_in_order}
use Rattle.std.proofs.lemmas.Option.{slice_get-map}
use Rattle.ghcn_files.proofs.Ordered as ordered
use Rattle.rank_merge.proofs.Orders.{named_cmp, named_total}
use Rattle.rank_merge.proofs.StableSorts.{InTurn}
use Rattle.rank_merge.proofs.FirstRows.{ahead-append, without_behind, all_ahead, firsts_turn}

-- ---- floors

-- what was removed after a floor isn't one of the first k, and the floor stays one
cut_away : (k : ℕ) (floor : Option Candidate) (xs all kept : List Named) → IsFloor k xs floor → IsCut floor all kept
    → (first_rows k (xs ++ kept) ≡ first_rows k (xs ++ all)) × IsFloor k (xs ++ kept) floor
cut_away k None xs all kept h cut = (ap (λ (l : List Named). first_rows k (xs ++ l)) cut, tt)
cut_away k (Some f) xs all kept h cut =
    let still : IsFloor k (xs ++ kept) (Some f) =
    omega (arith, h, ahead-append named_cmp named_total (f, []) xs kept) in (
      sym (without_behind named_cmp named_total k (f, []) (xs ++ kept) cut.dropped still cut.behind)
          ∙ ap (first_rows k) (append_assoc xs kept cut.dropped ∙ ap (λ (l : List Named). xs ++ l) (sym cut.parts)),
      still,
    )

-- ---- rows that were read

-- rows up to a place are cut after a floor that comes before each from there on
pub cut_off : (f : Candidate) (rows kept : List Row) (n : ℕ)
    → AllByRecursion (λ r. comes_first f r.candidate ≡ true) (drop n rows) → kept ≡ take n rows
    → IsCutBehind f (map named_in rows) (map named_in kept)
cut_off f rows kept n h e = record {
  dropped = map named_in (drop n rows);
  parts = ap (map named_in) (sym (take-append-drop n rows) ∙ ap (λ (l : List Row). l ++ drop n rows) (sym e))
      ∙ map-append named_in kept (drop n rows);
  behind = ordered.each-map named_in (λ r. comes_first f r.0 ≡ true) (drop n rows) h;
}

-- what holds from a place on and of the one in front of it
pub one_in_front : (P : Row → Type 0) (rows : List Row) (n : ℕ) (row : Row) → 0 < n → n ≤ length rows
    → row ≡ get_or rows (n - 1) row → P row → AllByRecursion P (drop n rows)
    → (n - 1 ≤ length rows) × AllByRecursion P (drop (n - 1) rows)
one_in_front P rows n row some below at h all =
    let behind : n - 1 + 1 ≡ n = omega (arith, some) in
    let split : drop (n - 1) rows ≡ row ∷ drop n rows =
    drop_more rows (n - 1) row (omega (arith, some, below)) ∙ ap (λ (r : Row). r ∷ drop (n - 1 + 1) rows) (sym at)
    ∙ ap (λ (m : ℕ). row ∷ drop m rows) behind in
    (omega (arith, below), subst (AllByRecursion P) (sym split) (h, all))

-- rows with those of one part more, without what was cut off
pub gathered_rows : (k : ℕ) (floor : Option Candidate) (rows all kept new : List Row)
    → IsFloor k (map named_in rows) floor → IsCut floor (map named_in all) (map named_in kept) → new ≡ rows ++ kept
    → (first_rows k (map named_in new) ≡ first_rows k (map named_in rows ++ map named_in all))
    × IsFloor k (map named_in new) floor
gathered_rows k floor rows all kept new h cut e =
    subst (λ (l : List Named). (first_rows k l ≡ first_rows k (map named_in rows ++ map named_in all))
    × IsFloor k l floor) (sym (ap (map named_in) e ∙ map-append named_in rows kept))
    (cut_away k floor (map named_in rows) (map named_in all) (map named_in kept) h cut)

-- the candidate of the last of rows that were kept is a floor
pub kept_floor : (k : ℕ) (rows new : List Row) (floor : Option Candidate) → k ≤ length rows
    → map named_in new ≡ first_rows k (map named_in rows)
    → floor ≡ option_map (λ (r : Row). r.candidate) (slice_get new (length new - 1))
    → IsFloor k (map named_in new) floor
kept_floor k rows new floor many e last = by (slice_get new (length new - 1)) refl last
  where
    by : (o : Option Row) → slice_get new (length new - 1) ≡ o → floor ≡ option_map (λ (r : Row). r.candidate) o
        → IsFloor k (map named_in new) floor
    by None at is = rw is tt
    by (Some row) at is =
        let turn = subst (InTurn named_cmp named_total) (sym e)
        (firsts_turn named_cmp named_total k (map named_in rows)) in
        let there = slice_get-map named_in new (length new - 1) ∙ ap (option_map named_in) at in
        let few : length (map named_in new) ≤ length new - 1 + 1 = omega (arith, length-map new named_in) in
        rw is (omega (
          arith,
          all_ahead named_cmp named_total (map named_in new) (length new - 1) (named_in row) turn few there,
          ap (λ (l : List Named). length l) e,
          length-take k (rows_in_order (map named_in rows)),
          length_permutation (map named_in rows) (rows_in_order (map named_in rows))
              (ordered.sorted-permutation (λ (a b : Named). comes_first a.0 b.0) (map named_in rows)),
          length-map rows named_in,
          many,
        ))
