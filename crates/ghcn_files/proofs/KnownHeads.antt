-- Lines that begin with the same columns have one head.
use Rattle.std.proofs.Common.{◌≡◌, ℕ, zero, suc, ◌+◌, ◌-◌, ◌≤◌, Bool, true, false, cond, List, [], ◌∷◌, length, take, drop}
use Rattle.std.proofs.Common.{Option, Some, None, Result, Ok, refl, sym, ap, ◌∙◌, arith}
use Rattle.std.specs.Prelude.{pos, unsigned_abs, nat_le}
use Rattle.std.proofs.lemmas.List.{drop-take, drop_all}
use Rattle.ghcn_fields.specs.Meaning.Bytes.{is_blank}
use Rattle.ghcn_fields.specs.Meaning.Lines.{columns}
use Rattle.ghcn_fields.specs.Numbers.{int_field}
use Rattle.ghcn_files.specs.declared.month.Head.{Head}
use Rattle.ghcn_files.specs.declared.fault.LineWhy.{LineWhy}
use Rattle.ghcn_files.specs.declared.fault.LineWhy.TheVariants.{Short, TooLong}
use Rattle.ghcn_files.specs.Ids.{is_id}
use Rattle.ghcn_files.specs.StationLines.{is_number_within, number_of}
use Rattle.ghcn_files.specs.Months.{unless, head_why, head_of}
use Rattle.ghcn_files.specs.Heads.{BeginsWith}
use Rattle.ghcn_files.proofs.ColumnSlices.{columns-slice}
use Rattle.ghcn_files.proofs.Months.{why_by, head_why-tested, unless_ok}

-- the first of the first
take_take : (m n : ℕ) (xs : List ℕ) → m ≤ n → take m (take n xs) ≡ take m xs
take_take zero n xs le = refl
take_take (suc m) zero xs le = absurd (omega (arith, le))
take_take (suc m) (suc n) [] le = refl
take_take (suc m) (suc n) (x ∷ xs) le = ap (λ (r : List ℕ). x ∷ r) (take_take m n xs (omega (arith, le)))

-- neighbours among the first seventeen
among_first : (k n : ℕ) (xs : List ℕ) → k + n ≤ 17 → take n (drop k xs) ≡ drop k (take (k + n) (take 17 xs))
among_first k n xs le = sym (drop-take k n xs) ∙ ap (drop k) (sym (take_take (k + n) 17 xs le))

-- columns among the first seventeen
same_columns : (from to k n : ℕ) (a b : List ℕ) → from ≡ k + 1 → to ≡ k + n → k + n ≤ 17 → 17 ≤ length a → 17 ≤ length b
    → take 17 a ≡ take 17 b → columns from to a ≡ columns from to b
same_columns from to k n a b first last le long_a long_b same =
    let count : k + n - k ≡ n = omega arith in
    columns-slice from to k (k + n) a first last (omega arith) (omega (arith, le, long_a))
    ∙ ap (λ (m : ℕ). take m (drop k a)) count
    ∙ among_first k n a le
    ∙ ap (λ (front : List ℕ). drop k (take (k + n) front)) same
    ∙ sym (among_first k n b le)
    ∙ sym (ap (λ (m : ℕ). take m (drop k b)) count)
    ∙ sym (columns-slice from to k (k + n) b first last (omega arith) (omega (arith, le, long_b)))

-- a head, unless a test fails, by the columns of the ID, the year and the month
head_by : List ℕ → List ℕ → List ℕ → Result Head LineWhy
head_by id year month =
    unless (why_by true true (is_id id) (is_number_within (pos 1) (pos 9999) (int_field year))
    (is_number_within (pos 1) (pos 12) (int_field month)) None)
    (record {
      id = record { 0 = id };
      year = unsigned_abs (number_of (int_field year));
      month = unsigned_abs (number_of (int_field month));
    })

-- the head of a line of all columns is that of these
said : (line : List ℕ) → 266 ≤ length line → is_blank (drop 269 line) ≡ true
    → unless (head_why line) (head_of line) ≡ head_by (columns 1 11 line) (columns 12 15 line) (columns 16 17 line)
unfolding head_by
said line long ends =
    ap (λ (o : Option LineWhy). unless o (head_of line))
    (head_why-tested (record { long = long; ends_is = ends; id_is = refl; year_is = refl; month_is = refl }))

-- two lines that begin with the same columns have one head
pub one_head : (front a b : List ℕ) → BeginsWith front a → BeginsWith front b
    → unless (head_why a) (head_of a) ≡ unless (head_why b) (head_of b)
one_head front a b is_a is_b =
    let same : take 17 a ≡ take 17 b = is_a.front ∙ sym is_b.front in
    let long_a : 17 ≤ length a = omega (arith, is_a.long) in
    let long_b : 17 ≤ length b = omega (arith, is_b.long) in
    said a is_a.long is_a.ends
    ∙ ap (λ (cs : List ℕ). head_by cs (columns 12 15 a) (columns 16 17 a))
    (same_columns 1 11 0 11 a b refl refl (omega arith) long_a long_b same)
    ∙ ap (λ (cs : List ℕ). head_by (columns 1 11 b) cs (columns 16 17 a))
    (same_columns 12 15 11 4 a b refl refl (omega arith) long_a long_b same)
    ∙ ap (λ (cs : List ℕ). head_by (columns 1 11 b) (columns 12 15 b) cs)
    (same_columns 16 17 15 2 a b refl refl (omega arith) long_a long_b same)
    ∙ sym (said b is_b.long is_b.ends)

-- a line that isn't too long ends with its columns
pub ends_there : (line : List ℕ) → length line ≤ 269 → is_blank (drop 269 line) ≡ true
ends_there line short = ap is_blank (drop_all 269 line short)

-- and so does a line whose head passes its tests
pub head_ends : (line : List ℕ) → head_why line ≡ None → is_blank (drop 269 line) ≡ true
head_ends line none = passed (nat_le 266 (length line)) (is_blank (drop 269 line)) _ none
  where
    passed : (long ends : Bool) (rest : Option LineWhy)
        → cond long (cond ends rest (Some TooLong)) (Some Short) ≡ None → ends ≡ true
    passed true true rest e = refl
    passed true false rest e = absurd cc
    passed false ends rest e = absurd cc

-- a head that is found is the line's, and no test failed
pub head_stands : (line : List ℕ) (head : Head) → unless (head_why line) (head_of line) ≡ Ok head
    → (head_why line ≡ None) × (head ≡ head_of line)
head_stands line head is = unless_ok (head_why line) (head_of line) head refl is
