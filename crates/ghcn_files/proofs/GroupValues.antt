-- The values of a line's days, by groups.
use Rattle.std.proofs.Common.{◌≡◌, ℕ, zero, suc, ◌+◌, ◌*◌, ◌-◌, ◌<◌, ◌≤◌, Bool, true, false, cond, List, length, take}
use Rattle.std.proofs.Common.{drop, ◌⊎◌}
use native.Mathlib.Numerals.{unary_clauses}
use Rattle.std.proofs.Common.{get_or, set, Option, Some, None, inl, inr, refl, sym, ap, ap₂, subst, ◌∙◌, arith, ℤ, pos}
use Rattle.std.specs.Prelude.{not, ◌==◌, ◌&&◌, neg_ℤ, if◌then◌else◌}
use Rattle.std.proofs.lemmas.Bool.{cases_lt}
use Rattle.std.proofs.lemmas.List.{get_or-set_same, get_or-set_other, length-set, take-take, drop-take, drop-drop}
use Rattle.std.proofs.lemmas.Simd.{get_or-chunk}
use Rattle.ghcn_fields.specs.Meaning.Bytes.{is_blank}
use Rattle.ghcn_fields.specs.Meaning.Lines.{columns}
use Rattle.ghcn_fields.specs.Numbers.{int_field, number_or}
use Rattle.ghcn_fields.specs.Groups.{AreNumbers}
use Rattle.ghcn_files.specs.declared.fault.LineWhy.{LineWhy}
use Rattle.ghcn_files.specs.StationLines.{is_bad}
use Rattle.ghcn_files.specs.Months.{is_flagged, value_field, days_why}
use Rattle.ghcn_files.specs.Rows.{value_or_missing}
use Rattle.ghcn_files.proofs.ColumnSlices.{columns-slice, one_column}
use Rattle.ghcn_files.proofs.Readings.{tests_from, all_tests}

-- a test that is passed, and those after it
passed : (bad : Bool) (more : Option LineWhy) (why : LineWhy) → cond (not bad) more (Some why) ≡ None
    → (bad ≡ false) × (more ≡ None)
passed true more why e = absurd cc
passed false more why e = (refl, e)

-- if all tests are passed, each value is a number or blank
all-fine : (line : List ℕ) (a n : ℕ) → tests_from line a n ≡ None → (j : ℕ) → a ≤ j → j < a + n
    → is_bad (value_field line j) ≡ false
unfolding tests_from
all-fine line a zero e j low high = absurd (omega (arith, low, high))
all-fine line a (suc n) e j low high =
    let parts = passed (is_bad (value_field line a)) (tests_from line (a + 1) n) _ e in
    elim (cases_lt a j) [
      | inl before ↦ all-fine line (a + 1) n parts.1 j (omega (arith, before)) (omega (arith, high))
      | inr here ↦
          let same : a ≡ j = omega (arith, here, low) in
          subst (λ (i : ℕ). is_bad (value_field line i) ≡ false) same parts.0
    ]

-- the same of the days from 0
pub each-fine : (line : List ℕ) → days_why line ≡ None → (j : ℕ) → j < 31 → is_bad (value_field line (j + 1)) ≡ false
each-fine line e j lt = all-fine line 1 31 (sym (all_tests line) ∙ e) (j + 1) (omega arith) (omega (arith, lt))

-- the group of a day, from 0
group : List ℕ → ℕ → List ℕ
group line j = drop (21 + 8 * j) line

-- four groups have those of four days
group_of : (line : List ℕ) (day k : ℕ) → k < 4
    → drop (8 * k) (take 32 (drop (21 + 8 * day) line)) ≡ take (32 - 8 * k) (drop (21 + 8 * (day + k)) line)
group_of line day k lt =
    let whole : 32 ≡ 8 * k + (32 - 8 * k) = omega (arith, lt) in
    let start : ℕ = 21 + 8 * day in
    ap (λ (n : ℕ). drop (8 * k) (take n (drop start line))) whole
    ∙ drop-take (8 * k) (32 - 8 * k) (drop start line)
    ∙ ap (take (32 - 8 * k)) (drop-drop (8 * k) start line ∙ ap (λ (n : ℕ). drop n line) (omega arith))

-- the first five columns of a day's group are those of its value
value_of : (line : List ℕ) (day k : ℕ) → length line ≡ 269 → k < 4 → day + k < 31
    → take 5 (drop (8 * k) (take 32 (drop (21 + 8 * day) line)))
    ≡ columns (14 + 8 * (day + k + 1)) (18 + 8 * (day + k + 1)) line
value_of line day k long lt within =
    let start : ℕ = 21 + 8 * (day + k) in
    let count : 5 ≡ start + 5 - start = omega arith in
    ap (take 5) (group_of line day k lt)
    ∙ take-take 5 (32 - 8 * k) (drop start line) (omega (arith, lt))
    ∙ ap (λ (n : ℕ). take n (drop start line)) count
    ∙ sym (columns-slice (14 + 8 * (day + k + 1)) (18 + 8 * (day + k + 1)) start (start + 5) line
    (omega arith) (omega arith) (omega arith) (omega (arith, long, within)))

-- the seventh is its quality flag
flag_of : (line : List ℕ) (day k : ℕ) → k < 4
    → (get_or (drop (8 * k) (take 32 (drop (21 + 8 * day) line))) 6 32 == 32) ≡ not (is_flagged line (day + k + 1))
flag_of line day k lt =
    let at : ℕ = 21 + 8 * (day + k) + 6 in
    ap (λ (bytes : List ℕ). get_or bytes 6 32 == 32) (group_of line day k lt)
    ∙ ap (λ (b : ℕ). b == 32) (get_or-chunk (21 + 8 * (day + k)) (32 - 8 * k) line 6 32 (omega (arith, lt)))
    ∙ twice (get_or line at 32 == 32)
    ∙ ap (λ (bytes : List ℕ). not (not (is_blank bytes)))
    (sym (one_column (20 + 8 * (day + k + 1)) at line (omega arith)))
  where
    twice : (t : Bool) → t ≡ not (not (t && true))
    twice true = refl
    twice false = refl

-- the numbers of four groups are the values of their days
pub group-value : (line : List ℕ) (day : ℕ) (found : List ℤ) → length line ≡ 269 → days_why line ≡ None
    → AreNumbers (neg_ℤ (pos 9999)) (take 32 (drop (21 + 8 * day) line)) found
    → (k : ℕ) → k < 4 → day + k < 31 → get_or found k (pos 0) ≡ value_or_missing line (day + k)
group-value line day found long fine are k lt within =
    let missing : ℤ = neg_ℤ (pos 9999) in
    let five = value_of line day k long lt within in
    are k lt (ap (λ (bytes : List ℕ). is_bad (int_field bytes)) five ∙ each-fine line fine (day + k) within)
    ∙ ap₂ (λ (t : Bool) (bytes : List ℕ). if t then number_or missing (int_field bytes) else missing)
    (flag_of line day k lt) five

-- some values are those of the days from one on up to another
pub record AreFrom (line : List ℕ) (day i : ℕ) (values : List ℤ) : Type 0 where
  pub many : length values ≡ 32
  pub so_far : (j : ℕ) → day ≤ j → j < i → get_or values j (pos 0) ≡ value_or_missing line j

-- with one more
one-more : (line : List ℕ) (day : ℕ) (values : List ℤ) (i m : ℕ) (v : ℤ) → m ≡ i + 1 → i < 32
    → v ≡ value_or_missing line i → AreFrom line day i values → AreFrom line day m (set values i v)
one-more line day values i m v e lt is first = record {
  many = length-set values i v ∙ first.many;
  so_far = λ j le less. elim (cases_lt j i) [
    | inl before ↦
        get_or-set_other values i j v (pos 0) (omega (arith, before)) ∙ first.so_far j le before
    | inr from ↦
        let here : i ≡ j = omega (arith, from, less, e) in
        subst (λ (k : ℕ). get_or (set values i v) k (pos 0) ≡ value_or_missing line k) here
        (get_or-set_same values i v (pos 0) (omega (arith, lt, first.many)) ∙ is)
  ];
}

-- four values from a place on
abbrev pub with_four : List ℤ → ℕ → (ℕ → ℤ) → List ℤ
with_four vs day number =
    set (set (set (set vs day (number 0)) (day + 1) (number 1)) (day + 2) (number 2)) (day + 3) (number 3)

-- those of four days are at their places
pub four-stand : (line : List ℕ) (vs : List ℤ) (day : ℕ) (number : ℕ → ℤ) → length vs ≡ 32 → day < 28
    → ((k : ℕ) → k < 4 → number k ≡ value_or_missing line (day + k))
    → (j : ℕ) → day ≤ j → j < day + 4 → get_or (with_four vs day number) j (pos 0) ≡ value_or_missing line j
four-stand line vs day number many lt is =
    let same : value_or_missing line (day + 0) ≡ value_or_missing line day = simp unary_clauses refl in
    let none : AreFrom line day day vs = record {
      many = many;
      so_far = λ j le less. absurd (omega (arith, le, less));
    } in
    let all : AreFrom line day (day + 4) (with_four vs day number) =
    one-more line day _ (day + 3) (day + 4) (number 3) (omega arith) (omega (arith, lt)) (is 3 (omega arith))
    (one-more line day _ (day + 2) (day + 3) (number 2) (omega arith) (omega (arith, lt)) (is 2 (omega arith))
    (one-more line day _ (day + 1) (day + 2) (number 1) (omega arith) (omega (arith, lt)) (is 1 (omega arith))
    (one-more line day vs day (day + 1) (number 0) (omega arith) (omega (arith, lt)) (is 0 (omega arith) ∙ same)
    none))) in
    all.so_far

-- what is elsewhere stays
pub others-stay : (vs : List ℤ) (day : ℕ) (number : ℕ → ℤ) (j : ℕ) → (j < day) ⊎ (day + 4 ≤ j)
    → get_or (with_four vs day number) j (pos 0) ≡ get_or vs j (pos 0)
others-stay vs day number j (inl before) =
    get_or-set_other _ (day + 3) j (number 3) (pos 0) (omega (arith, before))
    ∙ get_or-set_other _ (day + 2) j (number 2) (pos 0) (omega (arith, before))
    ∙ get_or-set_other _ (day + 1) j (number 1) (pos 0) (omega (arith, before))
    ∙ get_or-set_other vs day j (number 0) (pos 0) (omega (arith, before))
others-stay vs day number j (inr behind) =
    get_or-set_other _ (day + 3) j (number 3) (pos 0) (omega (arith, behind))
    ∙ get_or-set_other _ (day + 2) j (number 2) (pos 0) (omega (arith, behind))
    ∙ get_or-set_other _ (day + 1) j (number 1) (pos 0) (omega (arith, behind))
    ∙ get_or-set_other vs day j (number 0) (pos 0) (omega (arith, behind))

-- what is true of each of four is true of all
pub each-of-four : (P : ℕ → Type 0) → P 0 → P 1 → P 2 → P 3 → (k : ℕ) → k < 4 → P k
each-of-four P a b c d zero lt = a
each-of-four P a b c d (suc zero) lt = b
each-of-four P a b c d (suc (suc zero)) lt = c
each-of-four P a b c d (suc (suc (suc zero))) lt = d
each-of-four P a b c d (suc (suc (suc (suc k)))) lt = absurd (omega (arith, lt))
