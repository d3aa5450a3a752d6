-- The quality flags of a line, four days at a time.
use Rattle.std.proofs.Common.{◌≡◌, ℕ, zero, suc, ◌+◌, ◌*◌, ◌-◌, ◌%◌, ◌<◌, ◌≤◌, false, List, [], ◌∷◌}
use Rattle.std.proofs.Common.{length, take, drop, get_or, inl, inr, sym, ap, ap₂, subst, ◌∙◌, arith, eqb}
use Rattle.std.specs.Prelude.{not, bit_or, replicate}
use Rattle.std.specs.Simd.Lanes.{zip2}
use Rattle.std.proofs.lemmas.Bool.{cases_lt}
use Rattle.std.proofs.lemmas.Bool.Decides.{nat_tests}
use Rattle.std.proofs.lemmas.Grind.{get_or_default_zero}
use Rattle.std.proofs.lemmas.List.{take-take, get_or-replicate}
use Rattle.std.proofs.lemmas.Nat.{le_or_l, le_or_r}
use Rattle.std.proofs.lemmas.Simd.{get_or-zip2, get_or-chunk, length-chunk, length-zip2}
use Rattle.ghcn_fields.specs.Meaning.Bytes.{is_blank}
use Rattle.ghcn_files.specs.Months.{is_flagged}
use Rattle.ghcn_files.specs.Flags.{HasNoFlag}
use Rattle.ghcn_files.proofs.ColumnSlices.{one_column}

-- the lanes of four days' quality flags are 0
pub record AreZero (others : List ℕ) : Type 0 where
  pub zeros : (k : ℕ) → k < 4 → get_or others (8 * k + 6) 0 ≡ 0

-- a byte less another
abbrev pub less : ℕ → ℕ → ℕ
less a b = (a + (256 - b)) % 256

-- the columns of four days from one on, less blanks
abbrev pub group_less : List ℕ → List ℕ
group_less group = zip2 less (take 32 group) (replicate 32 32)

-- these are the groups of four days of a line, from one on
pub record AreGroups (line group : List ℕ) (day : ℕ) : Type 0 where
  pub long : length line ≡ 269
  pub bytes : (i : ℕ) → get_or line i 0 < 256
  pub within : day < 28
  pub same : group ≡ take 32 (drop (21 + 8 * day) line)

-- if four numbers have no bit, each has none
none_of : (a b c d : ℕ) → not (eqb (bit_or (bit_or (bit_or a b) c) d) 0) ≡ false
    → (a ≡ 0) × (b ≡ 0) × (c ≡ 0) × (d ≡ 0)
none_of a b c d none =
    let all : bit_or (bit_or (bit_or a b) c) d ≡ 0 = grind (arith, nat_tests, none) in
    let three = le_or_l (bit_or (bit_or a b) c) d in
    let two = le_or_l (bit_or a b) c in (
      omega (arith, all, three, two, le_or_l a b),
      omega (arith, all, three, two, le_or_r a b),
      omega (arith, all, three, le_or_r (bit_or a b) c),
      omega (arith, all, le_or_r (bit_or (bit_or a b) c) d),
    )

-- then the lanes of the flags are 0
pub are-zero : (others : List ℕ) → not (eqb (bit_or (bit_or (bit_or (get_or others 6 0) (get_or others 14 0))
    (get_or others 22 0)) (get_or others 30 0)) 0) ≡ false → AreZero others
are-zero others none =
    let each = none_of (get_or others 6 0) (get_or others 14 0) (get_or others 22 0) (get_or others 30 0) none in
    record { zeros = by each }
  where
    by : (get_or others 6 0 ≡ 0) × (get_or others 14 0 ≡ 0) × (get_or others 22 0 ≡ 0) × (get_or others 30 0 ≡ 0)
        → (k : ℕ) → k < 4 → get_or others (8 * k + 6) 0 ≡ 0
    by each zero lt = each.0
    by each (suc zero) lt = each.1
    by each (suc (suc zero)) lt = each.2
    by each (suc (suc (suc zero))) lt = each.3
    by each (suc (suc (suc (suc k)))) lt = absurd (omega (arith, lt))

-- joined lanes that are 0 are so in both
both-zero : (xs ys : List ℕ) → length xs ≡ 32 → length ys ≡ 32 → AreZero (zip2 bit_or xs ys) → AreZero xs × AreZero ys
both-zero xs ys m n are = (
  record { zeros = λ k lt. omega (arith, joined k lt, le_or_l (get_or xs (8 * k + 6) 0) (get_or ys (8 * k + 6) 0)) },
  record { zeros = λ k lt. omega (arith, joined k lt, le_or_r (get_or xs (8 * k + 6) 0) (get_or ys (8 * k + 6) 0)) },
)
  where
    joined : (k : ℕ) → k < 4 → bit_or (get_or xs (8 * k + 6) 0) (get_or ys (8 * k + 6) 0) ≡ 0
    joined k lt =
        sym (get_or-zip2 bit_or xs ys (8 * k + 6) 0 0 0 (omega (arith, lt, m)) (omega (arith, lt, n)))
        ∙ are.zeros k lt

-- a byte that is no more than a blank is a blank
blank : (b : ℕ) → b < 256 → less b 32 ≡ 0 → b ≡ 32
blank b lt none = omega (arith, lt, none)

-- their columns
columns-here : (line group : List ℕ) (day : ℕ) → AreGroups line group day
    → take 32 group ≡ take 32 (drop (21 + 8 * day) line)
columns-here line group day of = ap (take 32) of.same ∙ take-take 32 32 (drop (21 + 8 * day) line) (omega arith)

-- there are 32 of them
columns-long : (line group : List ℕ) (day : ℕ) → AreGroups line group day → length (take 32 group) ≡ 32
columns-long line group day of =
    ap (λ (xs : List ℕ). length xs) (columns-here line group day of)
    ∙ length-chunk (21 + 8 * day) 32 line (omega (arith, of.within, of.long))

-- also less blanks
pub less-long : (line group : List ℕ) (day : ℕ) → AreGroups line group day → length (group_less group) ≡ 32
less-long line group day of =
    let long = columns-long line group day of in
    length-zip2 less (take 32 group) (replicate 32 32) long ∙ long

-- four days whose lanes are 0 have no flag
no-flag : (line group : List ℕ) (day : ℕ) → AreGroups line group day → AreZero (group_less group)
    → (k : ℕ) → k < 4 → is_flagged line (day + k + 1) ≡ false
no-flag line group day of are k lt =
    let at : ℕ = 8 * k + 6 in
    let i : ℕ = 21 + 8 * day + at in
    let within : at < 32 = omega (arith, lt) in
    let long = columns-long line group day of in
    let byte : get_or (take 32 group) at 0 ≡ get_or line i 0 =
    ap (λ (xs : List ℕ). get_or xs at 0) (columns-here line group day of)
    ∙ get_or-chunk (21 + 8 * day) 32 line at 0 within in
    let lane : less (get_or line i 0) 32 ≡ 0 =
    ap₂ less (sym byte) (sym (get_or-replicate 32 at 32 32 within))
    ∙ sym (get_or-zip2 less (take 32 group) (replicate 32 32) at 0 32 0 (omega (arith, within, long)) within)
    ∙ are.zeros k lt in
    let flag : get_or line i 32 ≡ 32 =
    get_or_default_zero line i 32 (omega (arith, lt, of.within, of.long)) ∙ blank (get_or line i 0) (of.bytes i) lane in
    ap (λ (bytes : List ℕ). not (is_blank bytes))
    (one_column (20 + 8 * (day + k + 1)) i line (omega arith) ∙ ap (λ (b : ℕ). b ∷ []) flag)

-- four days more have none
pub no-flag-more : (line others group : List ℕ) (n day m : ℕ) → AreGroups line group day → length others ≡ 32
    → day ≤ n → m ≤ day + 4 → (AreZero others → HasNoFlag line n)
    → AreZero (zip2 bit_or others (group_less group)) → HasNoFlag line m
no-flag-more line others group n day m of many low high none are = λ j lt.
    let both = both-zero others (group_less group) many (less-long line group day of) are in
    elim (cases_lt j n) [
      | inl before ↦ none both.0 j before
      | inr from ↦
          let same : day + (j - day) ≡ j = omega (arith, from, low) in
          subst (λ (d : ℕ). is_flagged line (d + 1) ≡ false) same
          (no-flag line group day of both.1 (j - day) (omega (arith, from, low, lt, high)))
    ]
