-- A month that comes after all that were seen is new.
use Rattle.ghcn_series.proofs.Cited.{◌≡◌, ℕ, suc, ◌-◌, ◌<◌, Bool, true, false, List, [], ◌∷◌, length, get_or, inl, inr}
use Rattle.ghcn_series.proofs.Cited.{refl, ap, ◌∙◌, arith, ◌==◌, ◌||◌, nat_lt, nat_cmp, cases_lt, nat_tests, has_month}
use Rattle.std.specs.Prelude.{slice_index}
use Rattle.std.specs.BTreeMap.{is_at}

-- a lesser month is another one
other_month : (m x : ℕ) → x < m → is_at (nat_cmp m) x ≡ false
other_month m x lt = grind (arith, nat_tests)

-- months that are all less don't have it
no_month : (months : List ℕ) (m : ℕ) → ((k : ℕ) → k < length months → get_or months k 0 < m)
    → has_month months m ≡ false
no_month [] m less = refl
no_month (x ∷ xs) m less = ap (λ (b : Bool). b || has_month xs m) (other_month m x (less 0 (omega arith)))
    ∙ no_month xs m (λ k lt. less (suc k) (omega arith))

-- a month after the last one is greater than it
last_less : (n last m : ℕ) → (n == 0 || nat_lt last m) ≡ true → 0 < n → last < m
last_less n last m e some = grind (arith, nat_tests)

-- a month after rising ones isn't one of them
pub fresh-after : (months : List ℕ) → ((i j : ℕ) → i < j → j < length months → get_or months i 0 < get_or months j 0)
    → (m : ℕ)
    → (length months == 0 || nat_lt (slice_index months (length months - 1)) m) ≡ true → has_month months m ≡ false
fresh-after months rise m after = no_month months m (λ k lt.
    let last : get_or months (length months - 1) 0 < m = last_less (length months) _ m after (omega arith) in
    elim (cases_lt k (length months - 1)) [
      | inl before ↦ let less = rise k (length months - 1) before (omega arith) in omega arith
      | inr end ↦ let here : length months - 1 ≡ k = omega arith in rw here at last
    ])
