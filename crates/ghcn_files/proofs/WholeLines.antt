-- A line whose columns are all there says of its days what the line says that it is the front of, or that leaves
-- blanks out.
use Rattle.std.proofs.Common.{◌≡◌, ℕ, zero, suc, ◌+◌, ◌*◌, ◌≤◌, Bool, cond, List, [], ◌∷◌, ◌++◌, length, take, drop}
use Rattle.std.proofs.Common.{get_or, Option, Some, refl, sym, ap, ap₂, subst, ◌∙◌, arith, ℤ, pos}
use Rattle.std.specs.Prelude.{not, neg_ℤ, replicate}
use Rattle.std.proofs.lemmas.List.{take-append-drop, length-take-le}
use Rattle.ghcn_fields.specs.Meaning.Bytes.{is_blank}
use Rattle.ghcn_fields.specs.Meaning.Lines.{columns}
use Rattle.ghcn_fields.specs.Numbers.{int_field, number_or}
use Rattle.ghcn_files.specs.declared.fault.LineWhy.{LineWhy}
use Rattle.ghcn_files.specs.declared.fault.LineWhy.TheVariants.{BadValue}
use Rattle.ghcn_files.specs.StationLines.{is_bad, unless_missing}
use Rattle.ghcn_files.specs.Months.{is_flagged, value_field, days_why, reading}
use Rattle.ghcn_files.specs.Rows.{AreValues}
use Rattle.ghcn_files.proofs.ColumnSlices.{columns-front, one_column}
use Rattle.ghcn_files.proofs.Readings.{tests_from, all_tests}

-- one line says of each day what another one says
pub record SaysSame (whole line : List ℕ) : Type 0 where
  pub value : (j : ℕ) → 1 ≤ j → j ≤ 31
      → columns (14 + 8 * j) (18 + 8 * j) whole ≡ columns (14 + 8 * j) (18 + 8 * j) line
  pub flag : (j : ℕ) → 1 ≤ j → j ≤ 31 → is_flagged whole j ≡ is_flagged line j

-- the front of a line does
front-says : (front behind : List ℕ) → length front ≡ 269 → SaysSame front (front ++ behind)
front-says front behind long = record {
  value = λ j low high. sym (columns-front (14 + 8 * j) (18 + 8 * j) (13 + 8 * j) (18 + 8 * j) front behind
      (omega arith) (omega arith) (omega arith) (omega arith));
  flag = λ j low high. sym (ap (λ (bytes : List ℕ). not (is_blank bytes))
      (columns-front (20 + 8 * j) (20 + 8 * j) (19 + 8 * j) (20 + 8 * j) front behind
      (omega arith) (omega arith) (omega arith) (omega arith)));
}

-- so do its first columns
pub first-say : (whole line : List ℕ) → 269 ≤ length line → whole ≡ take 269 line → SaysSame whole line
first-say whole line long is =
    subst (λ (l : List ℕ). SaysSame whole l) (ap (λ (l : List ℕ). l ++ drop 269 line) is ∙ take-append-drop 269 line)
    (front-says whole (drop 269 line) (ap (λ (l : List ℕ). length l) is ∙ length-take-le 269 line long))

-- a byte of a line, or a blank after it, is there too if blanks are added
filled-byte : (line : List ℕ) (n i : ℕ) → get_or (line ++ replicate n 32) i 32 ≡ get_or line i 32
filled-byte [] zero i = refl
filled-byte [] (suc n) zero = refl
filled-byte [] (suc n) (suc i) = filled-byte [] n i
filled-byte (b ∷ bs) n zero = refl
filled-byte (b ∷ bs) n (suc i) = filled-byte bs n i

-- a line with the blanks that its end leaves out does
pub filled-says : (line : List ℕ) (n : ℕ) → 266 ≤ length line → SaysSame (line ++ replicate n 32) line
filled-says line n long = record {
  value = λ j low high. columns-front (14 + 8 * j) (18 + 8 * j) (13 + 8 * j) (18 + 8 * j) line (replicate n 32)
      (omega arith) (omega arith) (omega arith) (omega arith);
  flag = λ j low high. ap (λ (bytes : List ℕ). not (is_blank bytes))
      (one_column (20 + 8 * j) (19 + 8 * j) (line ++ replicate n 32) (omega arith)
      ∙ ap (λ (b : ℕ). b ∷ []) (filled-byte line n (19 + 8 * j))
      ∙ sym (one_column (20 + 8 * j) (19 + 8 * j) line (omega arith)));
}

-- what is read of a day is the same
pub same-reading : (whole line : List ℕ) → SaysSame whole line → (j : ℕ) → 1 ≤ j → j ≤ 31
    → reading whole j ≡ reading line j
same-reading whole line same j low high =
    ap₂ (λ (bytes : List ℕ) (flagged : Bool). record { value = unless_missing (int_field bytes); flagged = flagged })
    (same.value j low high) (same.flag j low high)

-- the tests of its days from one on are the same
same-tests_from : (whole line : List ℕ) → SaysSame whole line → (a n : ℕ) → 1 ≤ a → a + n ≤ 32
    → tests_from whole a n ≡ tests_from line a n
unfolding tests_from
same-tests_from whole line same a zero low high = refl
same-tests_from whole line same a (suc n) low high =
    ap (λ (bytes : List ℕ). cond (not (is_bad (int_field bytes))) (tests_from whole (a + 1) n) (Some (BadValue a)))
    (same.value a low (omega arith))
    ∙ ap (λ (more : Option LineWhy). cond (not (is_bad (value_field line a))) more (Some (BadValue a)))
    (same-tests_from whole line same (a + 1) n (omega arith) (omega arith))

-- the first test that fails is the same
pub same-why : (whole line : List ℕ) → SaysSame whole line → days_why whole ≡ days_why line
same-why whole line same =
    all_tests whole ∙ same-tests_from whole line same 1 31 (omega arith) (omega arith) ∙ sym (all_tests line)

-- and so are the values
pub same-values : (whole line : List ℕ) (values : List ℤ) → SaysSame whole line
    → AreValues whole values → AreValues line values
same-values whole line values same are = λ j lt.
    are j lt
    ∙ ap (λ (b : Bool). cond (not b) (number_or (neg_ℤ (pos 9999)) (value_field whole (j + 1)))
    (neg_ℤ (pos 9999))) (same.flag (j + 1) (omega arith) (omega arith))
    ∙ ap (λ (bytes : List ℕ). cond (not (is_flagged line (j + 1)))
    (number_or (neg_ℤ (pos 9999)) (int_field bytes)) (neg_ℤ (pos 9999)))
    (same.value (j + 1) (omega arith) (omega arith))
