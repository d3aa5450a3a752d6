-- The months that were seen, and one more.
use Rattle.ghcn_series.proofs.Cited.{◌≡◌, ℕ, ◌+◌, ◌*◌, ◌≤◌, Bool, true, false, not, List, [], ◌∷◌, ◌++◌, refl, sym, ap}
use Rattle.ghcn_series.proofs.Cited.{◌∙◌, arith, ℤ, Result, Ok, Err, inl, inr, ◌==◌, ◌&&◌, OnOk, list_any, flat_map}
use Rattle.ghcn_series.proofs.Cited.{IsDistinct, AllByRecursion, append-nil, nat_tests, list_any-append, nat_eq_equiv}
use Rattle.ghcn_series.proofs.Cited.{not-true, OnTrue_from, or-false, Month, MonthRow, IsMonth, IsRowOf, Gathering}
use Rattle.ghcn_series.proofs.Cited.{value_on, IsRowFor, Gathers, AreParts, AreNew, AreJoined, month_count, same_time}
use Rattle.ghcn_series.proofs.Cited.{usable_days, gathered_days, kept_days, IsGathering, has_month, NotesMonth}
use Rattle.std.specs.Prelude.{IfOk}
use Rattle.std.proofs.lemmas.List.Concat.{flat_map-append}
use Rattle.std.proofs.lemmas.Cmp.{and_equiv, on_equiv}
use Rattle.std.specs.Cmp.{IsEquivalence}
use Rattle.std.proofs.lemmas.Map.Keys.{IsDistinct-push}
use Rattle.ghcn_series.proofs.ListFacts.{each-append}
use Rattle.ghcn_fields.specs.declared.memory.Memory.{Memory}
use Rattle.ghcn_series.specs.Steps.{ForMonth}
use Rattle.ghcn_series.specs.Gathered.{has_number}
use Rattle.ghcn_series.proofs.Lookups.{value_on-append}
use Rattle.ghcn_series.proofs.ApartParts.{new-behind}
use Rattle.ghcn_series.proofs.DistinctDays.{distinct_days}

-- months are of one time as a relation of equals
time_laws : IsEquivalence same_time
time_laws = and_equiv (on_equiv (λ (m : Month). m.year) nat_eq_equiv) (on_equiv (λ (m : Month). m.month) nat_eq_equiv)

-- a month whose time none has is apart from all
pub distinct-more : (m : Month) (before : List Month) → IsDistinct same_time before → list_any (same_time m) before
    ≡ false → IsDistinct same_time (before ++ m ∷ [])
distinct-more m before = IsDistinct-push time_laws before m

-- months have the same number if year and month are the same
same_number : (a b c d : ℕ) → 1 ≤ b → b ≤ 12 → 1 ≤ d → d ≤ 12 → (12 * a + b == 12 * c + d) ≡ ((a == c) && (b == d))
same_number a b c d low high low_d high_d = grind (arith, nat_tests)

-- months have one number if they are of one time
numbers-are : (m : Month) (ms : List Month) → IsMonth m → AllByRecursion IsMonth ms
    → list_any (has_number (month_count m)) ms ≡ list_any (same_time m) ms
numbers-are m [] right all = refl
numbers-are m (x ∷ xs) right all =
    let same = same_number m.year m.month x.year x.month right.month.0 right.month.1 all.0.month.0 all.0.month.1 in
    rw (same, numbers-are m xs right all.1)

-- whether a month was seen is whether one of its time was
pub seen-is : (kept : Bool) (g : Gathering) (m : Month) (before : List Month) → IsMonth m → IsGathering kept g before
    → has_month g.seen (month_count m) ≡ list_any (same_time m) before
seen-is kept g m before right is = is.seen (month_count m) ∙ numbers-are m before right is.right

-- one month more adds its usable days
days-more : (before : List Month) (m : Month) → flat_map usable_days (before ++ m ∷ []) ≡ flat_map usable_days before
    ++ usable_days m
days-more before m = simp (flat_map-append, append-nil)

-- a month whose time wasn't seen has no day that was gathered
pub month-new : (g : Gathering) (m : Month) (before : List Month) → IsMonth m → IsGathering true g before
    → has_month g.seen (month_count m) ≡ false → AreNew (gathered_days g) (usable_days m)
month-new g m before right is fresh d some =
    let apart = distinct-more m before is.distinct (sym (seen-is true g m before right is) ∙ fresh) in
    let distinct = rw (days-more before m) at (distinct_days (before ++ m ∷ []) apart) in
    is.values d ∙ new-behind (flat_map usable_days before) (usable_days m) distinct d some

-- one month more is gathered, with its days if they are kept
gathered_with : (kept : Bool) (old new : Gathering) (m : Month) (before : List Month) → IsMonth m
    → IsGathering kept old before → has_month old.seen (month_count m) ≡ false → NotesMonth old.seen new.seen (month_count m)
    → AreParts new.parts → ((d : ℤ) → value_on (gathered_days new) d ≡ value_on (kept_days kept (before ++ m ∷ [])) d)
    → IsGathering kept new (before ++ m ∷ [])
gathered_with kept old new m before right is fresh adds parts values = record {
  right = each-append IsMonth before (m ∷ []) is.right (right, tt);
  seen = λ t. adds t ∙ rw (is.seen t, list_any-append, or-false, nat_eq_equiv.symm (month_count m) t) refl;
  parts = parts;
  values = values;
  distinct = distinct-more m before is.distinct (sym (seen-is kept old m before right is) ∙ fresh);
}

-- one month more is gathered with its days
pub gathering-more : (old new : Gathering) (m : Month) (before : List Month) → IsMonth m → IsGathering true old before
    → has_month old.seen (month_count m) ≡ false → NotesMonth old.seen new.seen (month_count m)
    → AreParts new.parts → AreJoined (gathered_days old) (usable_days m) (gathered_days new)
    → IsGathering true new (before ++ m ∷ [])
gathering-more old new m before right is fresh adds parts joined =
    gathered_with true old new m before right is fresh adds parts (λ d. joined d
    ∙ rw (is.values d, days-more before m, value_on-append (flat_map usable_days before) (usable_days m) d) refl)

-- a month's number is that of its row
pub number_is : (kept : Bool) (m : Month) (row : MonthRow) (n : ℕ) → IsRowOf kept m row
    → n ≡ 12 * row.year + row.month → n ≡ month_count m
number_is kept m row n of e = omega arith

-- with its days or without
number_for : (m : Month) (row : MonthRow) → IsRowFor false m row → 12 * row.year + row.month ≡ month_count m
number_for m row (inl of) = number_is true m row (12 * row.year + row.month) of refl
number_for m row (inr of) = number_is false m row (12 * row.year + row.month) of refl

-- a month is noted, unless one of its time was
pub noted : (row : MonthRow) (old new : Gathering) (result : Result Bool Memory)
    → IfOk result (λ is_new. is_new ≡ not (has_month old.seen (12 * row.year + row.month)))
    → OnOk result (NotesMonth old.seen new.seen (12 * row.year + row.month)) → new.parts ≡ old.parts
    → IfOk result (λ added. ForMonth false row (λ m. Gathers false old new m added))
noted row old new (Err memory) told adds same = tt
noted row old new (Ok added) told adds same = λ m right of.
    let number : 12 * row.year + row.month ≡ month_count m = number_for m row of in
    let is_new = told ∙ ap (λ (n : ℕ). not (has_month old.seen n)) number in record {
      is_new = λ before is. is_new ∙ ap not (seen-is false old m before right is);
      holds = λ before is. OnTrue_from added _ (λ yes.
          gathered_with false old new m before right is (not-true _ (sym (sym yes ∙ is_new))) (rw (← number) adds)
          (rw same is.parts) (rw same is.values));
    }
