-- Windows that are taken by their number, since all their days together have too small a total.
use Rattle.std.proofs.Common.{◌≡◌, ℕ, zero, suc, ◌+◌, ◌-◌, ◌<◌, ◌≤◌, Bool, true, false, List, [], ◌∷◌, ◌++◌, drop, length}
use Rattle.std.proofs.Common.{Option, Some, None, refl, sym, ap, subst, ◌∙◌, arith, ℤ, pos, ◌+ℤ◌, ◌-ℤ◌, ◌≤ℤ◌, set, get_or}
use Rattle.std.proofs.Common.{FitsSigned, w32, w64, to_z, of_z, to_z-of_z}
use Rattle.std.specs.Prelude.{◌&&◌}
use Rattle.std.specs.List.{AllByRecursion, fold, list_all}
use Rattle.std.proofs.Math.Seq.{drop-length}
use Rattle.std.proofs.lemmas.Bool.{and_parts}
use Rattle.std.proofs.lemmas.Int.{ints, to_z_pos}
use Rattle.std.proofs.lemmas.List.{drop-drop, length-append}
use Rattle.ghcn_fields.specs.Meaning.Days.{is_day}
use Rattle.ghcn_files.specs.declared.element.Element.{Element}
use Rattle.ghcn_files.specs.declared.station.StationId.{StationId}
use Rattle.ghcn_files.specs.Meaning.Elements.{may_be_negative}
use Rattle.ghcn_series.specs.Meaning.Series.{DayValue, Series}
use Rattle.ghcn_series.specs.Packed.{TakesRow, days_in_a_row}
use Rattle.ghcn_series.specs.Series.{IsSeries, is_value}
use Rattle.rank_query.specs.Meaning.Admits.{admits_day}
use Rattle.rank_query.specs.Meaning.Asked.{Query}
use Rattle.rank_scores.specs.declared.candidate.Candidate.{Candidate}
use Rattle.rank_scores.specs.declared.window.Window.{Window}
use Rattle.rank_scores.specs.Meaning.Candidates.{admitted}
use Rattle.rank_scores.specs.Candidates.{candidate, plus}
use Rattle.rank_scores.specs.Windows.{sum, next_place, with_value}
use Rattle.rank_scores.proofs.Rising.{Rise, from_each, all-filter}
use Rattle.rank_scores.proofs.Totals.{leading, leading-split, leading-first, leading-small}
use Rattle.rank_scores.proofs.WindowSums.{windows, windows-first, IsAt, AreGood, good-drop, all-drop, taken}
use Rattle.rank_scores.proofs.WindowSums.{IsNotNegative, from_place, one_of_row, row-drop, row-sum}

-- a sum of two, if there is one, is that of two numbers
record AreSummed (o p : Option ℤ) (t : ℤ) : Type 0 where
  pub first : ℤ
  pub second : ℤ
  pub is_first : o ≡ Some first
  pub is_second : p ≡ Some second
  pub both : first +ℤ second ≡ t

-- so it is
summed : (o p : Option ℤ) (t : ℤ) → plus o p ≡ Some t → AreSummed o p t
summed None p t e = absurd cc
summed (Some a) None t e = absurd cc
summed (Some a) (Some b) t e = record { first = a; second = b; is_first = refl; is_second = refl; both = cc }

-- a sum of values that aren't negative isn't either
leading-not_negative : (n : ℕ) (a t : ℤ) (xs : List DayValue) → AllByRecursion IsNotNegative xs → leading n a xs ≡ Some t
    → pos 0 ≤ℤ t
leading-not_negative zero a t xs h e = let none : pos 0 ≡ t = cc in omega (arith, ints)
leading-not_negative (suc n) a t [] h e = absurd cc
leading-not_negative (suc n) a t (x ∷ xs) h e =
    let rest = leading-not_negative n (a +ℤ pos 1) (t -ℤ x.1) xs h.1 (leading-first n a t x xs e).1 in
    omega (arith, ints, rest, h.0)

-- windows of n days begin on the first c of some days, and none has a greater total than t
pub record AreLow (id : StationId) (n c : ℕ) (t : ℤ) (xs : List DayValue) : Type 0 where
  pub first : List Candidate
  pub parts : windows id n xs ≡ first ++ windows id n (drop c xs)
  pub low : AllByRecursion (λ y. y.score ≤ℤ t) first
  pub many : length first ≡ c

-- so it is if t is the total of the days of all of them
pub low-windows : (id : StationId) (m c k : ℕ) (a t : ℤ) (xs : List DayValue) → Rise xs
    → AllByRecursion IsNotNegative xs → k ≡ c + m → leading k a xs ≡ Some t → AreLow id (suc m) c t xs
low-windows id m zero k a t xs rise ok is e = record { first = []; parts = refl; low = tt; many = refl }
low-windows id m (suc c) zero a t xs rise ok is e = absurd (omega (arith, is))
low-windows id m (suc c) (suc k) a t [] rise ok is e = absurd cc
low-windows id m (suc c) (suc k) a t (x ∷ xs) rise ok is e =
    let own = leading-first k a t x xs e in
    let on : x.0 ≡ a = own.0 in
    let rest = low-windows id m c k (a +ℤ pos 1) (t -ℤ x.1) xs rise.1 ok.1 (omega (arith, is)) own.1 in
    let split = leading-split (suc k) (suc m) c a (x ∷ xs) (omega (arith, is)) in
    let sums = summed (leading (suc m) a (x ∷ xs)) (leading c (a +ℤ pos (suc m)) (drop (suc m) (x ∷ xs))) t
    (sym split ∙ e) in
    let more = leading-not_negative c (a +ℤ pos (suc m)) sums.second (drop (suc m) (x ∷ xs))
    (all-drop IsNotNegative (suc m) (x ∷ xs) ok) sums.is_second in
    let both = sums.both in
    let less : sums.first ≤ℤ t = omega (arith, ints, both, more) in
    let found : leading (suc m) x.0 (x ∷ xs) ≡ Some sums.first =
    ap (λ (d : ℤ). leading (suc m) d (x ∷ xs)) on ∙ sums.is_first in
    record {
      first = candidate id x.0 (x.0 +ℤ pos (suc m) -ℤ pos 1, sums.first) ∷ rest.first;
      parts = windows-first id (suc m) x xs rise ∙ rw (found, rest.parts) refl;
      low = (
        less,
        from_each (λ y. y.score ≤ℤ (t -ℤ x.1)) (λ y. y.score ≤ℤ t) rest.first
            (λ y l. let value = ok.0 in omega (arith, ints, l, value)) rest.low,
      );
      many = ap suc rest.many;
    }

-- a row of days comes next, as long as a window without one day: the windows that end in it are low, and the last days
-- of the row are left
pub record PassesRow (id : StationId) (n : ℕ) (ring : List ℤ) (w : Window) (days : List DayValue) (d : ℤ) (vs : List ℤ)
    (rest : List DayValue) : Type 0 where
  pub low : AreLow id n (w.len + length vs + 1 - n) (w.total +ℤ sum vs) days
  pub at : IsAt ring record { first = 0; len = 0; total = pos 0 } (drop (w.len + length vs + 1 - n) days)
      (d +ℤ pos (length vs + 1 - n)) (from_place d vs (length vs + 1 - n) rest)

-- so it is if no value is negative
pub passes-row : {n : ℕ} {ring : List ℤ} {w : Window} {days : List DayValue} {d : ℤ} (id : StationId) (vs : List ℤ)
    (rest : List DayValue) → IsAt ring w days d (days_in_a_row d vs ++ rest) → 0 < n → n ≤ length vs + 1
    → AllByRecursion IsNotNegative days → PassesRow id n ring w days d vs rest
passes-row {n = zero} id vs rest at some long ok = absurd (omega (arith, some))
passes-row {n = suc m} {ring} {w} {days} {d} id vs rest at some long ok =
    let c : ℕ = w.len + length vs + 1 - suc m in
    let from : ℕ = length vs + 1 - suc m in
    let ends : at.first +ℤ pos w.len ≡ d = sym at.ends in
    let whole : leading (w.len + length vs) at.first days ≡ Some (w.total +ℤ sum vs) =
    leading-split (w.len + length vs) w.len (length vs) at.first days refl
    ∙ rw (at.sum, at.behind, ends, row-sum d vs rest) refl in
    let left : drop c days ≡ from_place d vs from rest =
    let size : c ≡ w.len + from = omega (arith, long) in
    rw size (sym (drop-drop from w.len days) ∙ ap (drop from) at.behind
    ∙ row-drop from d vs rest (omega (arith, long))) in
    record {
      low = low-windows id m c (w.len + length vs) at.first (w.total +ℤ sum vs) days at.good.rise ok
          (omega (arith, long)) whole;
      at = record {
        first = d +ℤ pos from;
        sum = refl;
        behind = left;
        ends = omega (arith, ints);
        good = good-drop c days at.good;
        places = at.places;
        place = omega arith;
        held = λ i lt. absurd (omega (arith, lt));
      };
    }

-- what has taken some windows, and takes those of these days too, is as what takes those of all admitted days; the
-- window has the first of these days, and isn't whole; and if no value is negative, none of these is
abbrev pub IsScanned : {K : Type 0} → (K → Candidate → K) → K → K → StationId → ℕ → Query → Series → Bool → List ℤ
    → Window → ℤ → List DayValue → Type 0
IsScanned taken some none id n q s rises ring w next rest = record {
  days : List DayValue;
  at : IsAt ring w days next rest;
  few : w.len < n;
  so_far : fold taken some (windows id n days) ≡ fold taken none (windows id n (admitted q s));
  ok : rises ≡ true → AllByRecursion IsNotNegative days;
}

-- so it is in the midst of a row
abbrev pub IsInRow : {K : Type 0} → (K → Candidate → K) → K → K → StationId → ℕ → Query → Series → Bool → List ℤ
    → Window → ℤ → List ℤ → ℕ → List DayValue → Type 0
IsInRow taken some none id n q s rises ring w d vs i rest = record {
  days : List DayValue;
  at : IsAt ring w days (d +ℤ pos i) (from_place d vs i rest);
  few : w.len < n;
  so_far : fold taken some (windows id n days) ≡ fold taken none (windows id n (admitted q s));
  ok : rises ≡ true → AllByRecursion IsNotNegative days;
  within : i ≤ length vs;
}

-- ---- steps along a row

-- the sum of a window and a row after it fits 64 bits
pub row-fits : {ring : List ℤ} {w : Window} {days : List DayValue} {d : ℤ} (vs : List ℤ) (rest : List DayValue)
    → IsAt ring w days d (days_in_a_row d vs ++ rest) → w.len ≤ 366 → length vs ≤ 32
    → FitsSigned w64 (w.total +ℤ sum vs)
row-fits {ring} {w} {days} {d} vs rest at few short =
    let ends : at.first +ℤ pos w.len ≡ d = sym at.ends in
    let whole : leading (w.len + length vs) at.first days ≡ Some (w.total +ℤ sum vs) =
    leading-split (w.len + length vs) w.len (length vs) at.first days refl
    ∙ rw (at.sum, at.behind, ends, row-sum d vs rest) refl in
    let small = leading-small (w.len + length vs) at.first (w.total +ℤ sum vs) days at.good.small whole in
    let low = small.0 in let high = small.1 in
    grind (arith, ints, low, high, few, short)

-- the day at a place of a row is taken in
pub takes-place : {ring : List ℤ} {w : Window} {days : List DayValue} (d : ℤ) (vs : List ℤ) (i : ℕ)
    (rest : List DayValue) → IsAt ring w days (d +ℤ pos i) (from_place d vs i rest) → i < length vs → w.len < 512
    → IsAt (set ring (next_place w) (get_or vs i (pos 0))) (with_value w (get_or vs i (pos 0))) days
    (d +ℤ pos (i + 1)) (from_place d vs (i + 1) rest)
takes-place {ring} {w} {days} d vs i rest at lt few =
    let v : ℤ = get_or vs i (pos 0) in
    let next : (d +ℤ pos i) +ℤ pos 1 ≡ d +ℤ pos (i + 1) = omega (arith, ints) in
    let here : IsAt ring w days (d +ℤ pos i) ((d +ℤ pos i, v) ∷ from_place d vs (i + 1) rest) =
    subst (IsAt ring w days (d +ℤ pos i)) (one_of_row d vs i rest lt) at in
    subst (λ (e : ℤ). IsAt (set ring (next_place w) v) (with_value w v) days e (from_place d vs (i + 1) rest)) next
    (taken ring w days (d +ℤ pos i, v) (from_place d vs (i + 1) rest) here few)

-- and is a day of the calendar
pub place-is_day : {ring : List ℤ} {w : Window} {days : List DayValue} (d : ℤ) (vs : List ℤ) (i : ℕ)
    (rest : List DayValue) → IsAt ring w days (d +ℤ pos i) (from_place d vs i rest) → i < length vs
    → is_day (d +ℤ pos i) ≡ true
place-is_day {ring} {w} {days} d vs i rest at lt =
    (subst AreGood (at.behind ∙ one_of_row d vs i rest lt) (good-drop w.len days at.good)).calendar.0

-- the number of a day is of 32 bits
pub day-fits : (d : ℤ) → is_day d ≡ true → FitsSigned w32 d
day-fits d e = grind (arith, ints)

-- once a row is taken in, the day after it goes on with the window
pub row-end : {ring : List ℤ} {w : Window} {days : List DayValue} {next : ℤ} (d : ℤ) (vs : List ℤ) (i : ℕ)
    (rest : List DayValue) → IsAt ring w days (d +ℤ pos i) (from_place d vs i rest) → i ≡ length vs
    → next ≡ d +ℤ pos (length vs) → IsAt ring w days next rest
row-end {ring} {w} {days} {next} d vs i rest at end is =
    let none : from_place d vs i rest ≡ rest = rw (end, drop-length vs) refl in
    let day : d +ℤ pos i ≡ next = rw (end, is) refl in
    subst (λ (e : ℤ). IsAt ring w days e rest) day (subst (IsAt ring w days (d +ℤ pos i)) none at)

-- the number of the day after a row fits 32 bits
pub next_is : {number : ℤ} (d : ℤ) (m : ℕ) → number ≡ d → is_day d ≡ true → m ≤ 32
    → to_z w32 (of_z w32 (to_z w32 (of_z w32 number) +ℤ to_z w32 m)) ≡ d +ℤ pos m
next_is {number} d m same day few =
    let near : FitsSigned w32 (d +ℤ pos m) = grind (arith, ints) in
    rw (same, to_z-of_z (day-fits d day), to_z_pos w32 m (omega (arith, few)), to_z-of_z near) refl

-- a row has as many days as values
row-length : (d : ℤ) (vs : List ℤ) → length (days_in_a_row d vs) ≡ length vs
row-length d [] = refl
row-length d (v ∷ vs) = ap suc (row-length (d +ℤ pos 1) vs)

-- and fewer days are left once it is taken
pub row-shorter : {days left : List DayValue} {d : ℤ} {vs : List ℤ} → TakesRow days d vs left
    → length left < length days
row-shorter {days} {left} {d} {vs} row =
    let size = ap (λ (l : List DayValue). length l) row.parts ∙ length-append (days_in_a_row d vs) left in
    let own = row-length d vs in
    let some = row.some in
    omega (arith, size, own, some)

-- ---- values that aren't negative

-- no value of an element that has none is negative
series-not_negative : (e : Element) (days : List DayValue) → may_be_negative e ≡ false
    → list_all (λ x. is_day x.0 && is_value e x.1) days ≡ true → AllByRecursion IsNotNegative days
series-not_negative e [] none h = tt
series-not_negative e (x ∷ xs) none h =
    let all = and_parts (is_day x.0 && is_value e x.1) (list_all (λ x. is_day x.0 && is_value e x.1) xs) h in
    (grind (arith, ints), series-not_negative e xs none all.1)

-- nor is one of its admitted days
pub admitted-not_negative : (q : Query) (s : Series) → IsSeries s → may_be_negative s.element ≡ false
    → AllByRecursion IsNotNegative (admitted q s)
admitted-not_negative q s series none =
    all-filter IsNotNegative (λ x. admits_day q x.0) s.days (series-not_negative s.element s.days none series.values)
