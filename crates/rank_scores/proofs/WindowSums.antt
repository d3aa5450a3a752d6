-- A window with its sum and its ring of values, as days come and leave.
use Rattle.std.proofs.Common.{◌≡◌, ◌↔◌, FitsSigned, w64, ℕ, zero, suc, ◌+◌, ◌-◌, ◌%◌, ◌<◌, ◌≤◌, Bool, true}
use Rattle.std.proofs.Common.{false, List, [], ◌∷◌, ◌++◌, drop, Option, Some, None, refl, sym, ap, subst, ◌∙◌, arith, ℤ, pos}
use Rattle.std.proofs.Common.{◌+ℤ◌, ◌-ℤ◌, ◌≤ℤ◌, ◌<ℤ◌, length, length-set, get_or, set, inl, inr, rules}
use Rattle.std.specs.Prelude.{IsTrue}
use Rattle.std.specs.List.{AllByRecursion, cons_option, filter_map}
use Rattle.std.specs.Option.{option_map}
use Rattle.std.specs.Ordering.{int_eq}
use Rattle.std.proofs.lemmas.Bool.{cases_lt, false_from_ne_true}
use Rattle.std.proofs.lemmas.Bool.Decides.{Decides-int_eq}
use Rattle.std.proofs.lemmas.Int.{ints}
use Rattle.std.proofs.lemmas.List.{get_or-set_same, get_or-set_other, get_or-drop, drop-drop, drop_more}
use Rattle.ghcn_files.specs.declared.station.StationId.{StationId}
use Rattle.ghcn_series.specs.Meaning.Series.{DayValue, Series}
use Rattle.ghcn_series.specs.Packed.{days_in_a_row}
use Rattle.ghcn_series.specs.Series.{IsSeries}
use Rattle.rank_query.specs.Meaning.Asked.{Query}
use Rattle.rank_scores.specs.declared.candidate.Candidate.{Candidate}
use Rattle.rank_scores.specs.declared.window.Window.{Window}
use Rattle.rank_scores.specs.Meaning.Candidates.{Windows, admitted}
use Rattle.rank_scores.specs.Candidates.{candidate, begun, contenders_among}
use Rattle.rank_scores.specs.Windows.{begun_anew_unless, next_place, with_value, first_value, without_first, sum}
use Rattle.ghcn_fields.specs.Meaning.Days.{is_day}
use Rattle.rank_scores.proofs.Runs.{AreDays, admitted-days}
use Rattle.rank_scores.proofs.Rising.{Rise, from_each, same_made, admitted-rise}
use Rattle.rank_scores.proofs.Totals.{leading, leading-split, leading-first, total-behind, total-leading, leading-small}
use Rattle.rank_scores.proofs.Totals.{IsSmall, admitted-small}

-- ---- the windows of days that rise

-- the windows of some days
abbrev pub windows : StationId → ℕ → List DayValue → List Candidate
windows id n days = contenders_among id (Windows n) days

-- the window of n days that begins on a day, if it has a total
abbrev pub window_on : StationId → ℕ → ℤ → Option ℤ → Option Candidate
window_on id n a o = option_map (candidate id a) (option_map (λ total. (a +ℤ pos n -ℤ pos 1, total)) o)

-- the windows of days are that which begins on the first, if one does, and those of the others
pub windows-first : (id : StationId) (n : ℕ) (x : DayValue) (xs : List DayValue) → Rise (x ∷ xs)
    → windows id n (x ∷ xs) ≡ cons_option (window_on id n x.0 (leading n x.0 (x ∷ xs))) (windows id n xs)
windows-first id n x xs rise =
    let from = from_each (λ y. x.0 <ℤ y.0) (λ y. x.0 ≤ℤ y.0) xs (λ y l. omega (arith, ints, l)) rise.0 in
    let on = λ (days : List DayValue) (y : DayValue). option_map (candidate id y.0) (begun (Windows n) days y) in
    ap (λ (o : Option _). cons_option (window_on id n x.0 o) (filter_map (on (x ∷ xs)) xs))
    (total-leading n x.0 (x ∷ xs) rise (omega (arith, ints), from))
    ∙ ap (cons_option (window_on id n x.0 (leading n x.0 (x ∷ xs)))) (same_made (on (x ∷ xs)) (on xs) xs
    (from_each (λ y. x.0 <ℤ y.0) (λ y. on (x ∷ xs) y ≡ on xs y) xs
    (λ y l. ap (window_on id n y.0) (total-behind x xs n y.0 l)) rise.0))

-- no window begins on the days before a gap
passed : (id : StationId) (n len : ℕ) (a t : ℤ) (xs : List DayValue) → len < n → Rise xs → leading len a xs ≡ Some t
    → ((m : ℕ) → 0 < len → leading (suc m) (a +ℤ pos len) (drop len xs) ≡ None)
    → windows id n xs ≡ windows id n (drop len xs)
passed id n zero a t xs few rise e gap = refl
passed id n (suc len) a t [] few rise e gap = absurd cc
passed id n (suc len) a t (x ∷ xs) few rise e gap =
    let own = leading-first len a t x xs e in
    let on : x.0 ≡ a = own.0 in
    let whole : n ≡ suc len + suc (n - len - 2) = omega arith in
    let none : leading n x.0 (x ∷ xs) ≡ None =
    ap (λ (d : ℤ). leading n d (x ∷ xs)) on ∙ leading-split n (suc len) (suc (n - len - 2)) a (x ∷ xs) whole
    ∙ rw (e, gap (n - len - 2) (omega arith)) in
    let next : (a +ℤ pos 1) +ℤ pos len ≡ a +ℤ pos (suc len) = omega (arith, ints) in
    windows-first id n x xs rise ∙ rw none (passed id n len (a +ℤ pos 1) (t -ℤ x.1) xs (omega arith) rise.1 own.1
    (λ m some. rw next (gap m (omega arith))))

-- ---- one window

-- the value isn't negative
abbrev pub IsNotNegative : DayValue → Type 0
IsNotNegative x = pos 0 ≤ℤ x.1

-- days that rise, with small values
pub record AreGood (days : List DayValue) : Type 0 where
  pub rise : Rise days
  pub small : AllByRecursion (λ x. IsSmall x.1) days
  pub calendar : AreDays days

-- so are those after some of them
pub good-drop : (n : ℕ) (xs : List DayValue) → AreGood xs → AreGood (drop n xs)
good-drop zero xs h = h
good-drop (suc n) [] h = h
good-drop (suc n) (x ∷ xs) h =
    good-drop n xs record { rise = h.rise.1; small = h.small.1; calendar = h.calendar.1 }

-- the value of the day at a place of some days, from 0
abbrev value_at : List DayValue → ℕ → ℤ
value_at days i = (get_or days i (pos 0, pos 0)).1

-- the window has the first of these days, one after another, with their sum, and their values in the ring; this day
-- goes on with it, and the rest is to come
pub record IsAt (ring : List ℤ) (w : Window) (days : List DayValue) (next : ℤ) (rest : List DayValue) : Type 0 where
  pub first : ℤ
  pub sum : leading w.len first days ≡ Some w.total
  pub behind : drop w.len days ≡ rest
  pub ends : next ≡ first +ℤ pos w.len
  pub good : AreGood days
  pub places : length ring ≡ 512
  pub place : w.first < 512
  pub held : (i : ℕ) → i < w.len → get_or ring ((w.first + i) % 512) (pos 0) ≡ value_at days i

-- at first the window has no day
pub at_first : (q : Query) (s : Series) (ring : List ℤ) (left : List DayValue) → IsSeries s → length ring ≡ 512
    → left ≡ admitted q s → IsAt ring record { first = 0; len = 0; total = pos 0 } (admitted q s) (pos 0) left
at_first q s ring left series places same = record {
  first = pos 0;
  sum = refl;
  behind = sym same;
  ends = refl;
  good = record {
    rise = admitted-rise q s series;
    small = admitted-small q s series;
    calendar = admitted-days q s.days;
  };
  places = places;
  place = omega arith;
  held = λ i lt. absurd (omega arith);
}

-- sums of so few small values fit 64 bits
pub fits : {ring : List ℤ} {w : Window} {days rest : List DayValue} {next : ℤ} → IsAt ring w days next rest
    → w.len ≤ 65_535 → FitsSigned w64 w.total
fits {ring} {w} {days} {rest} {next} at few =
    grind (arith, ints, leading-small w.len at.first w.total days at.good.small at.sum)

-- the days from the window's first one on, or those after it if it is begun again
abbrev days_of : Bool → Window → List DayValue → List DayValue
days_of true w days = days
days_of false w days = drop w.len days

-- the window is begun again unless the next day goes on with it
anew : (ring : List ℤ) (w : Window) (days : List DayValue) (next : ℤ) (y : DayValue) (ys : List DayValue) (b : Bool)
    → IsAt ring w days next (y ∷ ys) → (IsTrue b ↔ (y.0 ≡ next))
    → IsAt ring (begun_anew_unless b w) (days_of b w days) y.0 (y ∷ ys)
anew ring w days next y ys true at is = subst (λ (d : ℤ). IsAt ring w days d (y ∷ ys)) (sym (is.0 refl)) at
anew ring w days next y ys false at is = record {
  first = y.0;
  sum = refl;
  behind = at.behind;
  ends = omega (arith, ints);
  good = good-drop w.len days at.good;
  places = at.places;
  place = at.place;
  held = λ i lt. absurd (omega arith);
}

-- and has no more days than before
anew-len : (w : Window) (b : Bool) → (begun_anew_unless b w).len ≤ w.len
anew-len w true = omega arith
anew-len w false = omega arith

-- no window begins on a day that left before a new one was begun
none_lost : (id : StationId) (n : ℕ) (ring : List ℤ) (w : Window) (days : List DayValue) (next : ℤ) (y : DayValue)
    (ys : List DayValue) (b : Bool) → IsAt ring w days next (y ∷ ys) → w.len < n → (IsTrue b ↔ (y.0 ≡ next))
    → windows id n (days_of b w days) ≡ windows id n days
none_lost id n ring w days next y ys true at few is = refl
none_lost id n ring w days next y ys false at few is = search (rules, arith, false_from_ne_true, Decides-int_eq, passed)

-- if no day is to come, no window begins on the days that are left
pub none_left : {ring : List ℤ} {w : Window} {days rest : List DayValue} {next : ℤ} (id : StationId) (n : ℕ)
    → IsAt ring w days next rest → rest ≡ [] → w.len < n → windows id n days ≡ []
none_left {ring} {w} {days} {rest} {next} id n at none few = grind (arith, ints, passed)

-- the day that comes next is taken in
pub taken : (ring : List ℤ) (w : Window) (days : List DayValue) (y : DayValue) (ys : List DayValue)
    → IsAt ring w days y.0 (y ∷ ys) → w.len < 512
    → IsAt (set ring (next_place w) y.1) (with_value w y.1) days (y.0 +ℤ pos 1) ys
taken ring w days y ys at few =
    let place : ℕ = (w.first + w.len) % 512 in
    let zero_more : y.1 +ℤ pos 0 ≡ y.1 = omega (arith, ints) in
    record {
      first = at.first;
      sum = rw (
        leading-split (w.len + 1) w.len 1 at.first days refl,
        at.sum,
        at.behind,
        (Decides-int_eq y.0 (at.first +ℤ pos w.len)).1 at.ends,
        zero_more,
      );
      behind = sym (drop-drop 1 w.len days) ∙ ap (drop 1) at.behind;
      ends = omega (arith, ints, at.ends);
      good = at.good;
      places = length-set ring place y.1 ∙ at.places;
      place = at.place;
      held = λ i lt. elim (cases_lt i w.len) [
        | inl before ↦ get_or-set_other ring place ((w.first + i) % 512) y.1 (pos 0) (omega (arith, before, at.place))
            ∙ at.held i before
        | inr from ↦
            let here : w.len ≡ i = omega arith in
            let last : w.len ≡ w.len + 0 = omega arith in
            rw (← here, get_or-set_same ring place y.1 (pos 0) (omega (arith, at.places)))
            (sym (ap (value_at days) last ∙ sym (ap (λ (x : DayValue). x.1) (get_or-drop w.len days 0 (pos 0, pos 0)))
            ∙ ap (λ (l : List DayValue). value_at l 0) at.behind))
      ];
    }

-- ---- a step of the scan

-- a whole window is offered, and its first day taken off
pub record Leaves (id : StationId) (n : ℕ) (days : List DayValue) (ring : List ℤ) (v : Window) (d : ℤ)
    (rest : List DayValue) : Type 0 where
  pub begins : is_day (d +ℤ pos 1 -ℤ pos n) ≡ true
  pub wide : FitsSigned w64 v.total
  pub fits : FitsSigned w64 (v.total -ℤ first_value ring v)
  pub now : List DayValue
  pub at : IsAt ring (without_first ring v) now (d +ℤ pos 1) rest
  pub offered : windows id n days ≡ candidate id (d +ℤ pos 1 -ℤ pos n) (d, v.total) ∷ windows id n now
  pub kept : AllByRecursion IsNotNegative days → AllByRecursion IsNotNegative now

-- so it is if the window is whole
pub leaves : {n : ℕ} {days rest : List DayValue} {ring : List ℤ} {v : Window} (id : StationId) (d : ℤ)
    → IsAt ring v days (d +ℤ pos 1) rest → 0 < n → n ≤ 366 → v.len ≡ n → Leaves id n days ring v d rest
leaves {days = []} {v = v} id d at some most is =
    let size : v.len ≡ suc (v.len - 1) = omega arith in
    let none : None ≡ Some v.total = rw size at at.sum in
    absurd cc
leaves {n = n} {days = x ∷ xs} {rest = rest} {ring = ring} {v = v} id d at some most is =
    let size : v.len ≡ suc (v.len - 1) = omega arith in
    let own = leading-first (v.len - 1) at.first v.total x xs (rw size at at.sum) in
    let on : x.0 ≡ at.first = own.0 in
    let begins : x.0 ≡ d +ℤ pos 1 -ℤ pos n = omega (arith, ints, at.ends) in
    let ends : x.0 +ℤ pos n -ℤ pos 1 ≡ d = omega (arith, ints) in
    let found : leading n x.0 (x ∷ xs) ≡ Some v.total = cc in
    let here : v.first ≡ (v.first + 0) % 512 = omega (arith, at.place) in
    let value : first_value ring v ≡ x.1 = ap (λ (m : ℕ). get_or ring m (pos 0)) here ∙ at.held 0 (omega arith) in
    let left : IsAt ring (without_first ring v) xs (d +ℤ pos 1) rest = record {
      first = at.first +ℤ pos 1;
      sum = rw value own.1;
      behind = ap (λ (m : ℕ). drop m (x ∷ xs)) (sym size) ∙ at.behind;
      ends = omega (arith, ints, at.ends);
      good = good-drop 1 (x ∷ xs) at.good;
      places = at.places;
      place = omega arith;
      held = λ i lt.
          let place : ((v.first + 1) % 512 + i) % 512 ≡ (v.first + suc i) % 512 = omega arith in
          ap (λ (m : ℕ). get_or ring m (pos 0)) place ∙ at.held (suc i) (omega arith);
    } in
    record {
      begins = ap is_day (sym begins) ∙ at.good.calendar.0;
      wide = fits at (omega arith);
      fits = fits left (omega arith);
      now = xs;
      at = left;
      offered = windows-first id n x xs at.good.rise ∙ rw (found, ends, begins);
      kept = λ all. all.1;
    }

-- ---- days in a row

-- what is true of some days is true of those after some of them
pub all-drop : (P : DayValue → Type 0) (n : ℕ) (xs : List DayValue) → AllByRecursion P xs → AllByRecursion P (drop n xs)
all-drop P zero xs h = h
all-drop P (suc n) [] h = h
all-drop P (suc n) (x ∷ xs) h = all-drop P n xs h.1

-- so it is of the days of a window that is begun again, or isn't
all-days_of : (P : DayValue → Type 0) (b : Bool) (w : Window) (days : List DayValue) → AllByRecursion P days
    → AllByRecursion P (days_of b w days)
all-days_of P true w days h = h
all-days_of P false w days h = all-drop P w.len days h

-- the days from a place of a row on, and those after the row
abbrev pub from_place : ℤ → List ℤ → ℕ → List DayValue → List DayValue
from_place d vs i rest = days_in_a_row (d +ℤ pos i) (drop i vs) ++ rest

-- those from its first day on
pub from_first : (d : ℤ) (vs : List ℤ) (rest : List DayValue) → from_place d vs 0 rest ≡ days_in_a_row d vs ++ rest
from_first d vs rest = let same : d +ℤ pos 0 ≡ d = omega (arith, ints) in rw same refl

-- a place has a day, if it is in the row
pub one_of_row : (d : ℤ) (vs : List ℤ) (i : ℕ) (rest : List DayValue) → i < length vs
    → from_place d vs i rest ≡ (d +ℤ pos i, get_or vs i (pos 0)) ∷ from_place d vs (i + 1) rest
one_of_row d vs i rest lt =
    let next : (d +ℤ pos i) +ℤ pos 1 ≡ d +ℤ pos (i + 1) = omega (arith, ints) in
    rw (drop_more vs i (pos 0) lt, next) refl

-- the days from a place on are those without the days before it
pub row-drop : (i : ℕ) (d : ℤ) (vs : List ℤ) (rest : List DayValue) → i ≤ length vs
    → drop i (days_in_a_row d vs ++ rest) ≡ from_place d vs i rest
row-drop zero d vs rest few = sym (from_first d vs rest)
row-drop (suc i) d [] rest few = absurd (omega (arith, few))
row-drop (suc i) d (v ∷ vs) rest few =
    let same : (d +ℤ pos 1) +ℤ pos i ≡ d +ℤ pos (suc i) = omega (arith, ints) in
    row-drop i (d +ℤ pos 1) vs rest (omega (arith, few)) ∙ rw same refl

-- the sum of a row of days
pub row-sum : (d : ℤ) (vs : List ℤ) (rest : List DayValue) → leading (length vs) d (days_in_a_row d vs ++ rest)
    ≡ Some (sum vs)
row-sum d [] rest = refl
row-sum d (v ∷ vs) rest =
    let same : int_eq d d ≡ true = (Decides-int_eq d d).1 refl in
    rw (same, row-sum (d +ℤ pos 1) vs rest) refl

-- a row of days comes next: the window is the same if the row goes on with it, and begun again otherwise
pub record Comes (id : StationId) (n : ℕ) (ring : List ℤ) (u : Window) (days : List DayValue) (d : ℤ) (vs : List ℤ)
    (rest : List DayValue) : Type 0 where
  pub now : List DayValue
  pub at : IsAt ring u now d (days_in_a_row d vs ++ rest)
  pub few : u.len < n
  pub same : windows id n now ≡ windows id n days
  pub kept : AllByRecursion IsNotNegative days → AllByRecursion IsNotNegative now

-- so it is if it has a day
pub comes : {n : ℕ} {ring : List ℤ} {w u : Window} {days ahead : List DayValue} {next d : ℤ} {b : Bool}
    (id : StationId) (vs : List ℤ) (rest : List DayValue) → IsAt ring w days next ahead → w.len < n → 0 < length vs
    → ahead ≡ days_in_a_row d vs ++ rest → (IsTrue b ↔ (d ≡ next)) → u ≡ begun_anew_unless b w
    → Comes id n ring u days d vs rest
comes id [] rest at few some row is then = absurd (omega (arith, some))
comes {n} {ring} {w} {u} {days} {ahead} {next} {d} {b} id (v ∷ vs) rest at few some row is then =
    let ys : List DayValue = days_in_a_row (d +ℤ pos 1) vs ++ rest in
    let here : IsAt ring w days next ((d, v) ∷ ys) = subst (IsAt ring w days next) row at in
    let less = anew-len w b in
    rw then record {
      now = days_of b w days;
      at = anew ring w days next (d, v) ys b here is;
      few = omega arith;
      same = none_lost id n ring w days next (d, v) ys b here few is;
      kept = λ all. all-days_of IsNotNegative b w days all;
    }
