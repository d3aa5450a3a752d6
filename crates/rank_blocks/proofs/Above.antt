-- No contender has a score above the bound.
use Rattle.rank_blocks.proofs.Cited.{◌≡◌, ℕ, ◌*◌, ◌<◌, ◌≤◌, Bool, true, List, [], ◌∷◌, map, filter, Option, Some, refl}
use Rattle.rank_blocks.proofs.Cited.{ap, ◌∙◌, subst, arith, ℤ, pos, neg_ℤ, ◌≤ℤ◌, ◌+ℤ◌, ◌*ℤ◌, ◌&&◌, ◌-ℤ◌, Contains}
use Rattle.rank_blocks.proofs.Cited.{filter_map, option_map, AllByRecursion, ints, clamps, All-contains, block_of}
use Rattle.rank_blocks.proofs.Cited.{is_day, Element, DayValue, Series, IsSeries, is_value, Score, Highest, Lowest, Sum}
use Rattle.rank_blocks.proofs.Cited.{Dry, Wet, Hot, Cold, Query, score_element, IsAsked, admits_day, Days, Windows, Spells}
use Rattle.rank_blocks.proofs.Cited.{shape, test_of, is_such, window_total, begun, candidate, contenders_among}
use Rattle.rank_blocks.proofs.Cited.{admitted, run_from, run_len, calendar_len, counted, total, blocks_total, is_among_blocks}
use Rattle.rank_blocks.proofs.Cited.{is_reached, days_reached, blocks_of_window, holds_such, IsGreatest, IsDayScore}
use Rattle.rank_blocks.proofs.Cited.{IsRunLength, IsSumBound, IsBlocksBound, IsBoundFor, block-holds, and_parts, length}
use Rattle.rank_blocks.proofs.Cited.{sum_of_values, total-days, admitted-rise, int_le}
use Rattle.std.proofs.lemmas.List.Sums.{AllPass-from_list_all}
use Rattle.ghcn_files.specs.declared.station.StationId.{StationId}
use Rattle.rank_blocks.proofs.HotBlocks.{such-holds, days-greatest}
use Rattle.rank_blocks.proofs.Members.{contains-first, contains-behind, for_each, of_kept, in_kept, total-wider}
use Rattle.rank_blocks.proofs.Members.{filter-both}
use Rattle.rank_blocks.proofs.DaysInBlocks.{block-rises}
use Rattle.rank_blocks.proofs.ReachedDays.{admitted-reached, such-wider}
use Rattle.rank_scores.specs.declared.spell.Spell.TheVariants as spells
use Rattle.std.proofs.lemmas.Option.{same_Some}

-- ---- what begins on a day

-- if nothing that begins on a day scores more, no contender does
candidates-below : (id : StationId) (f : DayValue → Option (ℤ × ℤ)) (bound : ℤ) (days : List DayValue)
    → ((x : DayValue) → Contains days x → (e : ℤ × ℤ) → f x ≡ Some e → e.1 ≤ℤ bound)
    → AllByRecursion (λ c. c.score ≤ℤ bound) (filter_map (λ x. option_map (candidate id x.0) (f x)) days)
candidates-below id f bound [] below = tt
candidates-below id f bound (x ∷ xs) below =
    let rest = candidates-below id f bound xs (λ y has. below y (contains-behind x y xs has)) in
    grind (arith, ints, below x (contains-first x x xs refl), rest)

-- ---- single days

-- what is made of the value of an admitted day is at most the greatest of the days reached
below-greatest : (f : ℤ → ℤ) (q : Query) (s : Series) (z : ℤ) → IsGreatest (IsDayScore f (days_reached q s)) z
    → (x : DayValue) → Contains (admitted q s) x → f x.1 ≤ℤ z
below-greatest f q s z of_z x has =
    let day = of_kept (λ x. admits_day q x.0) s.days x has in
    of_z.is_most (f x.1) (in_kept (λ y. f y.1) _ s.days x day.0 (admitted-reached q x.0 day.1))

-- a day's own score is at most the greatest
pub days-below : (f : ℤ → ℤ) (q : Query) (s : Series) (z : ℤ) → IsGreatest (IsDayScore f (days_reached q s)) z
    → AllByRecursion (λ c. c.score ≤ℤ z) (contenders_among s.id (Days f) (admitted q s))
days-below f q s z of_z = candidates-below s.id (λ x. Some (x.0, f x.1)) z (admitted q s) (λ x has e is.
    grind (arith, ints, same_Some (x.0, f x.1) e is, below-greatest f q s z of_z x has))

-- ---- spells

-- a run is at least as long as that many numbers that pass one after another
pub run-at_least : (such : ℤ → Bool) (len n : ℕ) (a : ℤ) → len ≤ n → ((i : ℕ) → i < len → such (a +ℤ pos i) ≡ true)
    → len ≤ run_from such n a
run-at_least such len n a le pass = grind (arith, ints, counted such n a, pass (run_from such n a))

-- such an admitted day is such a day of those reached
reached-such : (test : ℤ → Bool) (q : Query) (s : Series) (d : ℤ) → is_such test (admitted q s) d ≡ true
    → is_such test (days_reached q s) d ≡ true
reached-such test q s d e =
    such-wider test (admits_day q) (λ n. is_reached q.period (block_of n)) s.days d (admitted-reached q) e

-- a spell is no longer than the longest run of a wider kind
spells-under : (test wide : ℤ → Bool) (q : Query) (s : Series) (z : ℤ)
    → ((d : ℤ) → is_such test (admitted q s) d ≡ true → wide d ≡ true) → IsGreatest (IsRunLength wide) z
    → AllByRecursion (λ c. c.score ≤ℤ z) (contenders_among s.id (Spells test) (admitted q s))
spells-under test wide q s z wider of_z =
    let such : ℤ → Bool = is_such test (admitted q s) in
    candidates-below s.id (begun (Spells test) (admitted q s)) z (admitted q s) (λ x has e is.
    let score : pos (run_len such x.0) ≡ e.1 = grind (arith, ints, is) in
    let run = counted such calendar_len x.0 in
    of_z.is_most e.1 (run_len such x.0, x.0, score, λ i lt. wider (x.0 +ℤ pos i) (run.inside i lt)))

-- or than the days of the most blocks in a row that hold such a day
spells-in_blocks : (test : ℤ → Bool) (q : Query) (s : Series) (z : ℤ)
    → IsBlocksBound (holds_such test (days_reached q s)) z → AllByRecursion (λ c. c.score ≤ℤ z)
    (contenders_among s.id (Spells test) (admitted q s))
spells-in_blocks test q s z of_z =
    let such : ℤ → Bool = holds_such test (days_reached q s) in
    rw (← of_z.times) (spells-under test (λ d. such (block_of d)) q s (pos (32 * of_z.blocks))
    (λ d e. such-holds test (days_reached q s) d (reached-such test q s d e))
    (days-greatest such of_z.blocks of_z.greatest))

-- ---- windows

-- no value is below zero
abbrev pub AreFallen : List DayValue → Type 0
AreFallen days = AllByRecursion (λ x. pos 0 ≤ℤ x.1) days

-- the values of days add up to at most as many times a number that none exceeds
sum-most : (z : ℤ) (xs : List DayValue) → AllByRecursion (λ x. x.1 ≤ℤ z) xs
    → sum_of_values xs ≤ℤ (pos (length xs) *ℤ z)
sum-most z [] most = grind (arith, ints)
sum-most z (x ∷ xs) most = grind (arith, ints, sum-most z xs most.1)

-- and they are the total of the days
sum-total : (xs : List DayValue) → sum_of_values xs ≡ total (map (λ x. x.1) xs)
sum-total [] = refl
sum-total (x ∷ xs) = ap (λ (z : ℤ). x.1 +ℤ z) (sum-total xs)

-- the day lies from the first to the last of n days
abbrev in_window : ℤ → ℕ → DayValue → Bool
in_window a n x = int_le a x.0 && int_le x.0 (a +ℤ pos n -ℤ pos 1)

-- the days of a window lie in that many blocks from that of its first day on
window-blocks : (a : ℤ) (n : ℕ) (x : DayValue) → in_window a n x ≡ true
    → is_among_blocks (block_of a) (blocks_of_window n)
    (block_of x.0) ≡ true
window-blocks a n x e = grind (arith, ints, block-holds, block-rises)

-- the sum of a window is at most the bound of sums
pub windows-below : (n : ℕ) (q : Query) (s : Series) (z : ℤ) → IsSeries s → AreFallen s.days → IsSumBound q s n z
    → AllByRecursion (λ c. c.score ≤ℤ z) (contenders_among s.id (Windows n) (admitted q s))
windows-below n q s z series falls of_z =
    candidates-below s.id (begun (Windows n) (admitted q s)) z (admitted q s) (λ x has e is.
    let sum : window_total (admitted q s) n x.0 ≡ Some e.1 = grind (arith, ints, is) in
    let days : List DayValue = filter (in_window x.0 n) (admitted q s) in
    let is_sum = total-days (admitted q s) (admitted-rise q s series) n x.0 (x.0 +ℤ pos n -ℤ pos 1) e.1
    (omega (arith, ints)) sum in
    let by_value = subst (λ (k : ℕ). sum_of_values days ≤ℤ (pos k *ℤ of_z.value)) is_sum.0
    (sum-most of_z.value days (for_each (λ y. y.1 ≤ℤ of_z.value) days (λ y in_it.
    below-greatest (λ v. v) q s of_z.value of_z.greatest_value y
    (of_kept (in_window x.0 n) (admitted q s) y in_it).0))) in
    let both = filter-both (in_window x.0 n) (λ y. admits_day q y.0) s.days in
    let by_blocks = total-wider (λ y. y.1) (λ y. admits_day q y.0 && in_window x.0 n y)
    (λ y. is_among_blocks (block_of x.0) (blocks_of_window n) (block_of y.0)) s.days falls
    (λ y has e. window-blocks x.0 n y (and_parts (admits_day q y.0) (in_window x.0 n y) e).1) in
    let same = sum-total days ∙ ap (λ (ys : List DayValue). total (map (λ y. y.1) ys)) both in
    let greatest = of_z.greatest_total.is_most (blocks_total s.days (blocks_of_window n) (block_of x.0))
    (block_of x.0, admitted-reached q x.0 (of_kept (λ x. admits_day q x.0) s.days x has).1, refl) in
    omega (arith, ints, clamps))

-- ---- falls

-- each day of a series is one of the calendar, and its value one of the element
pub days-valid : (s : Series) → IsSeries s → (x : DayValue) → Contains s.days x
    → (is_day x.0 ≡ true) × (is_value s.element x.1 ≡ true)
days-valid s series x has = and_parts (is_day x.0) (is_value s.element x.1)
    (All-contains (λ x. (is_day x.0 && is_value s.element x.1) ≡ true) s.days x
    (AllPass-from_list_all (λ x. is_day x.0 && is_value s.element x.1) s.days series.values) has)

-- the values of a series that a query sums up are at least zero
pub sums-fall : (q : Query) (s : Series) (n : ℕ) (e : Element) → IsAsked q → IsSeries s
    → s.element ≡ score_element q.score → q.score ≡ Sum n e → AreFallen s.days
sums-fall q s n e asked series element is =
    for_each (λ x. pos 0 ≤ℤ x.1) s.days (λ x has.
    grind (arith, ints, asked.score, element, is, days-valid s series x has))

-- no contender has a score above the bound for a score, and so no candidate
pub above-for : (score : Score) (q : Query) (s : Series) (z : ℤ) → IsSeries s
    → ((n : ℕ) (e : Element) → score ≡ Sum n e → AreFallen s.days) → IsBoundFor score q s z
    → AllByRecursion (λ c. c.score ≤ℤ z) (contenders_among s.id (shape score) (admitted q s))
above-for (Highest e) q s z series falls of_z = days-below (λ v. v) q s z of_z
above-for (Lowest e) q s z series falls of_z = days-below neg_ℤ q s z of_z
above-for (Sum n e) q s z series falls of_z = windows-below n q s z series (falls n e refl) of_z
above-for Dry q s z series falls of_z = spells-under (test_of spells.Dry) (is_such _ (days_reached q s)) q s z
    (reached-such (test_of spells.Dry) q s) of_z
above-for Wet q s z series falls of_z = spells-under (test_of spells.Wet) (is_such _ (days_reached q s)) q s z
    (reached-such (test_of spells.Wet) q s) of_z
above-for (Hot t) q s z series falls of_z = spells-in_blocks (test_of (spells.Hot t)) q s z of_z
above-for (Cold t) q s z series falls of_z = spells-in_blocks (test_of (spells.Cold t)) q s z of_z
