-- The bound as it is computed is the bound by what it is greatest of, and there is but one.
use Rattle.rank_blocks.proofs.Cited.{rules, ◌≡◌, ℕ, zero, suc, ◌<◌, ◌≤◌, Bool, true, List, [], ◌∷◌, map, length, ◌⊎◌}
use Rattle.rank_blocks.proofs.Cited.{inr, refl, ◌∙◌, arith, ℤ, pos, neg_ℤ, ◌+ℤ◌, ◌-ℤ◌, ◌≤ℤ◌, ◌<ℤ◌, Contains}
use Rattle.rank_blocks.proofs.Cited.{flat_map, AllByRecursion, range_with_len, ints, Contains-append_left}
use Rattle.rank_blocks.proofs.Cited.{Contains-append_right, le-max_left, le-max_right, block_of, first_day, last_day}
use Rattle.rank_blocks.proofs.Cited.{Element, DayValue, Series, IsSeries, Score, Highest, Lowest, Sum, Dry, Wet, Hot, Cold}
use Rattle.rank_blocks.proofs.Cited.{Query, IsAsked, admits_day, test_of, is_such, admitted, run_len, longest_run}
use Rattle.rank_blocks.proofs.Cited.{calendar_len, counted, days_reached, is_reached, blocks_total, is_among_blocks}
use Rattle.rank_blocks.proofs.Cited.{greatest_by, blocks_of_window, first_blocks, greatest_total, spell_bound}
use Rattle.rank_blocks.proofs.Cited.{blocks_bound, holds_such, bound_for, bound, IsAskedOf, IsGreatest, IsDayScore}
use Rattle.rank_blocks.proofs.Cited.{IsBlocksTotal, IsRunLength, IsSumBound, IsBlocksBound, IsBoundFor, IsBound}
use Rattle.rank_blocks.proofs.Cited.{from_each, Contains-get_or, get_or}
use Rattle.std.proofs.lemmas.List.FromFn.{length-map-range_with_len, get_or-map-range_with_len}
use Rattle.rank_blocks.proofs.DaysInBlocks.{distance, block-rises}
use Rattle.rank_blocks.proofs.HotBlocks.{holds-in}
use Rattle.rank_blocks.proofs.Members.{contains-nothing, contains-cases, of_each, for_each, of_kept, in_kept, from_kept}
use Rattle.rank_blocks.proofs.Members.{greatest-some, greatest-unique, total-least}
use Rattle.rank_blocks.proofs.LongestRuns.{max-one}
use Rattle.rank_blocks.proofs.ReachedDays.{admitted-reached, such-in}
use Rattle.rank_blocks.proofs.Above.{AreFallen, run-at_least, days-valid, sums-fall}
use Rattle.rank_scores.specs.declared.spell.Spell.TheVariants as spells

-- ---- there is but one

-- the same value and the same total make the same bound of sums
sum-unique : (q : Query) (s : Series) (n : ℕ) (y z : ℤ) → IsSumBound q s n y → IsSumBound q s n z → y ≡ z
sum-unique q s n y z of_y of_z =
    let value = greatest-unique _ of_y.value of_z.value of_y.greatest_value of_z.greatest_value in
    let most = greatest-unique _ of_y.most of_z.most of_y.greatest_total of_z.greatest_total in
    cc (of_y.smaller, of_z.smaller)

-- the number of blocks determines the bound
blocks-unique : (such : ℤ → Bool) (y z : ℤ) → IsBlocksBound such y → IsBlocksBound such z → y ≡ z
blocks-unique such y z of_y of_z =
    let same = greatest-unique _ (pos of_y.blocks) (pos of_z.blocks) of_y.greatest of_z.greatest in
    omega (arith, ints, same, of_y.times, of_z.times)

-- there is but one bound for a score
pub unique-for : (score : Score) (q : Query) (s : Series) (y z : ℤ) → IsBoundFor score q s y → IsBoundFor score q s z
    → y ≡ z
unique-for (Highest e) q s y z of_y of_z = greatest-unique _ y z of_y of_z
unique-for (Lowest e) q s y z of_y of_z = greatest-unique _ y z of_y of_z
unique-for (Sum n e) q s y z of_y of_z = sum-unique q s n y z of_y of_z
unique-for Dry q s y z of_y of_z = greatest-unique _ y z of_y of_z
unique-for Wet q s y z of_y of_z = greatest-unique _ y z of_y of_z
unique-for (Hot t) q s y z of_y of_z = blocks-unique _ y z of_y of_z
unique-for (Cold t) q s y z of_y of_z = blocks-unique _ y z of_y of_z

-- ---- days

-- if there is an admitted day, it is one of the days
pub some_admitted : (q : Query) (s : Series) → 0 < length (admitted q s)
    → (x : DayValue) × (Contains s.days x × (admits_day q x.0 ≡ true))
some_admitted q s some =
    let first = Contains-get_or (admitted q s) 0 (pos 0, pos 0) some in
    (get_or (admitted q s) 0 (pos 0, pos 0), of_kept (λ x. admits_day q x.0) s.days _ first)

-- the greatest score of the days reached, if there is one
day-greatest : (f : ℤ → ℤ) (q : Query) (s : Series) → 0 < length (admitted q s)
    → IsGreatest (IsDayScore f (days_reached q s)) (greatest_by f (days_reached q s))
day-greatest f q s some =
    let day = some_admitted q s some in
    greatest-some (map (λ y. f y.1) (days_reached q s)) (f day.0.1)
    (in_kept (λ y. f y.1) (λ x. is_reached q.period (block_of x.0)) s.days day.0 day.1.0
    (admitted-reached q day.0.0 day.1.1))

-- ---- totals

-- what is in one of the lists that are made of elements is in all of them together
contains-flat_map : (f : DayValue → List ℤ) (xs : List DayValue) (x : DayValue) (y : ℤ) → Contains xs x
    → Contains (f x) y → Contains (flat_map f xs) y
contains-flat_map f [] x y h has = absurd (contains-nothing x h)
contains-flat_map f (z ∷ zs) x y h has =
    grind (arith, ints, contains-cases, Contains-append_left, Contains-append_right, contains-flat_map f zs x y)

-- the blocks from which w blocks hold a day
abbrev starts : ℕ → DayValue → List ℤ
starts w x = map (λ i. block_of x.0 -ℤ pos i) (range_with_len 0 w)

-- a block from which w blocks hold one of some days is among them
start-of : (w : ℕ) (days : List DayValue) (first : ℤ) (x : DayValue) → Contains days x
    → is_among_blocks first w (block_of x.0) ≡ true → Contains (flat_map (starts w) days) first
start-of w days first x has e =
    let far = distance first (block_of x.0) (grind (arith, ints)) in
    let lt : far.0 < w = grind (arith, ints, far.1) in
    let at = get_or-map-range_with_len (λ i. block_of x.0 -ℤ pos i) 0 w far.0 far.0 first lt (omega arith) in
    let size = length-map-range_with_len (λ i. block_of x.0 -ℤ pos i) 0 w in
    contains-flat_map (starts w) days x first has (far.0, omega (arith, size), at ∙ omega (arith, ints, far.1))

-- a window that holds a day has a total that is looked at, and one that holds none has nothing
window-seen : (w : ℕ) (first : ℤ) (all : List ℤ) (days : List DayValue)
    → AllByRecursion (λ x. is_among_blocks first w (block_of x.0) ≡ true → Contains all first) days
    → Contains all first ⊎ (blocks_total days w first ≡ pos 0)
window-seen w first all [] h = inr refl
window-seen w first all (x ∷ xs) h = grind (arith, ints, window-seen w first all xs h.1)

-- the greatest total of windows that begin in the period
total-greatest : (q : Query) (s : Series) (w : ℕ) → 0 < w → 0 < length (admitted q s) → AreFallen s.days
    → IsGreatest (IsBlocksTotal q.period s.days w) (greatest_total q s.days w)
total-greatest q s w some_blocks some falls =
    let day = some_admitted q s some in
    let all : List ℤ = flat_map (starts w) s.days in
    let seen = in_kept (blocks_total s.days w) (is_reached q.period) all in
    let own = start-of w s.days (block_of day.0.0) day.0 day.1.0 (grind (arith, ints)) in
    let of_z = greatest-some (map (blocks_total s.days w) (first_blocks q s.days w))
    (blocks_total s.days w (block_of day.0.0)) (seen (block_of day.0.0) own (admitted-reached q day.0.0 day.1.1)) in
    let found = from_kept (blocks_total s.days w) (is_reached q.period) all (greatest_total q s.days w) of_z.is_one in
    record {
      is_one = (found.0, found.1.1, found.2);
      is_most = λ y h.
          let side = window-seen w h.0 all s.days (search (rules, arith, ints, for_each, start-of)) in
          let most = λ (has : Contains all h.0). of_z.is_most (blocks_total s.days w h.0) (seen h.0 has h.1) in
          grind (arith, ints, side, most, total-least, found);
    }

-- ---- runs

-- that many numbers in a row pass somewhere
abbrev Somewhere : (ℤ → Bool) → ℕ → Type 0
Somewhere such len = (first : ℤ) × ((i : ℕ) → i < len → such (first +ℤ pos i) ≡ true)

-- the longest of the runs from some numbers on is a run
longest-somewhere : (such : ℤ → Bool) (ns : List ℤ) → Somewhere such (longest_run such ns)
longest-somewhere such [] = (pos 0, λ i lt. absurd (omega arith))
longest-somewhere such (a ∷ ns) = max-one (Somewhere such) (run_len such a) (longest_run such ns)
    (a, (counted such calendar_len a).inside) (longest-somewhere such ns)

-- the run from a number of one of some days on is no longer
longest-most : (such : ℤ → Bool) (f : DayValue → ℤ) (days : List DayValue)
    → AllByRecursion (λ x. run_len such (f x) ≤ longest_run such (map f days)) days
longest-most such f [] = tt
longest-most such f (x ∷ xs) = grind (arith, ints, le-max_left, from_each, le-max_right, longest-most such f xs)

module _ (such : ℤ → Bool) (f : DayValue → ℤ) (days : List DayValue) (low : ℤ)
    (among : (a : ℤ) → such a ≡ true → (x : DayValue) × Contains days x × (f x ≡ a))
    (within : (x : DayValue) → Contains days x → (low ≤ℤ f x) × (f x <ℤ (low +ℤ pos calendar_len))) where
  -- if each number that passes is made of a day, no run is longer than those from such numbers on
  no_longer : (len : ℕ) (a : ℤ) → ((i : ℕ) → i < len → such (a +ℤ pos i) ≡ true) → len ≤ longest_run such (map f days)
  no_longer zero a pass = omega arith
  no_longer (suc n) a pass =
      let first = among (a +ℤ pos 0) (pass 0 (omega arith)) in
      let last = among (a +ℤ pos n) (pass n (omega arith)) in
      let is : f first.0 ≡ a = omega (arith, ints, first.2) in
      let short : suc n ≤ calendar_len =
      omega (arith, ints, (within first.0 first.1).0, (within last.0 last.1).1, last.2) in
      let least = run-at_least such (suc n) calendar_len (f first.0) short (λ i lt. rw is (pass i lt)) in
      omega (arith, least, of_each _ days (longest-most such f days) first.0 first.1)

  -- the longest of these is the longest run
  runs-greatest : IsGreatest (IsRunLength such) (pos (longest_run such (map f days)))
  runs-greatest =
      let somewhere = longest-somewhere such (map f days) in
      search (rules, arith, ints, somewhere, no_longer)

-- a day that is reached is one of the calendar
reached-valid : (q : Query) (s : Series) → IsSeries s → (x : DayValue) → Contains (days_reached q s) x
    → (first_day ≤ℤ x.0) × (x.0 ≤ℤ last_day)
reached-valid q s series x has =
    grind (arith, ints, days-valid s series x, of_kept (λ x. is_reached q.period (block_of x.0)) s.days x has)

-- the longest run of days that pass, of those reached
run-greatest : (test : ℤ → Bool) (q : Query) (s : Series) → IsSeries s → IsGreatest
    (IsRunLength (is_such test (days_reached q s))) (spell_bound test (days_reached q s))
run-greatest test q s series =
    runs-greatest (is_such test (days_reached q s)) (λ x. x.0) (days_reached q s) first_day
    (λ a e. let day = such-in test (days_reached q s) a e in ((a, day.0), day.1, refl))
    (λ x has. let day = reached-valid q s series x has in (day.0, omega (arith, ints, day.1)))

-- the most blocks in a row that hold a day which passes, of those reached
blocks-greatest : (test : ℤ → Bool) (q : Query) (s : Series) → IsSeries s → IsGreatest
    (IsRunLength (holds_such test (days_reached q s)))
    (pos (longest_run (holds_such test (days_reached q s)) (map (λ x. block_of x.0) (days_reached q s))))
blocks-greatest test q s series =
    runs-greatest (holds_such test (days_reached q s)) (λ x. block_of x.0) (days_reached q s) (block_of first_day)
    (λ a e. let day = holds-in test (days_reached q s) a e in (day.0, day.1, day.2))
    (λ x has. let day = reached-valid q s series x has in
    (block-rises first_day x.0 day.0, omega (arith, ints, block-rises x.0 last_day day.1)))

-- 32 times the number of blocks is the bound of hot and of cold spells
pub blocks-computed : (test : ℤ → Bool) (q : Query) (s : Series) → IsSeries s
    → IsBlocksBound (holds_such test (days_reached q s)) (blocks_bound test (days_reached q s))
blocks-computed test q s series = grind (arith, ints, blocks-greatest test q s series)

-- ---- the bound

-- the bound for a score, as it is computed
computed-for : (score : Score) (q : Query) (s : Series) → IsSeries s → 0 < length (admitted q s)
    → ((n : ℕ) (e : Element) → score ≡ Sum n e → AreFallen s.days) → IsBoundFor score q s (bound_for score q s)
computed-for (Highest e) q s series some falls = day-greatest (λ v. v) q s some
computed-for (Lowest e) q s series some falls = day-greatest neg_ℤ q s some
computed-for (Sum n e) q s series some falls = record {
  value = greatest_by (λ v. v) (days_reached q s);
  most = greatest_total q s.days (blocks_of_window n);
  greatest_value = day-greatest (λ v. v) q s some;
  greatest_total = total-greatest q s (blocks_of_window n) (omega arith) some (falls n e refl);
  smaller = refl;
}
computed-for Dry q s series some falls = run-greatest (test_of spells.Dry) q s series
computed-for Wet q s series some falls = run-greatest (test_of spells.Wet) q s series
computed-for (Hot t) q s series some falls = blocks-computed (test_of (spells.Hot t)) q s series
computed-for (Cold t) q s series some falls = blocks-computed (test_of (spells.Cold t)) q s series

-- the bound as it is computed is the bound by what it is greatest of
pub computed-IsBound : (q : Query) (s : Series) → IsAsked q → IsAskedOf q s → IsBound q s (bound q s)
computed-IsBound q s asked of = grind (arith, ints, computed-for, sums-fall)
