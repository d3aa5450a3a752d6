-- The candidates of a query begin and end on days of the years 1 to 9999.
use Rattle.std.proofs.Common.{◌≡◌, ℕ, zero, suc, ◌<◌, Bool, true, false, cond, not, List, [], ◌∷◌, filter, Option, Some, None, refl, sym, ap, ◌∙◌, arith, ℤ, pos, ◌+ℤ◌, ◌-ℤ◌}
use Rattle.std.specs.Prelude.{neg_ℤ, ◌&&◌}
use Rattle.std.specs.List.{filter_map, cons_option, find, AllByRecursion}
use Rattle.std.specs.Option.{option_map, option_map_or}
use Rattle.std.specs.Ordering.{int_eq}
use Rattle.std.proofs.lemmas.Bool.{and_parts}
use Rattle.std.proofs.lemmas.Bool.Decides.{nat_tests}
use Rattle.std.proofs.lemmas.Int.{ints}
use Rattle.ghcn_fields.specs.Meaning.Days.{is_day, is_within}
use Rattle.ghcn_files.specs.declared.station.StationId.{StationId}
use Rattle.ghcn_series.specs.Meaning.Series.{DayValue, Series, value_on}
use Rattle.ghcn_series.proofs.ListFacts.{all-filter}
use Rattle.rank_query.specs.declared.score.Score.{Score}
use Rattle.rank_query.specs.declared.score.Score.TheVariants.{Highest, Lowest, Sum, Dry, Wet, Hot, Cold}
use Rattle.rank_query.specs.Meaning.Asked.{Query, IsAsked, is_score, is_fall}
use Rattle.rank_query.specs.Meaning.Admits.{admits_day, period_holds, season_holds}
use Rattle.rank_scores.specs.declared.candidate.Candidate.{Candidate}
use Rattle.rank_scores.specs.Runs.{run_from, run_len, begins_run}
use Rattle.rank_scores.specs.Meaning.Candidates.{Shape, Days, Windows, Spells, shape, is_such}
use Rattle.rank_scores.specs.Candidates.{plus, window_total, begun, candidate, candidates, contenders, test_of}
use Rattle.rank_scores.specs.Stretches.{admitted_among}
use Rattle.rank_scores.specs.declared.spell.Spell.TheVariants as spells

-- a candidate begins and ends on a day
abbrev pub IsOfDays : Candidate → Type 0
IsOfDays c = (is_day c.first ≡ true) × (is_day c.last ≡ true)

-- ---- runs

-- if a number passes, its run goes on after it
run-more : (such : ℤ → Bool) (n : ℕ) (a : ℤ) → such a ≡ true
    → run_from such (suc n) a ≡ suc (run_from such n (a +ℤ pos 1))
unfolding run_from
run-more such n a here =
    ap (λ (b : Bool). elim b as (λ _. ℕ) [ true ↦ suc (run_from such n (a +ℤ pos 1)) | false ↦ 0 ]) here

-- if it doesn't there is none
run-none : (such : ℤ → Bool) (n : ℕ) (a : ℤ) → such a ≡ false → run_from such (suc n) a ≡ 0
unfolding run_from
run-none such n a other =
    ap (λ (b : Bool). elim b as (λ _. ℕ) [ true ↦ suc (run_from such n (a +ℤ pos 1)) | false ↦ 0 ]) other

-- a run in no numbers has length 0
run-zero : (such : ℤ → Bool) (a : ℤ) → run_from such zero a ≡ 0
unfolding run_from
run-zero such a = refl

-- the number that ends a run passes
run_last : (such : ℤ → Bool) (n k : ℕ) (a : ℤ) → run_from such n a ≡ suc k → such (a +ℤ pos k) ≡ true
run_last such zero k a e = absurd (omega (arith, e, run-zero such a))
run_last such (suc n) k a e = by (λ i f. run_last such n i (a +ℤ pos 1) f) (such a) refl k e
  where
    by : ((i : ℕ) → run_from such n (a +ℤ pos 1) ≡ suc i → such ((a +ℤ pos 1) +ℤ pos i) ≡ true)
        → (b : Bool) → such a ≡ b → (k : ℕ) → run_from such (suc n) a ≡ suc k → such (a +ℤ pos k) ≡ true
    by rest false other k f = absurd (omega (arith, f, run-none such n a other))
    by rest true here zero f = let same : a +ℤ pos 0 ≡ a = omega (arith, ints) in ap such same ∙ here
    by rest true here (suc k) f =
        let same : a +ℤ pos (suc k) ≡ (a +ℤ pos 1) +ℤ pos k = omega (arith, ints) in
        ap such same ∙ rest k (omega (arith, f, run-more such n a here))

-- so does the last of a run that begins
run_end : (such : ℤ → Bool) (n : ℕ) (a : ℤ) → such a ≡ true
    → such (a +ℤ pos (run_from such (suc n) a) -ℤ pos 1) ≡ true
run_end such n a here =
    let more = run-more such n a here in
    let same : a +ℤ pos (run_from such (suc n) a) -ℤ pos 1 ≡ a +ℤ pos (run_from such n (a +ℤ pos 1)) =
    omega (arith, ints, more) in
    ap such same ∙ run_last such (suc n) (run_from such n (a +ℤ pos 1)) a more

-- ---- days with a value

-- the day that is found is the one that was looked for
same_day : (a b : ℤ) → int_eq a b ≡ true → a ≡ b
same_day a b e = grind (arith, ints)

-- a day with a value is one of the days
valued_day : (days : List DayValue) (d v : ℤ) → AllByRecursion (λ x. is_day x.0 ≡ true) days
    → value_on days d ≡ Some v → is_day d ≡ true
valued_day [] d v h e = absurd cc
valued_day (x ∷ xs) d v h e = elim (int_eq x.0 d) as (λ b. int_eq x.0 d ≡ b
    → option_map (λ (y : DayValue). y.1) (cond b (Some x) (find (λ y. int_eq y.0 d) xs)) ≡ Some v → is_day d ≡ true) [
      | true ↦ λ t f. ap is_day (sym (same_day x.0 d t)) ∙ h.0
      | false ↦ λ t f. valued_day xs d v h.1 f
    ] refl e

-- so is a day that passes
such_day : (days : List DayValue) (test : ℤ → Bool) (d : ℤ) → AllByRecursion (λ x. is_day x.0 ≡ true) days
    → is_such test days d ≡ true → is_day d ≡ true
such_day days test d h e = by (value_on days d) refl e
  where
    by : (o : Option ℤ) → value_on days d ≡ o → option_map_or test o false ≡ true → is_day d ≡ true
    by None is f = absurd cc
    by (Some v) is f = valued_day days d v h is

-- ---- candidates

-- a sum that there is has both its parts
sum_parts : (a b : Option ℤ) (t : ℤ) → plus a b ≡ Some t → (v : ℤ) × (w : ℤ) × (a ≡ Some v) × (b ≡ Some w)
sum_parts None b t e = absurd cc
sum_parts (Some v) None t e = absurd cc
sum_parts (Some v) (Some w) t e = (v, w, refl, refl)

module _ (q : Query) (days : List DayValue) where
  -- the admitted ones of these days
  abbrev own : List DayValue
  own = admitted_among q days

  -- admitted days are days
  own_days : (xs : List DayValue) → AllByRecursion (λ x. is_day x.0 ≡ true) (admitted_among q xs)
  own_days [] = tt
  own_days (x ∷ xs) = elim (admits_day q x.0) as (λ b. admits_day q x.0 ≡ b
      → AllByRecursion (λ x. is_day x.0 ≡ true) (cond b (x ∷ filter (λ y. admits_day q y.0) xs)
      (filter (λ y. admits_day q y.0) xs))) [
        | true ↦ λ e. (
          (and_parts (is_day x.0) (period_holds q.period x.0)
              (and_parts (is_day x.0 && period_holds q.period x.0) (season_holds q.season x.0) e).0).0,
          own_days xs,
        )
        | false ↦ λ e. own_days xs
      ] refl

  -- what begins on a day ends on a day
  abbrev EndsOnDay : Shape → DayValue → Type 0
  EndsOnDay sh x = (e : ℤ × ℤ) → begun sh own x ≡ Some e → is_day e.0 ≡ true

  -- a single day does
  day_ends : (f : ℤ → ℤ) (x : DayValue) → is_day x.0 ≡ true → EndsOnDay (Days f) x
  day_ends f x day e is = let same : e.0 ≡ x.0 = cc in ap is_day same ∙ day

  -- a total's last day is one
  total_ends : (n : ℕ) (a t : ℤ) → window_total own (suc n) a ≡ Some t → is_day (a +ℤ pos n) ≡ true
  total_ends zero a t e =
      let parts = sum_parts (value_on own a) (Some (pos 0)) t e in
      let same : a +ℤ pos 0 ≡ a = omega (arith, ints) in
      ap is_day same ∙ valued_day own a parts.0 (own_days days) parts.2
  total_ends (suc n) a t e =
      let parts = sum_parts (value_on own a) (window_total own (suc n) (a +ℤ pos 1)) t e in
      let same : a +ℤ pos (suc n) ≡ (a +ℤ pos 1) +ℤ pos n = omega (arith, ints) in
      ap is_day same ∙ total_ends n (a +ℤ pos 1) parts.1 parts.3

  -- so a window does
  window_ends : (n : ℕ) (x : DayValue) → EndsOnDay (Windows (suc n)) x
  window_ends n x e is = by (window_total own (suc n) x.0) refl is
    where
      by : (o : Option ℤ) → window_total own (suc n) x.0 ≡ o
          → option_map (λ (total : ℤ). (x.0 +ℤ pos (suc n) -ℤ pos 1, total)) o ≡ Some e → is_day e.0 ≡ true
      by None g k = absurd cc
      by (Some t) g k =
          let last : e.0 ≡ x.0 +ℤ pos (suc n) -ℤ pos 1 = cc in
          let same : x.0 +ℤ pos (suc n) -ℤ pos 1 ≡ x.0 +ℤ pos n = omega (arith, ints) in
          ap is_day (last ∙ same) ∙ total_ends n x.0 t g

  -- and a spell
  spell_ends : (test : ℤ → Bool) (x : DayValue) → EndsOnDay (Spells test) x
  spell_ends test x e is = by (begins_run (is_such test own) x.0) refl is
    where
      by : (b : Bool) → begins_run (is_such test own) x.0 ≡ b
          → cond b (Some (x.0 +ℤ pos (run_len (is_such test own) x.0) -ℤ pos 1, pos (run_len (is_such test own) x.0)))
          None ≡ Some e → is_day e.0 ≡ true
      by false h g = absurd cc
      by true h g =
          let here = and_parts (is_such test own x.0) (not (is_such test own (x.0 -ℤ pos 1))) h in
          let last : is_such test own (x.0 +ℤ pos (run_len (is_such test own) x.0) -ℤ pos 1) ≡ true =
          run_end (is_such test own) 3_652_058 x.0 here.0 in
          let same : e.0 ≡ x.0 +ℤ pos (run_len (is_such test own) x.0) -ℤ pos 1 = cc in
          ap is_day same
          ∙ such_day own test (x.0 +ℤ pos (run_len (is_such test own) x.0) -ℤ pos 1) (own_days days) last

  -- a window that can be asked for has a day
  sum_ends : (n : ℕ) → is_within 1 366 n ≡ true → (x : DayValue) → EndsOnDay (Windows n) x
  sum_ends zero h x = absurd (let low : 1 < 1 = grind (arith, nat_tests) in omega (arith, low))
  sum_ends (suc n) h x = window_ends n x

  -- whatever can be asked for does
  asked_ends : (sc : Score) → is_score sc ≡ true → (x : DayValue) → is_day x.0 ≡ true → EndsOnDay (shape sc) x
  asked_ends (Highest e) right x day = day_ends (λ v. v) x day
  asked_ends (Lowest e) right x day = day_ends neg_ℤ x day
  asked_ends (Sum n e) right x day = sum_ends n (and_parts (is_within 1 366 n) (is_fall e) right).0 x
  asked_ends Dry right x day = spell_ends (test_of spells.Dry) x
  asked_ends Wet right x day = spell_ends (test_of spells.Wet) x
  asked_ends (Hot t) right x day = spell_ends (test_of (spells.Hot t)) x
  asked_ends (Cold t) right x day = spell_ends (test_of (spells.Cold t)) x

  -- what begins on some days begins and ends on days of the calendar
  each_begun : (id : StationId) (sh : Shape) (xs : List DayValue) → AllByRecursion (λ x. is_day x.0 ≡ true) xs
      → ((x : DayValue) → is_day x.0 ≡ true → EndsOnDay sh x)
      → AllByRecursion IsOfDays (filter_map (λ x. option_map (candidate id x.0) (begun sh own x)) xs)
  each_begun id sh [] h ends = tt
  each_begun id sh (x ∷ xs) h ends =
      elim (begun sh own x) as (λ o. begun sh own x ≡ o
      → AllByRecursion IsOfDays (cons_option (option_map (candidate id x.0) o)
      (filter_map (λ y. option_map (candidate id y.0) (begun sh own y)) xs))) [
        | None ↦ λ e. each_begun id sh xs h.1 ends
        | Some found ↦ λ e. ((h.0, ends x h.0 found e), each_begun id sh xs h.1 ends)
      ] refl

-- the candidates of a series begin and end on days of the calendar
pub candidates_of_days : (q : Query) (s : Series) → IsAsked q → AllByRecursion IsOfDays (candidates q s)
candidates_of_days q s asked =
    all-filter IsOfDays _ (contenders q s)
    (each_begun q s.days s.id (shape q.score) (admitted_among q s.days) (own_days q s.days s.days)
    (asked_ends q s.days q.score asked.score))
