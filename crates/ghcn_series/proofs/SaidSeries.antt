-- The series of a listed station and an element in what files hold is the one that the facts of the files make.
use Rattle.ghcn_series.proofs.Cited.{◌≡◌, ℕ, Bool, true, false, List, length, filter, Some, Ok, refl, sym, ap, ◌∙◌}
use Rattle.ghcn_series.proofs.Cited.{subst, arith, ℤ, cond, [], ◌∷◌, ◌++◌, Option, None, Result, Err, inl, inr, ap₂}
use Rattle.ghcn_series.proofs.Cited.{◌↔◌, ◌==◌, ◌&&◌, Contains, IsDistinct, filter_map, list_any, cons_option, keys_of}
use Rattle.ghcn_series.proofs.Cited.{int_eq, option_map, and_parts, and_from, eq-eqb, eqb-false, ne_eqb, cases_Bool}
use Rattle.ghcn_series.proofs.Cited.{Contains-permutation, IsPermutation-sym, append-nil, filter_map-append, sorted_by}
use Rattle.ghcn_series.proofs.Cited.{StationId, Station, Element, same_id, same_element, element_index, LineWhy, Month}
use Rattle.ghcn_series.proofs.Cited.{read_month, sorted-permutation, same_id-is, is_listed, FileLine, daily_lines}
use Rattle.ghcn_series.proofs.Cited.{month_on, month_if_ok, daily_fault, repeats, same_month, IsMadeOf, IsSaid}
use Rattle.ghcn_series.proofs.Cited.{facts_said, months_said, Fact, data_of, DayValue, Series, Data, by_day}
use Rattle.ghcn_series.proofs.Cited.{series_of, DuplicateMonth, DailyLine, same_time, months_of, HaveData}
use Rattle.ghcn_series.proofs.RisingDays.{keys-rise}
use Rattle.ghcn_series.proofs.AllSeries.{same_element-is}
use Rattle.ghcn_series.proofs.ApartParts.{rising-distinct}
use Rattle.ghcn_series.proofs.FoundSeries.{if_it_has_days, series_made, series_found}
use Rattle.ghcn_series.proofs.JoinedFiles.{days_said}
use Rattle.ghcn_series.proofs.Members.{In, contains-in, in-contains, in_kept, in_map, kept_in, map_in}
use Rattle.ghcn_series.proofs.Places.{same_id-refl}
use Rattle.ghcn_series.proofs.SaidFacts.{facts-said}
use Rattle.ghcn_series.proofs.SaidLines.{held-said, kept_after, no_fault, months-are}
use Rattle.ghcn_series.proofs.SaidNumbers.{unless_so}
use Rattle.ghcn_series.proofs.SortedDays.{same-values, sorted_by-rises, sorted-are}
use Rattle.ghcn_series.proofs.DistinctDays.{distinct_days}
use Rattle.ghcn_series.proofs.FactsOfMonths.{selected-months}
use Rattle.ghcn_series.proofs.SeenMonths.{distinct-more}
use Rattle.ghcn_series.proofs.StationMonths.{months_of-other, months_of-this, repeats-is}

-- ---- the days that are said of a station and an element are different days

-- the month of a line was read of it
if_ok : (r : Result (Option Month) LineWhy) (m : Month) → month_if_ok r ≡ Some m → r ≡ Ok (Some m)
if_ok (Ok o) m is = ap Ok is
if_ok (Err why) m is = absurd cc

-- if a month of a listed station isn't a duplicate, it repeats none
not_repeated : (l : FileLine) (listed repeated : Bool)
    → option_map (λ why. DailyLine l.file l.line why) (cond (listed && repeated) (Some DuplicateMonth) None) ≡ None
    → listed ≡ true → repeated ≡ false
not_repeated l listed repeated none is = grind arith

module _ (stations : List Station) where
  -- a line without an error repeats no month of a listed station
  new_month : (earlier : List FileLine) (l : FileLine) (m : Month) → daily_fault stations earlier l ≡ None
      → month_on l ≡ Some m → is_listed stations m.id ≡ true → repeats earlier m ≡ false
  new_month earlier l m none is =
      not_repeated l (is_listed stations m.id) (repeats earlier m) (rw (if_ok (read_month l.bytes) m is) at none)

  module _ (id : StationId) (e : Element) (listed : is_listed stations id ≡ true) where
    -- the months of the station and element are of different times
    abbrev AreApart : List Month → Type 0
    AreApart ms = IsDistinct same_time (months_of ms id e)

    -- months of different times and one more that repeats none, if it belongs to a listed station
    apart_with : (before : List Month) (m : Month) → AreApart before
        → (is_listed stations m.id ≡ true → list_any (same_month m) before ≡ false) → AreApart (before ++ m ∷ [])
    apart_with before m apart fresh = elim (cases_Bool (same_id m.id id && same_element m.element e)) [
      | inl this ↦
          let both = and_parts (same_id m.id id) (same_element m.element e) this in
          let of_station : m.id ≡ id = same_id-is m.id id both.0 in
          let of_element : m.element ≡ e = same_element-is m.element e both.1 in
          let none : list_any (same_time m) (months_of before id e) ≡ false =
          ap₂ (λ (i : StationId) (f : Element). list_any (same_time m) (months_of before i f)) (sym of_station)
          (sym of_element) ∙ sym (repeats-is before m) ∙ fresh (ap (is_listed stations) of_station ∙ listed) in
          subst (IsDistinct same_time) (sym (months_of-this before m id e this))
          (distinct-more m (months_of before id e) apart none)
      | inr other ↦ subst (IsDistinct same_time) (sym (months_of-other before m id e other)) apart
    ]

    -- months of different times and what one more line without an error says
    apart_more : (earlier : List FileLine) (l : FileLine) → daily_fault stations earlier l ≡ None
        → AreApart (filter_map month_on earlier) → AreApart (filter_map month_on (earlier ++ l ∷ []))
    apart_more earlier l none apart =
        let before : List Month = filter_map month_on earlier in
        subst AreApart (sym (filter_map-append month_on earlier (l ∷ [])))
        (elim (month_on l) as (λ o. month_on l ≡ o → AreApart (before ++ cons_option o [])) [
          | None ↦ λ is. subst AreApart (sym (append-nil before)) apart
          | Some m ↦ λ is. apart_with before m apart (new_month earlier l m none is)
        ] refl)

    -- so no day that is said of a listed station and an element occurs twice
    pub said-distinct : (files : List (List ℕ)) (held : Data) → HaveData stations files held
        → IsDistinct int_eq (keys_of (days_said (facts_said stations files) id e))
    unfolding IsDistinct
    said-distinct files held is =
        let none = no_fault stations files held is in
        let apart : AreApart (months_said files) =
        subst AreApart (months-are stations files none)
        (kept_after (daily_fault stations) (λ (ls : List FileLine). AreApart (filter_map month_on ls)) apart_more []
        (daily_lines files) none tt) in
        subst (λ (xs : List DayValue). IsDistinct int_eq (keys_of xs))
        (sym (selected-months stations id e (months_said files) listed))
        (distinct_days (months_of (months_said files) id e) apart)

-- what is equivalent to a second statement is so to a third one that the second is equivalent to
through : {A B C : Type 0} → A ↔ B → B ↔ C → A ↔ C
through p q = (λ a. q.0 (p.0 a), λ c. p.1 (q.1 c))

-- ---- the days that facts say of a station and an element

module _ (id : StationId) (e : Element) where
  -- the fact of a day and value of the station and element
  abbrev fact_on : ℤ → ℤ → Fact
  fact_on day value = record { id = id; element = e; day = day; value = value }

  -- a fact has the station and element
  abbrev is_theirs : Fact → Bool
  is_theirs f = same_id f.id id && same_element f.element e

  -- then it is that of its day and value
  fact-is : (f : Fact) (day value : ℤ) → is_theirs f ≡ true
      → ◌≡◌ {A = DayValue} (f.day, f.value) (day, value) → f ≡ fact_on day value
  fact-is f day value of is =
      let both = and_parts (same_id f.id id) (same_element f.element e) of in
      let of_element : f.element ≡ e = same_element-is f.element e both.1 in
      λ i. record { id = same_id-is f.id id both.0 i; element = of_element i; day = (is i).0; value = (is i).1 }

  -- a day is said by a fact
  day-said : (facts : List Fact) (day value : ℤ)
      → Contains (days_said facts id e) (day, value) ↔ Contains facts (fact_on day value)
  day-said facts day value = (
    λ h. let made = map_in (λ f. (f.day, f.value)) (filter is_theirs facts) (day, value)
        (contains-in _ (day, value) h) in
        let kept = kept_in is_theirs facts made.0 made.1 in
        in-contains facts (fact_on day value) (subst (In facts) (fact-is made.0 day value kept.1 made.2) kept.0),
    λ h. in-contains _ (day, value) (in_map (λ f. (f.day, f.value)) (filter is_theirs facts) (fact_on day value)
        (in_kept is_theirs facts (fact_on day value) (contains-in facts (fact_on day value) h)
        (and_from (same_id id id) (same_element e e) (same_id-refl id)
        (eq-eqb (element_index e) (element_index e) refl)))),
  )

-- ---- the series of a station and an element

module _ (facts : List Fact) (IsFact : Fact → Type 0) (id : StationId) (e : Element)
    (distinct : IsDistinct int_eq (keys_of (days_said facts id e)))
    (said : (day value : ℤ) → Contains facts (fact_on id e day value) ↔ IsFact (fact_on id e day value)) where
  -- the days that the facts say
  abbrev xs : List DayValue
  xs = days_said facts id e

  -- they are those of facts
  said-are : (day value : ℤ) → Contains xs (day, value) ↔ IsFact (fact_on id e day value)
  said-are day value = through (day-said id e facts day value) (said day value)

  -- so it is with these days in their order
  made-are : (day value : ℤ) → Contains (sorted_by by_day xs) (day, value) ↔ IsFact (fact_on id e day value)
  made-are day value =
      let ordered = sorted-permutation by_day xs in
      through {B = Contains xs (day, value)} (
        Contains-permutation (sorted_by by_day xs) xs (day, value) (IsPermutation-sym xs (sorted_by by_day xs) ordered),
        Contains-permutation xs (sorted_by by_day xs) (day, value) ordered,
      )
      (said-are day value)

  -- a series that has a day is made of the facts of its station and element
  made-from : (s : Series) → if_it_has_days (series_made facts id e) ≡ Some s → IsMadeOf IsFact s
  made-from s is =
      let made : Series = series_made facts id e in let found = unless_so (length made.days == 0) made s is in
      subst (IsMadeOf IsFact) found.1 (record {
        some = omega (arith, eqb-false (length made.days) 0 found.0);
        are = made-are;
        by_day = sorted_by-rises xs distinct;
      })

  -- a series that is made of the facts has the days that they say, in their order, so it is the one that is found
  made-found : (days : List DayValue) → IsMadeOf IsFact (record { id = id; element = e; days = days })
      → if_it_has_days (series_made facts id e) ≡ Some (record { id = id; element = e; days = days })
  made-found days made =
      let rise = keys-rise days made.by_day in
      let same : days ≡ sorted_by by_day xs =
      sorted-are xs days distinct rise (same-values days xs (rising-distinct days rise) distinct
      (λ day value. let of = said-are day value in through (made.are day value) (of.1, of.0))) in
      let some : (length days == 0) ≡ false = ne_eqb (length days) 0 (λ z. let more = made.some in omega arith) in
      ap (λ (l : List DayValue). if_it_has_days (record { id = id; element = e; days = l })) (sym same) ∙ rw some refl

-- ---- the series of files

-- the series of a listed station and an element in what files hold are those that the files say
pub series_said : (stations : List Station) (files : List (List ℕ)) (held : Data)
    → data_of stations files ≡ Ok held → (s : Series) → is_listed stations s.id ≡ true
    → (series_of held s.id s.element ≡ Some s) ↔ IsMadeOf (IsSaid files) s
series_said stations files held is s listed =
    let facts : List Fact = facts_said stations files in
    let distinct = said-distinct stations s.id s.element listed files held is in
    let said = λ (day value : ℤ). facts-said stations files held is (fact_on s.id s.element day value) listed in
    let found : series_of held s.id s.element ≡ if_it_has_days (series_made facts s.id s.element) =
    ap (λ (c : Data). series_of c s.id s.element) (held-said stations files held is)
    ∙ series_found facts s.id s.element stations listed in (
      λ of. made-from facts (IsSaid files) s.id s.element distinct said s (sym found ∙ of),
      λ made. found ∙ made-found facts (IsSaid files) s.id s.element distinct said s.days made,
    )
