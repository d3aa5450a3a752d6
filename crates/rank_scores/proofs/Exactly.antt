-- The candidates that are listed, as they are computed, are exactly those with the property.
use Rattle.std.proofs.Common.{◌≡◌, ℕ, zero, suc, ◌<◌, ◌≤◌, Bool, true, false, List, Option, Some, None, refl, sym}
use Rattle.std.proofs.Common.{ap, subst, ◌∙◌, arith, ◌⊎◌, inl, inr, ℤ, pos, ◌+ℤ◌, ◌-ℤ◌, ◌≤ℤ◌, neg_ℤ, [], ◌∷◌, get_or}
use Rattle.std.specs.Prelude.{not, map, ◌↔◌}
use Rattle.std.specs.Option.{option_map}
use Rattle.std.specs.List.{AllByRecursion, Contains, filter_map, cons_option, IsDistinct}
use Rattle.std.specs.Ordering.{int_eq, int_cmp}
use Rattle.std.proofs.Math.ListN.{get_or-map}
use Rattle.std.proofs.lemmas.List.{length-map}
use Rattle.std.proofs.lemmas.Bool.{cases_lt, and_parts, and_from, and_right, leb-true, not-true, not_from_false}
use Rattle.std.proofs.lemmas.Int.{ints}
use Rattle.std.proofs.lemmas.Option.{cond_some}
use Rattle.std.proofs.lemmas.Map.Keys.{IsDistinct-from_apart, IsDistinct-from_sorted, apart_from_distinct}
use Rattle.std.proofs.lemmas.List.Elements.{All-from_recursion, All-contains, Contains-append_right}
use Rattle.std.proofs.lemmas.List.Elements.{Contains-append_left}
use Rattle.ghcn_series.specs.Meaning.Series.{DayValue, value_on, Series}
use Rattle.ghcn_series.specs.Series.{IsSeries}
use Rattle.rank_query.specs.declared.score.Score.{Score}
use Rattle.rank_query.specs.declared.score.Score.TheVariants.{Highest, Lowest, Sum, Dry, Wet, Hot, Cold}
use Rattle.rank_query.specs.Meaning.Asked.{is_score, Query, IsAsked}
use Rattle.ghcn_files.specs.declared.station.StationId.{StationId}
use Rattle.rank_scores.specs.Meaning.Runs.{IsRun}
use Rattle.rank_scores.specs.Runs.{run_from, run_len, begins_run, calendar_len}
use Rattle.rank_scores.specs.Meaning.Candidates.{Shape, Days, Windows, Spells, shape, IsContender, is_such, admitted}
use Rattle.rank_scores.specs.Meaning.Candidates.{IsContenderOf}
use Rattle.rank_scores.specs.Candidates.{begun, plus, window_total, candidate, candidates, contenders, AreTheContenders}
use Rattle.rank_scores.specs.Candidates.{AreTheCandidates, RiseByFirstDay}
use Rattle.rank_scores.proofs.Totals.{days-total, total-days}
use Rattle.rank_scores.proofs.Rising.{Rise, admitted-rise, values_stand, firsts_rise, from_each, all-made}
use Rattle.rank_scores.proofs.Rising.{each-map, all-filter}
use Rattle.rank_scores.proofs.Runs.{AreDays, counted, run-found, run-more, such-has, such-none, such-is_day, none_past}
use Rattle.rank_scores.proofs.Runs.{day-bounds, days-few, admitted-days}
use Rattle.rank_scores.specs.Order.{begin_alike, AreApart}
use Rattle.rank_scores.specs.declared.candidate.Candidate.{Candidate}
use Rattle.rank_scores.specs.Morsels.{IsAbove, NoneIsAbove}
use Rattle.std.proofs.Common.{rules, cond, ◌&&◌, filter}
use Rattle.std.specs.List.Sorted.{IsStrictlySortedBy}
use Rattle.std.specs.declared.cmp.Ordering.TheVariants.{Less}
use Rattle.std.proofs.lemmas.Bool.{cases_Bool}
use Rattle.ghcn_files.proofs.Ordered.{each-mapped}
use Rattle.ghcn_series.proofs.Members.{for_each, contains-in, in-contains, any_in, in_any, kept_in, in_kept}
use Rattle.rank_query.specs.declared.per.Per.{Per}
use Rattle.rank_query.specs.declared.per.Per.TheVariants.{Each}
use Rattle.rank_scores.specs.Meaning.Groups.{are_rivals}
use Rattle.rank_scores.specs.Groups.{is_outdone, leaders}
use Rattle.rank_scores.specs.Meaning.Order.{precedes}
use Rattle.rank_scores.proofs.Leaders.{any-none, filter-all, led_by, leaders_apart}
use Rattle.rank_scores.proofs.LeadingFolds.{rivals-turned, rivals-joined, precedes-on, precedes-unlike}
use Rattle.rank_scores.proofs.LeadingFolds.{precedes-decided}

-- ---- what begins on a day is what is a candidate from that day on

-- the candidate that begins on a day with its value is that with this last day and score
abbrev pub Begins : Shape → List DayValue → ℤ → ℤ → ℤ → Type 0
Begins sh days first last score = (v : ℤ) × (value_on days first ≡ Some v) ×
    (begun sh days (first, v) ≡ Some (last, score))

module _ (days : List DayValue) (cal : AreDays days) (test : ℤ → Bool) where
  -- a day whose value passes
  abbrev such_day : ℤ → Bool
  such_day = is_such test days

  -- the day after a run isn't such a day
  after_run : (a : ℤ) → such_day a ≡ true → such_day (a +ℤ pos (run_len such_day a)) ≡ false
  after_run a first =
      elim (cases_lt (run_from such_day calendar_len a) calendar_len) [
        | inl lt ↦ (counted such_day calendar_len a).stops lt
        | inr le ↦
            let low = (day-bounds a (such-is_day days test a cal first)).0 in
            such-none days test (a +ℤ pos (run_len such_day a))
            (none_past days (a +ℤ pos (run_len such_day a)) cal (omega (arith, ints, le, low)))
      ]

  -- what begins a run is the first of one
  run-is : (a : ℤ) → begins_run such_day a ≡ true
      → IsRun such_day a (a +ℤ pos (run_len such_day a) -ℤ pos 1) (run_len such_day a)
  run-is a e =
      let both = and_parts (such_day a) (not (such_day (a -ℤ pos 1))) e in
      let next : (a +ℤ pos (run_len such_day a) -ℤ pos 1) +ℤ pos 1 ≡ a +ℤ pos (run_len such_day a) =
      omega (arith, ints) in
      record {
        nonempty = omega (arith, run-more such_day 3_652_058 a both.0);
        ends = next;
        inside = (counted such_day calendar_len a).inside;
        before = not-true (such_day (a -ℤ pos 1)) both.1;
        after = ap such_day next ∙ after_run a both.0;
      }

  -- a spell begins on its first day
  pub spell-begins : (first last score : ℤ) (len : ℕ) → score ≡ pos len → IsRun such_day first last len
      → Begins (Spells test) days first last score
  spell-begins first last score len is run =
      let here : first +ℤ pos 0 ≡ first = omega (arith, ints) in
      let passes : such_day first ≡ true = ap such_day (sym here) ∙ run.inside 0 run.nonempty in
      let has = such-has test (value_on days first) passes in
      let short : len ≤ calendar_len = days-few days test first len cal run.nonempty run.inside in
      let found : run_len such_day first ≡ len = run-found such_day calendar_len len first short run.inside
      (ap such_day (sym run.ends) ∙ run.after) in
      let begins = and_from (such_day first) (not (such_day (first -ℤ pos 1))) passes (not_from_false _ run.before) in
      let on : first +ℤ pos len -ℤ pos 1 ≡ last = omega (arith, ints, run.ends) in
      (has.0, has.1, rw (begins, found, on, is))

-- a sum that there is has its first part
first_part : (a b : Option ℤ) (t : ℤ) → plus a b ≡ Some t → (v : ℤ) × (a ≡ Some v)
first_part None b t e = absurd cc
first_part (Some v) b t e = (v, refl)

-- a window begins on its first day
window-begins : (days : List DayValue) (n : ℕ) (first last score : ℤ) → 0 < n → last +ℤ pos 1 ≡ first +ℤ pos n
    → window_total days n first ≡ Some score → Begins (Windows n) days first last score
window-begins days zero first last score some ends total = absurd (omega arith)
window-begins days (suc n) first last score some ends total = search (rules, arith, first_part)

-- ---- both ways

-- a day is ranked by its value
day-begins : (days : List DayValue) (f : ℤ → ℤ) (first last score : ℤ) → IsContender (Days f) days first last score
    → Begins (Days f) days first last score
day-begins days f first last score is = (is.1, is.2, rw (is.0, is.3))

-- each candidate of what can be asked for begins on its first day, which has a value
pub begins-from_IsContender : (days : List DayValue) → Rise days → AreDays days → (sc : Score) (first last score : ℤ)
    → is_score sc ≡ true → IsContender (shape sc) days first last score → Begins (shape sc) days first last score
begins-from_IsContender days rise cal (Highest e) first last score h is = day-begins days (λ v. v) first last score is
begins-from_IsContender days rise cal (Lowest e) first last score h is = day-begins days neg_ℤ first last score is
begins-from_IsContender days rise cal (Sum n e) first last score h is =
    search (rules, arith, leb-true, and_parts, window-begins, days-total)
begins-from_IsContender days rise cal Dry first last score h is = search (rules, arith, spell-begins)
begins-from_IsContender days rise cal Wet first last score h is = search (rules, arith, spell-begins)
begins-from_IsContender days rise cal (Hot t) first last score h is = search (rules, arith, spell-begins)
begins-from_IsContender days rise cal (Cold t) first last score h is = search (rules, arith, spell-begins)

-- what a window that begins on a day is made of
window-made : (o : Option ℤ) (last : ℤ) (p : ℤ × ℤ) → option_map (λ (total : ℤ). (last, total)) o ≡ Some p
    → (o ≡ Some p.1) × (p.0 ≡ last)
window-made o last p e = (grind arith, grind arith)

-- what begins on a day that has its value is a candidate
pub begun-IsContender : (days : List DayValue) → Rise days → AreDays days → (sh : Shape) (x : DayValue) (p : ℤ × ℤ)
    → value_on days x.0 ≡ Some x.1 → begun sh days x ≡ Some p → IsContender sh days x.0 p.0 p.1
begun-IsContender days rise cal (Days f) x p has e = grind (arith, ints)
begun-IsContender days rise cal (Windows n) x p has e =
    let parts = window-made (window_total days n x.0) (x.0 +ℤ pos n -ℤ pos 1) p e in
    let ends : p.0 +ℤ pos 1 ≡ x.0 +ℤ pos n = omega (arith, ints, parts.1) in
    let are = total-days days rise n x.0 p.0 p.1 ends parts.0 in
    record { ends = ends; whole = are.0; sum = are.1 }
begun-IsContender days rise cal (Spells test) x p has e = grind (arith, ints, cond_some, run-is)

-- ---- the candidates of a series

-- candidates that rise by first day are apart
apart-from_rise : (cs : List Candidate) → RiseByFirstDay cs → AreApart cs
apart-from_rise cs h = IsDistinct-from_apart begin_alike cs (λ i j d lt within.
    and_right _ _ (sym (ap (int_eq (get_or cs i d).first) (get_or-map (λ c. c.first) cs j d))
    ∙ sym (ap (λ (z : ℤ). int_eq z (get_or (map (λ c. c.first) cs) j d.first)) (get_or-map (λ c. c.first) cs i d))
    ∙ apart_from_distinct int_eq (map (λ c. c.first) cs) i j d.first
    (IsDistinct-from_sorted int_cmp (map (λ c. c.first) cs) h) lt
    (omega (arith, length-map cs (λ (c : Candidate). c.first)))))

-- those that pass a test rise as before
rise-kept : (p : Candidate → Bool) (cs : List Candidate) → RiseByFirstDay cs → RiseByFirstDay (filter p cs)
unfolding IsStrictlySortedBy
rise-kept p [] h = tt
rise-kept p (c ∷ cs) h = elim (p c) as (λ b. RiseByFirstDay (cond b (c ∷ filter p cs) (filter p cs))) [
  | true ↦ (
    each-map (λ d. d.first) (λ z. int_cmp c.first z ≡ Less) (filter p cs)
        (all-filter (λ d. int_cmp c.first d.first ≡ Less) p cs
        (each-mapped (λ d. d.first) (λ z. int_cmp c.first z ≡ Less) cs h.0)),
    rise-kept p cs h.1,
  )
  | false ↦ rise-kept p cs h.1
]

-- what a candidate is made of
pub made : (id : StationId) (day : ℤ) (o : Option (ℤ × ℤ)) (c : Candidate)
    → option_map (candidate id day) o ≡ Some c
    → (c.id ≡ id) × (c.first ≡ day) × (o ≡ Some (c.last, c.score))
made id day o c e = (grind arith, grind arith, grind arith)

-- what is in a list is in a longer one
contains-more : (o : Option Candidate) (cs : List Candidate) (c : Candidate) → Contains cs c
    → Contains (cons_option o cs) c
contains-more None cs c h = h
contains-more (Some d) cs c h = Contains-append_right (d ∷ []) cs c h

-- the value of a day comes first, or is that of the others
first_or_later : (x : DayValue) (xs : List DayValue) (day v : ℤ) → value_on (x ∷ xs) day ≡ Some v
    → ((x.0 ≡ day) × (x.1 ≡ v)) ⊎ (value_on xs day ≡ Some v)
first_or_later x xs day v h = grind (arith, ints)

-- what is made of a day with its value is among what is made of all
made_stands : (f : DayValue → Option Candidate) (day v : ℤ) (c : Candidate) → f (day, v) ≡ Some c
    → (xs : List DayValue) → value_on xs day ≡ Some v → Contains (filter_map f xs) c
made_stands f day v c e [] h = absurd cc
made_stands f day v c e (x ∷ xs) h =
    elim (first_or_later x xs day v h) [
      | inl is ↦ rw (is.0, is.1, e) (Contains-append_left (c ∷ []) (filter_map f xs) c (0, omega arith, refl))
      | inr later ↦ contains-more (f x) (filter_map f xs) c (made_stands f day v c e xs later)
    ]

-- the candidate that begins on a day of a series, if one does
abbrev pub begun_on : Query → Series → DayValue → Option Candidate
begun_on q s x = option_map (candidate s.id x.0) (begun (shape q.score) (admitted q s) x)

-- what is true of all is true of what is among them
of_all : (P : Candidate → Type 0) (cs : List Candidate) (c : Candidate) → AllByRecursion P cs → Contains cs c → P c
of_all P cs c h = All-contains P cs c (All-from_recursion P cs h)

-- among the leaders are those contenders that no rival precedes
leads-is : (per : Per) (all : List Candidate) (c : Candidate) → Contains (leaders per all) c
    ↔ (Contains all c × ((d : Candidate) → Contains all d → are_rivals per d c ≡ true → precedes d c ≡ false))
leads-is per all c = (
  λ has.
      let kept = kept_in (λ x. not (is_outdone per all x)) all c (contains-in (leaders per all) c has) in (
        in-contains all c kept.0,
        λ d there rivals. elim (cases_Bool (precedes d c)) [
          | inl before ↦
              let out = in_any (λ d. are_rivals per d c && precedes d c) all d (contains-in all d there)
              (and_from (are_rivals per d c) (precedes d c) rivals before) in
              absurd cc
          | inr fails ↦ fails
        ],
      ),
  λ is.
      let none : is_outdone per all c ≡ false = elim (cases_Bool (is_outdone per all c)) [
        | inl some ↦
            let one = any_in (λ d. are_rivals per d c && precedes d c) all some in
            let parts = and_parts (are_rivals per one.0 c) (precedes one.0 c) one.2 in
            let not_so = is.1 one.0 (in-contains all one.0 one.1) parts.0 in
            absurd cc
        | inr fails ↦ fails
      ] in
      in-contains (leaders per all) c (in_kept (λ x. not (is_outdone per all x)) all c (contains-in all c is.0)
      (ap not none)),
)

module _ (q : Query) (s : Series) (series : IsSeries s) where
  -- the contenders rise by first day
  pub contenders_rise : RiseByFirstDay (contenders q s)
  contenders_rise = grind (arith, ints, firsts_rise, made, admitted-rise q s series)

  -- no two of them begin on one day
  pub contenders_apart : AreApart (contenders q s)
  contenders_apart = apart-from_rise (contenders q s) contenders_rise

  -- the candidates rise too
  pub rise : RiseByFirstDay (candidates q s)
  rise = rise-kept (λ c. not (is_outdone q.per (contenders q s) c)) (contenders q s) contenders_rise

  -- no two of them begin on one day
  pub apart : AreApart (candidates q s)
  apart = apart-from_rise (candidates q s) rise

  -- each that is listed is a contender
  all_listed : AllByRecursion (IsContenderOf q s) (contenders q s)
  all_listed =
      all-made (IsContenderOf q s) (begun_on q s) (admitted q s)
      (from_each (λ x. value_on (admitted q s) x.0 ≡ Some x.1)
      (λ x. (c : Candidate) → begun_on q s x ≡ Some c → IsContenderOf q s c) (admitted q s)
      (λ x stands c e.
      let is = made s.id x.0 (begun (shape q.score) (admitted q s) x) c e in (
        is.0,
        subst (λ (z : ℤ). IsContender (shape q.score) (admitted q s) z c.last c.score) (sym is.1)
            (begun-IsContender (admitted q s) (admitted-rise q s series) (admitted-days q s.days)
            (shape q.score) x (c.last, c.score) stands is.2),
      ))
      (values_stand (admitted q s) (admitted-rise q s series)))

  -- each contender is listed
  is-listed : IsAsked q → (c : Candidate) → IsContenderOf q s c → Contains (contenders q s) c
  is-listed asked c is =
      let begins = begins-from_IsContender (admitted q s) (admitted-rise q s series) (admitted-days q s.days)
      q.score c.first c.last c.score asked.score is.1 in
      let made_here : begun_on q s (c.first, begins.0) ≡ Some c =
      ap (option_map (candidate s.id c.first)) begins.2
      ∙ ap (λ (i : StationId). Some (candidate i c.first (c.last, c.score))) (sym is.0) in
      made_stands (begun_on q s) c.first begins.0 c made_here (admitted q s) begins.1

  -- the contenders are exactly those with the property
  pub contenders_exactly : IsAsked q → AreTheContenders q s (contenders q s)
  contenders_exactly asked =
      λ c. (of_all (IsContenderOf q s) (contenders q s) c all_listed, is-listed asked c)

  -- and so are the candidates
  pub exactly : IsAsked q → AreTheCandidates q s (candidates q s)
  exactly asked = λ c.
      let contends = contenders_exactly asked in
      let leads = leads-is q.per (contenders q s) c in (
        λ has. let is = leads.0 has in ((contends c).0 is.0, λ d of_d. is.1 d ((contends d).1 of_d)),
        λ is. leads.1 ((contends c).1 is.0, λ d there. is.1 d ((contends d).0 there)),
      )

  -- no listed candidate is above a number if and only if none is that has the property
  pub bounds : IsAsked q → (bound : ℤ) → IsAbove q s bound ↔ NoneIsAbove q s bound
  bounds asked bound = (
    λ h c is. of_all (λ d. d.score ≤ℤ bound) (candidates q s) c h ((exactly asked c).1 is),
    λ h. for_each (λ d. d.score ≤ℤ bound) (candidates q s)
        (λ c has. h c ((exactly asked c).0 (in-contains (candidates q s) c has))),
  )

  -- no two candidates are rivals
  pub none_rivals : IsDistinct (are_rivals q.per) (candidates q s)
  none_rivals = leaders_apart (are_rivals q.per) precedes (rivals-turned q.per) (rivals-joined q.per) precedes-on
      precedes-unlike begin_alike precedes-decided (contenders q s) contenders_apart

  -- each contender is a candidate, or one precedes it
  pub each_led : (c : Candidate) → Contains (contenders q s) c
      → Contains (candidates q s) c ⊎ ((d : Candidate) × Contains (candidates q s) d
      × (are_rivals q.per d c ≡ true) × (precedes d c ≡ true))
  each_led c has =
      elim (led_by (are_rivals q.per) precedes (rivals-turned q.per) (rivals-joined q.per) precedes-on precedes-unlike
      (contenders q s) c (contains-in (contenders q s) c has)) [
        | inl own ↦ inl (in-contains (candidates q s) c own)
        | inr other ↦
            let both = and_parts (are_rivals q.per other.0 c) (precedes other.0 c) other.2 in
            inr (other.0, in-contains (candidates q s) other.0 other.1, both.0, both.1)
      ]

-- without groups none has a rival
each_alone : (per : Per) → per ≡ Each → (all : List Candidate) → leaders per all ≡ all
each_alone per is all = ap (λ (p : Per). leaders p all) is
    ∙ filter-all (λ c. not (is_outdone Each all c)) all (λ c. ap not (any-none (λ d. false) all (nothing all)))
  where
    nothing : (xs : List Candidate) → AllByRecursion (λ d. ◌≡◌ {A = Bool} false false) xs
    nothing [] = tt
    nothing (x ∷ xs) = (refl, nothing xs)

-- so each contender is a candidate
pub each_stays : (q : Query) (s : Series) → q.per ≡ Each → candidates q s ≡ contenders q s
each_stays q s is = each_alone q.per is (contenders q s)
