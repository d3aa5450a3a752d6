-- The spells that are offered as one day after another comes are those of the days.
use Rattle.std.proofs.Common.{◌≡◌, ℕ, suc, ◌-◌, ◌<◌, Bool, true, false, cond, List, [], ◌∷◌, ◌++◌, Option, Some, None}
use Rattle.std.proofs.Common.{refl, sym, ap, ◌∙◌, subst, arith, inl, inr, ℤ, pos, ◌+ℤ◌, ◌-ℤ◌, ◌<ℤ◌, rules}
use Rattle.std.specs.Prelude.{◌&&◌, not, filter, int_le, int_lt, length, ⊤}
use Rattle.std.specs.List.{AllByRecursion, filter_map, cons_option}
use Rattle.std.proofs.lemmas.List.Elements.{filter_agree}
use Rattle.std.specs.Option.{option_map, option_map_or}
use Rattle.std.specs.Ordering.{int_eq}
use Rattle.std.proofs.lemmas.Bool.{and_parts, and_left, and_right, not_from_true, cases_lt, cases_Bool}
use Rattle.std.proofs.lemmas.Bool.Decides.{Decides-int_eq}
use Rattle.std.proofs.lemmas.Int.{ints, by_lt_z}
use Rattle.ghcn_fields.specs.Meaning.Days.{first_day, is_day}
use Rattle.ghcn_files.specs.declared.station.StationId.{StationId}
use Rattle.ghcn_series.specs.Packed.{AreInARow}
use Rattle.ghcn_series.specs.Meaning.Series.{DayValue, Series}
use Rattle.ghcn_series.specs.Series.{IsSeries}
use Rattle.rank_query.specs.Meaning.Asked.{Query}
use Rattle.rank_scores.specs.declared.candidate.Candidate.{Candidate}
use Rattle.rank_scores.specs.Runs.{begins_run}
use Rattle.rank_scores.specs.Meaning.Candidates.{Spells, admitted, is_such}
use Rattle.rank_scores.specs.Candidates.{begun, candidate, contenders_among}
use Rattle.rank_scores.specs.Spells.{goes_on, offered, offered_of_kind, spell_from, spell_list}
use Rattle.rank_scores.proofs.Rising.{Rise, admitted-rise, from_each, value_on-other, value_on-here, value_on-later}
use Rattle.rank_scores.proofs.Rising.{value_on-before, all-filter}
use Rattle.rank_scores.proofs.Runs.{AreDays, admitted-days, day-bounds}
use Rattle.rank_scores.proofs.Exactly.{spell-begins}

-- what is below the next number is at most this one
below-next : (v most next : ℤ) → next ≡ most +ℤ pos 1 → int_lt v next ≡ int_le v most
below-next v most next is = grind (arith, ints)

-- days whose values are below the next number are those whose values are at most this one
pub filter-below_next : (most next : ℤ) (days : List DayValue) → next ≡ most +ℤ pos 1
    → filter (λ x. int_lt x.1 next) days ≡ filter (λ x. int_le x.1 most) days
filter-below_next most next days is =
    filter_agree (λ x. int_lt x.1 next) (λ x. int_le x.1 most) (λ x. below-next x.1 most next is) days

-- a spell that days may still be added to: its days are of the kind, and the one before them isn't
record IsOpen (such : ℤ → Bool) (first last : ℤ) : Type 0 where
  len : ℕ
  some : 0 < len
  ends : last +ℤ pos 1 ≡ first +ℤ pos len
  inside : (i : ℕ) → i < len → such (first +ℤ pos i) ≡ true
  before : such (first -ℤ pos 1) ≡ false

module _ (id : StationId) (test : ℤ → Bool) (days : List DayValue) (cal : AreDays days) where
  -- a day of the kind
  abbrev such : ℤ → Bool
  such = is_such test days

  -- the spell that begins on a day, if one does
  abbrev spell_on : ℤ → Option Candidate
  spell_on d = option_map (candidate id d) (begun (Spells test) days (d, pos 0))

  -- if no run begins, no spell does
  none_on : (d : ℤ) → begins_run such d ≡ false → spell_on d ≡ None
  none_on d e = grind arith

  -- an open spell ends if the next day isn't of the kind
  ends_here : (first last : ℤ) → IsOpen such first last → such (last +ℤ pos 1) ≡ false
      → spell_on first ≡ Some (spell_from id first last)
  ends_here first last o after = grind (arith, ints, spell-begins days cal test first last (pos o.len) o.len)

  -- what is to be offered: the open spell, and those that begin on the days to come
  abbrev left : Option (ℤ × ℤ) → List DayValue → List Candidate
  left None rest = filter_map (λ x. spell_on x.0) rest
  left (Some s) rest = cons_option (spell_on s.0) (filter_map (λ x. spell_on x.0) rest)

  -- the last day before those to come ends an open spell, or isn't of the kind
  abbrev IsState : Option (ℤ × ℤ) → ℤ → Type 0
  IsState None last = such last ≡ false
  IsState (Some s) last = (s.1 ≡ last) × IsOpen such s.0 s.1

  module _ (last : ℤ) (y : DayValue) (ys : List DayValue) (rise : Rise (y ∷ ys)) (later : last <ℤ y.0)
      (agree : (d : ℤ) → last <ℤ d → such d ≡ is_such test (y ∷ ys) d)
      (rest : (run : Option (ℤ × ℤ)) → IsState run y.0 → offered id test run ys ≡ left run ys) where
    -- the next day is of the kind if its value passes
    here : such y.0 ≡ test y.1
    here = agree y.0 later ∙ ap (λ (o : Option ℤ). option_map_or test o false) (value_on-here y ys y.0 refl)

    -- no day before it is of the kind
    quiet : (d : ℤ) → last <ℤ d → d <ℤ y.0 → such d ≡ false
    quiet d low high = grind (arith, ints, value_on-before y ys d rise high)

    -- nor is the one just before it, if that isn't the last one or the last one isn't of the kind
    quiet_before : (y.0 ≡ last +ℤ pos 1 → such last ≡ false) → such (y.0 -ℤ pos 1) ≡ false
    quiet_before h = grind (arith, ints, by_lt_z, quiet)

    -- nor is the one after the last, if that isn't the next one or the next one isn't of the kind
    quiet_behind : (y.0 ≡ last +ℤ pos 1 → test y.1 ≡ false) → such (last +ℤ pos 1) ≡ false
    quiet_behind h = grind (arith, ints, by_lt_z, quiet (last +ℤ pos 1) (omega (arith, ints)), here)

    -- if no spell goes on, one begins on the next day, if that is of the kind
    anew : (test y.1 ≡ true → such (y.0 -ℤ pos 1) ≡ false)
        → offered id test (cond (test y.1) (Some (y.0, y.0)) None) ys ≡ left None (y ∷ ys)
    anew before = grind (arith, ints, cases_Bool, here, and_left, none_on)

    -- if an open spell goes on, the next day belongs to it, and none begins there
    longer : (s : ℤ × ℤ) → s.1 ≡ last → IsOpen such s.0 s.1 → test y.1 ≡ true → y.0 ≡ s.1 +ℤ pos 1
        → offered id test (Some (s.0, y.0)) ys ≡ left (Some s) (y ∷ ys)
    longer s is o passes on =
        let back : s.0 +ℤ pos (o.len - 1) ≡ y.0 -ℤ pos 1 = omega (arith, ints, o.ends, o.some, on) in
        let no_run = and_right (such y.0) (not (such (y.0 -ℤ pos 1)))
        (not_from_true _ (ap such (sym back) ∙ o.inside (o.len - 1) (omega (arith, o.some)))) in
        rw (none_on y.0 no_run) (rest (Some (s.0, y.0)) (
          refl,
          record {
            len = suc o.len;
            some = omega arith;
            ends = omega (arith, ints, o.ends, on);
            inside = λ i lt. elim (cases_lt i o.len) [
              | inl lt ↦ o.inside i lt
              | inr ge ↦ let same : s.0 +ℤ pos i ≡ y.0 = omega (arith, ints, o.ends, on, ge, lt) in
                  ap such same ∙ here ∙ passes
            ];
            before = o.before;
          },
        ))

    -- what the next day leads to
    next : (run : Option (ℤ × ℤ)) → IsState run last → offered id test run (y ∷ ys) ≡ left run (y ∷ ys)
    next None state = anew (λ _. quiet_before (λ _. state))
    next (Some s) state =
        elim (cases_Bool (test y.1 && int_eq y.0 (s.1 +ℤ pos 1))) [
          | inl e ↦
              let both = and_parts _ _ e in
              rw (e, offered) (longer s state.0 state.1 both.0 ((Decides-int_eq y.0 (s.1 +ℤ pos 1)).0 both.1))
          | inr e ↦
              let stops : y.0 ≡ last +ℤ pos 1 → test y.1 ≡ false = λ on. let is = state.0 in grind (arith, ints) in
              let ended = ap (λ (d : ℤ). such (d +ℤ pos 1)) state.0 ∙ quiet_behind stops in
              let begins = anew (λ passes. quiet_before (λ on. let fails = stops on in absurd cc)) in
              rw (e, offered) (ap (λ (l : List Candidate). spell_from id s.0 s.1 ∷ l) begins
              ∙ sym (ap (λ (c : Option Candidate). cons_option c (left None (y ∷ ys)))
              (ends_here s.0 s.1 state.1 ended)))
        ]

  -- what is offered is what is to be offered
  offered-is : (run : Option (ℤ × ℤ)) (last : ℤ) (rest : List DayValue) → IsState run last → Rise rest
      → AllByRecursion (λ y. last <ℤ y.0) rest → ((d : ℤ) → last <ℤ d → such d ≡ is_such test rest d)
      → offered id test run rest ≡ left run rest
  offered-is None last [] state rise later agree = refl
  offered-is (Some s) last [] state rise later agree = search (rules, arith, ends_here)
  offered-is run last (y ∷ ys) state rise later agree =
      next last y ys rise later.0 agree
      (λ after here. offered-is after y.0 ys here rise.1 rise.0
      (λ d lt. agree d (omega (arith, ints, lt, later.0)) ∙ ap (λ (o : Option ℤ). option_map_or test o false)
      (value_on-other y ys d (λ e. omega (arith, ints, lt, e))))) run state

-- what is offered of a series is its spells
pub offered-all : (id : StationId) (test : ℤ → Bool) (q : Query) (s : Series) → IsSeries s
    → offered id test None (admitted q s) ≡ contenders_among id (Spells test) (admitted q s)
offered-all id test q s series =
    let days : List DayValue = admitted q s in
    let cal = admitted-days q s.days in
    let later = from_each (λ y. is_day y.0 ≡ true) (λ y. (first_day -ℤ pos 1) <ℤ y.0) days
    (λ y e. omega (arith, ints, (day-bounds y.0 e).0)) cal in
    offered-is id test days cal None (first_day -ℤ pos 1) days
    (ap (λ (o : Option ℤ). option_map_or test o false) (value_on-later days (first_day -ℤ pos 1) later))
    (admitted-rise q s series) later (λ d lt. refl)

-- ---- days of the kind alone

-- the last day of an open spell comes before each of some days, and before the day before it
abbrev IsClosedBefore : Option (ℤ × ℤ) → List DayValue → Type 0
IsClosedBefore None days = ⊤
IsClosedBefore (Some s) days = AllByRecursion (λ y. (s.1 +ℤ pos 1) <ℤ y.0) days

-- the last day of an open spell comes before each of some days
abbrev IsOpenBefore : Option (ℤ × ℤ) → List DayValue → Type 0
IsOpenBefore None days = ⊤
IsOpenBefore (Some s) days = AllByRecursion (λ y. s.1 <ℤ y.0) days

-- a spell that the next day of the kind doesn't go on with is offered first
pub closed-before : (id : StationId) (s : ℤ × ℤ) (y : DayValue) (ys : List DayValue) → (s.1 +ℤ pos 1) <ℤ y.0
    → offered_of_kind id (Some s) (y ∷ ys) ≡ spell_list id (Some s) ++ offered_of_kind id None (y ∷ ys)
closed-before id s y ys before =
    let other : int_eq y.0 (s.1 +ℤ pos 1) ≡ false = grind (arith, ints, by_lt_z) in
    rw (other, offered) refl

-- so is one that no day goes on with
closed-first : (id : StationId) (run : Option (ℤ × ℤ)) (days : List DayValue) → IsClosedBefore run days
    → offered_of_kind id run days ≡ spell_list id run ++ offered_of_kind id None days
closed-first id None days before = refl
closed-first id (Some s) [] before = refl
closed-first id (Some s) (y ∷ ys) before = closed-before id s y ys before.0

-- days of another kind change nothing of what is offered
pub offered-kept : (id : StationId) (test : ℤ → Bool) (run : Option (ℤ × ℤ)) (days : List DayValue) → Rise days
    → IsOpenBefore run days
    → offered id test run days ≡ offered_of_kind id run (filter (λ x. test x.1) days)
offered-kept id test run [] rise before = refl
offered-kept id test None (y ∷ ys) rise before =
    elim (cases_Bool (test y.1)) [
      | inl e ↦ rw (e, offered) (offered-kept id test (Some (y.0, y.0)) ys rise.1 rise.0)
      | inr e ↦ rw (e, offered) (offered-kept id test None ys rise.1 tt)
    ]
offered-kept id test (Some s) (y ∷ ys) rise before =
    elim (cases_Bool (test y.1)) [
      | inl e ↦
          elim (cases_Bool (int_eq y.0 (s.1 +ℤ pos 1))) [
            | inl on ↦ rw (e, on, offered) (offered-kept id test (Some (s.0, y.0)) ys rise.1 rise.0)
            | inr off ↦ rw (e, off, offered, e)
                (ap (λ (l : List Candidate). spell_from id s.0 s.1 ∷ l)
                (offered-kept id test (Some (y.0, y.0)) ys rise.1 rise.0))
          ]
      | inr e ↦
          let closed : AllByRecursion (λ (z : DayValue). (s.1 +ℤ pos 1) <ℤ z.0) ys =
          from_each (λ z. y.0 <ℤ z.0) (λ z. (s.1 +ℤ pos 1) <ℤ z.0) ys (λ z later. omega (arith, ints, later, before.0))
          rise.0 in
          rw (e, offered, e)
          (ap (λ (l : List Candidate). spell_from id s.0 s.1 ∷ l) (offered-kept id test None ys rise.1 tt)
          ∙ sym (closed-first id (Some s) (filter (λ x. test x.1) ys)
          (all-filter (λ (z : DayValue). (s.1 +ℤ pos 1) <ℤ z.0) (λ x. test x.1) ys closed)))
    ]

-- an open spell goes on with days in a row
offered-on : (id : StationId) (first day last : ℤ) (row rest : List DayValue) → AreInARow (day +ℤ pos 1) last row
    → offered_of_kind id (Some (first, day)) (row ++ rest) ≡ offered_of_kind id (Some (first, last)) rest
offered-on id first day last [] rest in_row =
    let same : day ≡ last = omega (arith, ints, in_row) in
    ap (λ (d : ℤ). offered_of_kind id (Some (first, d)) rest) same
offered-on id first day last (x ∷ xs) rest in_row =
    let on : int_eq x.0 (day +ℤ pos 1) ≡ true = (Decides-int_eq x.0 (day +ℤ pos 1)).1 in_row.0 in
    rw (on, offered) (offered-on id first x.0 last xs rest
    (subst (λ (d : ℤ). AreInARow (d +ℤ pos 1) last xs) (sym in_row.0) in_row.1))

-- days in a row, the first of which an open spell goes on with
pub offered-longer : (id : StationId) (run : Option (ℤ × ℤ)) (first last begun : ℤ) (row rest : List DayValue)
    → 0 < length row → AreInARow first last row → goes_on run first true ≡ Some begun
    → offered_of_kind id run (row ++ rest) ≡ offered_of_kind id (Some (begun, last)) rest
offered-longer id run first last begun [] rest some in_row on = absurd (omega (arith, some))
offered-longer id run first last begun (x ∷ xs) rest some in_row on =
    let here : goes_on run x.0 true ≡ Some begun = ap (λ (d : ℤ). goes_on run d true) in_row.0 ∙ on in
    rw (here, offered) (offered-on id begun x.0 last xs rest
    (subst (λ (d : ℤ). AreInARow (d +ℤ pos 1) last xs) (sym in_row.0) in_row.1))

-- days in a row, with the first of which a spell begins
pub offered-anew : (id : StationId) (run : Option (ℤ × ℤ)) (first last : ℤ) (row rest : List DayValue)
    → 0 < length row → AreInARow first last row → goes_on run first true ≡ None
    → offered_of_kind id run (row ++ rest)
    ≡ spell_list id run ++ offered_of_kind id (Some (first, last)) rest
offered-anew id run first last [] rest some in_row on = absurd (omega (arith, some))
offered-anew id run first last (x ∷ xs) rest some in_row on =
    let here : goes_on run x.0 true ≡ None = ap (λ (d : ℤ). goes_on run d true) in_row.0 ∙ on in
    rw (here, offered) (ap (λ (l : List Candidate). spell_list id run ++ l)
    (offered-on id x.0 x.0 last xs rest
    (subst (λ (d : ℤ). AreInARow (d +ℤ pos 1) last xs) (sym in_row.0) in_row.1)
    ∙ ap (λ (d : ℤ). offered_of_kind id (Some (d, last)) rest) in_row.0))

-- what is offered of a series as days of the kind come is its spells
pub offered-spells : (id : StationId) (test : ℤ → Bool) (q : Query) (s : Series) → IsSeries s
    → offered_of_kind id None (filter (λ x. test x.1) (admitted q s)) ≡ contenders_among id (Spells test) (admitted q s)
offered-spells id test q s series =
    sym (offered-kept id test None (admitted q s) (admitted-rise q s series) tt) ∙ offered-all id test q s series
