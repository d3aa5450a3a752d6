-- Runs of days of the kind that are added to a spell, one by one or by their number.
use Rattle.std.proofs.Common.{◌≡◌, ℕ, ◌+◌, ◌<◌, Bool, true, false, List, [], ◌∷◌, ◌++◌, Option, Some, None}
use Rattle.std.proofs.Common.{length, refl, sym, ap, ap₂, ◌∙◌, arith, inl, inr, zero-add, append_assoc}
use Rattle.std.proofs.Common.{ℤ, pos, negsuc, ◌+ℤ◌, ◌-ℤ◌, ◌*ℤ◌, ◌<ℤ◌, ◌≤ℤ◌}
use Rattle.std.specs.Prelude.{⊤, IsTrue, ◌↔◌, int_lt}
use Rattle.std.specs.List.{AllByRecursion, fold}
use Rattle.std.specs.Ordering.{int_eq}
use Rattle.std.proofs.lemmas.Bool.{cases_Bool}
use Rattle.std.proofs.lemmas.Int.{ints}
use Rattle.std.proofs.lemmas.List.Sums.{fold-append}
use Rattle.ghcn_fields.specs.Days.{block_of}
use Rattle.ghcn_files.specs.declared.station.StationId.{StationId}
use Rattle.ghcn_series.specs.Packed.{TakesRun, TakesToLastRun, run_count, runs_after}
use Rattle.ghcn_series.specs.Meaning.Series.{DayValue}
use Rattle.rank_scores.specs.declared.candidate.Candidate.{Candidate}
use Rattle.rank_scores.specs.Spells.{goes_on, offered, offered_of_kind, spell_from, spell_list, first_with, ended_by}
use Rattle.rank_scores.specs.Spells.{EndAlike}
use Rattle.rank_scores.proofs.Rising.{from_each}
use Rattle.rank_scores.proofs.SpellDays.{closed-before, offered-longer, offered-anew}

-- ---- runs that are added one by one

-- a day that an open spell goes on with belongs to it
first-on : (run : Option (ℤ × ℤ)) (day begun : ℤ) → goes_on run day true ≡ Some begun → first_with run day ≡ begun
first-on run day begun on = rw (on, first_with) refl

-- and ends none
none-ended : (id : StationId) (run : Option (ℤ × ℤ)) (day begun : ℤ) → goes_on run day true ≡ Some begun
    → ended_by id run day ≡ []
none-ended id run day begun on = rw (on, ended_by) refl

-- another day begins one
first-anew : (run : Option (ℤ × ℤ)) (day : ℤ) → goes_on run day true ≡ None → first_with run day ≡ day
first-anew run day off = rw (off, first_with) refl

-- and ends the open one
spell-ends : (id : StationId) (run : Option (ℤ × ℤ)) (day : ℤ) → goes_on run day true ≡ None
    → ended_by id run day ≡ spell_list id run
spell-ends id run day off = rw (off, ended_by) refl

module _ {S : Type 0} (taken : S → Candidate → S) (id : StationId) where
  -- one thing was done after another
  pub alike-on : {a b c : S × (Option (ℤ × ℤ) × List DayValue)} → EndAlike taken id a b → EndAlike taken id b c
      → EndAlike taken id a c
  alike-on first second = record { same = λ later. second.same later ∙ first.same later }

  -- the first run is added to the open spell, or ends it and begins one
  pub run-added : (sink : S) (run : Option (ℤ × ℤ)) (ends : ℤ × ℤ) (days left : List DayValue)
      → TakesRun days ends left → EndAlike taken id (sink, (run, days))
      (fold taken sink (ended_by id run ends.0), (Some (first_with run ends.0, ends.1), left))
  run-added sink run ends days left takes = added (goes_on run ends.0 true) refl
    where
      -- the days are those of the run and those that are left
      parts : (later : List DayValue) → days ++ later ≡ takes.run ++ (left ++ later)
      parts later = ap (λ (l : List DayValue). l ++ later) takes.parts ∙ append_assoc takes.run left later

      -- whether it goes on with the spell or not
      added : (on : Option ℤ) → goes_on run ends.0 true ≡ on → EndAlike taken id (sink, (run, days))
          (fold taken sink (ended_by id run ends.0), (Some (first_with run ends.0, ends.1), left))
      added (Some begun) on = record {
        same = λ later.
            ap₂ (λ (cs : List Candidate) (first : ℤ).
            fold taken (fold taken sink cs) (offered_of_kind id (Some (first, ends.1)) (left ++ later)))
            (none-ended id run ends.0 begun on) (first-on run ends.0 begun on)
            ∙ ap (fold taken sink) (sym (ap (offered_of_kind id run) (parts later)
            ∙ offered-longer id run ends.0 ends.1 begun takes.run (left ++ later) takes.some takes.row on));
      }
      added None off = record {
        same = λ later.
            ap₂ (λ (cs : List Candidate) (first : ℤ).
            fold taken (fold taken sink cs) (offered_of_kind id (Some (first, ends.1)) (left ++ later)))
            (spell-ends id run ends.0 off) (first-anew run ends.0 off)
            ∙ sym (fold-append taken sink (spell_list id run)
            (offered_of_kind id (Some (ends.0, ends.1)) (left ++ later)))
            ∙ ap (fold taken sink) (sym (ap (offered_of_kind id run) (parts later)
            ∙ offered-anew id run ends.0 ends.1 takes.run (left ++ later) takes.some takes.row off));
      }

  -- the open spell is offered if a day follows that doesn't go on with it
  pub spell-closed : (sink : S) (first last : ℤ) (days : List DayValue) → 0 < length days
      → AllByRecursion (λ x. (last +ℤ pos 1) <ℤ x.0) days
      → EndAlike taken id (sink, (Some (first, last), days))
      (fold taken sink (spell_list id (Some (first, last))), (None, days))
  spell-closed sink first last [] some apart = absurd (omega (arith, some))
  spell-closed sink first last (y ∷ ys) some apart = record {
    same = λ later.
        sym (fold-append taken sink (spell_list id (Some (first, last))) (offered_of_kind id None (y ∷ (ys ++ later))))
        ∙ ap (fold taken sink) (sym (closed-before id (first, last) y (ys ++ later) apart.0));
  }

  -- so it is with what equals the sink and the spell after it
  pub run-taken : (sink after : S) (run now : Option (ℤ × ℤ)) (ends : ℤ × ℤ) (days left : List DayValue)
      → TakesRun days ends left → now ≡ Some (first_with run ends.0, ends.1)
      → after ≡ fold taken sink (ended_by id run ends.0)
      → EndAlike taken id (sink, (run, days)) (after, (now, left))
  run-taken sink after run now ends days left takes opened is =
      rw (is, opened) (run-added sink run ends days left takes)

  -- and with what equals the open spell, and the sink after it is offered
  pub spell-ended : (sink after : S) (now : Option (ℤ × ℤ)) (first last : ℤ) (days : List DayValue) → 0 < length days
      → AllByRecursion (λ x. (last +ℤ pos 1) <ℤ x.0) days → now ≡ Some (first, last)
      → after ≡ fold taken sink (spell_list id now)
      → EndAlike taken id (sink, (now, days)) (after, (None, days))
  spell-ended sink after now first last days some apart opened is =
      rw (is, opened) (spell-closed sink first last days some apart)

-- days that aren't none have one
pub some-day : (days : List DayValue) (empty : Bool) → (IsTrue empty ↔ (days ≡ [])) → empty ≡ false → 0 < length days
some-day [] empty is not = let yes : empty ≡ true = is.1 refl in absurd cc
some-day (x ∷ xs) empty is not = omega arith

-- ---- how many spells the runs of some days are, and how long

-- from an open spell on, a spell more for each run
spells-more : (id : StationId) (first day : ℤ) (days : List DayValue)
    → length (offered_of_kind id (Some (first, day)) days) ≡ 1 + runs_after day days
spells-more id first day [] = refl
spells-more id first day (y ∷ ys) = elim (cases_Bool (int_eq y.0 (day +ℤ pos 1))) [
  | inl on ↦ rw (on, offered) (spells-more id first y.0 ys ∙ ap (λ k. 1 + k) (sym (zero-add (runs_after y.0 ys))))
  | inr off ↦ rw (off, offered) (let rest = spells-more id y.0 y.0 ys in omega (arith, rest))
]

-- a spell for each run
pub spell-count : (id : StationId) (days : List DayValue) → length (offered_of_kind id None days) ≡ run_count days
spell-count id [] = refl
spell-count id (y ∷ ys) = spells-more id y.0 y.0 ys

-- an open spell has days from a low to a high one
abbrev LiesWithin : ℤ → ℤ → Option (ℤ × ℤ) → Type 0
LiesWithin low high None = ⊤
LiesWithin low high (Some s) = (low ≤ℤ s.0) × (s.1 ≤ℤ high)

module _ (id : StationId) (low high floor : ℤ) (long : (high +ℤ pos 1 -ℤ low) <ℤ floor) where
  -- so has each spell that days from the low to the high one are offered as, and it is too short for a floor
  spells-short : (run : Option (ℤ × ℤ)) (days : List DayValue) → LiesWithin low high run
      → AllByRecursion (λ x. (low ≤ℤ x.0) × (x.0 ≤ℤ high)) days
      → AllByRecursion (λ c. c.score <ℤ floor) (offered_of_kind id run days)
  spells-short None [] lies within = tt
  spells-short (Some s) [] lies within = (omega (arith, ints, lies.0, lies.1, long), tt)
  spells-short None (y ∷ ys) lies within = spells-short (Some (y.0, y.0)) ys within.0 within.1
  spells-short (Some s) (y ∷ ys) lies within = elim (cases_Bool (int_eq y.0 (s.1 +ℤ pos 1))) [
    | inl on ↦ rw (on, offered) (spells-short (Some (s.0, y.0)) ys (lies.0, within.0.1) within.1)
    | inr off ↦ rw (off, offered)
        (omega (arith, ints, lies.0, lies.1, long), spells-short (Some (y.0, y.0)) ys within.0 within.1)
  ]

-- a day lies in its block
block-holds : (day : ℤ) → ((block_of day *ℤ pos 32) ≤ℤ day) × (day ≤ℤ ((block_of day *ℤ pos 32) +ℤ pos 31))
block-holds (pos a) = (omega (arith, ints), omega (arith, ints))
block-holds (negsuc a) = (omega (arith, ints), omega (arith, ints))

-- spells of days of one block are too short for a floor above its days
pub spells-low : (id : StationId) (floor block : ℤ) (days : List DayValue) → pos 32 <ℤ floor
    → AllByRecursion (λ x. block_of x.0 ≡ block) days
    → AllByRecursion (λ c. c.score <ℤ floor) (offered_of_kind id None days)
spells-low id floor block days above own =
    spells-short id (block *ℤ pos 32) ((block *ℤ pos 32) +ℤ pos 31) floor (omega (arith, ints, above)) None days tt
    (from_each (λ x. block_of x.0 ≡ block)
    (λ x. ((block *ℤ pos 32) ≤ℤ x.0) × (x.0 ≤ℤ ((block *ℤ pos 32) +ℤ pos 31))) days
    (λ x is. let holds = block-holds x.0 in (omega (arith, ints, holds.0, is), omega (arith, ints, holds.1, is))) own)

-- ---- runs that are taken by their number

-- a floor is above a block's days if the test says so
pub above-block : (floor : ℤ) → int_lt (pos 32) floor ≡ true → pos 32 <ℤ floor
above-block floor e = grind (arith, ints)

-- the day after the last one of an open spell is before another day
abbrev EndsBefore : Option (ℤ × ℤ) → ℤ → Type 0
EndsBefore None day = ⊤
EndsBefore (Some s) day = (s.1 +ℤ pos 1) <ℤ day

-- what is offered of some days and of others that lie apart is what is offered of both
offered-apart : (id : StationId) (run : Option (ℤ × ℤ)) (days : List DayValue) (z : DayValue) (zs : List DayValue)
    → EndsBefore run z.0 → AllByRecursion (λ x. (x.0 +ℤ pos 1) <ℤ z.0) days
    → offered_of_kind id run (days ++ (z ∷ zs)) ≡ offered_of_kind id run days ++ offered_of_kind id None (z ∷ zs)
offered-apart id None [] z zs ends apart = refl
offered-apart id (Some s) [] z zs ends apart = closed-before id s z zs ends
offered-apart id None (x ∷ xs) z zs ends apart = offered-apart id (Some (x.0, x.0)) xs z zs apart.0 apart.1
offered-apart id (Some s) (x ∷ xs) z zs ends apart = elim (cases_Bool (int_eq x.0 (s.1 +ℤ pos 1))) [
  | inl on ↦ rw (on, offered) (offered-apart id (Some (s.0, x.0)) xs z zs apart.0 apart.1)
  | inr off ↦ rw (off, offered)
      (ap (λ (l : List Candidate). spell_from id s.0 s.1 ∷ l)
      (offered-apart id (Some (x.0, x.0)) xs z zs apart.0 apart.1))
]

-- what is offered of runs, and of the last one after them, is what is offered of all
runs-apart : (id : StationId) (runs left later : List DayValue)
    → AllByRecursion (λ x. AllByRecursion (λ y. (x.0 +ℤ pos 1) <ℤ y.0) left) runs
    → (0 < length (runs ++ left) → run_count left ≡ 1)
    → offered_of_kind id None ((runs ++ left) ++ later)
    ≡ offered_of_kind id None runs ++ offered_of_kind id None (left ++ later)
runs-apart id [] left later apart last = refl
runs-apart id (x ∷ xs) [] later apart last = let one : 0 ≡ 1 = last (omega arith) in absurd (omega (arith, one))
runs-apart id (x ∷ xs) (z ∷ zs) later apart last =
    ap (offered_of_kind id None) (append_assoc (x ∷ xs) (z ∷ zs) later)
    ∙ offered-apart id None (x ∷ xs) z (zs ++ later) tt
    (from_each (λ x. AllByRecursion (λ y. (x.0 +ℤ pos 1) <ℤ y.0) (z ∷ zs)) (λ x. (x.0 +ℤ pos 1) <ℤ z.0) (x ∷ xs)
    (λ x each. each.0) apart)

-- the runs before the last one are taken by their number
pub runs-passed : {S : Type 0} (taken : S → Candidate → S) (id : StationId) (sink after : S) (floor : ℤ) (count : ℕ)
    (days left : List DayValue) → TakesToLastRun days count left → pos 32 <ℤ floor
    → ((candidates : List Candidate) → AllByRecursion (λ c. c.score <ℤ floor) candidates → length candidates ≡ count
    → after ≡ fold taken sink candidates)
    → EndAlike taken id (sink, (None, days)) (after, (None, left))
runs-passed taken id sink after floor count days left takes above passed =
    let low = spells-low id floor takes.block takes.runs above takes.within in
    let is = passed (offered_of_kind id None takes.runs) low (spell-count id takes.runs ∙ takes.number) in
    let last : 0 < length (takes.runs ++ left) → run_count left ≡ 1 =
    rw takes.parts at takes.last in
    record {
      same = λ later.
          rw (is, takes.parts) (sym (fold-append taken sink (offered_of_kind id None takes.runs)
          (offered_of_kind id None (left ++ later)))
          ∙ ap (fold taken sink) (sym (runs-apart id takes.runs left later takes.apart last)));
    }
