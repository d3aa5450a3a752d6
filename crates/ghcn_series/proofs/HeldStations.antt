-- Steps of the stations that are held.
use Rattle.ghcn_series.proofs.Cited.{◌≡◌, ℕ, suc, ◌+◌, ◌*◌, ◌<◌, Bool, true, false, not, List, [], ◌∷◌, ◌++◌, length}
use Rattle.ghcn_series.proofs.Cited.{get_or, min, inl, inr, refl, sym, ap, ◌∙◌, arith, ◌==◌, set, cases_lt, eqb-true}
use Rattle.ghcn_series.proofs.Cited.{eqb-false, not-true, not-false, length-set, length-map, get_or-set_same}
use Rattle.ghcn_series.proofs.Cited.{get_or-set_other, nil_from_length, Keep, Month, Gathering, StationGathering}
use Rattle.ghcn_series.proofs.Cited.{GatheredByPlace, numbered, place_numbered, by_place, ArePlaced, FiveGather}
use Rattle.ghcn_series.proofs.Cited.{FiveOfNothing, KeepsStation, TurnsTo, AddsAt}
use Rattle.std.proofs.Common.{add-one}
use Rattle.ghcn_series.specs.Steps.{KeepStations}
use Rattle.ghcn_series.proofs.PlacedStations.{at_place, at_most_all, at_numbers, numbered-other, numbered-at}
use Rattle.ghcn_series.proofs.PlacedStations.{placed-push, by_place-push}
use Rattle.ghcn_series.proofs.StationMonths.{opens-nothing, opens-five}

-- a station keeps what it has
keeps-same : (gs : List Gathering) → KeepsStation gs gs
keeps-same gs = record { holds = λ asked before id is. is }

-- each station keeps what it has if the one that was changed does
pub settled : (numbers : List ℕ) (held : List StationGathering) (i : ℕ) (g now : StationGathering)
    (all : List (List Gathering)) → by_place held numbers ≡ all → g ≡ get_or held i g
    → KeepsStation g.by_element.items now.by_element.items → KeepStations all (by_place (set held i now) numbers)
settled numbers held i g now all view here keeps = record {
  each = λ k. rw (← view, at_place held numbers k, at_place (set held i now) numbers k)
      (at_numbers (λ s. s.by_element.items) KeepsStation [] [] held i (get_or numbers k 0) g now keeps-same here keeps);
  number = length-map numbers (numbered (set held i now)) ∙ sym (length-map numbers (numbered held)) ∙ ap length view;
}

-- stations that stay as they are keep what they have
pub none_settled : (olds news : List (List Gathering)) → news ≡ olds → KeepStations olds news
none_settled olds news same = rw same (record { each = λ k. keeps-same (get_or olds k []); number = refl })

-- a station without gatherings has none
pub none_if : (gs : List Gathering) → not (length gs == 0) ≡ false → gs ≡ []
none_if gs none = nil_from_length gs (eqb-true (length gs) 0 (not-false _ none))

-- or it has some
pub some_if : (gs : List Gathering) → not (length gs == 0) ≡ true → 0 < length gs
some_if gs some = omega (arith, eqb-false (length gs) 0 (not-true _ some))

module _ (numbers : List ℕ) (held : List StationGathering) (k : ℕ) (all : List (List Gathering))
    (view : by_place held numbers ≡ all) (is : ArePlaced numbers held) where
  -- a station that is held has five, and any other none
  five_or_none : length (get_or all k []) ≡ 5 * min 1 (get_or numbers k 0)
  five_or_none = rw (← view, at_place held numbers k) (elim (cases_lt 0 (get_or numbers k 0)) [
    | inl some ↦ omega (arith, some, is.five (get_or numbers k 0) some (at_most_all numbers held k is))
    | inr none ↦ let zero_there : get_or numbers k 0 ≡ 0 = omega (arith, none) in rw zero_there refl
  ])

  -- so one that has some has five
  pub five_if : not (length (get_or all k []) == 0) ≡ true → length (get_or all k []) ≡ 5
  five_if some = omega (arith, some_if (get_or all k []) some, five_or_none)

  -- the station of the line before has five
  pub five_here : (at : ℕ) → get_or numbers k 0 ≡ at + 1 → length (get_or all k []) ≡ 5
  five_here at here = omega (arith, here, five_or_none)

  -- a station without gatherings isn't held
  pub not_held : get_or all k [] ≡ [] → get_or numbers k 0 ≡ 0
  not_held none = omega (arith, ap length none, five_or_none)

-- a station that has its gatherings is turned to
pub turned : (k : ℕ) (all : List (List Gathering)) → length (get_or all k []) ≡ 5 → TurnsTo k all all
turned k all five =
    record { own = opens-five (get_or all k []) five; others = λ i other. keeps-same (get_or all i []); number = refl }

-- so is one that gets them
pub turned-new : (k : ℕ) (all : List (List Gathering)) (five : List Gathering) → k < length all → get_or all k [] ≡ []
    → FiveOfNothing five → TurnsTo k all (set all k five)
turned-new k all five lt none nothing = record {
  own = rw (none, get_or-set_same all k five [] lt) (opens-nothing five nothing);
  others = λ i other. rw (get_or-set_other all k i five [] other) (keeps-same (get_or all i []));
  number = length-set all k five;
}

-- or one after which all others are left as they are
pub turned-after : (k : ℕ) (olds mids news : List (List Gathering)) → KeepStations olds mids → TurnsTo k mids news
    → TurnsTo k olds news
turned-after k olds mids news keep turns = record {
  own = record { holds = λ asked before id h. turns.own.holds asked before id ((keep.each k).holds asked before id h) };
  others = λ i other. record {
    holds = λ asked before id h. (turns.others i other).holds asked before id ((keep.each i).holds asked before id h);
  };
  number = turns.number ∙ keep.number;
}

-- the station that was turned to has its number
pub here_now : (k last at : ℕ) (numbers : List ℕ) (held : List StationGathering) (v : GatheredByPlace)
    → record { stations = by_place held numbers; last = last } ≡ v → v.last ≡ k → k < length v.stations
    → (last < length numbers → get_or numbers last 0 ≡ at + 1) → get_or numbers k 0 ≡ at + 1
here_now k last at numbers held v view same lt here =
    let is : last ≡ k = ap (λ (x : GatheredByPlace). x.last) view ∙ same in
    let long = ap (λ (x : GatheredByPlace). length x.stations) view in
    ap (λ (i : ℕ). get_or numbers i 0) (sym is) ∙ here (omega (arith, is, lt, long, length-map numbers (numbered held)))

-- the station of the line before is where it was, after another was held
pub still_here : (numbers : List ℕ) (last at k n : ℕ) → get_or numbers k 0 ≡ 0 → (last < length numbers
    → get_or numbers last 0 ≡ at + 1) → last < length (set numbers k n) → get_or (set numbers k n) last 0 ≡ at + 1
still_here numbers last at k n none here lt = let is = here (rw (length-set numbers k n) at lt) in
    let other : last ≡ k → ⊥ = λ e. omega (arith, rw e at is, none) in
    get_or-set_other numbers k last n 0 other ∙ is

-- a station that is held, and its gatherings
pub is_held : (numbers : List ℕ) (held : List StationGathering) (g : StationGathering) (n : ℕ)
    (all : List (List Gathering)) → by_place held numbers ≡ all → g.place < length all → get_or all g.place [] ≡ []
    → length g.by_element.items ≡ 5 → ArePlaced numbers held → n ≡ suc (length held)
    → ArePlaced (set numbers g.place n) (held ++ g ∷ [])
    × (by_place (held ++ g ∷ []) (set numbers g.place n) ≡ set all g.place g.by_element.items)
is_held numbers held g n all view lt none five is last =
    let within : g.place < length numbers = omega (arith, lt, ap length view, length-map numbers (numbered held)) in
    let zero_there = not_held numbers held g.place all view is none in
    rw (last, ← view)
    (placed-push numbers held g within zero_there five is, by_place-push numbers held g within zero_there five is)

module _ (numbers : List ℕ) (held : List StationGathering) (k at : ℕ) (is : ArePlaced numbers held)
    (here : get_or numbers k 0 ≡ at + 1) (g : StationGathering) (found : g ≡ get_or held at g) where
  -- the station of the line before is held
  within_held : at < length held
  within_held = omega (arith, here, (is.own k (omega (arith, here))).0)

  -- its gatherings are those of its place
  pub gathered_here : get_or (by_place held numbers) k [] ≡ g.by_element.items
  gathered_here = rw (at_place held numbers k, here ∙ add-one at) (numbered-at held at g within_held found)

  -- a month of it is added
  pub month_added : (asked : Keep) (olds : List (List Gathering)) (now : StationGathering) (m : Month) (added : Bool)
      → TurnsTo k olds (by_place held numbers) → FiveGather asked g.by_element.items now.by_element.items m added
      → AddsAt asked k olds (by_place (set held at now) numbers) m added
  month_added asked olds now m added turns adds = let number = here ∙ add-one at in
      let new : get_or (by_place (set held at now) numbers) k [] ≡ now.by_element.items =
      rw (at_place (set held at now) numbers k, number) (numbered-at (set held at now) at now
      (rw (length-set held at now) within_held) (sym (get_or-set_same held at now now within_held))) in
      let opens = rw gathered_here at turns.own in
      record {
        own = record {
          is_new = λ before has. adds.is_new before (opens.holds asked before m.id has);
          holds = λ before has. rw new (adds.holds before (opens.holds asked before m.id has));
        };
        others = λ i other.
            let apart : get_or numbers i 0 ≡ suc at → ⊥ = λ e. other
            (sym (is.own i (omega (arith, e))).1 ∙ ap (place_numbered held) (e ∙ sym number)
            ∙ (is.own k (omega (arith, number))).1) in
            rw (at_place (set held at now) numbers i, numbered-other held at (get_or numbers i 0) now apart)
            (rw (← at_place held numbers i) (turns.others i other));
        number =
            length-map numbers (numbered (set held at now)) ∙ sym (length-map numbers (numbered held)) ∙ turns.number;
      }
