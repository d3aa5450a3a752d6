-- The stations that are held by one reader, taken over by another.
use Rattle.ghcn_series.proofs.Cited.{◌≡◌, ℕ, suc, ◌<◌, ◌≤◌, List, [], ◌∷◌, length, drop, get_or, inl, inr, refl, sym}
use Rattle.ghcn_series.proofs.Cited.{ap, ◌∙◌, arith, set, cases_eq, length-map, length-set, get_or-set_same}
use Rattle.ghcn_series.proofs.Cited.{get_or-set_other, Gathering, StationGathering, numbered, place_numbered, by_place}
use Rattle.ghcn_series.proofs.Cited.{ArePlaced, JoinsStation, JoinStations, OneHasBoth}
use Rattle.std.proofs.Common.{drop-cons}
use Rattle.std.proofs.lemmas.List.{length-drop}
use Rattle.ghcn_series.proofs.JoinedMonths.{station-kept, station-taken, station-both, joined-all, one-has}
use Rattle.ghcn_series.proofs.PlacedStations.{at_place, at_most_all, within_list, numbered-at, place_numbered-at}

-- the next of a list is at its place
pub next_at : {X : Type 0} (xs : List X) (n : ℕ) (x : X) (rest : List X) → drop n xs ≡ x ∷ rest
    → (n < length xs) × (x ≡ get_or xs n x) × (drop (suc n) xs ≡ rest)
next_at xs n x rest is =
    let lt : n < length xs = omega (arith, ap length is, length-drop n xs) in
    let both = drop-cons xs n x lt in (lt, cc, cc)

-- past the last one nothing is left
pub none_past : {X : Type 0} (xs : List X) (n : ℕ) → drop n xs ≡ [] → length xs ≤ n
none_past xs n is = omega (arith, ap length is, length-drop n xs)

-- a station that is held, after n others
pub record Next (all : List (List Gathering)) (g : StationGathering) (n : ℕ) (numbers : List ℕ) : Type 0 where
  pub within : g.place < length all
  pub number : get_or numbers g.place 0 ≡ suc n
  pub gathered : get_or all g.place [] ≡ g.by_element.items
  pub five : length g.by_element.items ≡ 5
  pub others : (k : ℕ) → (k ≡ g.place → ⊥) → get_or numbers k 0 ≡ suc n → ⊥

-- stations that are held, each with its number at its place
pub record AreHeld (all : List (List Gathering)) : Type 0 where
  pub numbers : List ℕ
  pub held : List StationGathering
  pub placed : ArePlaced numbers held
  pub view : by_place held numbers ≡ all

-- the next of those that are held
pub next_of : (all : List (List Gathering)) (is : AreHeld all) (n : ℕ) (g : StationGathering)
    (rest : List StationGathering) → drop n is.held ≡ g ∷ rest → Next all g n is.numbers
next_of all is n g rest step =
    let at = next_at is.held n g rest step in
    let place : place_numbered is.held (suc n) ≡ g.place = place_numbered-at is.held n g at.0 at.1 in
    let number : get_or is.numbers g.place 0 ≡ suc n =
    rw place at (is.placed.back (suc n) (omega arith) (omega (arith, at.0))) in
    let own : numbered is.held (suc n) ≡ g.by_element.items = numbered-at is.held n g at.0 at.1 in
    record {
      within = omega (
        arith,
        within_list is.numbers g.place (omega (arith, number)),
        ap length (sym is.view),
        length-map is.numbers (numbered is.held),
      );
      number = number;
      gathered = rw (← is.view, at_place is.held is.numbers g.place, number) own;
      five = ap length (sym own) ∙ is.placed.five (suc n) (omega arith) (omega (arith, at.0));
      others = λ k other same. other
          (sym (is.placed.own k (omega (arith, same))).1 ∙ ap (place_numbered is.held) same ∙ place);
    }

-- the stations that come before the rest of those that are held have been taken over, and the others are as they were
pub record AreTaken (olds others news : List (List Gathering)) (rest : List StationGathering) : Type 0 where
  pub stations : AreHeld others
  pub n : ℕ
  pub left : drop n stations.held ≡ rest
  pub done : (k : ℕ) → get_or stations.numbers k 0 ≤ n
      → JoinsStation (get_or olds k []) (get_or others k []) (get_or news k [])
  pub kept : (k : ℕ) → n < get_or stations.numbers k 0 → get_or news k [] ≡ get_or olds k []
  pub long : length news ≡ length olds

-- none has been taken over yet
pub none_taken : (olds : List (List Gathering)) (numbers : List ℕ) (held rest : List StationGathering)
    → ArePlaced numbers held → rest ≡ held → AreTaken olds (by_place held numbers) olds rest
none_taken olds numbers held rest placed whole = record {
  stations = record { numbers = numbers; held = held; placed = placed; view = refl };
  n = 0;
  left = sym whole;
  done = λ k most. station-kept (get_or olds k []) (get_or (by_place held numbers) k [])
      (at_place held numbers k ∙ ap (numbered held) {x = get_or numbers k 0} {y = 0} (omega (arith, most)));
  kept = λ k some. refl;
  long = refl;
}

module _ (olds others news : List (List Gathering)) (g : StationGathering) (whole rest : List StationGathering)
    (is : AreTaken olds others news whole) (step : whole ≡ g ∷ rest) where
  -- the next comes after those that have been taken over
  next : Next others g is.n is.stations.numbers
  next = next_of others is.stations is.n g rest (is.left ∙ step)

  -- it has five gatherings
  pub next_five : length g.by_element.items ≡ 5
  next_five = next.five

  module _ (same : length others ≡ length olds) where
    -- it is one of the old list
    within_olds : g.place < length olds
    within_olds = omega (arith, next.within, same)

    -- and of the new one
    pub next_within : g.place < length news
    next_within = omega (arith, within_olds, is.long)

    -- if it has nothing of its own, it is taken over
    pub one_taken : get_or news g.place [] ≡ [] → AreTaken olds others (set news g.place g.by_element.items) rest
    one_taken none = record {
      stations = is.stations;
      n = suc is.n;
      left = (next_at is.stations.held is.n g rest (is.left ∙ step)).2;
      done = λ k most. elim (cases_eq k g.place) [
        | inl here ↦
            let empty : get_or olds g.place [] ≡ [] = sym (is.kept g.place (omega (arith, next.number))) ∙ none in
            rw (here, get_or-set_same news g.place g.by_element.items [] next_within, ← next.gathered)
            (station-taken (get_or olds g.place []) (get_or others g.place []) empty)
        | inr other ↦ rw (get_or-set_other news g.place k g.by_element.items [] other)
            (is.done k (omega (arith, most, next.others k other)))
      ];
      kept = λ k some. get_or-set_other news g.place k g.by_element.items []
          (λ e. omega (arith, some, ap (λ (i : ℕ). get_or is.stations.numbers i 0) e, next.number))
          ∙ is.kept k (omega (arith, some));
      long = length-set news g.place g.by_element.items ∙ is.long;
    }

    -- otherwise it has months in both
    pub one_not_taken : 0 < length (get_or news g.place []) → OneHasBoth olds others
    one_not_taken some =
        let old : get_or news g.place [] ≡ get_or olds g.place [] = is.kept g.place (omega (arith, next.number)) in
        one-has g.place olds others within_olds
        (station-both (get_or olds g.place []) (get_or others g.place []) (omega (arith, some, ap length old))
        (omega (arith, ap length next.gathered, next.five)))

-- all have been taken over
pub all_taken : (olds others news : List (List Gathering)) (rest : List StationGathering)
    → AreTaken olds others news rest → rest ≡ [] → JoinStations olds others news
all_taken olds others news rest is none = joined-all olds others news is.long (λ k.
    let past = none_past is.stations.held is.n (is.left ∙ none) in
    is.done k (omega (arith, past, at_most_all is.stations.numbers is.stations.held k is.stations.placed)))
