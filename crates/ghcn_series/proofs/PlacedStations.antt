-- Stations that are held, by their numbers and their places in the list.
use Rattle.ghcn_series.proofs.Cited.{◌≡◌, ℕ, zero, suc, ◌+◌, ◌<◌, ◌≤◌, cond, not, List, [], ◌∷◌, ◌++◌, length}
use Rattle.ghcn_series.proofs.Cited.{map, get_or, replicate, inl, inr, refl, sym, ap, ◌∙◌, arith, ◌==◌, count_by, set}
use Rattle.ghcn_series.proofs.Cited.{length-set, length-map, map-set, get_or-map, get_or-set_same, get_or-set_other}
use Rattle.ghcn_series.proofs.Cited.{get_or_push, get_or_append_left, cases_eq, cases_lt, ne_eqb, Station, Gathering}
use Rattle.ghcn_series.proofs.Cited.{StationGathering, numbered, place_numbered, by_place, ArePlaced}
use Rattle.std.proofs.lemmas.List.{length-append, map_push}
use Rattle.std.proofs.lemmas.List.Sums.{sum_by-set}

-- what is gathered at a place belongs to its number
pub at_place : (held : List StationGathering) (numbers : List ℕ) (k : ℕ)
    → get_or (by_place held numbers) k [] ≡ numbered held (get_or numbers k 0)
at_place held [] k = refl
at_place held (n ∷ ns) zero = refl
at_place held (n ∷ ns) (suc k) = at_place held ns k

-- no number is greater than that of the last station
pub at_most_all : (numbers : List ℕ) (held : List StationGathering) (k : ℕ) → ArePlaced numbers held
    → get_or numbers k 0 ≤ length held
at_most_all numbers held k is = elim (cases_lt 0 (get_or numbers k 0)) [
  | inl some ↦ (is.own k some).0
  | inr none ↦ omega (arith, none)
]

-- a place whose number isn't 0 is one of the list
pub within_list : (numbers : List ℕ) (k : ℕ) → 0 < get_or numbers k 0 → k < length numbers
within_list [] k some = absurd (omega (arith, some))
within_list (n ∷ ns) zero some = omega arith
within_list (n ∷ ns) (suc k) some = omega (arith, within_list ns k some)

-- ---- no station

-- the number of each is 0
abbrev pub zeros : ℕ → List ℕ
zeros n = replicate n 0

-- nothing is gathered of any
pub none_by_place : (ss : List Station) → by_place [] (zeros (length ss)) ≡ map (λ s. []) ss
none_by_place [] = refl
none_by_place (s ∷ ss) = ap (λ (all : List (List Gathering)). [] ∷ all) (none_by_place ss)

-- ---- a station that takes the place of one

-- a relation of what each station has to itself, and of what one has to what the station in its place has, holds at
-- each number
pub at_numbers : {A : Type 0} (f : StationGathering → A) (R : A → A → Type 0) (d y : A) (held : List StationGathering)
    (i n : ℕ) (g now : StationGathering) → ((v : A) → R v v) → g ≡ get_or held i g → R (f g) (f now)
    → R (get_or (y ∷ map f held) n d) (get_or (y ∷ map f (set held i now)) n d)
at_numbers f R d y held i zero g now same here holds = same y
at_numbers f R d y [] i (suc n) g now same here holds = same d
at_numbers f R d y (x ∷ xs) zero (suc zero) g now same here holds = rw here at holds
at_numbers f R d y (x ∷ xs) zero (suc (suc n)) g now same here holds = same (get_or (map f xs) n d)
at_numbers f R d y (x ∷ xs) (suc i) (suc n) g now same here holds = at_numbers f R d (f x) xs i n g now same here holds

-- the stations stay placed
pub placed-set : (numbers : List ℕ) (held : List StationGathering) (i : ℕ) (g now : StationGathering)
    → g ≡ get_or held i g → now.place ≡ g.place → length now.by_element.items ≡ length g.by_element.items
    → ArePlaced numbers held → ArePlaced numbers (set held i now)
placed-set numbers held i g now here place number is =
    let as_many = length-set held i now in
    let places : (n : ℕ) → place_numbered (set held i now) n ≡ place_numbered held n =
    λ n. at_numbers (λ s. s.place) (λ (old new : ℕ). new ≡ old) 0 0 held i n g now (λ v. refl) here place in
    record {
      few = is.few;
      count = as_many ∙ is.count;
      own = λ k some. (omega (arith, as_many, (is.own k some).0), places (get_or numbers k 0) ∙ (is.own k some).1);
      back = λ n some most. rw (places n) (is.back n some (rw as_many at most));
      five = λ n some most.
          at_numbers (λ s. s.by_element.items) (λ (old new : List Gathering). length new ≡ length old) [] [] held i n g
          now (λ v. refl) here number ∙ is.five n some (rw as_many at most);
    }

-- the gatherings of other numbers stay
pub numbered-other : (held : List StationGathering) (i n : ℕ) (now : StationGathering) → (n ≡ suc i → ⊥)
    → numbered (set held i now) n ≡ numbered held n
numbered-other held i n now other =
    let own : StationGathering → List Gathering = λ s. s.by_element.items in
    rw (map-set own held i now) (get_or-set_other ([] ∷ map own held) (suc i) n (own now) [] other)

-- the gatherings of the station at a place among those that are held
pub numbered-at : (held : List StationGathering) (i : ℕ) (g : StationGathering) → i < length held
    → g ≡ get_or held i g → numbered held (suc i) ≡ g.by_element.items
numbered-at held i g lt here =
    get_or-map (λ s. s.by_element.items) held i g [] lt ∙ ap (λ (s : StationGathering). s.by_element.items) (sym here)

-- and its place in the list
pub place_numbered-at : (held : List StationGathering) (i : ℕ) (g : StationGathering) → i < length held
    → g ≡ get_or held i g → place_numbered held (suc i) ≡ g.place
place_numbered-at held i g lt here =
    get_or-map (λ s. s.place) held i g 0 lt ∙ ap (λ (s : StationGathering). s.place) (sym here)

-- ---- a station more

module _ {A : Type 0} (f : StationGathering → A) (d : A) (g : StationGathering) where
  -- it has the last number
  last_has : (held : List StationGathering) → get_or (map f (held ++ g ∷ [])) (length held) d ≡ f g
  last_has held = rw (map_push f held g) (get_or_push (map f held) (f g) d (length held) (length-map held f))

  -- and the others have theirs
  others_have : (y : A) (held : List StationGathering) (n : ℕ) → n ≤ length held
      → get_or (y ∷ map f (held ++ g ∷ [])) n d ≡ get_or (y ∷ map f held) n d
  others_have y held n most = rw (map_push f held g)
      (get_or_append_left (y ∷ map f held) (f g ∷ []) d n (omega (arith, most, length-map held f)))

-- one number more isn't 0
count-more : (numbers : List ℕ) (k n : ℕ) → k < length numbers → get_or numbers k 0 ≡ 0
    → count_by (λ m. not (m == 0)) (set numbers k (suc n)) ≡ count_by (λ m. not (m == 0)) numbers + 1
count-more numbers k n lt none =
    let test : ℕ → ℕ = λ m. cond (not (m == 0)) 1 0 in
    let none_there : test (get_or numbers k 0) ≡ 0 = ap test none in
    let one : test (suc n) ≡ 1 = ap (λ b. cond (not b) 1 0) (ne_eqb (suc n) 0 (λ e. omega (arith, e))) in
    omega (arith, sum_by-set test numbers k (suc n) 0 lt, none_there, one)

module _ (numbers : List ℕ) (held : List StationGathering) (g : StationGathering) (lt : g.place < length numbers)
    (none : get_or numbers g.place 0 ≡ 0) (five : length g.by_element.items ≡ 5) (is : ArePlaced numbers held) where
  -- the other places have their numbers
  other_number : (i : ℕ) → (i ≡ g.place → ⊥) → get_or (set numbers g.place (suc (length held))) i 0 ≡ get_or numbers i 0
  other_number i other = get_or-set_other numbers g.place i (suc (length held)) 0 other

  -- and their gatherings
  numbered_before : (n : ℕ) → n ≤ length held → numbered (held ++ g ∷ []) n ≡ numbered held n
  numbered_before n most = others_have (λ s. s.by_element.items) [] g [] held n most

  -- so all are placed with it: itself by the lemmas on its own number, and each other one as it was
  pub placed-push : ArePlaced (set numbers g.place (suc (length held))) (held ++ g ∷ [])
  placed-push =
      let more : length (held ++ g ∷ []) ≡ suc (length held) = length-append held (g ∷ []) ∙ omega arith in
      let own_number = get_or-set_same numbers g.place (suc (length held)) 0 lt in
      record {
        few = rw (length-set numbers g.place (suc (length held))) is.few;
        count = more ∙ omega (arith, is.count, count-more numbers g.place (length held) lt none);
        own = λ i some. elim (cases_eq i g.place) [
          | inl e ↦ rw (e, own_number) (omega (arith, more), last_has (λ s. s.place) 0 g held)
          | inr other ↦
              let of = is.own i (rw (other_number i other) at some) in
              rw (other_number i other)
              (omega (arith, more, of.0), others_have (λ s. s.place) 0 g 0 held (get_or numbers i 0) of.0 ∙ of.1)
        ];
        back = λ n some most. elim (cases_eq n (suc (length held))) [
          | inl e ↦ rw (e, last_has (λ s. s.place) 0 g held) own_number
          | inr other ↦
              let few : n ≤ length held = omega (arith, more, most, other) in
              let back = is.back n some few in
              let apart : place_numbered held n ≡ g.place → ⊥ = λ e. omega (arith, some, rw e at back, none) in
              rw (others_have (λ s. s.place) 0 g 0 held n few, other_number (place_numbered held n) apart) back
        ];
        five = λ n some most. elim (cases_eq n (suc (length held))) [
          | inl e ↦ rw e (ap length (last_has (λ s. s.by_element.items) [] g held) ∙ five)
          | inr other ↦
              let few : n ≤ length held = omega (arith, more, most, other) in
              ap length (numbered_before n few) ∙ is.five n some few
        ];
      }

  -- and its gatherings are at its place
  pub by_place-push : by_place (held ++ g ∷ []) (set numbers g.place (suc (length held)))
      ≡ set (by_place held numbers) g.place g.by_element.items
  by_place-push = rw (map-set (numbered (held ++ g ∷ [])) numbers g.place (suc (length held)))
      (rw (last_has (λ s. s.by_element.items) [] g held, same numbers (λ k. at_most_all numbers held k is)))
    where
      same : (ns : List ℕ) → ((k : ℕ) → get_or ns k 0 ≤ length held) → by_place (held ++ g ∷ []) ns ≡ by_place held ns
      same [] most = refl
      same (n ∷ ns) most = rw (numbered_before n (most 0), same ns (λ k. most (suc k)))
