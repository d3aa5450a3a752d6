-- Where the reading of a query stops.
use Rattle.rank_query.proofs.Cited.{◌≡◌, ℕ, true, inl, inr, List, [], ◌∷◌, None, Result, Ok, Err, codes, refl, sym, ap}
use Rattle.rank_query.proofs.Cited.{◌∙◌, AllByRecursion, Score, Region, Everywhere, Season, AllYear, QueryFault}
use Rattle.rank_query.proofs.Cited.{UnexpectedWord, Query, Word, says, ◌>>=◌, Read, one_word, by_word, number, score_at}
use Rattle.rank_query.proofs.Cited.{region_at, season_at, period_at, per_at, nothing_more, read_words, ℤ, Option, Each}
use Rattle.rank_query.proofs.Spellings.{asked}
use Rattle.rank_query.proofs.Stops.{Reading, then, GoesOn, Stops, StopsFirst, ReadsPart, stops_behind, stops_word}
use Rattle.rank_query.proofs.Stops.{first_then}
use Rattle.rank_query.proofs.PartStops.{the_word, Any, part_word, part_the_word, keyword-then, first_same, by_first}
use Rattle.rank_query.proofs.WordStops.{reads_number, told}
use Rattle.rank_query.proofs.ScoreStops.{score_part}
use Rattle.rank_query.proofs.RegionStops.{GoodRegion, region_parts}
use Rattle.rank_query.proofs.RegionWords.{region_rows}
use Rattle.rank_query.proofs.SeasonStops.{GoodSeason, season_parts}
use Rattle.rank_query.proofs.SeasonWords.{season_rows}
use Rattle.rank_query.proofs.PeriodStops.{GoodPeriod, period_parts}
use Rattle.rank_query.proofs.PeriodWords.{period_rows}
use Rattle.rank_query.proofs.GroupStops.{per_parts}
use Rattle.rank_query.proofs.GroupWords.{per_rows}

-- what is read after a period
abbrev from_group : ℕ → Score → Region → Season → Option (ℤ × ℤ) → Reading Query
from_group k s r t p ws = per_at ws >>= λ g. nothing_more g.1 (asked k s r t p g.0)

-- after a season
abbrev from_period : ℕ → Score → Region → Season → Reading Query
from_period k s r t ws = period_at ws >>= λ p. from_group k s r t p.0 p.1

-- after a region
abbrev from_season : ℕ → Score → Region → Reading Query
from_season k s r ws = season_at ws >>= λ t. from_period k s r t.0 t.1

-- and after a score
abbrev from_region : ℕ → Score → Reading Query
from_region k s ws = region_at ws >>= λ r. from_season k s r.0 r.1

-- if a word comes next, all that is read as this is stops where this stops
abbrev StopsAhead : Reading Query → Type 0
StopsAhead next =
    (whole : Reading Query) (w : Word) (ws : List Word) (fault : QueryFault)
    → ((rest : List Word) → whole (w ∷ rest) ≡ next (w ∷ rest)) → GoesOn Query Any whole
    → whole (w ∷ ws) ≡ Err fault → Stops Query Any whole fault (w ∷ ws)

-- if nothing more is asked each word is wrong
nothing_ahead : (q : Query) → StopsAhead (λ ws. nothing_more ws q)
nothing_ahead q whole w ws fault same on e =
    let here : ◌≡◌ {A = Result Query QueryFault} (Err (UnexpectedWord w.0)) (Err fault) = sym (same ws) ∙ e in
    stops_word [] w ws on (told (UnexpectedWord w.0) fault w refl here) (λ more. same more ∙ here)

-- a part that may be missing, and what is read after it
optional_ahead : {A : Type 0} (Good : A → Type 0) (rows : List (List ℕ × (List Word → Read A))) (none : A)
    (onward : A → Reading Query)
    → AllByRecursion (λ row. ReadsPart A Good row.1) rows → ((x : A) → Good x → StopsFirst Query Any (onward x))
    → StopsAhead (onward none) → StopsAhead (λ ws. by_word rows (λ ws. Ok (none, ws)) ws >>= λ x. onward x.0 x.1)
optional_ahead {A} Good rows none onward parts firsts ahead whole w ws fault same on e =
    elim (by_first Good rows (λ ws. Ok (none, ws)) w parts) [
      | inl found ↦
          let first = first_then onward found.1 firsts in
          let behind : (rest : List Word) → whole (w ∷ rest) ≡ then found.0 onward rest = λ rest. same rest
          ∙ ap (λ x. x >>= λ x. onward x.0 x.1) (found.2 rest) in
          stops_behind Any whole (then found.0 onward) (w ∷ []) ws fault behind
          (first.stops ws fault (sym (behind ws) ∙ e))
      | inr missing ↦ ahead whole w ws fault
          (λ rest. same rest ∙ ap (λ x. x >>= λ x. onward x.0 x.1) (missing rest)) on e
    ]

-- no word is needed, and if one comes it stops there or goes on
first_from : (next : Reading Query) (q : Query) → next [] ≡ Ok q → StopsAhead next → StopsFirst Query Any next
first_from next q reads ahead = record { on = on; stops = stops } where
  on : GoesOn Query Any next
  on = record { tail = []; clean = tt; value = q; good = tt; reads = reads }

  stops : (ws : List Word) (fault : QueryFault) → next ws ≡ Err fault → Stops Query Any next fault ws
  stops [] fault e = let ok : ◌≡◌ {A = Result Query QueryFault} (Ok q) (Err fault) = sym reads ∙ e in absurd cc
  stops (w ∷ ws) fault e = ahead next w ws fault (λ rest. refl) on e

-- from a group on
group_ahead : (k : ℕ) (s : Score) (r : Region) (t : Season) (p : Option (ℤ × ℤ))
    → StopsAhead (from_group k s r t p)
unfolding per_at
group_ahead k s r t p =
    optional_ahead Any per_rows Each (λ g ws. nothing_more ws (asked k s r t p g)) per_parts
    (λ g any. first_from (λ ws. nothing_more ws (asked k s r t p g)) (asked k s r t p g) refl
    (nothing_ahead (asked k s r t p g))) (nothing_ahead (asked k s r t p Each))

-- a group may be missing
group_first : (k : ℕ) (s : Score) (r : Region) (t : Season) (p : Option (ℤ × ℤ))
    → StopsFirst Query Any (from_group k s r t p)
unfolding per_at
group_first k s r t p = first_from (from_group k s r t p) (asked k s r t p Each) refl (group_ahead k s r t p)

-- from a period on
period_ahead : (k : ℕ) (s : Score) (r : Region) (t : Season) → StopsAhead (from_period k s r t)
unfolding period_at
period_ahead k s r t =
    optional_ahead GoodPeriod period_rows None (from_group k s r t) period_parts
    (λ p period. group_first k s r t p) (group_ahead k s r t None)

-- a period and a group may both be missing
period_first : (k : ℕ) (s : Score) (r : Region) (t : Season) → StopsFirst Query Any (from_period k s r t)
unfolding period_at per_at
period_first k s r t = first_from (from_period k s r t) (asked k s r t None Each) refl (period_ahead k s r t)

-- from a season on
season_ahead : (k : ℕ) (s : Score) (r : Region) → StopsAhead (from_season k s r)
unfolding season_at
season_ahead k s r =
    optional_ahead GoodSeason season_rows AllYear (from_period k s r) season_parts (λ t season. period_first k s r t)
    (period_ahead k s r AllYear)

-- a season, a period and a group may all be missing
season_first : (k : ℕ) (s : Score) (r : Region) → StopsFirst Query Any (from_season k s r)
unfolding season_at period_at per_at
season_first k s r = first_from (from_season k s r) (asked k s r AllYear None Each) refl (season_ahead k s r)

-- from a region on
region_ahead : (k : ℕ) (s : Score) → StopsAhead (from_region k s)
unfolding region_at
region_ahead k s =
    optional_ahead GoodRegion region_rows Everywhere (from_season k s) region_parts (λ r region. season_first k s r)
    (season_ahead k s Everywhere)

-- a region and all that comes after it may be missing
region_first : (k : ℕ) (s : Score) → StopsFirst Query Any (from_region k s)
unfolding region_at season_at period_at per_at
region_first k s = first_from (from_region k s) (asked k s Everywhere AllYear None Each) refl (region_ahead k s)

-- 1 is a number of rows
pub one_row : number 1 1000 (0, codes "1") ≡ Ok 1
unfolding number
one_row = refl

-- "top" is itself
top_itself : says (codes "top") (codes "top") ≡ true
unfolding says
top_itself = refl

-- after "top"
abbrev from_rows : Reading Query
from_rows ws = then (one_word (number 1 1000)) (λ k. then score_at (from_region k)) ws

-- the number of rows, the score and the rest
rows_first : StopsFirst Query Any from_rows
rows_first =
    first_then (λ k. then score_at (from_region k)) (part_word (reads_number 1 1000 one_row))
    (λ k rows. first_then (from_region k) score_part (λ s score. region_first k s))

-- the reading of a query can go on before each of its errors
pub query_first : StopsFirst Query Any read_words
unfolding read_words
query_first =
    first_same Any (then (one_word (the_word (codes "top"))) (λ x. from_rows)) read_words
    (keyword-then (codes "top") from_rows) (first_then (λ x. from_rows)
    (part_the_word (codes "top") refl top_itself) (λ x any. rows_first))
