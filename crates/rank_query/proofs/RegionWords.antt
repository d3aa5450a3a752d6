-- The words of a region: those that are read as a region spell it, and those that spell it are read as it.
use Rattle.rank_query.proofs.Cited.{◌++◌, ◌≡◌, ℕ, Bool, true, ◌&&◌, List, [], ◌∷◌, Ok, codes, refl, sym, ap, ◌∙◌, subst}
use Rattle.rank_query.proofs.Cited.{arith, ℤ, pos, neg_ℤ, ◌≤ℤ◌, ints, Region, Everywhere, Inside, Country, State, Only}
use Rattle.rank_query.proofs.Cited.{is_code, is_region, Word, says, Read, one_word, degrees, code, latitude_from}
use Rattle.rank_query.proofs.Cited.{longitude, box_at, country_at, state_at, station_at, everywhere_at, region_at}
use Rattle.rank_query.proofs.Cited.{QueryWord, Edge, Exactly, region_words}
use Rattle.rank_query.proofs.SpeltWords.{TakesBehind, took_same, word_took, made_took, rows_took, ReadsAs, word_read}
use Rattle.rank_query.proofs.SpeltWords.{made_read, then_read, behind_read, always_read, PassesBy, passed_by}
use Rattle.rank_query.proofs.ReadingSteps.{bind_ok, unnumbered}
use Rattle.rank_query.proofs.WordValues.{is_longitude, degrees_spelt, spelt_degrees, code_word, word_code}

-- each region after its word
abbrev pub region_rows : List (List ℕ × (List Word → Read Region))
region_rows =
    (codes "box", box_at) ∷ (codes "country", country_at) ∷ (codes "state", state_at) ∷
    (codes "station", station_at) ∷ []

-- an edge is spelt by the word that it was read of
edge_took : (low high : ℤ) → TakesBehind [] (λ z. Edge z ∷ []) (one_word (degrees low high))
edge_took low high = word_took (degrees low high) (λ z. Edge z) (degrees_spelt low high)

-- and so is a code
code_took : (len : ℕ) → TakesBehind [] (λ c. Exactly c ∷ []) (one_word (code len))
code_took len = word_took (code len) (λ c. Exactly c) (λ w c clean. code_word len w c)

-- and a box
box_took : TakesBehind (codes "box" ∷ []) region_words box_at
unfolding box_at
box_took = λ ws rest r e.
    let s = bind_ok (one_word (latitude_from (neg_ℤ (pos 900_000))) ws) _ (r, rest) e in
    let w = bind_ok (one_word longitude s.0.1) _ (r, rest) s.2 in
    let n = bind_ok (one_word (latitude_from s.0.0) w.0.1) _ (r, rest) w.2 in
    let o = bind_ok (one_word longitude n.0.1) _ (r, rest) n.2 in
    took_same region_words (codes "box" ∷ unnumbered ws) (Inside s.0.0 w.0.0 n.0.0 o.0.0) r o.0.1 rest o.2
    (λ others more clean. (
      refl,
      edge_took _ _ ws s.0.1 s.0.0 s.1 (Edge w.0.0 ∷ Edge n.0.0 ∷ Edge o.0.0 ∷ others)
          (edge_took _ _ s.0.1 w.0.1 w.0.0 w.1 (Edge n.0.0 ∷ Edge o.0.0 ∷ others)
          (edge_took _ _ w.0.1 n.0.1 n.0.0 n.1 (Edge o.0.0 ∷ others)
          (edge_took _ _ n.0.1 o.0.1 o.0.0 o.1 others more))) clean.1,
    ))

-- the words that are read as a region spell it
pub region_took : TakesBehind [] region_words region_at
unfolding region_at
region_took = rows_took region_words region_rows everywhere_at (
  box_took,
  (
    made_took (codes "country") Country _ region_words _ (λ c. refl) (code_took 2),
    (
      made_took (codes "state") State _ region_words _ (λ c. refl) (code_took 2),
      (
        made_took (codes "station") (λ id. Only (record { 0 = id })) _ region_words _ (λ c. refl) (code_took 11),
        tt,
      ),
    ),
  ),
) (λ ws rest r e. took_same region_words (unnumbered ws) Everywhere r ws rest e (λ others more. more))

-- two tests that both hold
pub and_true : (a b : Bool) → a ≡ true → b ≡ true → (a && b) ≡ true
and_true a b x y = ap (λ t. t && b) x ∙ y

-- a longitude lies from 180 degrees west to 180 degrees east
pub longitude-range : (z : ℤ) → is_longitude z ≡ true → (neg_ℤ (pos 1_800_000) ≤ℤ z) × (z ≤ℤ pos 1_800_000)
longitude-range z inside = grind (arith, ints)

-- the edges of a box that can be asked for
pub record HasEdges (south west north east : ℤ) : Type 0 where
  pub low : neg_ℤ (pos 900_000) ≤ℤ south
  pub order : south ≤ℤ north
  pub high : north ≤ℤ pos 900_000
  pub west_is : is_longitude west ≡ true
  pub east_is : is_longitude east ≡ true

-- they are those of its region
pub edges_of : (south west north east : ℤ) → is_region (Inside south west north east) ≡ true
    → HasEdges south west north east
edges_of south west north east is = record {
  low = grind (arith, ints);
  order = grind (arith, ints);
  high = grind (arith, ints);
  west_is = grind (arith, ints);
  east_is = grind (arith, ints);
}

-- what spells an edge of a box within its limits is read as it
edge_read : (low high z : ℤ) {others : List QueryWord} → neg_ℤ (pos 1_800_000) ≤ℤ low → low ≤ℤ z → z ≤ℤ high
    → high ≤ℤ pos 1_800_000 → ReadsAs (one_word (degrees low high)) z (Edge z ∷ others) others
edge_read low high z least above below most =
    word_read (degrees low high) (Edge z) z (λ at text.
    spelt_degrees low high z at text (grind (arith, ints)) (omega (arith, ints)))

-- and so is what spells a longitude
longitude_read : (z : ℤ) {others : List QueryWord} → is_longitude z ≡ true
    → ReadsAs (one_word longitude) z (Edge z ∷ others) others
longitude_read z is =
    let range = longitude-range z is in
    edge_read (neg_ℤ (pos 1_800_000)) (pos 1_800_000) z (omega (arith, ints)) range.0 range.1 (omega (arith, ints))

-- the four numbers of a box that can be asked for are read as its edges
box_read : (south west north east : ℤ) (others : List QueryWord) → is_region (Inside south west north east) ≡ true
    → ReadsAs box_at (Inside south west north east) (Edge south ∷ Edge west ∷ Edge north ∷ Edge east ∷ others) others
unfolding box_at
box_read south west north east others is =
    let edges = edges_of south west north east is in
    then_read _ (edge_read (neg_ℤ (pos 900_000)) (pos 900_000) south (omega (arith, ints)) edges.low
    (omega (arith, ints, edges.order, edges.high)) (omega (arith, ints)))
    (then_read _ (longitude_read west edges.west_is)
    (then_read _ (edge_read south (pos 900_000) north (omega (arith, ints, edges.low)) edges.order edges.high
    (omega (arith, ints)))
    (then_read _ (longitude_read east edges.east_is) (always_read (λ ws. refl)))))

-- a code is read as itself
code_read : (len : ℕ) (c : List ℕ) {others : List QueryWord} → is_code len c ≡ true
    → ReadsAs (one_word (code len)) c (Exactly c ∷ others) others
code_read len c is = word_read (code len) (Exactly c) c
    (λ at word same. subst (λ (v : List ℕ). code len (at, v) ≡ Ok c) (sym same) (word_code len at c is))

-- what spells a region that can be asked for is read as it, if none begins what comes after all stations
pub region_read : (r : Region) (others : List QueryWord) → is_region r ≡ true → PassesBy region_at Everywhere others
    → ReadsAs region_at r (region_words r ++ others) others
unfolding region_at says
region_read Everywhere others is passes = passed_by region_at Everywhere others passes
region_read (Inside south west north east) others is passes =
    behind_read region_at box_at (codes "box") (λ at ws. refl) (box_read south west north east others is)
region_read (Country c) others is passes = behind_read region_at country_at (codes "country") (λ at ws. refl)
    (made_read Country (code_read 2 c is))
region_read (State c) others is passes =
    behind_read region_at state_at (codes "state") (λ at ws. refl) (made_read State (code_read 2 c is))
region_read (Only id) others is passes = behind_read region_at station_at (codes "station") (λ at ws. refl)
    (made_read (λ bytes. Only (record { 0 = bytes })) (code_read 11 id.0 is))
