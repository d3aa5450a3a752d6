-- Walks over the listed stations: how many have a morsel, and whether each of these has a line. Searches for a line.
use Rattle.rank_parts.proofs.Cited.{get_or_from_slice_get, IsBinarySearchResult, length_permutation, sorted-permutation}
use Rattle.rank_parts.proofs.Cited.{slice_get_within, IsPartitionPoint, admitted_series, IsSearchInRange, option_map_or}
use Rattle.rank_parts.proofs.Cited.{admits_station, id_comes_first, list_all_more, score_element, list_any_none, length}
use Rattle.rank_parts.proofs.Cited.{has_admitted, cons_option, list_all_at, sum_by_more, is_count_by, list_any_at}
use Rattle.rank_parts.proofs.Cited.{filter_map, by_station, have_lines, searchable, slice_get, series_of, morsel_at, []}
use Rattle.rank_parts.proofs.Cited.{is_morsel, ltb-false, StationId, list_all, count_by, and_from, take_all, Data}
use Rattle.rank_parts.proofs.Cited.{has_line, ltb-true, by_bytes, Element, Station, morsels, passing, or_made, Greater}
use Rattle.rank_parts.proofs.Cited.{same_id, IdsRise, same_by, filter, Option, get_or, Series, is_own, Result, nat_lt}
use Rattle.rank_parts.proofs.Cited.{false, arith, Query, is_ok, Equal, Bool, true, cond, List, take, Some, None, refl}
use Rattle.rank_parts.proofs.Cited.{◌||◌, ◌&&◌, Line, Less, ◌≡◌, ◌+◌, ◌≤◌, not, ◌∷◌, sym, ◌∙◌, ◌<◌, Err, ap, Ok, ℕ}

module _ (q : Query) (d : Data) where
  -- a station with a morsel is one more
  one_counted : (a : Bool) (o : Option Series) (us : List Series)
      → length (cons_option (passing (has_admitted q) (cond a o None)) us)
      ≡ cond (a && option_map_or (has_admitted q) o false) (1 + length us) (length us)
  one_counted false o us = refl
  one_counted true None us = refl
  one_counted true (Some u) us = elim (has_admitted q u) as (λ b. length (cons_option (cond b (Some u) None) us)
      ≡ cond b (1 + length us) (length us)) [ true ↦ omega arith | false ↦ refl ]

  -- so there are as many morsels as stations that have one
  pub morsels_counted : count_by (is_own q d) d.stations ≡ length (morsels q d)
  morsels_counted = sym (is_count_by (λ (sts : List Station). length (filter_map (morsel_at q d) sts)) (is_own q d) refl
      (λ st sts. one_counted (admits_station q st) (series_of d st.id (score_element q.score))
      (filter_map (morsel_at q d) sts)) d.stations) ∙ ap length (by_station q d d.stations)
      ∙ sym (length_permutation _ _ (sorted-permutation (λ (a b : Series). id_comes_first a.id b.id)
      (filter (has_admitted q) (admitted_series q d))))

  module _ (es : List Line) where
    -- a station has no morsel, or it has a line
    abbrev pub is_listed : Station → Bool
    is_listed st = not (is_own q d st) || has_line es st.id

    -- if there are that many morsels so far, and each has a line
    pub record Walked (n place : ℕ) : Type 0 where
      pub many : n ≡ count_by (is_own q d) (take place d.stations)
      pub all : list_all (λ st. not (is_own q d st) || has_line es st.id) (take place d.stations) ≡ true

    -- a station more is one more if it has a morsel, which has a line
    pub walked_on : (n place : ℕ) (st : Station) (own : Bool) (m : ℕ) → Walked n place
        → slice_get d.stations place ≡ Some st → is_own q d st ≡ own → (own ≡ true → has_line es st.id ≡ true)
        → m ≡ n + cond own 1 0 → Walked m (place + 1)
    walked_on n place st own m h e is line more = let within = slice_get_within d.stations place st e in
        let here = get_or_from_slice_get d.stations place st st e in
        let count = sum_by_more (λ (s : Station). cond (is_own q d s) 1 0) d.stations place st within in
        let one = ap {B = ℕ} (λ (s : Station). cond (is_own q d s) 1 0) here in
        record {
          many = omega (arith, more, h.many, count, one, ap {B = ℕ} (λ (b : Bool). cond b 1 0) is);
          all = list_all_more is_listed d.stations place st within
              ∙ and_from (list_all is_listed (take place d.stations)) (is_listed (get_or d.stations place st)) h.all
              (ap is_listed here ∙ or_made (is_own q d st) (has_line es st.id) (λ t. line (sym is ∙ t)));
        }

    -- after all stations
    pub walked_all : (n place : ℕ) → Walked n place → length d.stations ≤ place
        → Some n ≡ cond (have_lines q d es) (Some (length (morsels q d))) None
    walked_all n place h end = let whole : take place d.stations ≡ d.stations = take_all place d.stations end in
        ap (λ (k : ℕ). Some k) (h.many ∙ ap (count_by (is_own q d)) whole ∙ morsels_counted)
        ∙ ap (λ (b : Bool). cond b (Some (length (morsels q d))) None) (sym h.all ∙ ap (list_all is_listed) whole)

    -- a morsel without a line is one too many
    pub not_listed : (place : ℕ) (st : Station) → slice_get d.stations place ≡ Some st → is_own q d st ≡ true
        → has_line es st.id ≡ false → have_lines q d es ≡ false
    not_listed place st e own line = list_all_at is_listed d.stations place st (slice_get_within d.stations place st e)
        (ap is_listed (get_or_from_slice_get d.stations place st st e)
        ∙ ap (λ (b : Bool). not b || has_line es st.id) own ∙ line)

-- a station has a morsel if its series, which was looked up, is one
pub own_is : (q : Query) (d : Data) (st : Station) (el : Element) (o : Option Series) (b : Bool)
    → el ≡ score_element q.score → o ≡ series_of d st.id el → b ≡ is_morsel q st o → is_own q d st ≡ b
own_is q d st el o b e f g =
    ap (λ (x : Element). is_morsel q st (series_of d st.id x)) (sym e) ∙ ap (is_morsel q st) (sym f) ∙ sym g

-- ---- a search by ID among lines that rise

-- a search says whether a line belongs to the station
pub searched : (id : StationId) (es : List Line) → IdsRise es → (r : Result ℕ ℕ)
    → IsSearchInRange r (length es) → IsBinarySearchResult (λ e. by_bytes e.id id) es r → is_ok r ≡ has_line es id
searched id [] up (Ok i) within found = absurd (omega (arith, within))
searched id (e ∷ es) up (Ok i) within found =
    sym (list_any_at (λ (x : Line). same_id x.id id) (e ∷ es) i e within
    (same_by (get_or (e ∷ es) i e).id id Equal (found e)))
searched id es up (Err i) within found =
    sym (list_any_none (λ (e : Line). same_id e.id id) es
    (λ k d below. by (found (searchable id es up)) k d below (nat_lt k i) refl))
  where
    by : IsPartitionPoint (λ (e : Line). by_bytes e.id id ≡ Less) (λ (e : Line). by_bytes e.id id ≡ Greater) es i
        → (k : ℕ) (d : Line) → k < length es → (b : Bool) → nat_lt k i ≡ b → same_id (get_or es k d).id id ≡ false
    by point k d below true t = same_by (get_or es k d).id id Less (point.0 k d (omega arith) (ltb-true k i t))
    by point k d below false t = same_by (get_or es k d).id id Greater (point.1 k d (ltb-false k i t) below)
