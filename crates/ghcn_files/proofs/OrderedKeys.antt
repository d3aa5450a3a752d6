-- Keys of stations in order: what a search among them finds.
use Rattle.std.proofs.Common.{◌≡◌, ℕ, suc, ◌+◌, ◌<◌, Bool, true, false, cond, List, [], ◌∷◌, ◌++◌, length, map}
use Rattle.std.proofs.Common.{get_or, Option, Some, None, Result, Ok, Err, inl, inr, refl, sym, ap, subst, ◌∙◌, arith}
use Rattle.std.proofs.Common.{true≢false, zero}
use Rattle.std.specs.Prelude.{nat_lt}
use Rattle.std.specs.Cmp.{IsTotalOrder}
use Rattle.std.specs.List.{All, position_or_len}
use Rattle.std.specs.List.Sorted.{IsBinarySearchResult, IsPermutation, IsSearchInRange, IsSortedByKey}
use Rattle.std.specs.Ordering.{is_eq, is_lt, ordering_reverse}
use Rattle.std.proofs.lemmas.Bool.{cases_lt, lt-ltb, le-ltb}
use Rattle.std.proofs.lemmas.Cmp.{nat_cmp_total, on_total, then_total}
use Rattle.std.proofs.lemmas.List.{get_or-map, length-map}
use Rattle.std.proofs.lemmas.List.Folds.{list_all_at}
use Rattle.std.proofs.lemmas.List.Sorted.{All-permutation, IsPermutation-sym, searchable_from_sorted}
use Rattle.std.proofs.lemmas.List.Sums.{position_or_len_is}
use Rattle.std.proofs.lemmas.Map.Keys.{apart_from_distinct}
use Rattle.ghcn_files.specs.declared.station.StationId.{StationId}
use Rattle.ghcn_files.specs.declared.station.Station.{Station}
use Rattle.ghcn_files.specs.Meaning.Ids.{same_id}
use Rattle.ghcn_files.specs.StationLines.{is_station}
use Rattle.ghcn_files.specs.Meaning.Listed.{is_station_of}
use Rattle.ghcn_files.specs.Listed.{AreListed, place_of}
use Rattle.ghcn_files.specs.KeptStations.{AreEleven, Rise, id_key, key_cmp, key_of, key_with_place, keys_from}
use Rattle.ghcn_files.proofs.IdLaws.{same_id-is}
use Rattle.ghcn_files.proofs.ById.{compares_equal}
use Rattle.ghcn_files.proofs.Adding.{own_bytes}

-- keys are in a total order
pub keys_total : IsTotalOrder key_cmp
keys_total = then_total (on_total (λ (k : ℕ × ℕ). k.0) nat_cmp_total) (on_total (λ (k : ℕ × ℕ). k.1) nat_cmp_total)

-- ---- keys beside their places

-- as many keys as stations
pub length-keys_from : (n : ℕ) (ss : List Station) → length (keys_from n ss) ≡ length ss
length-keys_from n [] = refl
length-keys_from n (s ∷ ss) = ap suc (length-keys_from (suc n) ss)

-- the key of each station has its place
pub key_at_place : (n : ℕ) (ss : List Station) (k : ℕ) (d : Station) (e : ℕ × ℕ × ℕ) → k < length ss
    → get_or (keys_from n ss) k e ≡ key_with_place (get_or ss k d).id (n + k)
key_at_place n [] k d e lt = absurd (omega (arith, lt))
key_at_place n (s ∷ ss) zero d e lt = ap (key_with_place s.id) (omega arith)
key_at_place n (s ∷ ss) (suc k) d e lt =
    key_at_place (suc n) ss k d e (omega (arith, lt)) ∙ ap (key_with_place (get_or ss k d).id) (omega arith)

-- the key of one station more comes after the others
pub keys_from-push : (n : ℕ) (ss : List Station) (s : Station)
    → keys_from n (ss ++ s ∷ []) ≡ keys_from n ss ++ key_with_place s.id (n + length ss) ∷ []
keys_from-push n [] s = ap (λ (k : ℕ). key_with_place s.id k ∷ []) (omega arith)
keys_from-push n (x ∷ xs) s =
    let more : suc n + length xs ≡ n + length (x ∷ xs) = omega arith in
    ap (λ (ks : List (ℕ × ℕ × ℕ)). key_with_place x.id n ∷ ks)
    (keys_from-push (suc n) xs s
    ∙ ap (λ (k : ℕ). keys_from (suc n) xs ++ key_with_place s.id k ∷ []) more)

-- ---- the place of an ID

-- an ID has the place where it is found first, unless that is the end
place_by : (ss : List Station) (id : StationId) (n : ℕ) (there : Bool) → position_or_len (is_station_of id) ss ≡ n
    → nat_lt n (length ss) ≡ there → place_of ss id ≡ cond there (Some n) None
place_by ss id n there e is =
    ap (λ (k : ℕ). cond (nat_lt k (length ss)) (Some k) None) e ∙ ap (λ (b : Bool). cond b (Some n) None) is

-- two places have no one ID
pub apart : (ss : List Station) (j k : ℕ) (d : Station) → AreListed ss → j < k → k < length ss
    → same_id (get_or ss j d).id (get_or ss k d).id ≡ false
apart ss j k d listed before lt =
    let id : Station → StationId = λ s. s.id in
    let far = apart_from_distinct same_id (map id ss) j k d.id listed.distinct before
    (omega (arith, lt, length-map ss id)) in
    ap (λ (x : StationId). same_id x (get_or ss k d).id) (sym (get_or-map id ss j d d.id (omega arith)))
    ∙ ap (same_id (get_or (map id ss) j d.id)) (sym (get_or-map id ss k d d.id lt))
    ∙ far

-- a station's place is that of its ID
own_place : (ss : List Station) (id : StationId) (k : ℕ) (d : Station) → AreListed ss → k < length ss
    → same_id (get_or ss k d).id id ≡ true → place_of ss id ≡ Some k
own_place ss id k d listed lt is =
    place_by ss id k true
    (position_or_len_is (is_station_of id) ss k d (omega arith) (λ j before.
    ap (same_id (get_or ss j d).id) (sym (same_id-is (get_or ss k d).id id is)) ∙ apart ss j k d listed before lt)
    (λ here. is)) (lt-ltb k (length ss) lt)

-- an ID that no station has, has no place
pub no_place_by : (ss : List Station) (id : StationId)
    → ((k : ℕ) (d : Station) → k < length ss → same_id (get_or ss k d).id id ≡ false) → place_of ss id ≡ None
no_place_by [] id others = refl
no_place_by (s ∷ ss) id others =
    place_by (s ∷ ss) id (length (s ∷ ss)) false
    (position_or_len_is (is_station_of id) (s ∷ ss) (length (s ∷ ss)) s (omega arith) (λ k lt. others k s lt)
    (λ lt. absurd (omega (arith, lt)))) (le-ltb (length (s ∷ ss)) (length (s ∷ ss)) (omega arith))

-- ---- a search by keys

-- each listed station is right
pub right_at : (ss : List Station) (k : ℕ) (d : Station) → AreListed ss → k < length ss → is_station (get_or ss k d) ≡ true
right_at ss k d listed lt = elim (is_station (get_or ss k d)) as (λ b. is_station (get_or ss k d) ≡ b → b ≡ true) [
  | true ↦ λ e. refl
  | false ↦ λ e. absurd (true≢false (sym listed.right ∙ list_all_at is_station ss k d lt e))
] refl

-- keys that rise are sorted
sorted_keys : (keys : List (ℕ × ℕ × ℕ)) → Rise keys → IsSortedByKey id_key key_cmp keys
sorted_keys keys rise k d low lt =
    let a : ℕ × ℕ = id_key (get_or keys (k + 1) d) in
    let b : ℕ × ℕ = id_key (get_or keys k d) in
    ap is_lt (keys_total.antisymm a b ∙ ap ordering_reverse (rise k d lt))

-- the place beside the key that was found
abbrev pub place_found : List (ℕ × ℕ × ℕ) → ℕ × ℕ × ℕ → Result ℕ ℕ → Option ℕ
place_found keys d (Ok at) = Some (get_or keys at d).2
place_found keys d (Err at) = None

module _ (ss : List Station) (id : StationId) (listed : AreListed ss) (bytes : AreEleven id.0) where
  -- a station has the ID if the keys compare as equal
  same_by_key : (k : ℕ) (d : Station) → k < length ss
      → is_eq (key_cmp (key_of (get_or ss k d).id.0) (key_of id.0)) ≡ same_id (get_or ss k d).id id
  same_by_key k d lt =
      compares_equal (get_or ss k d).id id (own_bytes (get_or ss k d) (right_at ss k d listed lt)) bytes

  -- if a key is that of the ID, its place is that of the ID
  abbrev HasPlace : ℕ × ℕ × ℕ → Type 0
  HasPlace key = is_eq (key_cmp (id_key key) (key_of id.0)) ≡ true → Some key.2 ≡ place_of ss id

  -- each key of a station has the place of its ID
  own_places : All HasPlace (keys_from 0 ss)
  own_places k e lt = by ss refl
    where
      by : (rest : List Station) → ss ≡ rest → HasPlace (get_or (keys_from 0 ss) k e)
      by [] is = absurd (omega (arith, lt, length-keys_from 0 ss, ap length is))
      by (d ∷ rest) is =
          let low : k < length ss = omega (arith, lt, length-keys_from 0 ss) in
          let key = key_at_place 0 ss k d e low in
          let at : 0 + k ≡ k = omega arith in
          subst HasPlace (sym key) (λ equal.
          ap (λ (n : ℕ). Some n) at ∙ sym (own_place ss id k d listed low (sym (same_by_key k d low) ∙ equal)))

  -- if no key of a station is that of the ID, it has no place
  no_own_place : All (λ key. is_eq (key_cmp (id_key key) (key_of id.0)) ≡ false) (keys_from 0 ss) → place_of ss id ≡ None
  no_own_place none = no_place_by ss id (λ k d lt.
      let e : ℕ × ℕ × ℕ = (0, 0, 0) in
      sym (same_by_key k d lt)
      ∙ ap (λ (key : ℕ × ℕ × ℕ). is_eq (key_cmp (id_key key) (key_of id.0))) (sym (key_at_place 0 ss k d e lt))
      ∙ none k e (omega (arith, lt, length-keys_from 0 ss)))

  -- a search by the key of an ID finds the ID's place
  pub searched : (keys : List (ℕ × ℕ × ℕ)) (r : Result ℕ ℕ) (d : ℕ × ℕ × ℕ) → Rise keys
      → IsPermutation (keys_from 0 ss) keys → IsSearchInRange r (length keys)
      → IsBinarySearchResult (λ key. key_cmp (id_key key) (key_of id.0)) keys r → place_found keys d r ≡ place_of ss id
  searched keys (Ok at) d rise own range equal =
      All-permutation HasPlace (keys_from 0 ss) keys own own_places at d range (ap is_eq (equal d))
  searched keys (Err at) d rise own range parted =
      let parts = parted (searchable_from_sorted keys_total id_key keys (key_of id.0) (sorted_keys keys rise)) in
      let other = λ (key : ℕ × ℕ × ℕ). is_eq (key_cmp (id_key key) (key_of id.0)) ≡ false in
      sym (no_own_place (All-permutation other keys (keys_from 0 ss) (IsPermutation-sym (keys_from 0 ss) keys own)
      (λ k e lt. elim (cases_lt k at) [
        | inl before ↦ ap is_eq (parts.0 k e (omega arith) before)
        | inr behind ↦ ap is_eq (parts.1 k e behind lt)
      ])))
