-- The keys of two lists of stations that are joined, and keys whose IDs differ.
use Rattle.std.proofs.Common.{◌≡◌, ℕ, suc, ◌+◌, ◌<◌, ◌≤◌, ◌^◌, Bool, true, false, List, [], ◌∷◌, ◌++◌}
use Rattle.std.proofs.Common.{length, map, take, get_or, refl, sym, ap, subst, ◌∙◌, arith, length-append, true≢false}
use Rattle.std.proofs.Common.{append_assoc, inl}
use Rattle.std.specs.Prelude.{◌&&◌, ◌||◌}
use Rattle.std.specs.List.{All, AllByRecursion, IsDistinct, list_all, list_any}
use Rattle.std.specs.List.Sorted.{IsPermutation, IsSorted}
use Rattle.std.specs.Ordering.{eq_by_cmp, is_eq, is_lt, nat_cmp, ordering_reverse, ordering_then}
use Rattle.std.specs.declared.cmp.Ordering.{Ordering}
use Rattle.std.specs.declared.cmp.Ordering.TheVariants.{Less, Equal, Greater}
use Rattle.std.proofs.lemmas.List.{append-nil, get_or-map, length-map, length-take-le, map-append, take_more}
use Rattle.std.proofs.lemmas.List.Folds.{list_all-append}
use Rattle.std.proofs.lemmas.List.Sorted.{All-permutation, IsPermutation-append, IsPermutation-map, IsPermutation-trans}
use Rattle.std.proofs.lemmas.Map.Keys.{IsDistinct-cons, IsDistinct-from_apart, IsDistinct-head, IsDistinct-IsPermutation}
use Rattle.std.proofs.lemmas.Map.Keys.{IsDistinct-tail, apart_from_distinct}
use Rattle.ghcn_files.specs.declared.station.StationId.{StationId}
use Rattle.ghcn_files.specs.declared.station.Station.{Station}
use Rattle.ghcn_files.specs.Meaning.Ids.{same_id}
use Rattle.ghcn_files.specs.StationLines.{is_station}
use Rattle.ghcn_files.specs.Listed.{AreListed, StayApart, have_one_id}
use Rattle.ghcn_files.specs.KeptStations.{AreOrdered, Differ, Rise, id_key, key_cmp, key_of, key_with_place, keys_from}
use Rattle.ghcn_files.specs.KeptStations.{later}
use Rattle.ghcn_files.proofs.Adding.{own_bytes}
use Rattle.ghcn_files.proofs.ById.{compares_equal}
use Rattle.ghcn_files.proofs.Gathered.{equal-turned, ids, ids_differ}
use Rattle.ghcn_files.proofs.OrderedKeys.{apart, key_at_place, keys_from-push, keys_total, length-keys_from, right_at}

-- ---- keys of two lists

-- keys at later places
keys_from-later : (count n : ℕ) (ss : List Station) → map (later count) (keys_from n ss) ≡ keys_from (n + count) ss
keys_from-later count n [] = refl
keys_from-later count n (s ∷ ss) =
    ap (λ (ks : List (ℕ × ℕ × ℕ)). key_with_place s.id (n + count) ∷ ks)
    (keys_from-later count (suc n) ss ∙ ap (λ (k : ℕ). keys_from k ss) (omega arith))

-- the keys of stations and then others
keys_from-append : (n : ℕ) (xs ys : List Station) → keys_from n (xs ++ ys) ≡ keys_from n xs ++ keys_from (n + length xs) ys
keys_from-append n [] ys = ap (λ (k : ℕ). keys_from k ys) (omega arith)
keys_from-append n (x ∷ xs) ys =
    ap (λ (ks : List (ℕ × ℕ × ℕ)). key_with_place x.id n ∷ ks)
    (keys_from-append (suc n) xs ys
    ∙ ap (λ (k : ℕ). keys_from (suc n) xs ++ keys_from k ys) (omega arith))

-- one station more has its key after the others
pub keys_more : (ss : List Station) (keys longer : List (ℕ × ℕ × ℕ)) (k : ℕ) (d : Station) → k < length ss
    → keys ≡ keys_from 0 (take k ss) → longer ≡ keys ++ key_with_place (get_or ss k d).id (length keys) ∷ []
    → longer ≡ keys_from 0 (take (k + 1) ss)
keys_more ss keys longer k d lt is added =
    let s : Station = get_or ss k d in
    let count : length keys ≡ k = ap length is ∙ length-keys_from 0 (take k ss) ∙ length-take-le k ss (omega (arith, lt)) in
    let place : k ≡ 0 + length (take k ss) = omega (arith, length-take-le k ss (omega (arith, lt))) in
    added
    ∙ ap (λ (ks : List (ℕ × ℕ × ℕ)). ks ++ key_with_place s.id (length keys) ∷ []) is
    ∙ ap (λ (n : ℕ). keys_from 0 (take k ss) ++ key_with_place s.id n ∷ []) (count ∙ place)
    ∙ sym (keys_from-push 0 (take k ss) s)
    ∙ ap (keys_from 0) (sym (take_more ss k d lt))

-- there is room for the key of each station
pub few_keys : (ss : List Station) (keys : List (ℕ × ℕ × ℕ)) (k : ℕ) → k < length ss → length ss ≤ 2 ^ 20
    → keys ≡ keys_from 0 (take k ss) → length keys < 2 ^ 20
few_keys ss keys k lt few is =
    omega (arith, lt, few, ap length is, length-keys_from 0 (take k ss), length-take-le k ss (omega (arith, lt)))

-- one key more of a next list
pub later_more : (before keys longer next : List (ℕ × ℕ × ℕ)) (count k : ℕ) (key : ℕ × ℕ × ℕ) → k < length next
    → get_or next k key ≡ key → keys ≡ before ++ map (later count) (take k next) → longer ≡ keys ++ later count key ∷ []
    → longer ≡ before ++ map (later count) (take (k + 1) next)
later_more before keys longer next count k key lt at is added =
    added
    ∙ ap (λ (ks : List (ℕ × ℕ × ℕ)). ks ++ later count key ∷ []) is
    ∙ append_assoc before (map (later count) (take k next)) (later count key ∷ [])
    ∙ ap (λ (ks : List (ℕ × ℕ × ℕ)). before ++ ks)
    (sym (map-append (later count) (take k next) (key ∷ []))
    ∙ ap (map (later count)) (ap (λ (x : ℕ × ℕ × ℕ). take k next ++ x ∷ []) (sym at) ∙ sym (take_more next k key lt)))

-- the keys of two lists are those of both
pub joined_keys : (first next : List Station) (keys others : List (ℕ × ℕ × ℕ)) → IsPermutation (keys_from 0 first) keys
    → IsPermutation (keys_from 0 next) others
    → IsPermutation (keys_from 0 (first ++ next)) (keys ++ map (later (length first)) others)
joined_keys first next keys others own of_next =
    let parts : keys_from 0 first ++ map (later (length first)) (keys_from 0 next) ≡ keys_from 0 (first ++ next) =
    ap (λ (ks : List (ℕ × ℕ × ℕ)). keys_from 0 first ++ ks) (keys_from-later (length first) 0 next)
    ∙ sym (keys_from-append 0 first next) in
    subst (λ (ks : List (ℕ × ℕ × ℕ)). IsPermutation ks (keys ++ map (later (length first)) others)) parts
    (IsPermutation-append (keys_from 0 first) keys (map (later (length first)) (keys_from 0 next))
    (map (later (length first)) others) own
    (IsPermutation-map (later (length first)) (keys_from 0 next) others of_next))

-- each key of stations has the place of one
low_places : (ss : List Station) (bound : ℕ) → length ss ≤ bound → All (λ key. key.2 < bound) (keys_from 0 ss)
low_places ss bound few k e lt = by ss refl
  where
    by : (rest : List Station) → ss ≡ rest → (get_or (keys_from 0 ss) k e).2 < bound
    by [] is = absurd (omega (arith, lt, length-keys_from 0 ss, ap length is))
    by (d ∷ rest) is =
        let low : k < length ss = omega (arith, lt, length-keys_from 0 ss) in
        omega (arith, ap (λ (key : ℕ × ℕ × ℕ). key.2) (key_at_place 0 ss k d e low), low, few)

-- in any order
pub low_keys : (ss : List Station) (keys : List (ℕ × ℕ × ℕ)) (count : ℕ) → AreListed ss
    → IsPermutation (keys_from 0 ss) keys → count ≤ 2 ^ 20 → All (λ key. key.2 + count < 2 ^ 32) keys
low_keys ss keys count listed own few k d lt =
    let low = All-permutation (λ (key : ℕ × ℕ × ℕ). key.2 < 2 ^ 20) (keys_from 0 ss) keys own
    (low_places ss (2 ^ 20) listed.few) k d lt in
    omega (arith, low, few)

-- ---- stations of two lists

-- neither of two tests holds
neither : (b c : Bool) → (b || c) ≡ false → (b ≡ false) × (c ≡ false)
neither true c e = absurd (true≢false e)
neither false true e = absurd (true≢false e)
neither false false e = (refl, refl)

-- what is apart from each of two lists is apart from both
apart_from_both : (id : StationId) (xs ys : List Station) → AllByRecursion (λ y. same_id id y ≡ false) (ids xs)
    → list_any (λ t. same_id id t.id) ys ≡ false → AllByRecursion (λ y. same_id id y ≡ false) (ids (xs ++ ys))
apart_from_both id [] [] far none = tt
apart_from_both id [] (y ∷ ys) far none =
    let both = neither (same_id id y.id) (list_any (λ t. same_id id t.id) ys) none in
    (both.0, apart_from_both id [] ys tt both.1)
apart_from_both id (x ∷ xs) ys far none = (far.0, apart_from_both id xs ys far.1 none)

-- stations of two lists without one ID differ in their IDs
differ_together : (xs ys : List Station) → IsDistinct same_id (ids xs) → IsDistinct same_id (ids ys)
    → have_one_id xs ys ≡ false → IsDistinct same_id (ids (xs ++ ys))
differ_together [] ys one two none = two
differ_together (x ∷ xs) ys one two none =
    let both = neither (list_any (λ t. same_id x.id t.id) ys) (have_one_id xs ys) none in
    IsDistinct-cons same_id x.id (ids (xs ++ ys))
    (apart_from_both x.id xs ys (IsDistinct-head same_id x.id (ids xs) one) both.0)
    (differ_together xs ys (IsDistinct-tail same_id x.id (ids xs) one) two both.1)

-- two lists whose IDs differ are one if they are few enough
pub listed_both : (xs ys : List Station) → AreListed xs → AreListed ys → IsDistinct same_id (ids (xs ++ ys))
    → length xs + length ys ≤ 2 ^ 20 → AreListed (xs ++ ys)
listed_both xs ys one two differ few = record {
  distinct = differ;
  few = omega (arith, length-append xs ys, few);
  right = list_all-append is_station xs ys
      ∙ ap (λ (b : Bool). b && list_all is_station ys) one.right ∙ two.right;
}

-- ---- keys whose IDs differ

-- the keys of listed stations differ
pub keys_apart : (ss : List Station) → AreListed ss → Differ (keys_from 0 ss)
keys_apart ss listed = IsDistinct-from_apart (eq_by_cmp key_cmp) (map id_key (keys_from 0 ss)) (λ i j d before lt.
    by ss refl i j d before (omega (arith, lt, length-map (keys_from 0 ss) id_key, length-keys_from 0 ss)))
  where
    by : (rest : List Station) → ss ≡ rest → (i j : ℕ) (d : ℕ × ℕ) → i < j → j < length ss
        → eq_by_cmp key_cmp (get_or (map id_key (keys_from 0 ss)) i d) (get_or (map id_key (keys_from 0 ss)) j d) ≡ false
    by [] is i j d before lt = absurd (omega (arith, lt, ap length is))
    by (s ∷ rest) is i j d before lt =
        let e : ℕ × ℕ × ℕ = (0, 0, 0) in
        let low : i < length ss = omega arith in
        let at = λ (k : ℕ) (inside : k < length ss).
        get_or-map id_key (keys_from 0 ss) k e d (omega (arith, inside, length-keys_from 0 ss))
        ∙ ap id_key (key_at_place 0 ss k s e inside) in
        ap (λ (x : ℕ × ℕ). eq_by_cmp key_cmp x (get_or (map id_key (keys_from 0 ss)) j d)) (at i low)
        ∙ ap (eq_by_cmp key_cmp (key_of (get_or ss i s).id.0)) (at j lt)
        ∙ compares_equal (get_or ss i s).id (get_or ss j s).id (own_bytes (get_or ss i s) (right_at ss i s listed low))
        (own_bytes (get_or ss j s) (right_at ss j s listed lt))
        ∙ apart ss i j s listed before lt

-- keys that differ stay so in another order
pub differ_moved : (keys sorted : List (ℕ × ℕ × ℕ)) → IsPermutation keys sorted → Differ keys → Differ sorted
differ_moved keys sorted moved differ =
    IsDistinct-IsPermutation (eq_by_cmp key_cmp) equal-turned (map id_key keys) (map id_key sorted)
    (IsPermutation-map id_key keys sorted moved) differ

-- the order of keys with their places
abbrev pub whole_cmp : ℕ × ℕ × ℕ → ℕ × ℕ × ℕ → Ordering
whole_cmp a b = ordering_then (key_cmp (id_key a) (id_key b)) (nat_cmp a.2 b.2)

-- a key that isn't above another with its place, and of another ID, is below it
below_next : (a b : ℕ × ℕ × ℕ) → is_lt (whole_cmp b a) ≡ false → eq_by_cmp key_cmp (id_key a) (id_key b) ≡ false
    → key_cmp (id_key a) (id_key b) ≡ Less
below_next a b not_above far = by (key_cmp (id_key a) (id_key b)) refl
  where
    by : (o : Ordering) → key_cmp (id_key a) (id_key b) ≡ o → o ≡ Less
    by Less is = refl
    by Equal is = absurd (true≢false (sym (ap is_eq is) ∙ far))
    by Greater is =
        let turned : key_cmp (id_key b) (id_key a) ≡ Less =
        keys_total.antisymm (id_key b) (id_key a) ∙ ap ordering_reverse is in
        let above : is_lt (whole_cmp b a) ≡ true =
        ap (λ (o : Ordering). is_lt (ordering_then o (nat_cmp b.2 a.2))) turned in
        absurd (true≢false (sym above ∙ not_above))

-- sorted keys that differ rise
pub rise_sorted : (keys : List (ℕ × ℕ × ℕ)) → IsSorted whole_cmp keys → Differ keys → Rise keys
rise_sorted keys sorted differ k d lt =
    let low : k < length keys = omega arith in
    let e : ℕ × ℕ = (0, 0) in
    let far : eq_by_cmp key_cmp (id_key (get_or keys k d)) (id_key (get_or keys (k + 1) d)) ≡ false =
    ap (λ (x : ℕ × ℕ). eq_by_cmp key_cmp x (id_key (get_or keys (k + 1) d))) (sym (get_or-map id_key keys k d e low))
    ∙ ap (eq_by_cmp key_cmp (get_or (map id_key keys) k e)) (sym (get_or-map id_key keys (k + 1) d e lt))
    ∙ apart_from_distinct (eq_by_cmp key_cmp) (map id_key keys) k (k + 1) e differ (omega arith)
    (omega (arith, lt, length-map keys id_key)) in
    below_next (get_or keys k d) (get_or keys (k + 1) d) (sorted k d (omega arith) lt) far

-- ---- why two lists aren't joined

-- lists whose keys together don't rise in any order have one ID
pub one_id : (first next : List Station) (keys others : List (ℕ × ℕ × ℕ)) → AreListed first → AreListed next
    → IsPermutation (keys_from 0 first) keys → IsPermutation (keys_from 0 next) others
    → length first + length next ≤ 2 ^ 20 → (Differ (keys ++ map (later (length first)) others) → ⊥)
    → have_one_id first next ≡ true
one_id first next keys others one two own of_next few fall = by (have_one_id first next) refl
  where
    by : (b : Bool) → have_one_id first next ≡ b → b ≡ true
    by true is = refl
    by false is =
        let both = listed_both first next one two (differ_together first next one.distinct two.distinct is) few in
        absurd (fall (differ_moved (keys_from 0 (first ++ next)) (keys ++ map (later (length first)) others)
        (joined_keys first next keys others own of_next) (keys_apart (first ++ next) both)))

-- ---- a list by itself

-- the keys of listed stations are put in order
pub ordered_alone : (ss rest : List Station) (keys sorted : List (ℕ × ℕ × ℕ)) (rises : Bool) → AreListed ss → rest ≡ []
    → keys ≡ keys_from 0 ss → IsPermutation keys sorted → (rises ≡ true → Rise sorted)
    → (rises ≡ false → Differ keys → ⊥) → AreOrdered (ss ++ rest) sorted
ordered_alone ss rest keys sorted rises listed none is moved rise fall =
    subst (λ (xs : List Station). AreOrdered xs sorted) (sym (ap (λ (xs : List Station). ss ++ xs) none ∙ append-nil ss))
    (record {
      list = listed;
      rise = by rises rise fall;
      own = subst (λ (ks : List (ℕ × ℕ × ℕ)). IsPermutation ks sorted) is moved;
    })
  where
    by : (b : Bool) → (b ≡ true → Rise sorted) → (b ≡ false → Differ keys → ⊥) → Rise sorted
    by true up down = up refl
    by false up down = absurd (down refl (subst Differ (sym is) (keys_apart ss listed)))

-- ---- two lists

-- the keys of two lists, put in order, are those of both
pub ordered_both : (first next all : List Station) (keys others more sorted : List (ℕ × ℕ × ℕ)) → AreOrdered first keys
    → AreOrdered next others → length first + length next ≤ 2 ^ 20 → more ≡ keys ++ map (later (length first)) others
    → IsPermutation more sorted → Rise sorted → all ≡ first ++ next → AreOrdered all sorted
ordered_both first next all keys others more sorted one two few is moved rise both =
    let own : IsPermutation (keys_from 0 (first ++ next)) sorted =
    IsPermutation-trans (keys_from 0 (first ++ next)) more sorted
    (subst (IsPermutation (keys_from 0 (first ++ next))) (sym is) (joined_keys first next keys others one.own two.own))
    moved in
    subst (λ (ss : List Station). AreOrdered ss sorted) (sym both) (record {
      list = listed_both first next one.list two.list (ids_differ (first ++ next) sorted own rise) few;
      rise = rise;
      own = own;
    })

-- the stations of two lists, of which the later ones follow the first of all
pub parts_joined : (list rest list_next rest_next more all : List Station) → more ≡ rest ++ list_next
    → all ≡ more ++ rest_next → list ++ all ≡ (list ++ rest) ++ (list_next ++ rest_next)
parts_joined list rest list_next rest_next more all is of =
    ap (λ (ss : List Station). list ++ ss)
    (of ∙ ap (λ (ss : List Station). ss ++ rest_next) is ∙ append_assoc rest list_next rest_next)
    ∙ sym (append_assoc list rest (list_next ++ rest_next))

-- lists whose keys together don't differ stay apart
pub stay_apart : (a b first next : List Station) (keys others more : List (ℕ × ℕ × ℕ)) (count : ℕ) → first ≡ a → next ≡ b
    → AreOrdered first keys → AreOrdered next others → length a + length b ≤ 2 ^ 20 → count ≡ length a
    → more ≡ keys ++ map (later count) others → (Differ more → ⊥) → StayApart a b
stay_apart a b first next keys others more count is_a is_b one two few counted added fall =
    let same : more ≡ keys ++ map (later (length first)) others =
    added ∙ ap (λ (n : ℕ). keys ++ map (later n) others) (counted ∙ ap length (sym is_a)) in
    let at : have_one_id first next ≡ true = one_id first next keys others one.list two.list one.own two.own
    (omega (arith, few, ap length is_a, ap length is_b)) (λ differ. fall (subst Differ (sym same) differ)) in
    inl (ap (λ (ss : List Station). have_one_id ss b) (sym is_a) ∙ ap (have_one_id first) (sym is_b) ∙ at)
