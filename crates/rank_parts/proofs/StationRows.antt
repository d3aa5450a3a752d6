-- The rows of a report: the best candidates up to the worst of them, and those of one station.
use Rattle.rank_parts.proofs.Cited.{◌≡◌, ℕ, suc, ◌-◌, ◌≤◌, true, List, [], ◌∷◌, length, take, filter, Option, Some}
use Rattle.rank_parts.proofs.Cited.{None, refl, sym, ap, ◌∙◌, arith, ◌↔◌, slice_get, length-map, take_all}
use Rattle.rank_parts.proofs.Cited.{IsPermutation-sym, slice_get-map, slice_get_within, Data, In, kept_in, in_kept}
use Rattle.rank_parts.proofs.Cited.{Query, Candidate, AreApart, all_candidates, best_of_query, kth_of_query, Descends}
use Rattle.rank_parts.proofs.Cited.{Named, kth_of_best, of_rows, is_within_worst, score_of, kth-best, last_taken}
use Rattle.rank_parts.proofs.Cited.{permuted_in, kept_descends, within_front, first_within, in_order}
use Rattle.rank_parts.proofs.Cited.{ordered-permutation, ordered-descends, best_first, worst_of, inl, subst, count_by}
use Rattle.rank_parts.proofs.Cited.{length-filter, StationId, same_id, same_id-is, for_each, IsAsked, Line, count_of}
use Rattle.rank_parts.proofs.Cited.{AreInOrder, descends_order, AreRowsWithin, order_descends, rows_with, cond_both}
use Rattle.rank_parts.proofs.Cited.{filter-all, nat_le, and_parts, leb-true, Reported, IsReported}
use Rattle.rank_parts.proofs.EntryLists.{same_to}

-- ---- how many rows there are

-- a report has at most as many rows as are asked for
pub few_rows : (q : Query) (r : Reported) → IsReported r → r.query ≡ q → length r.rows ≤ q.k
few_rows q r can same = subst (λ (a : Query). length r.rows ≤ a.k) same (leb-true (length r.rows) r.query.k can.few)

-- and there is a row to ask for, and at most a thousand
pub k_within : (q : Query) → IsAsked q → (1 ≤ q.k) × (q.k ≤ 1000)
k_within q asked = let both = and_parts (nat_le 1 q.k) (nat_le q.k 1000) asked.k in
    (leb-true 1 q.k both.0, leb-true q.k 1000 both.1)

-- ---- the best rows

-- the candidates of a query up to the worst row, in order
abbrev pub inside : Query → Data → List Named → List Candidate
inside q c rows = filter (is_within_worst (worst_of q.k rows)) (in_order (all_candidates q c))

-- which they are
pub inside_are : (q : Query) (c : Data) (rows : List Named) (d : Candidate) →
    In (inside q c rows) d ↔ (In (all_candidates q c) d × (is_within_worst (worst_of q.k rows) d ≡ true))
inside_are q c rows d = let all : List Candidate = all_candidates q c in let same = ordered-permutation all in (
  λ h. let kept = kept_in (is_within_worst (worst_of q.k rows)) (in_order all) d h in
      (permuted_in _ _ (IsPermutation-sym _ _ same) d kept.0, kept.1),
  λ h. in_kept (is_within_worst (worst_of q.k rows)) (in_order all) d (permuted_in _ _ same d h.0) h.1,
)

module _ (q : Query) (c : Data) (apart : AreApart (all_candidates q c)) (rows : List Named) where
  -- the candidates of the query in order
  abbrev turn : List Candidate
  turn = in_order (all_candidates q c)

  -- each precedes all after it
  falls : Descends turn
  falls = ordered-descends (all_candidates q c) apart

  -- so it is with those up to the worst row
  pub inside_falls : Descends (inside q c rows)
  inside_falls = kept_descends (is_within_worst (worst_of q.k rows)) turn falls

  -- the worst row by the candidates of rows
  worst_at : worst_of q.k rows ≡ slice_get (of_rows rows) (q.k - 1)
  worst_at = sym (slice_get-map (λ (row : Named). row.0) rows (q.k - 1))

  module _ (asked : IsAsked q) where
    -- the best are the first in order
    best_are : best_of_query q c ≡ take (suc (q.k - 1)) turn
    best_are = let next : q.k ≡ suc (q.k - 1) = omega (arith, (k_within q asked).0) in
        best_first (all_candidates q c) apart q.k ∙ ap (λ (n : ℕ). take n turn) next

    -- and those up to the worst of them
    pub best_inside : of_rows rows ≡ best_of_query q c → of_rows rows ≡ inside q c rows
    best_inside e = let front : of_rows rows ≡ take (suc (q.k - 1)) turn = e ∙ best_are in
        let last = ap (λ (l : List Candidate). slice_get l (q.k - 1)) front ∙ last_taken (q.k - 1) turn in
        front ∙ sym (first_within turn (q.k - 1) falls)
        ∙ ap (λ (o : Option Candidate). filter (is_within_worst o) turn) (sym (worst_at ∙ last))

    -- and back, if there are at most as many as were asked for
    pub inside_best : length rows ≤ q.k → of_rows rows ≡ inside q c rows → of_rows rows ≡ best_of_query q c
    inside_best few all = let same = length-map rows (λ (row : Named). row.0) in
        by (worst_of q.k rows) (omega (arith, few, same, (k_within q asked).0)) (sym worst_at) all ∙ sym best_are
      where
        by : (o : Option Candidate) → length (of_rows rows) ≤ suc (q.k - 1) → slice_get (of_rows rows) (q.k - 1) ≡ o
            → of_rows rows ≡ filter (is_within_worst o) turn → of_rows rows ≡ take (suc (q.k - 1)) turn
        by None most at e = let whole : of_rows rows ≡ turn = e ∙ filter-all (is_within_worst None) turn (λ d. refl) in
            whole ∙ sym (take_all (suc (q.k - 1)) turn (omega (arith, most, ap length whole)))
        by (Some w) most at e = let below = slice_get_within (of_rows rows) (q.k - 1) w at in
            let long : length (filter (is_within_worst (Some w)) turn) ≡ suc (q.k - 1) =
            omega (arith, ap length e, most, below) in
            e ∙ within_front (Some w) turn falls ∙ ap (λ (m : ℕ). take m turn) long

    -- the k-th score of the best is the query's
    pub kth_best : of_rows rows ≡ best_of_query q c → kth_of_best q.k (of_rows rows) ≡ kth_of_query q c
    kth_best e = ap (kth_of_best q.k) e ∙ kth-best q.k (all_candidates q c) apart (k_within q asked).0

    -- and that of the worst row
    pub kth_worst : of_rows rows ≡ best_of_query q c → score_of (worst_of q.k rows) ≡ kth_of_query q c
    kth_worst e = ap score_of worst_at ∙ kth_best e

-- ---- which rows a station has

-- their candidates are those of the station
candidates_with : (id : StationId) (rows : List Named)
    → of_rows (rows_with id rows) ≡ filter (λ (c : Candidate). same_id c.id id) (of_rows rows)
candidates_with id [] = refl
candidates_with id (row ∷ rows) = grind (arith, candidates_with id rows)

-- so these are candidates of rows, and of the station
pub in_station : (rows : List Named) (id : StationId) (d : Candidate) → In (of_rows (rows_with id rows)) d
    → In (of_rows rows) d × (d.id ≡ id)
in_station rows id d h = let kept = kept_in (λ (c : Candidate). same_id c.id id) (of_rows rows) d
    (subst (λ (l : List Candidate). In l d) (candidates_with id rows) h) in (kept.0, same_id-is d.id id kept.1)

-- and back
pub of_station : (rows : List Named) (id : StationId) (d : Candidate) → In (of_rows rows) d → d.id ≡ id
    → In (of_rows (rows_with id rows)) d
of_station rows id d h e = subst (λ (l : List Candidate). In l d) (sym (candidates_with id rows))
    (in_kept (λ (c : Candidate). same_id c.id id) (of_rows rows) d h (same_to d.id id e))

-- ---- how many they are

-- nothing is in a list without what is in it
nothing_in : {X : Type 0} (xs : List X) → ((x : X) → In xs x → ⊥) → xs ≡ []
nothing_in [] f = refl
nothing_in (x ∷ xs) f = absurd (f x (inl refl))

-- their number is the count of the station's line, if a line that was skipped has none
pub count_rows : (rows : List Named) (e : Line)
    → (e.skipped ≡ true → (row : Named) → In rows row → row.0.id ≡ e.id → ⊥)
    → count_of (of_rows rows) e ≡ length (rows_with e.id rows)
count_rows rows e none = cond_both e.skipped 0 (count_by (λ (c : Candidate). same_id c.id e.id) (of_rows rows))
    (λ (n : ℕ). n ≡ length (rows_with e.id rows))
    (λ s. sym (ap length (nothing_in (rows_with e.id rows) (λ row k.
    let kept = kept_in (λ (x : Named). same_id x.0.id e.id) rows row k in
    none s row kept.0 (same_id-is row.0.id e.id kept.1)))))
    (λ s. sym (length-filter (λ (c : Candidate). same_id c.id e.id) (of_rows rows))
    ∙ sym (ap length (candidates_with e.id rows)) ∙ length-map (rows_with e.id rows) (λ (row : Named). row.0))

-- ---- up to the worst row

-- each row is the worst or precedes it, if there are at most as many as were asked for
pub each_within : (q : Query) (rows : List Named) → IsAsked q → length rows ≤ q.k → Descends (of_rows rows)
    → (d : Candidate) → In (of_rows rows) d → is_within_worst (worst_of q.k rows) d ≡ true
each_within q rows asked few falls d h = let some = (k_within q asked).0 in
    let whole : filter (is_within_worst (worst_of q.k rows)) (of_rows rows) ≡ of_rows rows =
    ap (λ (o : Option Candidate). filter (is_within_worst o) (of_rows rows))
    (sym (slice_get-map (λ (row : Named). row.0) rows (q.k - 1))) ∙ first_within (of_rows rows) (q.k - 1) falls
    ∙ take_all (suc (q.k - 1)) (of_rows rows) (omega (arith, few, some, length-map rows (λ (row : Named). row.0))) in
    (kept_in (is_within_worst (worst_of q.k rows)) (of_rows rows) d
    (subst (λ (l : List Candidate). In l d) (sym whole) h)).1

-- then the rows of a station are in order and within
pub station_within : (worst : Option Candidate) (rows : List Named) (id : StationId) → Descends (of_rows rows)
    → ((d : Candidate) → In (of_rows rows) d → is_within_worst worst d ≡ true)
    → AreRowsWithin worst (of_rows (rows_with id rows))
station_within worst rows id falls within = record {
  order = descends_order (of_rows (rows_with id rows)) (subst Descends (sym (candidates_with id rows))
      (kept_descends (λ (c : Candidate). same_id c.id id) (of_rows rows) falls));
  within = for_each (λ c. is_within_worst worst c ≡ true) (of_rows (rows_with id rows))
      (λ c h. within c (in_station rows id c h).0);
}

-- so it is with the rows of a report
pub rows_within : (q : Query) (rows : List Named) (id : StationId) → IsAsked q → AreInOrder (of_rows rows)
    → length rows ≤ q.k → AreRowsWithin (worst_of q.k rows) (of_rows (rows_with id rows))
rows_within q rows id asked order few = let falls = order_descends (of_rows rows) order in
    station_within (worst_of q.k rows) rows id falls (each_within q rows asked few falls)
