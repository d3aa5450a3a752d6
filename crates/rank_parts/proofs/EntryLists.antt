-- Lines one by one: their IDs, which rise, lists that go together, the lines of stations, and scores.
use Rattle.rank_parts.proofs.Cited.{◌≡◌, true, List, [], ◌∷◌, map, IsStrictWeakOrder, StationId, strictly_ranks, Series}
use Rattle.rank_parts.proofs.Cited.{Data, IsContents, In, Query, morsels, morsels_rise, Line, IdsRise}
use Rattle.rank_parts.proofs.Cited.{stands_before, inl, inr, ◌≤◌, length, refl, sym, ◌∙◌, subst, arith, AllByRecursion}
use Rattle.rank_parts.proofs.Cited.{of_one, ap₂, Option, ℤ, AllZip, IsRightEntry, Some, None, ap, ◌≤ℤ◌}
use Rattle.rank_parts.proofs.Cited.{false_from_ne_true, false≢true, true_from_ne_false, ints, Station, same_id}
use Rattle.rank_parts.proofs.Cited.{same_id-is, same_id-laws, in_map, map_in, for_each, any_in, in_any, Candidate}
use Rattle.rank_parts.proofs.Cited.{bound_is_below, is_morsel, is_within_worst, score_of, own_id, station_of, morsel_of}
use Rattle.rank_parts.proofs.Cited.{is_morsel_of, within_score, own_series, IsAbsent, has_line, ◌↔◌, int_lt}
use Rattle.ghcn_files.proofs.Among as among
use Rattle.ghcn_files.proofs.Ordered as ordered

-- the IDs of entries
abbrev pub ids_of : List Line → List StationId
ids_of es = map (λ e. e.id) es

-- ---- the order of IDs

-- an ID comes before another
abbrev pub IsBefore : StationId → StationId → Type 0
IsBefore a b = stands_before a b ≡ true

-- that is an order
ranks : IsStrictWeakOrder stands_before
ranks = strictly_ranks (λ i. i)

-- of two at most one comes before the other
pub one_way : (a b : StationId) → IsBefore a b → IsBefore b a → ⊥
one_way = ordered.one_way stands_before ranks

-- each comes before all after it
abbrev pub RiseAll : List StationId → Type 0
RiseAll is = ordered.Descend IsBefore is

-- entries whose IDs rise
pub rise_ids : (es : List Line) → IdsRise es → RiseAll (ids_of es)
rise_ids [] h = tt
rise_ids (e ∷ []) h = (tt, tt)
rise_ids (e ∷ f ∷ es) h = let rest = rise_ids (f ∷ es) h.1 in
    let more = among.each-weaker (IsBefore f.id) (IsBefore e.id) (ids_of es)
    (λ i g. ordered.before_on stands_before ranks e.id f.id i h.0 g) rest.0 in ((h.0, more), rest)

-- entries rise that name series of which each has an ID before those of all after it
pub entries_rise : (q : Query) (kth : Option ℤ) (es : List Line) (us : List Series) → AllZip (IsRightEntry q kth) es us
    → ordered.Descend (λ (a b : Series). IsBefore a.id b.id) us → IdsRise es
entries_rise q kth [] us h k = tt
entries_rise q kth (e ∷ []) us h k = tt
entries_rise q kth (e ∷ f ∷ es) [] h k = absurd h
entries_rise q kth (e ∷ f ∷ es) (u ∷ []) h k = absurd h.1
entries_rise q kth (e ∷ f ∷ es) (u ∷ v ∷ us) h k =
    (ap₂ stands_before h.0.named h.1.0.named ∙ k.0.0, entries_rise q kth (f ∷ es) (v ∷ us) h.1 k.1)

-- the IDs of a query's morsels rise
pub morsel_ids : (q : Query) (c : Data) → IsContents c → RiseAll (map (λ (s : Series). s.id) (morsels q c))
morsel_ids q c right = ordered.descend-map (λ (s : Series). s.id) IsBefore (morsels q c) (morsels_rise q c right)

-- ---- two lists of IDs, of which the one has what the other has

-- what is in the one list is in the other
abbrev pub AreIn : List StationId → List StationId → Type 0
AreIn xs ys = (i : StationId) → In xs i → In ys i

-- rising lists of the same IDs are equal
pub same_ids : (xs ys : List StationId) → RiseAll xs → RiseAll ys → AreIn xs ys → AreIn ys xs → xs ≡ ys
same_ids = ordered.one_rising stands_before ranks

-- what comes after the first of the one list is after the first of the other
behind : (x y : StationId) (xs ys : List StationId) → AllByRecursion (IsBefore x) xs → AllByRecursion (IsBefore y) ys
    → AreIn (x ∷ xs) (y ∷ ys) → AreIn xs ys
behind x y xs ys up down f i h = elim (f i (inr h)) [
  | inl e ↦
      let later : IsBefore x y = subst (IsBefore x) (sym e) (of_one (IsBefore x) xs i up h) in
      elim (f x (inl refl)) [
        | inl s ↦ let own : IsBefore x x = subst (IsBefore x) s later in absurd (one_way x x own own)
        | inr k ↦ absurd (one_way x y later (of_one (IsBefore y) ys x down k))
      ]
  | inr k ↦ k
]

-- if the other isn't longer, it has nothing else
pub no_others : (xs ys : List StationId) → RiseAll xs → RiseAll ys → AreIn xs ys → length ys ≤ length xs → AreIn ys xs
no_others xs [] up down f few i h = absurd h
no_others [] (y ∷ ys) up down f few i h = absurd (omega (arith, few))
no_others (x ∷ xs) (y ∷ ys) up down f few i h = let rest : AreIn xs ys = behind x y xs ys up.0 down.0 f in
    let back : AreIn ys xs = no_others xs ys up.1 down.1 rest (omega (arith, few)) in
    by rest back (f x (inl refl)) i h
  where
    by : AreIn xs ys → AreIn ys xs → In (y ∷ ys) x → AreIn (y ∷ ys) (x ∷ xs)
    by rest back (inl s) i (inl e) = inl (sym s ∙ e)
    by rest back (inl s) i (inr h) = inr (back i h)
    by rest back (inr k) i h =
        let own : IsBefore x x = of_one (IsBefore x) xs x up.0 (back x k) in absurd (one_way x x own own)

-- ---- two lists, one by one

-- of two lists that go together, the element of the other that goes with one of the one
pub in_zip : {X Y : Type 0} (R : X → Y → Type 0) (xs : List X) (ys : List Y) → AllZip R xs ys → (x : X) → In xs x
    → (y : Y) × In ys y × R x y
in_zip R [] ys h x k = absurd k
in_zip R (w ∷ xs) [] h x k = absurd h
in_zip R (w ∷ xs) (z ∷ ys) h x (inl e) = (z, inl refl, subst (λ v. R v z) e h.0)
in_zip R (w ∷ xs) (z ∷ ys) h x (inr l) = let rest = in_zip R xs ys h.1 x l in (rest.0, inr rest.1, rest.2)

-- a list goes together with what is made of each if and only if each goes with what is made of it
pub zip_each : {X Y : Type 0} (R : X → Y → Type 0) (f : X → Y) (xs : List X)
    → AllZip R xs (map f xs) ↔ ((x : X) → In xs x → R x (f x))
zip_each R f [] = (λ h x k. absurd k, λ h. tt)
zip_each R f (x ∷ xs) = let rest = zip_each R f xs in (
  λ h y k. elim k [ inl e ↦ subst (λ w. R w (f w)) e h.0 | inr l ↦ rest.0 h.1 y l ],
  λ h. (h x (inl refl), rest.1 (λ y k. h y (inr k))),
)

-- entries and series of the same IDs go together by what holds of any two of one ID
pub zip_ids : (R : Line → Series → Type 0) (es : List Line) (ms : List Series)
    → ids_of es ≡ map (λ (s : Series). s.id) ms
    → ((e : Line) (m : Series) → In es e → In ms m → e.id ≡ m.id → R e m) → AllZip R es ms
zip_ids R [] [] ids h = tt
zip_ids R [] (m ∷ ms) ids h = absurd cc
zip_ids R (e ∷ es) [] ids h = absurd cc
zip_ids R (e ∷ es) (m ∷ ms) ids h =
    (h e m (inl refl) (inl refl) (cc), zip_ids R es ms (cc) (λ x y k l. h x y (inr k) (inr l)))

-- ---- lines and stations

-- equal IDs are the same
pub same_to : (a b : StationId) → a ≡ b → same_id a b ≡ true
same_to a b e = ap (same_id a) (sym e) ∙ same_id-laws.refl a

-- the line of a station that has one
pub line_of : (es : List Line) (id : StationId) → has_line es id ≡ true → (e : Line) × In es e × (e.id ≡ id)
line_of es id h = let any = any_in (λ (e : Line). same_id e.id id) es h in (any.0, any.1, same_id-is any.0.id id any.2)

module _ (q : Query) (c : Data) (es : List Line) where
  -- a station whose series is a morsel has a line, if without one it has no morsel
  pub has_where : (st : Station) → IsAbsent q c es st → is_morsel q st (own_series q c st) ≡ true
      → has_line es st.id ≡ true
  has_where st absent morsel = true_from_ne_false (has_line es st.id) (λ none. false≢true (sym (absent none) ∙ morsel))

  -- so each morsel has a line, if this is so of each station
  pub line_where : AllByRecursion (IsAbsent q c es) c.stations → (u : Series) → In (morsels q c) u
      → (e : Line) × In es e × (e.id ≡ u.id)
  line_where absent u h = let st = station_of q c u h in
      let e = line_of es st.0.id (has_where st.0 (of_one (IsAbsent q c es) c.stations st.0 absent st.1)
      (is_morsel_of q c st.0 u st.2 st.3 h)) in (e.0, e.1, e.2 ∙ sym (own_id q c st.0 u st.3))

  -- and the IDs of the morsels are among those of the lines
  pub ids_among : ((u : Series) → In (morsels q c) u → (e : Line) × In es e × (e.id ≡ u.id))
      → AreIn (map (λ (s : Series). s.id) (morsels q c)) (ids_of es)
  ids_among line i h = let u = map_in (λ (s : Series). s.id) (morsels q c) i h in let e = line u.0 u.1 in
      subst (In (ids_of es)) (e.2 ∙ u.2) (in_map (λ (x : Line). x.id) es e.0 e.1)

  -- a station without a line isn't a morsel, if each morsel has one
  pub absent_where : ((u : Series) → In (morsels q c) u → (e : Line) × In es e × (e.id ≡ u.id))
      → AllByRecursion (IsAbsent q c es) c.stations
  absent_where line = for_each (IsAbsent q c es) c.stations (λ st h none.
      false_from_ne_true (is_morsel q st (own_series q c st)) (λ some.
      let u = morsel_of q c st h some in let e = line u.0 u.2 in
      false≢true (sym none ∙ in_any (λ (x : Line). same_id x.id st.id) es e.0 e.1
      (same_to e.0.id st.id (e.2 ∙ own_id q c st u.0 u.1)))))

-- ---- scores

-- a number below another isn't at least it
not_both : (a b c : ℤ) → int_lt b a ≡ true → a ≤ℤ c → c ≤ℤ b → ⊥
not_both a b c e f g = grind (arith, ints)

-- nothing that is within has a score of at most a bound below the k-th score
pub below_out : (worst : Option Candidate) (bound : ℤ) (d : Candidate) → bound_is_below (score_of worst) bound ≡ true
    → is_within_worst worst d ≡ true → d.score ≤ℤ bound → ⊥
below_out None bound d e w h = cc
below_out (Some w) bound d e k h = not_both w.score bound d.score e (within_score w d k) h
