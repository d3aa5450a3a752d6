-- A search by ID among lines that rise.
use Rattle.std.proofs.Common.{◌≡◌, ℕ, zero, suc, ◌<◌, Bool, true, false, not, List, [], ◌∷◌, length, get_or, refl, ap}
use Rattle.std.proofs.Common.{◌∙◌, subst, arith, ◌||◌, ◌&&◌, nat_lt, Less, Equal, Greater}
use native.Mathlib.Numerals.{unary_clauses}
use Rattle.std.specs.List.{AllByRecursion}
use Rattle.std.specs.List.Sorted.{IsSortedBy, IsNonDecreasingBy, IsPartitionPoint}
use Rattle.std.specs.Cmp.{IsTotalOrder}
use Rattle.std.specs.Ordering.{is_lt, is_eq, ordering_reverse, ordering_index}
use Rattle.std.specs.declared.cmp.Ordering.{Ordering}
use Rattle.std.proofs.lemmas.Bool.{ltb-true, ltb-false}
use Rattle.std.proofs.lemmas.List.Sorted.{searchable_from_sorted}
use Rattle.ghcn_files.specs.declared.station.StationId.{StationId}
use Rattle.ghcn_files.specs.Meaning.Ids.{same_id}
use Rattle.ghcn_files.proofs.IdOrder as ids
use Rattle.ghcn_files.proofs.Ordered.{less}
use Rattle.ghcn_files.proofs.IdLaws.{same_id-is}
use Rattle.rank_papers.specs.Certificate.{Line}
use Rattle.rank_head.specs.HeadTests.{IdsRise, is_scanned}

-- ---- the order of IDs

-- IDs by their bytes
abbrev pub by_bytes : StationId → StationId → Ordering
by_bytes = ids.id_cmp (λ i. i)

-- a total order
pub bytes_total : IsTotalOrder by_bytes
bytes_total = ids.id_total (λ i. i)

-- whether two are the same, by it
pub same_by : (a b : StationId) (o : Ordering) → by_bytes a b ≡ o → same_id a b ≡ is_eq o
same_by = ids.same_by (λ i. i)

-- what isn't below what is below it
not_less : (o p : Ordering) → o ≡ ordering_reverse p → is_lt p ≡ true → is_lt o ≡ false
not_less o Less e h = ap is_lt e
not_less o Equal e h = absurd cc
not_less o Greater e h = absurd cc

-- ---- lines that rise

-- the lines after the first rise too
pub rise-behind : (e : Line) (es : List Line) → IdsRise (e ∷ es) → IdsRise es
rise-behind e [] h = tt
rise-behind e (f ∷ es) h = h.1

-- each line of some has an ID after this one
abbrev pub AreBehind : StationId → List Line → Type 0
AreBehind id es = AllByRecursion (λ f. by_bytes id f.id ≡ Less) es

-- what comes before the first line of some that rise comes before all
before_all : (id : StationId) (e : Line) (es : List Line) → by_bytes id e.id ≡ Less → IdsRise (e ∷ es)
    → AreBehind id (e ∷ es)
before_all id e [] b h = (b, tt)
before_all id e (f ∷ es) b h =
    let next : by_bytes id f.id ≡ Less = bytes_total.trans id e.id f.id b (less (by_bytes e.id f.id) h.0) in
    (b, before_all id f es next h.1)

-- the lines after the first have IDs after its own
pub behind_first : (e : Line) (es : List Line) → IdsRise (e ∷ es) → AreBehind e.id es
behind_first e [] h = tt
behind_first e (f ∷ es) h = before_all e.id f es (less (by_bytes e.id f.id) h.0) h.1

-- a line of another station leaves it to the others
left_to_others : (b s r v : Bool) → s ≡ false → r ≡ v → ((b && s) || r) ≡ v
left_to_others true s r v f g = ap (λ (x : Bool). x || r) f ∙ g
left_to_others false s r v f g = g

-- so no line belongs to a station before all of them
none_scanned : (id : StationId) (es : List Line) → AreBehind id es → is_scanned es id ≡ false
none_scanned id [] h = refl
none_scanned id (e ∷ es) h =
    let other : by_bytes e.id id ≡ Greater =
    bytes_total.antisymm e.id id ∙ ap ordering_reverse h.0 in
    left_to_others (not e.skipped) _ _ _ (same_by e.id id Greater other) (none_scanned id es h.1)

-- the line at a place is one of those that are after
at_behind : (id : StationId) (es : List Line) (i : ℕ) (d : Line) → AreBehind id es → i < length es
    → by_bytes id (get_or es i d).id ≡ Less
at_behind id [] i d h below = absurd (omega arith)
at_behind id (e ∷ es) zero d h below = h.0
at_behind id (e ∷ es) (suc i) d h below = at_behind id es i d h.1 (omega arith)

-- if the line at a place belongs to a station, it says whether the station was scanned
pub scanned_at : (id : StationId) (es : List Line) (i : ℕ) (d : Line) → IdsRise es → i < length es
    → by_bytes (get_or es i d).id id ≡ Equal → is_scanned es id ≡ not (get_or es i d).skipped
scanned_at id [] i d h below e = absurd (omega arith)
scanned_at id (x ∷ es) zero d h below e =
    let same : x.id ≡ id = same_id-is x.id id (same_by x.id id Equal e) in
    by (not x.skipped) (same_by x.id id Equal e)
    (none_scanned id es (subst (λ (i : StationId). AreBehind i es) same (behind_first x es h)))
  where
    by : (b : Bool) → same_id x.id id ≡ true → is_scanned es id ≡ false
        → ((b && same_id x.id id) || is_scanned es id) ≡ b
    by true f g = ap (λ s. s || is_scanned es id) f
    by false f g = g
scanned_at id (x ∷ es) (suc i) d h below e =
    let d_id : (get_or es i d).id ≡ id = same_id-is (get_or es i d).id id (same_by (get_or es i d).id id Equal e) in
    let before : by_bytes x.id id ≡ Less =
    subst (λ (j : StationId). by_bytes x.id j ≡ Less) d_id
    (at_behind x.id es i d (behind_first x es h) (omega arith)) in
    left_to_others (not x.skipped) _ _ _ (same_by x.id id Less before)
    (scanned_at id es i d (rise-behind x es h) (omega arith) e)

-- ---- if there is none

-- no line of some belongs to a station
abbrev AreOthers : StationId → List Line → Type 0
AreOthers id es = (k : ℕ) (d : Line) → k < length es → same_id (get_or es k d).id id ≡ false

-- then it wasn't scanned
others_not_scanned : (id : StationId) (es : List Line) → AreOthers id es → is_scanned es id ≡ false
others_not_scanned id [] h = refl
others_not_scanned id (e ∷ es) h =
    left_to_others (not e.skipped) _ _ _ (h 0 e (omega arith))
    (others_not_scanned id es (λ k d below. h (suc k) d (omega arith)))

-- a place between lines before a station and lines after it
pub not_scanned : (id : StationId) (es : List Line) (i : ℕ)
    → IsPartitionPoint (λ e. by_bytes e.id id ≡ Less) (λ e. by_bytes e.id id ≡ Greater) es i
    → is_scanned es id ≡ false
not_scanned id es i h = others_not_scanned id es (λ k d below. by k d below (nat_lt k i) refl)
  where
    by : (k : ℕ) (d : Line) → k < length es → (b : Bool) → nat_lt k i ≡ b → same_id (get_or es k d).id id ≡ false
    by k d below true t = same_by (get_or es k d).id id Less (h.0 k d (omega arith) (ltb-true k i t))
    by k d below false t = same_by (get_or es k d).id id Greater (h.1 k d (ltb-false k i t) below)

-- ---- lines in order

-- lines that rise are in order by ID
pub rise-sorted : (es : List Line) → IdsRise es → IsSortedBy (λ a b. is_lt (by_bytes a.id b.id)) es
rise-sorted [] h k d low high = absurd (omega arith)
rise-sorted (e ∷ []) h k d low high = absurd (omega arith)
rise-sorted (e ∷ f ∷ es) h zero d low high =
    not_less (by_bytes f.id e.id) (by_bytes e.id f.id) (bytes_total.antisymm f.id e.id) h.0
rise-sorted (e ∷ f ∷ es) h (suc k) d low high =
    let behind = rise-sorted (f ∷ es) h.1 k d (omega arith) (omega arith) in
    let turned = simp unary_clauses at behind in
    simp unary_clauses turned

-- so a search by ID finds its way
pub searchable : (id : StationId) (es : List Line) → IdsRise es
    → IsNonDecreasingBy (λ e. ordering_index (by_bytes e.id id)) es
searchable id es h = searchable_from_sorted bytes_total (λ (e : Line). e.id) es id (rise-sorted es h)
