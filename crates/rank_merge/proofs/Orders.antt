-- The orders of lines by ID and of rows by candidate. In order, an ID that two lines have is on two neighbours.
use Rattle.rank_merge.proofs.Cited.{IsTotalOrder, nat_cmp, is_le, is_eq, ordering_reverse, Ordering, full_cmp, Row}
use Rattle.rank_merge.proofs.Cited.{Named, Line, ◌≡◌, Bool, true, false, cond, List, [], ◌∷◌, Option, Some, refl, sym}
use Rattle.rank_merge.proofs.Cited.{ap, ◌∙◌, drop, ◌||◌, arith, subst, list_any, find, zip, AllByRecursion, option_map}
use Rattle.rank_merge.proofs.Cited.{false_from_ne_true, same_id, same_id-is, id_comes_first, by_id, twice}
use Rattle.std.specs.Cmp.Lexicographic.{slice_cmp}
use Rattle.std.proofs.lemmas.Cmp.{nat_list_cmp_total, on_total}
use Rattle.rank_scores.proofs.Listing.{full_cmp_total}
use Rattle.std.proofs.lemmas.Map.Text.{is_eq-slice_cmp}
use Rattle.rank_merge.proofs.StableSorts.{InTurn, sorted-twice, sorted_turn}

-- lines by their IDs
abbrev pub id_cmp : Line → Line → Ordering
id_cmp a b = slice_cmp nat_cmp a.id.0 b.id.0

-- a total order
pub id_total : IsTotalOrder id_cmp
id_total = on_total (λ (e : Line). e.id.0) nat_list_cmp_total

-- rows by their candidates
abbrev pub row_cmp : Row → Row → Ordering
row_cmp a b = full_cmp a.candidate b.candidate

-- a total order
pub row_total : IsTotalOrder row_cmp
row_total = on_total (λ (r : Row). r.candidate) full_cmp_total

-- named candidates by their candidates
abbrev pub named_cmp : Named → Named → Ordering
named_cmp a b = full_cmp a.0 b.0

-- a total order
pub named_total : IsTotalOrder named_cmp
named_total = on_total (λ (r : Named). r.0) full_cmp_total

-- ---- an ID that two lines have

-- two that are each at most the other tie
tie : (o p : Ordering) → o ≡ ordering_reverse p → is_le o ≡ true → is_le p ≡ true → is_eq o ≡ true
tie o p e h k = grind arith

-- lines that each come first belong to one station
one_station : (e f : Line) → id_comes_first e.id f.id ≡ true → id_comes_first f.id e.id ≡ true
    → same_id e.id f.id ≡ true
one_station e f h k =
    sym (is_eq-slice_cmp e.id.0 f.id.0) ∙ tie (id_cmp e f) (id_cmp f e) (id_total.antisymm e f) h k

-- after the line of another station no line belongs to the first one's
none_behind : (e f : Line) (es : List Line) → id_comes_first e.id f.id ≡ true → same_id e.id f.id ≡ false
    → AllByRecursion (λ g. id_comes_first f.id g.id ≡ true) es → list_any (λ g. same_id e.id g.id) es ≡ false
none_behind e f [] h other a = refl
none_behind e f (g ∷ es) h other a =
    let rest = none_behind e f es h other a.1 in
    let here : same_id e.id g.id ≡ false = false_from_ne_true _ (λ t.
    let same = one_station e f h (ap (id_comes_first f.id) (same_id-is e.id g.id t) ∙ a.0) in cc) in
    grind arith

-- two neighbours belong to one station
abbrev pub IsTwice : Line × Line → Bool
IsTwice two = same_id two.0.id two.1.id

-- so the first that two lines have is on two neighbours
pub twice_beside : (es : List Line) → InTurn id_cmp id_total es
    → twice es ≡ option_map (λ two. two.0.id) (find IsTwice (zip es (drop 1 es)))
twice_beside [] h = refl
twice_beside (e ∷ []) h = refl
twice_beside (e ∷ f ∷ es) h =
    elim (same_id e.id f.id) as (λ b. same_id e.id f.id ≡ b
    → cond (b || list_any (λ g. same_id e.id g.id) es) (Some e.id) (twice (f ∷ es))
    ≡ option_map (λ two. two.0.id) (cond b (Some (e, f)) (find IsTwice (zip (f ∷ es) es)))) [
      | true ↦ λ t. refl
      | false ↦ λ t. ap (λ b. cond b (Some e.id) (twice (f ∷ es))) (none_behind e f es h.0.0 t h.1.0)
          ∙ twice_beside (f ∷ es) h.1
    ] refl

-- lines that were put in order are in order
pub ordered_once : (ls es : List Line) → ls ≡ by_id es → by_id ls ≡ ls
ordered_once ls es e = ap by_id e ∙ sorted-twice id_cmp id_total es ∙ sym e

-- what a search among neighbours finds is the first that two lines have
pub twice_found : (es : List Line) (r : Option (Line × Line)) → by_id es ≡ es
    → r ≡ find IsTwice (zip es (drop 1 es)) → option_map (λ two. two.0.id) r ≡ twice es
twice_found es r ordered e =
    rw e (sym (twice_beside es (subst (InTurn id_cmp id_total) ordered (sorted_turn id_cmp id_total es))))
