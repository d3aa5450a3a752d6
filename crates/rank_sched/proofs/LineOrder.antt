-- Lines by increasing ID: there is one such list of the lines of a plan's morsels.
use Rattle.rank_sched.proofs.Cited.{◌≡◌, ℕ, zero, suc, ◌+◌, ◌<◌, ◌≤◌, Bool, List, [], ◌∷◌, ◌++◌, length, take, map}
use Rattle.rank_sched.proofs.Cited.{Some, refl, sym, ap, ◌∙◌, subst, arith, rules, slice_get, enumerate_from}
use Rattle.rank_sched.proofs.Cited.{IsDistinct, IsPermutation, IsSortedBy, option_map, ints, take_all, same_id}
use Rattle.rank_sched.proofs.Cited.{strictly, one_sort, distinct-map, distinct-mapped, Record, Line, Morsel, Plan}
use Rattle.rank_sched.proofs.Cited.{IsPlan, task_of, stays, line_of, lines_of, mark, AreMarks, marked_line}
use Rattle.rank_sched.proofs.Cited.{marked_lines}
use Rattle.rank_sched.proofs.PlanMade.{plan_distinct}

-- the IDs of lines are those of the morsels' series
line_ids : (marks : List Bool) (n : ℕ) (ms : List Morsel)
    → map (λ l. l.id) (map (marked_line marks) (enumerate_from n ms)) ≡ map (λ m. m.series.id) ms
line_ids marks n [] = refl
line_ids marks n (m ∷ ms) = ap (λ ids. m.series.id ∷ ids) (line_ids marks (n + 1) ms)

-- what a sort by ID makes of the lines of a plan's morsels
pub lines_sorted : (p : Plan) (marks : List Bool) (xs ys : List Line) → IsPlan p
    → xs ≡ map (marked_line marks) (enumerate_from 0 p.morsels) → IsPermutation xs ys
    → IsSortedBy (strictly (λ l. l.id)) ys → ys ≡ marked_lines marks p.morsels
lines_sorted p marks xs ys is e perm up =
    let made : List Line = map (marked_line marks) (enumerate_from 0 p.morsels) in
    let ids : IsDistinct same_id (map (λ (l : Line). l.id) made) =
    subst (IsDistinct same_id) (sym (line_ids marks 0 p.morsels))
    (distinct-map (λ (m : Morsel). m.series.id) same_id p.morsels (plan_distinct p is)) in
    one_sort (λ l. l.id) made ys (distinct-mapped (λ (l : Line). l.id) same_id made ids) (rw e at perm) up

-- one morsel's line more
lines_push : (F : ℕ × Morsel → Line) (ms : List Morsel) (i n : ℕ) (l : Line)
    → option_map (λ m. F (n + i, m)) (slice_get ms i) ≡ Some l
    → map F (enumerate_from n (take (suc i) ms)) ≡ map F (enumerate_from n (take i ms)) ++ l ∷ []
lines_push F [] i n l e = absurd cc
lines_push F (m ∷ ms) zero n l e = search rules
lines_push F (m ∷ ms) (suc i) n l e = grind (arith, ints, lines_push F ms i (n + 1) l (search rules))

-- the line of the next morsel, with its mark
pub lines_more : (marks : List Bool) (ms : List Morsel) (i : ℕ) (skipped : Bool) (xs ys : List Line) (l : Line)
    → skipped ≡ mark marks i
    → option_map (λ m. record { id = m.series.id; bound = m.bound; skipped = skipped }) (slice_get ms i) ≡ Some l
    → ys ≡ xs ++ l ∷ [] → xs ≡ map (marked_line marks) (enumerate_from 0 (take i ms))
    → ys ≡ map (marked_line marks) (enumerate_from 0 (take (i + 1) ms))
lines_more marks ms i skipped xs ys l is e push before =
    let none : 0 + i ≡ i = omega arith in
    let one : suc i ≡ i + 1 = omega arith in
    let made : Bool → Morsel → Line = λ b m. record { id = m.series.id; bound = m.bound; skipped = b } in
    let at : option_map (λ m. marked_line marks (0 + i, m)) (slice_get ms i) ≡ Some l =
    search rules in
    push ∙ ap (λ ls. ls ++ l ∷ []) before ∙ sym (lines_push (marked_line marks) ms i 0 l at)
    ∙ ap (λ (k : ℕ). map (marked_line marks) (enumerate_from 0 (take k ms))) one

-- the lines of all morsels
pub lines_all : (marks : List Bool) (ms : List Morsel) (i : ℕ) (xs : List Line) → length ms ≤ i
    → xs ≡ map (marked_line marks) (enumerate_from 0 (take i ms)) → xs ≡ map (marked_line marks) (enumerate_from 0 ms)
lines_all marks ms i xs far e = cc (take_all i ms far)

-- lines by marks of the skips that stay are the lines of the answer
lines_alike : (p : Plan) (rs : List Record) (marks : List Bool) (n : ℕ) (ms : List Morsel)
    → ((m : ℕ) → m < n + length ms → mark marks m ≡ stays (task_of p) rs m)
    → map (marked_line marks) (enumerate_from n ms) ≡ map (line_of p rs) (enumerate_from n ms)
lines_alike p rs marks n [] h = refl
lines_alike p rs marks n (x ∷ ms) h = grind (arith, lines_alike p rs marks (n + 1) ms (λ m lt. h m (omega arith)))

-- and so are all of them in their order
pub lines_are : (p : Plan) (rs : List Record) (marks : List Bool)
    → AreMarks (stays (task_of p) rs) (length p.morsels) marks → marked_lines marks p.morsels ≡ lines_of p rs
lines_are p rs marks h = grind (arith, lines_alike)
