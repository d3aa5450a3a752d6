-- The rows that were read, and what a report says.
use Rattle.std.proofs.Common.{◌≡◌, ℕ, zero, suc, ◌-◌, List, [], ◌∷◌, map, length, get_or, ◌<◌, Some, refl, sym, ap, ◌∙◌}
use Rattle.std.specs.Prelude.{slice_get}
use Rattle.std.specs.Option.{option_map}
use Rattle.std.proofs.lemmas.Option.{slice_get-get_or}
use Rattle.rank_scores.specs.declared.candidate.Candidate.{Candidate}
use Rattle.rank_scores.proofs.Ranks.{Descends}
use Rattle.rank_papers.specs.declared.paper.Row.{Row}
use Rattle.rank_papers.specs.Certificate.{kth_of_best}
use Rattle.rank_papers.specs.ReportLines.{named_in}
use Rattle.rank_papers.specs.Papers.{of_rows, AreInOrder}

-- the candidates of rows are those that the report says
pub candidates_named : (rows : List Row) → map (λ row. row.candidate) rows ≡ of_rows (map named_in rows)
candidates_named [] = refl
candidates_named (r ∷ rows) = ap (λ (l : List Candidate). r.candidate ∷ l) (candidates_named rows)

-- the score of the row at a place
score_at : (rows : List Row) (i : ℕ)
    → option_map (λ row. row.candidate.score) (slice_get rows i)
    ≡ option_map (λ c. c.score) (slice_get (of_rows (map named_in rows)) i)
score_at [] zero = refl
score_at [] (suc i) = refl
score_at (r ∷ rows) zero = refl
score_at (r ∷ rows) (suc i) = score_at rows i

-- so the k-th score is that of the k-th row
pub kth_named : (k : ℕ) (rows : List Row)
    → option_map (λ row. row.candidate.score) (slice_get rows (k - 1)) ≡ kth_of_best k (of_rows (map named_in rows))
kth_named k rows = score_at rows (k - 1)

-- and it is that of the row that was found there
pub kth_found : (k i : ℕ) (rows : List Row) (row : Row) → i ≡ k → i - 1 < length rows → row ≡ get_or rows (i - 1) row
    → Some row.candidate.score ≡ kth_of_best k (of_rows (map named_in rows))
kth_found k i rows row same below at =
    ap (λ (r : Row). Some r.candidate.score) at
    ∙ ap (option_map (λ (r : Row). r.candidate.score)) (sym (slice_get-get_or rows (i - 1) row below))
    ∙ kth_named i rows
    ∙ ap (λ (n : ℕ). kth_of_best n (of_rows (map named_in rows))) same

-- candidates of which each precedes all after it are in order
pub descends_order : (cs : List Candidate) → Descends cs → AreInOrder cs
descends_order [] h = tt
descends_order (c ∷ []) h = tt
descends_order (c ∷ d ∷ cs) h = (h.0.0, descends_order (d ∷ cs) h.1)
