-- The text of a row, piece by piece.
use Rattle.std.proofs.Common.{◌≡◌, ℕ, List, [], ◌∷◌, ◌++◌, sym, ap, ◌∙◌, append_assoc, append-nil}
use Rattle.std.specs.List.{join_with_byte, flat_map}
use Rattle.std.proofs.lemmas.Grind.{flat_map-append}
use Rattle.std.specs.Prelude.{ℤ}
use Rattle.rank_query.specs.declared.score.Score.{Score}
use Rattle.rank_query.specs.Meaning.Asked.{Query}
use Rattle.rank_papers.specs.Meaning.Values.{measure_of_score, value_of, value_text, unit_text}
use Rattle.rank_papers.specs.Meaning.Report.{text_line, row_fields}
use Rattle.rank_papers.specs.Report.{Named, after_blank}

-- the lines of some rows with their ranks
abbrev pub rows_text : Query → List (ℕ × Named) → List ℕ
rows_text q rows = flat_map (λ row. text_line (row_fields q row)) rows

-- the fields of a score: its value as it is printed, and its unit
abbrev pub value_fields : Score → ℤ → List (List ℕ)
value_fields score number =
    value_text (measure_of_score score) (value_of score number) ∷ unit_text (measure_of_score score) ∷ []

-- fields with one blank between them are the first, and then a blank and a field each
join-fields : (field : List ℕ) (more : List (List ℕ)) →
    join_with_byte 32 (field ∷ more) ≡ field ++ flat_map after_blank more
join-fields field [] = sym (append-nil field)
join-fields field (next ∷ more) = ap (λ (text : List ℕ). field ++ 32 ∷ text) (join-fields next more)

-- what is added to a text to which something was added
pub added : (before s t between after : List ℕ) →
    between ≡ before ++ s → after ≡ between ++ t → after ≡ before ++ (s ++ t)
added before s t between after one other = other ∙ ap (λ (x : List ℕ). x ++ t) one ∙ append_assoc before s t

-- six texts may be joined from either end
from_the_end : (a b c d e f : List ℕ) →
    ((((a ++ b) ++ c) ++ d) ++ e) ++ f ≡ a ++ (b ++ (c ++ (d ++ (e ++ f))))
from_the_end a b c d e f = simp append_assoc

-- the pieces of a row, one after the other, are its line
pub row-pieces : (rank id first last : List ℕ) (values name : List (List ℕ)) →
    (((((rank ++ after_blank id) ++ after_blank first) ++ after_blank last) ++ flat_map after_blank values)
    ++ flat_map after_blank name) ++ 10 ∷ []
    ≡ text_line (rank ∷ id ∷ first ∷ last ∷ (values ++ name))
row-pieces rank id first last values name =
    let front : List ℕ → List ℕ = λ rest.
    rank ++ (after_blank id ++ (after_blank first ++ (after_blank last ++ rest))) in
    let joined = from_the_end rank (after_blank id) (after_blank first) (after_blank last)
    (flat_map after_blank values) (flat_map after_blank name) in
    ap (λ (text : List ℕ). text ++ 10 ∷ [])
    (joined ∙ ap front (sym (flat_map-append after_blank values name))
    ∙ sym (join-fields rank (id ∷ first ∷ last ∷ (values ++ name))))
