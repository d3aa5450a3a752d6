-- A line is compared with a text piece by piece.
use Rattle.std.proofs.Common.{◌≡◌, ℕ, zero, suc, ◌+◌, ◌-◌, ◌≤◌, Bool, true, false, List, [], ◌∷◌, ◌++◌}
use Rattle.std.proofs.Common.{length, take, drop, Some, refl, sym, ap, ◌∙◌, arith, append_assoc, decimal}
use Rattle.std.specs.Prelude.{◌&&◌, ◌==◌, slice_range}
use Rattle.std.specs.Cmp.Lexicographic.{bytes_decides}
use Rattle.std.proofs.lemmas.Bool.Decides.{nat_tests}
use Rattle.ghcn_fields.specs.Meaning.Bytes.{same_bytes}
use Rattle.ghcn_fields.specs.Meaning.Dates.{date_text}
use Rattle.rank_query.specs.Meaning.Asked.{Query}
use Rattle.rank_papers.specs.declared.measure.Measure.{Measure}
use Rattle.rank_papers.specs.declared.measure.Measure.TheVariants.{Degrees, Millimetres, WholeMillimetres, Days}
use Rattle.rank_papers.specs.Meaning.Values.{measure_of_score, unit_text, value_text, value_of}
use Rattle.rank_papers.specs.Meaning.Report.{field_unless_empty, text_line}
use Rattle.rank_papers.specs.Report.{Named}
use Rattle.rank_papers.specs.ReportLines.{row_line, row_in_columns}
use Rattle.rank_papers.specs.Spelled.{has_blank, has_text, has_front, ends_by_name, has_back}
use Rattle.rank_papers.proofs.ReportFields.{IsCutOut, cut_out}

-- ---- pieces

-- three tests may be joined from either end
three : (a b c : Bool) → (a && (b && c)) ≡ ((a && b) && c)
three true b c = refl
three false b c = refl

-- a text and what follows are compared one after the other
in_two : (text more line : List ℕ)
    → same_bytes (text ++ more) line ≡ (same_bytes text (take (length text) line)
    && same_bytes more (drop (length text) line))
in_two [] more line = refl
in_two (b ∷ text) more [] = refl
in_two (b ∷ text) more (c ∷ line) =
    ap (λ (t : Bool). (b == c) && t) (in_two text more line)
    ∙ three (b == c) (same_bytes text (take (length text) line)) (same_bytes more (drop (length text) line))

-- nothing comes after any place of an empty line
none_behind : (n : ℕ) → drop {A = ℕ} n [] ≡ []
none_behind zero = refl
none_behind (suc n) = refl

-- what comes after a place after another
behind_both : (line : List ℕ) (m n : ℕ) → drop n (drop m line) ≡ drop (m + n) line
behind_both line zero n = let same : n ≡ zero + n = omega arith in ap (λ (k : ℕ). drop k line) same
behind_both [] (suc m) n = none_behind n ∙ sym (none_behind (suc m + n))
behind_both (b ∷ line) (suc m) n =
    let same : suc (m + n) ≡ suc m + n = omega arith in
    behind_both line m n ∙ ap (λ (k : ℕ). drop k (b ∷ line)) same

-- a test of two bytes may be turned
turned : (b c : ℕ) → (b == c) ≡ (c == b)
turned b c = grind (arith, nat_tests)

-- a blank at a place, and what follows from the next on
blank_first : (more line : List ℕ) (at next : ℕ) → at + 1 ≡ next
    → same_bytes (32 ∷ more) (drop at line) ≡ (has_blank line at && same_bytes more (drop next line))
blank_first more line at next e =
    here line at ∙ ap (λ (n : ℕ). has_blank line at && same_bytes more (drop n line)) e
  where
    here : (l : List ℕ) (n : ℕ)
        → same_bytes (32 ∷ more) (drop n l) ≡ (has_blank l n && same_bytes more (drop (n + 1) l))
    here [] zero = refl
    here [] (suc n) = refl
    here (b ∷ l) zero = ap (λ (t : Bool). t && same_bytes more l) (turned 32 b)
    here (b ∷ l) (suc n) =
        let after : suc (n + 1) ≡ suc n + 1 = omega arith in
        here l n ∙ ap (λ (k : ℕ). has_blank l n && same_bytes more (drop k (b ∷ l))) after

-- a text from a place on, and what follows
text_first : (text more line : List ℕ) (from to : ℕ) → from + length text ≡ to
    → same_bytes (text ++ more) (drop from line) ≡ (has_text text line from && same_bytes more (drop to line))
text_first text more line from to e =
    let long : length text ≡ from + length text - from = omega arith in
    in_two text more (drop from line)
    ∙ ap (λ (n : ℕ). same_bytes text (take n (drop from line))
    && same_bytes more (drop (length text) (drop from line))) long
    ∙ ap (λ (l : List ℕ). has_text text line from && same_bytes more l)
    (behind_both line from (length text) ∙ ap (λ (n : ℕ). drop n line) e)

-- a text that was cut out of the line is there
cut_first : (text more line : List ℕ) (from to : ℕ) → from + length text ≡ to → text ≡ slice_range line from to
    → same_bytes (text ++ more) (drop from line) ≡ same_bytes more (drop to line)
cut_first text more line from to e cut =
    let here : has_text text line from ≡ true =
    ap (λ (n : ℕ). same_bytes text (slice_range line from n)) e
    ∙ ap (same_bytes text) (sym cut) ∙ (bytes_decides text text).1 refl in
    text_first text more line from to e ∙ ap (λ (t : Bool). t && same_bytes more (drop to line)) here

-- ---- a row

-- six tests may be joined from either end
six : (a b c d e f : Bool) → (a && (b && (c && (d && (e && f))))) ≡ ((a && (b && (c && (d && e)))) && f)
six false b c d e f = refl
six true false c d e f = refl
six true true false d e f = refl
six true true true false e f = refl
six true true true true e f = refl

-- up to the value, ID and days were cut out of the line
front_first : (rank id first last more line : List ℕ)
    → length id ≡ 11 → length first ≡ 10 → length last ≡ 10
    → id ≡ slice_range line (length rank + 1) (length rank + 12)
    → first ≡ slice_range line (length rank + 13) (length rank + 23)
    → last ≡ slice_range line (length rank + 24) (length rank + 34)
    → same_bytes (rank ++ 32 ∷ (id ++ 32 ∷ (first ++ 32 ∷ (last ++ 32 ∷ more)))) line
    ≡ (has_front rank line && same_bytes more (drop (length rank + 35) line))
front_first rank id first last more line eleven ten ten_too id_is first_is last_is =
    let d : ℕ = length rank in
    let a : Bool = has_text rank line 0 in
    let b : Bool = has_blank line d in
    let c : Bool = has_blank line (d + 12) in
    let e : Bool = has_blank line (d + 23) in
    text_first rank (32 ∷ (id ++ 32 ∷ (first ++ 32 ∷ (last ++ 32 ∷ more)))) line 0 d (omega arith)
    ∙ ap (λ (t : Bool). a && t)
    (blank_first (id ++ 32 ∷ (first ++ 32 ∷ (last ++ 32 ∷ more))) line d (d + 1) (omega arith)
    ∙ ap (λ (t : Bool). b && t)
    (cut_first id (32 ∷ (first ++ 32 ∷ (last ++ 32 ∷ more))) line (d + 1) (d + 12) (omega (arith, eleven)) id_is
    ∙ blank_first (first ++ 32 ∷ (last ++ 32 ∷ more)) line (d + 12) (d + 13) (omega arith)
    ∙ ap (λ (t : Bool). c && t)
    (cut_first first (32 ∷ (last ++ 32 ∷ more)) line (d + 13) (d + 23) (omega (arith, ten)) first_is
    ∙ blank_first (last ++ 32 ∷ more) line (d + 23) (d + 24) (omega arith)
    ∙ ap (λ (t : Bool). e && t)
    (cut_first last (32 ∷ more) line (d + 24) (d + 34) (omega (arith, ten_too)) last_is
    ∙ blank_first more line (d + 34) (d + 35) (omega arith)))))
    ∙ six a b c e (has_blank line (d + 34)) (same_bytes more (drop (d + 35) line))

-- a name, if there is one, and a line feed
abbrev name_end : List ℕ → List ℕ
name_end [] = 10 ∷ []
name_end (b ∷ name) = 32 ∷ ((b ∷ name) ++ 10 ∷ [])

-- a line that ends by a name
name_first : (name line : List ℕ) (from : ℕ)
    → same_bytes (name_end name) (drop from line) ≡ ends_by_name name line from
name_first [] line from = refl
name_first (b ∷ name) line from =
    blank_first ((b ∷ name) ++ 10 ∷ []) line from (from + 1) refl
    ∙ ap (λ (t : Bool). has_blank line from && t)
    (text_first (b ∷ name) (10 ∷ []) line (from + 1) (from + 1 + length (b ∷ name)) refl)

-- the value, the unit and the name
back_first : (value unit name line : List ℕ) (from : ℕ)
    → same_bytes (value ++ 32 ∷ (unit ++ name_end name)) (drop from line) ≡ has_back value unit name line from
back_first value unit name line from =
    text_first value (32 ∷ (unit ++ name_end name)) line from (from + length value) refl
    ∙ ap (λ (t : Bool). has_text value line from && t)
    (blank_first (unit ++ name_end name) line (from + length value) (from + length value + 1) refl
    ∙ ap (λ (t : Bool). has_blank line (from + length value) && t)
    (text_first unit (name_end name) line (from + length value + 1) (from + length value + 1 + length unit) refl
    ∙ ap (λ (t : Bool). has_text unit line (from + length value + 1) && t)
    (name_first name line (from + length value + 1 + length unit))))

-- the line of a row, piece by piece
pieces : (rank id first last value unit name : List ℕ)
    → text_line (rank ∷ id ∷ first ∷ last ∷ value ∷ unit ∷ field_unless_empty name)
    ≡ rank ++ 32 ∷ (id ++ 32 ∷ (first ++ 32 ∷ (last ++ 32 ∷ (value ++ 32 ∷ (unit ++ name_end name)))))
pieces rank id first last value unit [] = simp append_assoc
pieces rank id first last value unit (b ∷ name) = simp append_assoc

-- so a line is that of a row whose ID and days were cut out of it, if it has the rest in place
row_spelled : (rank id first last value unit name line : List ℕ)
    → length id ≡ 11 → length first ≡ 10 → length last ≡ 10
    → id ≡ slice_range line (length rank + 1) (length rank + 12)
    → first ≡ slice_range line (length rank + 13) (length rank + 23)
    → last ≡ slice_range line (length rank + 24) (length rank + 34)
    → same_bytes (text_line (rank ∷ id ∷ first ∷ last ∷ value ∷ unit ∷ field_unless_empty name)) line
    ≡ (has_front rank line && has_back value unit name line (length rank + 35))
row_spelled rank id first last value unit name line eleven ten ten_too id_is first_is last_is =
    ap (λ (text : List ℕ). same_bytes text line) (pieces rank id first last value unit name)
    ∙ front_first rank id first last (value ++ 32 ∷ (unit ++ name_end name)) line eleven ten ten_too id_is first_is
    last_is
    ∙ ap (λ (t : Bool). has_front rank line && t) (back_first value unit name line (length rank + 35))

-- a line is that of the row that was cut out of it if and only if it has these at its front and at its back
pub line_spelled : (q : Query) (rank line value unit : List ℕ) (row : Named)
    → Some row ≡ row_in_columns q (length rank) line
    → value ≡ value_text (measure_of_score q.score) (value_of q.score row.0.score)
    → unit ≡ unit_text (measure_of_score q.score) → (n : ℕ) → rank ≡ decimal n
    → (has_front rank line && has_back value unit row.1 line (length rank + 35)) ≡ same_bytes (row_line q n row) line
line_spelled q rank line value unit row e value_is unit_is n rank_is =
    let cut : IsCutOut (length rank) line row = cut_out q (length rank) line row e in
    let first : List ℕ = date_text row.0.first in
    let last : List ℕ = date_text row.0.last in
    let fields : List ℕ → List ℕ → List ℕ → Bool = λ r v u.
    same_bytes (text_line (r ∷ row.0.id.0 ∷ first ∷ last ∷ v ∷ u ∷ field_unless_empty row.1)) line in
    sym (row_spelled rank row.0.id.0 first last value unit row.1 line cut.eleven (omega arith) (omega arith)
    cut.id cut.first cut.last)
    ∙ ap (λ (r : List ℕ). fields r value unit) rank_is
    ∙ ap (λ (v : List ℕ). fields (decimal n) v unit) value_is
    ∙ ap (fields (decimal n) (value_text (measure_of_score q.score) (value_of q.score row.0.score))) unit_is

-- a unit has at most four bytes
pub unit_short : (m : Measure) → length (unit_text m) ≤ 4
unit_short Degrees = omega arith
unit_short Millimetres = omega arith
unit_short WholeMillimetres = omega arith
unit_short Days = omega arith
