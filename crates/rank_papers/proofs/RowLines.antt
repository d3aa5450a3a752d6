-- The line of a row is read as the row.
use Rattle.std.proofs.Common.{◌≡◌, ℕ, suc, ◌+◌, ◌-◌, ◌<◌, Bool, true, cond, not, List, [], ◌∷◌, ◌++◌, length, take, drop, Option, Some, None, refl, sym, ap, ◌∙◌, append_assoc, length-append, arith, decimal}
use Rattle.std.specs.Prelude.{◌==◌, ◌&&◌, ℤ, slice_range, nat_lt}
use Rattle.std.specs.List.{list_all, join_with_byte, take_while}
use Rattle.std.proofs.lemmas.Bool.{and_parts}
use Rattle.std.proofs.lemmas.Bool.Decides.{nat_tests}
use Rattle.std.proofs.lemmas.List.Sums.{take_while-cons}
use Rattle.ghcn_fields.specs.Meaning.Dates.{date_text}
use Rattle.ghcn_fields.specs.Dates.{read_date}
use Rattle.ghcn_fields.proofs.DateTexts.{read_date-law}
use Rattle.ghcn_files.specs.Meaning.Ids.{is_visible}
use Rattle.rank_query.specs.Meaning.Asked.{Query}
use Rattle.rank_papers.specs.Meaning.Values.{measure_of_score, unit_text, value_text, value_of}
use Rattle.rank_papers.specs.Meaning.Report.{field_unless_empty, text_line}
use Rattle.rank_papers.specs.Report.{Named}
use Rattle.rank_papers.specs.ReportLines.{IsRow, is_name, row_line, score_in, row_with, first_word, row_in_columns, row_in, row_behind}
use Rattle.rank_papers.proofs.LineValues.{exactly-from}
use Rattle.rank_papers.proofs.ReadLines.{id_long}
use Rattle.rank_papers.proofs.ValueTexts.{score_in-text, value_fits, value_visible}
use Rattle.rank_papers.proofs.WrittenLines.{pass-weaker, between, last_field}

-- ---- words

-- a byte that isn't a blank
abbrev pub no_blank : ℕ → Bool
no_blank b = not (b == 32)

-- a visible byte isn't a blank
pub visible_no_blank : (b : ℕ) → is_visible b ≡ true → no_blank b ≡ true
visible_no_blank b h = grind (arith, nat_tests)

-- bytes without a blank are the first word if a blank follows
pub word_first : (word behind : List ℕ) → list_all no_blank word ≡ true → take_while no_blank (word ++ 32 ∷ behind) ≡
    word
word_first [] behind h = take_while-cons no_blank 32 behind
word_first (b ∷ word) behind h =
    let both = and_parts (no_blank b) (list_all no_blank word) h in
    take_while-cons no_blank b (word ++ 32 ∷ behind)
    ∙ ap (λ (t : Bool). cond t (b ∷ take_while no_blank (word ++ 32 ∷ behind)) []) both.0
    ∙ ap (λ (l : List ℕ). b ∷ l) (word_first word behind both.1)

-- ---- columns

-- a unit, and a name if there is one
abbrev unit_and_name : List ℕ → List ℕ → List ℕ
unit_and_name unit name = join_with_byte 32 (unit ∷ field_unless_empty name)

-- the line of a row, by its fields
abbrev line_of : List ℕ → List ℕ → List ℕ → List ℕ → List ℕ → List ℕ → List ℕ → List ℕ
line_of rank id first last value unit name =
    text_line (rank ∷ id ∷ first ∷ last ∷ value ∷ unit ∷ field_unless_empty name)

-- what comes before its value
abbrev before_value : List ℕ → List ℕ → List ℕ → List ℕ → List ℕ
before_value rank id first last = rank ++ 32 ∷ (id ++ 32 ∷ (first ++ 32 ∷ (last ++ 32 ∷ [])))

module _ (rank id first last value unit name : List ℕ) (eleven : length id ≡ 11) (ten : length first ≡ 10)
    (ten_too : length last ≡ 10) where
  -- such a line
  abbrev line : List ℕ
  line = line_of rank id first last value unit name

  -- what comes before its value
  abbrev front : List ℕ
  front = before_value rank id first last

  -- how long that is
  front_long : length front ≡ length rank + 35
  front_long =
      omega (
        arith,
        eleven,
        ten,
        ten_too,
        length-append rank (32 ∷ (id ++ 32 ∷ (first ++ 32 ∷ (last ++ 32 ∷ [])))),
        length-append id (32 ∷ (first ++ 32 ∷ (last ++ 32 ∷ []))),
        length-append first (32 ∷ (last ++ 32 ∷ [])),
        length-append last (32 ∷ []),
      )

  -- what follows, up to the line feed
  abbrev rest : List ℕ
  rest = value ++ 32 ∷ unit_and_name unit name

  -- so the line has these two parts
  line_parts : line ≡ front ++ (rest ++ 10 ∷ [])
  line_parts = in_two (unit_and_name unit name)
    where
      in_two : (tail : List ℕ)
          → (rank ++ 32 ∷ (id ++ 32 ∷ (first ++ 32 ∷ (last ++ 32 ∷ (value ++ 32 ∷ tail))))) ++ 10 ∷ []
          ≡ (rank ++ 32 ∷ (id ++ 32 ∷ (first ++ 32 ∷ (last ++ 32 ∷ [])))) ++ ((value ++ 32 ∷ tail) ++ 10 ∷ [])
      in_two tail = simp append_assoc

  -- the column of the ID
  id_column : slice_range line (length rank + 1) (length rank + 12) ≡ id
  id_column =
      ap (λ (l : List ℕ). slice_range l (length rank + 1) (length rank + 12)) (line_parts ∙ parts (rest ++ 10 ∷ []))
      ∙ between (length rank + 1) (length rank + 12) (rank ++ 32 ∷ []) id
      (32 ∷ (first ++ 32 ∷ (last ++ 32 ∷ (rest ++ 10 ∷ []))))
      (omega (arith, length-append rank (32 ∷ []))) (omega (arith, eleven))
    where
      parts : (tail : List ℕ) → (rank ++ 32 ∷ (id ++ 32 ∷ (first ++ 32 ∷ (last ++ 32 ∷ [])))) ++ tail
          ≡ (rank ++ 32 ∷ []) ++ (id ++ (32 ∷ (first ++ 32 ∷ (last ++ 32 ∷ tail))))
      parts tail = simp append_assoc

  -- the column of the first day
  first_column : slice_range line (length rank + 13) (length rank + 23) ≡ first
  first_column =
      ap (λ (l : List ℕ). slice_range l (length rank + 13) (length rank + 23)) (line_parts ∙ parts (rest ++ 10 ∷ []))
      ∙ between (length rank + 13) (length rank + 23) (rank ++ 32 ∷ (id ++ 32 ∷ [])) first
      (32 ∷ (last ++ 32 ∷ (rest ++ 10 ∷ [])))
      (omega (arith, eleven, length-append rank (32 ∷ (id ++ 32 ∷ [])), length-append id (32 ∷ [])))
      (omega (arith, ten))
    where
      parts : (tail : List ℕ) → (rank ++ 32 ∷ (id ++ 32 ∷ (first ++ 32 ∷ (last ++ 32 ∷ [])))) ++ tail
          ≡ (rank ++ 32 ∷ (id ++ 32 ∷ [])) ++ (first ++ (32 ∷ (last ++ 32 ∷ tail)))
      parts tail = simp append_assoc

  -- the column of the last day
  last_column : slice_range line (length rank + 24) (length rank + 34) ≡ last
  last_column =
      ap (λ (l : List ℕ). slice_range l (length rank + 24) (length rank + 34)) (line_parts ∙ parts (rest ++ 10 ∷ []))
      ∙ between (length rank + 24) (length rank + 34) (rank ++ 32 ∷ (id ++ 32 ∷ (first ++ 32 ∷ []))) last
      (32 ∷ (rest ++ 10 ∷ []))
      (omega (
        arith,
        eleven,
        ten,
        length-append rank (32 ∷ (id ++ 32 ∷ (first ++ 32 ∷ []))),
        length-append id (32 ∷ (first ++ 32 ∷ [])),
        length-append first (32 ∷ []),
      ))
      (omega (arith, ten_too))
    where
      parts : (tail : List ℕ) → (rank ++ 32 ∷ (id ++ 32 ∷ (first ++ 32 ∷ (last ++ 32 ∷ [])))) ++ tail
          ≡ (rank ++ 32 ∷ (id ++ 32 ∷ (first ++ 32 ∷ []))) ++ (last ++ (32 ∷ tail))
      parts tail = simp append_assoc

  -- the first word after them is the value
  value_word : list_all no_blank value ≡ true
      → first_word (slice_range line (length rank + 35) (length line - 1)) ≡ value
  value_word plain =
      ap (λ (l : List ℕ). first_word (slice_range l (length rank + 35) (length l - 1))) line_parts
      ∙ ap first_word (last_field (length rank + 35) front rest (sym front_long))
      ∙ word_first value (unit_and_name unit name) plain

  -- where a line ends
  line_long : length line ≡ length front + (length value + (length (unit_and_name unit name) + 2))
  line_long =
      ap length line_parts ∙ omega (
        arith,
        length-append front (rest ++ 10 ∷ []),
        length-append rest (10 ∷ []),
        length-append value (32 ∷ unit_and_name unit name),
      )

-- the column of an empty name is empty
column-past : (xs : List ℕ) (n m : ℕ) → m < n → slice_range xs n m ≡ []
column-past xs n m past = let none : m - n ≡ 0 = omega (arith, past) in ap (λ (k : ℕ). take k (drop n xs)) none

-- the column of a name
name_column : (rank id first last value unit name : List ℕ) → length id ≡ 11 → length first ≡ 10 → length last ≡ 10
    → slice_range (line_of rank id first last value unit name)
    (length rank + length value + length unit + 37) (length (line_of rank id first last value unit name) - 1) ≡ name
name_column rank id first last value unit [] eleven ten ten_too =
    let l : List ℕ = line_of rank id first last value unit [] in
    column-past l (length rank + length value + length unit + 37) (length l - 1)
    (omega (
      arith,
      line_long rank id first last value unit [] eleven ten ten_too,
      front_long rank id first last value unit [] eleven ten ten_too,
    ))
name_column rank id first last value unit (b ∷ name) eleven ten ten_too =
    ap (λ (l : List ℕ). slice_range l (length rank + length value + length unit + 37) (length l - 1)) parts
    ∙ last_field (length rank + length value + length unit + 37)
    (before_value rank id first last ++ (value ++ 32 ∷ (unit ++ 32 ∷ []))) (b ∷ name)
    (omega (
      arith,
      front_long rank id first last value unit (b ∷ name) eleven ten ten_too,
      length-append (before_value rank id first last) (value ++ 32 ∷ (unit ++ 32 ∷ [])),
      length-append value (32 ∷ (unit ++ 32 ∷ [])),
      length-append unit (32 ∷ []),
    ))
  where
    parts : line_of rank id first last value unit (b ∷ name)
        ≡ (before_value rank id first last ++ (value ++ 32 ∷ (unit ++ 32 ∷ []))) ++ ((b ∷ name) ++ 10 ∷ [])
    parts = simp append_assoc

-- ---- a row

module _ (q : Query) (row : Named) (is : IsRow row) where
  -- the value that is printed for the row
  abbrev value_of_row : List ℕ
  value_of_row = value_text (measure_of_score q.score) (value_of q.score row.0.score)

  -- it is visible
  pub row_value_visible : list_all is_visible value_of_row ≡ true
  row_value_visible =
      value_visible (measure_of_score q.score) (value_of q.score row.0.score) (value_fits q.score row.0.score is.score)

  -- the row in the columns of its line
  columns_read : (rank : List ℕ) → row_in_columns q (length rank)
      (line_of rank row.0.id.0 (date_text row.0.first) (date_text row.0.last) value_of_row
      (unit_text (measure_of_score q.score)) row.1) ≡ Some row
  columns_read rank =
      let id : List ℕ = row.0.id.0 in
      let first : List ℕ = date_text row.0.first in
      let last : List ℕ = date_text row.0.last in
      let value : List ℕ = value_text (measure_of_score q.score) (value_of q.score row.0.score) in
      let unit : List ℕ = unit_text (measure_of_score q.score) in
      let d : ℕ = length rank in
      let l : List ℕ = line_of rank id first last value unit row.1 in
      let eleven : length id ≡ 11 = id_long id is.id in
      let ten : length first ≡ 10 = omega arith in
      let ten_too : length last ≡ 10 = omega arith in
      let plain : list_all no_blank value ≡ true =
      pass-weaker is_visible no_blank visible_no_blank value row_value_visible in
      let id_at : List ℕ = slice_range l (d + 1) (d + 12) in
      let first_at : List ℕ = slice_range l (d + 13) (d + 23) in
      let last_at : List ℕ = slice_range l (d + 24) (d + 34) in
      let name_at : ℕ → List ℕ = λ n. slice_range l (d + n + length unit + 37) (length l - 1) in
      ap (λ (v : List ℕ). row_with id_at (name_at (length v)) (read_date first_at) (read_date last_at) (score_in q v))
      (value_word rank id first last value unit row.1 eleven ten ten_too plain)
      ∙ ap (λ (n : List ℕ). row_with id_at n (read_date first_at) (read_date last_at) (score_in q value))
      (name_column rank id first last value unit row.1 eleven ten ten_too)
      ∙ ap (λ (i : List ℕ). row_with i row.1 (read_date first_at) (read_date last_at) (score_in q value))
      (id_column rank id first last value unit row.1 eleven ten ten_too)
      ∙ ap (λ (x : List ℕ). row_with id row.1 (read_date x) (read_date last_at) (score_in q value))
      (first_column rank id first last value unit row.1 eleven ten ten_too)
      ∙ ap (λ (x : List ℕ). row_with id row.1 (read_date first) (read_date x) (score_in q value))
      (last_column rank id first last value unit row.1 eleven ten ten_too)
      ∙ ap (λ (o : Option ℤ). row_with id row.1 o (read_date last) (score_in q value))
      ((read_date-law first row.0.first).1 (is.first, refl))
      ∙ ap (λ (o : Option ℤ). row_with id row.1 (Some row.0.first) o (score_in q value))
      ((read_date-law last row.0.last).1 (is.last, refl))
      ∙ ap (λ (o : Option ℤ). row_with id row.1 (Some row.0.first) (Some row.0.last) o)
      (score_in-text q row.0.score is.score)
      ∙ ap (λ (b : Bool). cond (b && is_name row.1) (Some row) None) is.id
      ∙ ap (λ (b : Bool). cond b (Some row) None) is.name

  -- the line of a row is read as it
  row_in-line : (rank : ℕ) → row_in q rank (row_line q rank row) ≡ Some row
  row_in-line rank =
      exactly-from (row_line q rank) (row_in_columns q (length (decimal rank)) (row_line q rank row)) row
      (columns_read (decimal rank))

  -- also after others, if there may be one more
  pub row_behind-line : (n : ℕ) → n < q.k → row_behind q n (row_line q (suc n) row) ≡ Some row
  row_behind-line n below =
      let one : nat_lt n q.k ≡ true = grind (arith, nat_tests) in
      ap (λ (b : Bool). cond b (row_in q (suc n) (row_line q (suc n) row)) None) one ∙ row_in-line (suc n)
