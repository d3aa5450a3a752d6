-- The fields of a row: where a word ends, and what the columns hold.
use Rattle.std.proofs.Common.{◌≡◌, ℕ, suc, ◌+◌, ◌-◌, ◌≤◌, ◌<◌, Bool, true, false, cond, List, length, take, Option, Some, None, refl, sym, ap, ◌∙◌, subst, decimal, arith, FitsSigned, w64}
use Rattle.std.specs.Prelude.{◌==◌, ◌&&◌, not, nat_le, nat_lt, ℤ, slice_range, filter}
use Rattle.std.specs.List.{list_all}
use Rattle.std.specs.Option.{option_map}
use Rattle.std.proofs.lemmas.Bool.{and_parts, false_from_ne_true}
use Rattle.std.proofs.lemmas.Bool.Decides.{nat_tests}
use Rattle.std.proofs.lemmas.List.{take_all}
use Rattle.std.proofs.lemmas.List.Sums.{prefix_len_is}
use Rattle.memchr.specs.Find.{IsFirstByte, is_byte}
use Rattle.ghcn_fields.specs.Meaning.Bytes.{same_bytes}
use Rattle.ghcn_fields.specs.Meaning.Dates.{date_text}
use Rattle.ghcn_fields.specs.Dates.{read_date}
use Rattle.ghcn_fields.proofs.DateTexts.{read_date-law}
use Rattle.ghcn_files.specs.Ids.{is_id}
use Rattle.ghcn_files.specs.Meaning.StationLines.{is_printable}
use Rattle.ghcn_fields.specs.Numbers.{natural, signed_by}
use Rattle.rank_query.specs.Meaning.Asked.{Query}
use Rattle.rank_papers.specs.Meaning.Values.{measure_of_score, unit_text, value_of}
use Rattle.rank_papers.specs.Report.{Named}
use Rattle.rank_papers.specs.Lines.{exactly}
use Rattle.rank_papers.specs.ReportLines.{row_line, score_in, row_with, is_name, first_word, row_in_columns, row_in}
use Rattle.rank_papers.specs.ReportLines.{row_behind, ends_in_print}
use Rattle.rank_papers.proofs.LineValues.{in_i64-some}
use Rattle.rank_papers.proofs.ReadLines.{id_long}

-- ---- words

-- bytes that aren't blanks
abbrev is_inside : ℕ → Bool
is_inside b = not (b == 32)

-- a word ends at the first blank
pub first_word-at : (text : List ℕ) (end : ℕ) → IsFirstByte (is_byte 32) text (Some end)
    → take end text ≡ first_word text
first_word-at text end first =
    let high : end < length text = first.0.high in
    ap (λ (n : ℕ). take n text) (sym (prefix_len_is is_inside text end 0 (omega arith)
    (λ k lt. ap not (false_from_ne_true _ (first.0.before k (omega arith) lt))) (λ lt. ap not first.1)))

-- and with the text if there is none
pub first_word-whole : (text : List ℕ) → IsFirstByte (is_byte 32) text None → text ≡ first_word text
first_word-whole text none =
    sym (take_all (length text) text (omega arith))
    ∙ ap (λ (n : ℕ). take n text) (sym (prefix_len_is is_inside text (length text) 0 (omega arith)
    (λ k lt. ap not (false_from_ne_true _ (none k (omega arith) lt))) (λ lt. absurd (omega arith))))

-- ---- the columns of a row

-- the printed value after a rank of that many digits
abbrev pub value_at : ℕ → List ℕ → List ℕ
value_at digits line = first_word (slice_range line (digits + 35) (length line - 1))

-- the row of the columns of a line, with this value's place and this score
abbrev pub row_at : Query → ℕ → List ℕ → List ℕ → Option ℤ → Option Named
row_at q digits line value score =
    row_with
    (slice_range line (digits + 1) (digits + 12))
    (slice_range line (digits + length value + length (unit_text (measure_of_score q.score)) + 37) (length line - 1))
    (read_date (slice_range line (digits + 13) (digits + 23)))
    (read_date (slice_range line (digits + 24) (digits + 34)))
    score

-- a score that is read is inside 64 bits
pub score_in-fits : (q : Query) (field : List ℕ) (z : ℤ) → score_in q field ≡ Some z → FitsSigned w64 z
score_in-fits q field z e =
    in_i64-some (option_map (value_of q.score) (signed_by natural (filter (λ b. not (b == 46)) field))) z e

-- with the value in its column, and the score of that value, that is the row in the columns
pub row_at-is : (q : Query) (digits : ℕ) (line value : List ℕ) (score : Option ℤ) → value ≡ value_at digits line
    → score ≡ score_in q value → row_at q digits line value score ≡ row_in_columns q digits line
row_at-is q digits line value score v s =
    ap (row_at q digits line value) s
    ∙ ap (λ (word : List ℕ). row_at q digits line word (score_in q word)) v

-- the columns of a row that were cut out of a line with this value
pub record AreParts (q : Query) (digits : ℕ) (line value id name : List ℕ) (first last : Option ℤ) : Type 0 where
  pub id_is : id ≡ slice_range line (digits + 1) (digits + 12)
  pub name_is : name
      ≡ slice_range line (digits + length value + length (unit_text (measure_of_score q.score)) + 37) (length line - 1)
  pub first_is : first ≡ read_date (slice_range line (digits + 13) (digits + 23))
  pub last_is : last ≡ read_date (slice_range line (digits + 24) (digits + 34))

-- the row of the columns that were cut out
pub row_with-parts : {q : Query} {digits : ℕ} {line value id name : List ℕ} {first last : Option ℤ}
    → AreParts q digits line value id name first last → (score : Option ℤ)
    → row_with id name first last score ≡ row_at q digits line value score
row_with-parts p score = cc (p.id_is, p.name_is, p.first_is, p.last_is)

-- without a score there is no row
row_with-none : (id name : List ℕ) (first last : Option ℤ) → row_with id name first last None ≡ None
row_with-none id name None last = refl
row_with-none id name (Some first) None = refl
row_with-none id name (Some first) (Some last) = refl

-- nor is there one in the columns
pub row_at-none : (q : Query) (digits : ℕ) (line value : List ℕ) → row_at q digits line value None ≡ None
row_at-none q digits line value =
    row_with-none
    (slice_range line (digits + 1) (digits + 12))
    (slice_range line (digits + length value + length (unit_text (measure_of_score q.score)) + 37) (length line - 1))
    (read_date (slice_range line (digits + 13) (digits + 23)))
    (read_date (slice_range line (digits + 24) (digits + 34)))

-- a row that is made of these has them, and its ID and its name pass their tests
parts_of_row : (id name : List ℕ) (first last score : Option ℤ) (row : Named)
    → Some row ≡ row_with id name first last score
    → (first ≡ Some row.0.first) × (last ≡ Some row.0.last) × (row.0.id.0 ≡ id) × (row.1 ≡ name)
    × (is_id id ≡ true) × (is_name name ≡ true)
parts_of_row id name None last score row e = absurd cc
parts_of_row id name (Some first) None score row e = absurd cc
parts_of_row id name (Some first) (Some last) None row e = absurd cc
parts_of_row id name (Some first) (Some last) (Some score) row e =
    let made : Named = (record { id = record { 0 = id }; first = first; last = last; score = score }, name) in
    elim (is_id id && is_name name) as (λ b. (is_id id && is_name name) ≡ b → Some row ≡ cond b (Some made) None
    → (Some first ≡ Some row.0.first) × (Some last ≡ Some row.0.last) × (row.0.id.0 ≡ id) × (row.1 ≡ name)
    × (is_id id ≡ true) × (is_name name ≡ true)) [
      | true ↦ λ t f.
          let same : made ≡ row = cc in
          let both = and_parts (is_id id) (is_name name) t in (
            ap (λ (r : Named). Some r.0.first) same,
            ap (λ (r : Named). Some r.0.last) same,
            ap (λ (r : Named). r.0.id.0) (sym same),
            ap (λ (r : Named). r.1) (sym same),
            both.0,
            both.1,
          )
      | false ↦ λ t f. absurd cc
    ] refl e

-- the ID and the days of a row are in their columns, and its name is short
pub record IsCutOut (digits : ℕ) (line : List ℕ) (row : Named) : Type 0 where
  pub eleven : length row.0.id.0 ≡ 11
  pub id : row.0.id.0 ≡ slice_range line (digits + 1) (digits + 12)
  pub first : date_text row.0.first ≡ slice_range line (digits + 13) (digits + 23)
  pub last : date_text row.0.last ≡ slice_range line (digits + 24) (digits + 34)
  pub short : length row.1 ≤ 30

-- a name has at most thirty bytes
name_short : (name : List ℕ) → is_name name ≡ true → length name ≤ 30
name_short name h =
    let both = and_parts (nat_le (length name) 30 && list_all is_printable name) (ends_in_print name) h in
    let few = (and_parts (nat_le (length name) 30) (list_all is_printable name) both.0).0 in
    grind (arith, nat_tests)

-- so it is with a row that was read of its columns
pub cut_out : (q : Query) (digits : ℕ) (line : List ℕ) (row : Named) → Some row ≡ row_in_columns q digits line
    → IsCutOut digits line row
cut_out q digits line row e =
    let value : List ℕ = value_at digits line in
    let id : List ℕ = slice_range line (digits + 1) (digits + 12) in
    let name : List ℕ =
    slice_range line (digits + length value + length (unit_text (measure_of_score q.score)) + 37) (length line - 1) in
    let first : List ℕ = slice_range line (digits + 13) (digits + 23) in
    let last : List ℕ = slice_range line (digits + 24) (digits + 34) in
    let parts = parts_of_row id name (read_date first) (read_date last) (score_in q value) row e in record {
      eleven = ap length parts.2 ∙ id_long id parts.4;
      id = parts.2;
      first = sym ((read_date-law first row.0.first).0 parts.0).1;
      last = sym ((read_date-law last row.0.last).0 parts.1).1;
      short = subst (λ (n : List ℕ). length n ≤ 30) (sym parts.3) (name_short name parts.5);
    }

-- ---- the row whose line it is

module _ (q : Query) (rank : ℕ) (line : List ℕ) (digits : ℕ) where
  -- if the columns hold no row, the line is that of none
  pub row_in-none : digits ≡ length (decimal rank) → None ≡ row_in_columns q digits line → None ≡ row_in q rank line
  row_in-none d e = ap (exactly (row_line q rank) line) (e ∙ ap (λ (n : ℕ). row_in_columns q n line) d)

  -- if they hold one, its own line is compared
  row_in-some : (row : Named) → digits ≡ length (decimal rank) → Some row ≡ row_in_columns q digits line
      → exactly (row_line q rank) line (Some row) ≡ row_in q rank line
  row_in-some row d e = ap (exactly (row_line q rank) line) (e ∙ ap (λ (n : ℕ). row_in_columns q n line) d)

  -- and is the line
  pub row_in-own : (row : Named) (same : Bool) → digits ≡ length (decimal rank)
      → Some row ≡ row_in_columns q digits line → same ≡ same_bytes (row_line q rank row) line
      → same ≡ true → Some row ≡ row_in q rank line
  row_in-own row same d e is t = ap (λ (b : Bool). cond b (Some row) None) (sym t ∙ is) ∙ row_in-some row d e

  -- or is another
  pub row_in-other : (row : Named) (same : Bool) → digits ≡ length (decimal rank)
      → Some row ≡ row_in_columns q digits line → same ≡ same_bytes (row_line q rank row) line
      → same ≡ false → None ≡ row_in q rank line
  row_in-other row same d e is t = ap (λ (b : Bool). cond b (Some row) None) (sym t ∙ is) ∙ row_in-some row d e

-- if there may be one more row, it is the next
pub row_behind-next : (q : Query) (n : ℕ) (line : List ℕ) → n < q.k → row_in q (n + 1) line ≡ row_behind q n line
row_behind-next q n line below =
    let next : n + 1 ≡ suc n = omega arith in
    let test : nat_lt n q.k ≡ true = grind (arith, nat_tests) in
    ap (λ (m : ℕ). row_in q m line) next
    ∙ sym (ap (λ (b : Bool). cond b (row_in q (suc n) line) None) test)
