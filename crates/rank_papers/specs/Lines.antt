-- The lines of a report or a certificate with their line feeds, and the values that are read of a line.
use Rattle.std.specs.Prelude.{◌≡◌, ◌<◌, ℕ, suc, ◌+◌, ◌-◌, ◌==◌, Bool, ◌&&◌, if◌then◌else◌, List, [], ◌∷◌, length, slice_range, Option, None, Some, Result, Ok, Err, ℤ, pos, neg_ℤ, int_le, ◌^◌}
use Rattle.std.specs.List.{list_all}
use Rattle.ghcn_fields.specs.Meaning.Bytes.{same_bytes}
use Rattle.ghcn_fields.specs.Numbers.{natural, signed_by}
use Rattle.std.specs.Fmt.{signed_decimal}
use Rattle.ghcn_files.specs.Meaning.StationLines.{is_printable}
use Rattle.rank_query.specs.Meaning.Asked.{Query}
use Rattle.rank_query.specs.Reading.{read_query}
use Rattle.rank_papers.specs.Meaning.Report.{query_line}

-- ---- lines

-- a byte at the front of the first line
abbrev pub onto_first : ℕ → List (List ℕ) → List (List ℕ)
onto_first b [] = (b ∷ []) ∷ []
onto_first b (l ∷ ls) = (b ∷ l) ∷ ls

-- a byte before some lines: a line feed is a line of its own
abbrev pub before_lines : ℕ → List (List ℕ) → List (List ℕ)
before_lines b ls = if b == 10 then (b ∷ []) ∷ ls else onto_first b ls

-- the lines of a report or a certificate, each with its line feed; what follows the last one is a line without any
abbrev pub paper_lines : List ℕ → List (List ℕ)
paper_lines [] = []
paper_lines (b ∷ bytes) = before_lines b (paper_lines bytes)

-- the first line of a text and what follows it, if there is a line
abbrev pub IsFirstLineCut : List ℕ → Option (List ℕ × List ℕ) → Type 0
IsFirstLineCut text None = text ≡ []
IsFirstLineCut text (Some cut) = (paper_lines text ≡ cut.0 ∷ paper_lines cut.1) × (length cut.1 < length text)

-- ---- lines of one kind, and an end line with their number

-- one value more at the front, if the rest could be read
abbrev pub and_then : {A : Type 0} → A → Result (List A) ℕ → Result (List A) ℕ
and_then x (Ok xs) = Ok (x ∷ xs)
and_then x (Err n) = Err n

-- nothing comes after the line of this number
abbrev pub nothing_behind : {A : Type 0} → ℕ → List (List ℕ) → Result (List A) ℕ
nothing_behind n [] = Ok []
nothing_behind n (l ∷ ls) = Err (n + 1)

-- the line of this number is the end line, and nothing comes after it; otherwise it is bad
abbrev pub ends_by : {A : Type 0} → ℕ → Bool → List (List ℕ) → Result (List A) ℕ
ends_by n is_end behind = if is_end then nothing_behind n behind else Err n

-- the line of this number says a value, and others follow it, or it is the end line
abbrev pub value_or_end : {A : Type 0} → ℕ → Option A → Bool → List (List ℕ) → Result (List A) ℕ → Result (List A) ℕ
value_or_end n (Some x) is_end behind rest = and_then x rest
value_or_end n None is_end behind rest = ends_by n is_end behind

-- the values of these lines, which come after that many others of their kind, up to an end line with the number of all;
-- the first of the kind is the line of this number, and each is read by how many come before it
abbrev pub up_to_end : {A : Type 0} → ℕ → (ℕ → List ℕ → Option A) → (ℕ → List ℕ) → ℕ → List (List ℕ)
    → Result (List A) ℕ
up_to_end first value_in end n [] = Err (n + first)
up_to_end first value_in end n (l ∷ ls) =
    value_or_end (n + first) (value_in n l) (same_bytes l (end n)) ls (up_to_end first value_in end (suc n) ls)

-- ---- values that are read

-- the value, if its text is this line
abbrev pub exactly : {A : Type 0} → (A → List ℕ) → List ℕ → Option A → Option A
exactly text line None = None
exactly text line (Some x) = if same_bytes (text x) line then Some x else None

-- a number inside 64 bits
abbrev pub is_i64 : ℤ → Bool
is_i64 z = int_le (neg_ℤ (pos (2 ^ 63))) z && int_le z (pos (2 ^ 63 - 1))

-- the number, if it is inside 64 bits
abbrev pub in_i64 : Option ℤ → Option ℤ
in_i64 None = None
in_i64 (Some z) = if is_i64 z then Some z else None

-- the number inside 64 bits that a field writes
abbrev pub number_in : List ℕ → Option ℤ
number_in field = in_i64 (exactly signed_decimal field (signed_by natural field))

-- a query that was read
abbrev pub ok_query : {E : Type 0} → Result Query E → Option Query
ok_query (Ok q) = Some q
ok_query (Err e) = None

-- the query that a text denotes, if its bytes can be printed
abbrev pub query_of_text : List ℕ → Option Query
query_of_text text = if list_all is_printable text then ok_query (read_query text) else None

-- the query whose line this is
abbrev pub query_in : List ℕ → Option Query
query_in line = exactly query_line line (query_of_text (slice_range line 6 (length line - 1)))
