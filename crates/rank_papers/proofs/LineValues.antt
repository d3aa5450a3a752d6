-- What is read of a line is what its text says, whether it is a line of a report or of a certificate.
use Rattle.std.proofs.Common.{◌≡◌, ℕ, ◌-◌, Bool, true, false, cond, List, [], ◌∷◌, length, Option, Some, None, Result, Ok, Err, refl, sym, ap, ◌∙◌, subst, arith, FitsSigned, w64}
use Rattle.std.specs.Prelude.{◌==◌, ℤ, slice_range}
use Rattle.std.specs.List.{flat_map, list_all}
use Rattle.std.specs.Option.{option_map_or}
use Rattle.std.specs.Cmp.Lexicographic.{bytes_decides}
use Rattle.std.proofs.lemmas.Int.{ints}
use Rattle.ghcn_fields.specs.Meaning.Bytes.{same_bytes}
use Rattle.ghcn_files.specs.Meaning.StationLines.{is_printable}
use Rattle.rank_query.specs.Meaning.Asked.{Query, IsAsked}
use Rattle.rank_query.specs.Reading.{read_query}
use Rattle.rank_query.proofs.ReadAsked.{read_asked}
use Rattle.rank_papers.specs.Meaning.Report.{query_line}
use Rattle.rank_papers.specs.Lines.{paper_lines, onto_first, exactly, is_i64, in_i64, ok_query, query_in, query_of_text}

-- ---- lines, one after the other, are the text

-- lines, one after the other
abbrev joined : List (List ℕ) → List ℕ
joined ls = flat_map (λ l. l) ls

-- a byte more at the front
joined-first : (b : ℕ) (ls : List (List ℕ)) → joined (onto_first b ls) ≡ b ∷ joined ls
joined-first b [] = refl
joined-first b (l ∷ ls) = refl

-- the lines of a text are the text
joined-lines : (bytes : List ℕ) → joined (paper_lines bytes) ≡ bytes
joined-lines [] = refl
joined-lines (b ∷ bytes) = elim (b == 10) as (λ t. joined (cond t ((b ∷ []) ∷ paper_lines bytes) (onto_first b
    (paper_lines bytes))) ≡ b ∷ bytes) [
      | true ↦ ap (λ (t : List ℕ). b ∷ t) (joined-lines bytes)
      | false ↦ joined-first b (paper_lines bytes) ∙ ap (λ (t : List ℕ). b ∷ t) (joined-lines bytes)
    ]

-- so texts with the same lines are the same
pub same_text : (a b : List ℕ) → paper_lines a ≡ paper_lines b → a ≡ b
same_text a b e = sym (joined-lines a) ∙ ap joined e ∙ joined-lines b

-- ---- a value that is read by its one text

-- what is read is the value that was guessed, and the line is its text
pub exactly-some : {A : Type 0} (text : A → List ℕ) (line : List ℕ) (o : Option A) (x : A)
    → exactly text line o ≡ Some x → (o ≡ Some x) × (line ≡ text x)
exactly-some text line None x e = absurd cc
exactly-some text line (Some y) x e = elim (same_bytes (text y) line) as (λ b. same_bytes (text y) line ≡ b
    → cond b (Some y) None ≡ Some x → (Some y ≡ Some x) × (line ≡ text x)) [
      | true ↦ λ s f. let same : y ≡ x = cc in (f, sym ((bytes_decides (text y) line).0 s) ∙ ap text same)
      | false ↦ λ s f. absurd cc
    ] refl e

-- a value that was guessed is read of its text
pub exactly-from : {A : Type 0} (text : A → List ℕ) (o : Option A) (x : A) → o ≡ Some x
    → exactly text (text x) o ≡ Some x
exactly-from text o x e = ap (exactly text (text x)) e
    ∙ ap (λ (b : Bool). cond b (Some x) None) ((bytes_decides (text x) (text x)).1 refl)

-- ---- numbers

-- a number that passes the test is inside 64 bits
fits-i64 : (z : ℤ) → is_i64 z ≡ true → FitsSigned w64 z
fits-i64 z h = grind (arith, ints)

-- so is one that was let through
pub in_i64-some : (o : Option ℤ) (z : ℤ) → in_i64 o ≡ Some z → FitsSigned w64 z
in_i64-some None z e = absurd cc
in_i64-some (Some y) z e = elim (is_i64 y) as (λ b. is_i64 y ≡ b → cond b (Some y) None ≡ Some z → FitsSigned w64 z) [
  | true ↦ λ s f. let same : y ≡ z = cc in subst (λ (x : ℤ). FitsSigned w64 x) same (fits-i64 y s)
  | false ↦ λ s f. absurd cc
] refl e

-- ---- what goes on after a line

-- what goes on with a value had one
pub option-ok : {A B : Type 0} (f : A → Result B ℕ) (o : Option A) (n : ℕ) (v : B)
    → option_map_or f o (Err n) ≡ Ok v → (x : A) × (o ≡ Some x) × (f x ≡ Ok v)
option-ok f None n v h = absurd cc
option-ok f (Some x) n v h = (x, refl, h)

-- what goes on after a test passed it
pub cond-ok : {B : Type 0} (b : Bool) (r : Result B ℕ) (n : ℕ) (v : B) → cond b r (Err n) ≡ Ok v
    → (b ≡ true) × (r ≡ Ok v)
cond-ok true r n v h = (refl, h)
cond-ok false r n v h = absurd cc

-- ---- a query

-- what was found in a query that was read
ok_query-asked : {E : Type 0} (r : Result Query E) (q : Query) → ok_query r ≡ Some q → r ≡ Ok q
ok_query-asked (Ok p) q h = let same : p ≡ q = cc in ap Ok same
ok_query-asked (Err e) q h = absurd cc

-- a query that is read of a text can be asked
text-asked : (text : List ℕ) (q : Query) → query_of_text text ≡ Some q → IsAsked q
text-asked text q h = elim (list_all is_printable text) as (λ b. cond b (ok_query (read_query text)) None ≡ Some q
    → IsAsked q) [
      | true ↦ λ f. read_asked text q (ok_query-asked (read_query text) q f)
      | false ↦ λ f. absurd cc
    ] h

-- a query that is read of a line can be asked, and its line is this one
pub query_in-is : (line : List ℕ) (q : Query) → query_in line ≡ Some q → IsAsked q × (line ≡ query_line q)
query_in-is line q h =
    let parts = exactly-some query_line line (query_of_text (slice_range line 6 (length line - 1))) q h in
    (text-asked (slice_range line 6 (length line - 1)) q parts.0, parts.1)
