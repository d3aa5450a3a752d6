-- Lines that are written are cut and read again.
use Rattle.std.proofs.Common.{◌≡◌, ℕ, zero, suc, ◌+◌, ◌-◌, ◌/◌, ◌%◌, ◌<◌, Bool, true, false, cond, List, [], ◌∷◌, ◌++◌, length, take, drop, refl, ap, ◌∙◌, arith, append_assoc, length-append, decimal}
use Rattle.std.specs.Prelude.{◌==◌, ◌&&◌, ℤ, pos, negsuc, slice_range, IsUtf8}
use Rattle.std.specs.Fmt.{digits, digits_onto, digit_glyph, signed_decimal}
use Rattle.std.specs.List.{list_all, join_with_byte}
use Rattle.std.proofs.lemmas.Bool.{and_parts}
use Rattle.std.proofs.lemmas.Bool.Decides.{nat_tests}
use Rattle.std.proofs.lemmas.List.Sums.{AllPass-from_list_all}
use Rattle.std.proofs.lemmas.Str.{IsUtf8-from_ascii}
use Rattle.std.proofs.lemmas.Str.Ascii.{IsAscii-from_all}
use Rattle.ghcn_files.specs.Meaning.Ids.{is_visible}
use Rattle.ghcn_files.specs.Meaning.StationLines.{is_printable}
use Rattle.rank_papers.specs.Meaning.Report.{text_line}
use Rattle.rank_papers.specs.Lines.{paper_lines, before_lines, onto_first}

-- ---- a line of bytes that can be printed

-- a byte that can be printed isn't a line feed
no_feed : (b : ℕ) → is_printable b ≡ true → (b == 10) ≡ false
no_feed b h = grind (arith, nat_tests)

-- a line of bytes that can be printed is cut off at its line feed
lines-of_line : (body rest : List ℕ) → list_all is_printable body ≡ true
    → paper_lines (body ++ 10 ∷ rest) ≡ (body ++ 10 ∷ []) ∷ paper_lines rest
lines-of_line [] rest h = refl
lines-of_line (b ∷ body) rest h =
    let both = and_parts (is_printable b) (list_all is_printable body) h in
    ap (before_lines b) (lines-of_line body rest both.1)
    ∙ ap (λ (t : Bool). cond t ((b ∷ []) ∷ (body ++ 10 ∷ []) ∷ paper_lines rest)
    (onto_first b ((body ++ 10 ∷ []) ∷ paper_lines rest))) (no_feed b both.0)

-- so is a line of fields
pub lines-of_fields : (fields : List (List ℕ)) (rest : List ℕ)
    → list_all is_printable (join_with_byte 32 fields) ≡ true
    → paper_lines (text_line fields ++ rest) ≡ text_line fields ∷ paper_lines rest
lines-of_fields fields rest h =
    ap paper_lines (append_assoc (join_with_byte 32 fields) (10 ∷ []) rest)
    ∙ lines-of_line (join_with_byte 32 fields) rest h

-- ---- what can be printed

-- bytes that pass a test pass a weaker one
pub pass-weaker : (p q : ℕ → Bool) → ((b : ℕ) → p b ≡ true → q b ≡ true) → (xs : List ℕ) → list_all p xs ≡ true
    → list_all q xs ≡ true
pass-weaker p q weaker [] h = refl
pass-weaker p q weaker (x ∷ xs) h =
    let both = and_parts (p x) (list_all p xs) h in
    ap (λ (t : Bool). t && list_all q xs) (weaker x both.0) ∙ pass-weaker p q weaker xs both.1

-- two texts that can be printed
pub printable-append : (xs ys : List ℕ) → list_all is_printable xs ≡ true → list_all is_printable ys ≡ true
    → list_all is_printable (xs ++ ys) ≡ true
printable-append [] ys h k = k
printable-append (x ∷ xs) ys h k =
    let both = and_parts (is_printable x) (list_all is_printable xs) h in
    ap (λ (t : Bool). t && list_all is_printable (xs ++ ys)) both.0 ∙ printable-append xs ys both.1 k

-- a byte that shows can be printed
visible_printable : (b : ℕ) → is_visible b ≡ true → is_printable b ≡ true
visible_printable b h = grind (arith, nat_tests)

-- so can a text of such bytes
pub visible_text : (xs : List ℕ) → list_all is_visible xs ≡ true → list_all is_printable xs ≡ true
visible_text xs h = pass-weaker is_visible is_printable visible_printable xs h

-- a digit can be printed
digit_printable : (d : ℕ) → d < 10 → is_printable (digit_glyph false d) ≡ true
digit_printable d low = grind (arith, nat_tests)

-- digits can be printed
digits_printable : (k n : ℕ) (behind : List ℕ) → list_all is_printable behind ≡ true
    → list_all is_printable (digits_onto k 10 false n behind) ≡ true
digits_printable zero n behind h = h
digits_printable (suc k) n behind h =
    let one : is_printable (digit_glyph false (n % 10)) ≡ true = digit_printable (n % 10) (omega arith) in
    let more : list_all is_printable (digit_glyph false (n % 10) ∷ behind) ≡ true =
    ap (λ (t : Bool). t && list_all is_printable behind) one ∙ h in
    elim (n / 10 == 0) as (λ t. list_all is_printable (cond t (digit_glyph false (n % 10) ∷ behind)
    (digits_onto k 10 false (n / 10) (digit_glyph false (n % 10) ∷ behind))) ≡ true) [
      | true ↦ more
      | false ↦ digits_printable k (n / 10) (digit_glyph false (n % 10) ∷ behind) more
    ]

-- so can a number
pub decimal_printable : (n : ℕ) → list_all is_printable (decimal n) ≡ true
unfolding digits
decimal_printable n = digits_printable 64 n [] refl

-- with or without a minus
pub whole_printable : (z : ℤ) → list_all is_printable (signed_decimal z) ≡ true
whole_printable (pos n) = decimal_printable n
whole_printable (negsuc n) = decimal_printable (suc n)

-- a byte that can be printed is one of ASCII
printable_ascii : (b : ℕ) → is_printable b ≡ true → b < 128
printable_ascii b h = grind (arith, nat_tests)

-- bytes that can be printed are a text
pub printable_text : (bytes : List ℕ) → list_all is_printable bytes ≡ true → IsUtf8 bytes
printable_text bytes h = IsUtf8-from_ascii bytes (IsAscii-from_all bytes (λ k d inside. printable_ascii _
    (AllPass-from_list_all is_printable bytes h k d inside)))

-- ---- columns of a line

-- what comes after a text of that many bytes
pub drop-past : (n : ℕ) (xs ys : List ℕ) → n ≡ length xs → drop n (xs ++ ys) ≡ ys
drop-past zero [] ys e = refl
drop-past zero (x ∷ xs) ys e = absurd (omega (arith, e))
drop-past (suc n) [] ys e = absurd (omega (arith, e))
drop-past (suc n) (x ∷ xs) ys e = drop-past n xs ys (omega (arith, e))

-- a text before others, by its length
pub take-past : (n : ℕ) (xs ys : List ℕ) → n ≡ length xs → take n (xs ++ ys) ≡ xs
take-past zero [] ys e = refl
take-past zero (x ∷ xs) ys e = absurd (omega (arith, e))
take-past (suc n) [] ys e = absurd (omega (arith, e))
take-past (suc n) (x ∷ xs) ys e = ap (λ (l : List ℕ). x ∷ l) (take-past n xs ys (omega (arith, e)))

-- a field between what comes before it and what follows it
pub between : (n m : ℕ) (front field behind : List ℕ) → n ≡ length front → m ≡ n + length field
    → slice_range (front ++ (field ++ behind)) n m ≡ field
between n m front field behind begin end =
    let width : m - n ≡ length field = omega (arith, end) in
    ap (λ (k : ℕ). take k (drop n (front ++ (field ++ behind)))) width
    ∙ ap (take (length field)) (drop-past n front (field ++ behind) begin)
    ∙ take-past (length field) field behind refl

-- a field after that many bytes, up to the line feed
pub last_field : (n : ℕ) (front field : List ℕ) → n ≡ length front
    → slice_range (front ++ (field ++ 10 ∷ [])) n (length (front ++ (field ++ 10 ∷ [])) - 1) ≡ field
last_field n front field begin =
    between n (length (front ++ (field ++ 10 ∷ [])) - 1) front field (10 ∷ []) begin
    (omega (arith, length-append front (field ++ 10 ∷ []), length-append field (10 ∷ []), begin))
