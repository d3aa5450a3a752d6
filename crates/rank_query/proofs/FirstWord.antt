-- The first word of a text, and the words after it.
use Rattle.rank_query.proofs.Cited.{ints, ◌≡◌, ℕ, ◌+◌, ◌<◌, ◌≤◌, true, false, not, cond, List, [], ◌∷◌, length, take}
use Rattle.rank_query.proofs.Cited.{drop, get_or, All, filter, refl, sym, ap, ◌∙◌, inl, inr, Some, None, arith, nat_lt}
use Rattle.rank_query.proofs.Cited.{unwrap_or, slice_split, position, position_or_len, enumerate_from, nat_tests}
use Rattle.rank_query.proofs.Cited.{take_all, drop_all, drop_more, fails_before_first, passes_at_first}
use Rattle.rank_query.proofs.Cited.{prefix_len-le-length, slice_split_none, slice_split_first, slice_split-cons_yes}
use Rattle.rank_query.proofs.Cited.{cases_lt, after_blanks, is_separator, words_of, cases_Bool, nil_from_length}
use Rattle.rank_query.proofs.OneWords.{is_word}

-- a blank before a text adds no word
pub words_of-blank : (b : ℕ) (bytes : List ℕ) → is_separator b ≡ true → words_of (b ∷ bytes) ≡ words_of bytes
words_of-blank b bytes e = ap (filter is_word) (slice_split-cons_yes is_separator b bytes e)

-- the blanks at the front of a text add no word
pub words_of-after_blanks : (text : List ℕ) → words_of (after_blanks text) ≡ words_of text
words_of-after_blanks [] = refl
words_of-after_blanks (b ∷ bytes) = elim (cases_Bool (is_separator b)) [
  | inl blank ↦ rw blank (words_of-after_blanks bytes)
  | inr other ↦ ap (λ t. words_of (cond t (after_blanks bytes) (b ∷ bytes))) other
]

-- a part that isn't empty is a word
first_kept : (part : List ℕ) (parts : List (List ℕ)) → 0 < length part
    → filter is_word (part ∷ parts) ≡ part ∷ filter is_word parts
first_kept part parts some = grind (arith, ints)

-- the first word ends at a blank
ends_at_blank : (text : List ℕ) (n : ℕ) → n ≡ position_or_len is_separator text → 0 < n → n < length text
    → words_of text ≡ take n text ∷ words_of (drop n text)
ends_at_blank text n e some inside =
    let at : position_or_len is_separator text < length text = omega arith in
    let parts : slice_split is_separator text ≡ take n text ∷ slice_split is_separator (drop (n + 1) text) =
    slice_split_first is_separator text 0 at
    ∙ ap (λ (m : ℕ). take m text ∷ slice_split is_separator (drop (m + 1) text)) (sym e) in
    let blank : is_separator (get_or text n 0) ≡ true = ap (λ (m : ℕ). is_separator (get_or text m 0)) e
    ∙ passes_at_first is_separator text 0 at in
    let rest : words_of (drop n text) ≡ words_of (drop (n + 1) text) = ap words_of (drop_more text n 0 inside)
    ∙ words_of-blank (get_or text n 0) (drop (n + 1) text) blank in
    grind (arith, ints, first_kept)

-- the only word ends with the text
ends_with_text : (text : List ℕ) (n : ℕ) → n ≡ position_or_len is_separator text → 0 < n → length text ≤ n
    → words_of text ≡ take n text ∷ words_of (drop n text)
ends_with_text text n e some outside =
    let within : position_or_len is_separator text ≤ length text = prefix_len-le-length
    (λ b. not (is_separator b)) text in
    let none : All (λ b. is_separator b ≡ false) text = λ k d lt. fails_before_first is_separator text k d
    (omega arith) in
    let split = slice_split_none is_separator text none in
    let kept = first_kept text [] (omega arith) in
    rw (split, kept, take_all n text outside, drop_all n text outside)

-- a text that begins with no blank is its first word, and the words after it
pub words_of-first : (text : List ℕ) (n : ℕ) → n ≡ position_or_len is_separator text → 0 < n
    → words_of text ≡ take n text ∷ words_of (drop n text)
words_of-first text n e some =
    elim (cases_lt n (length text)) [
      | inl inside ↦ ends_at_blank text n e some inside
      | inr outside ↦ ends_with_text
          text n e some outside
    ]

-- the first byte past the blanks isn't a blank
after_blanks-first : (text : List ℕ) → 0 < length (after_blanks text)
    → 0 < position_or_len is_separator (after_blanks text)
after_blanks-first [] some = absurd (omega arith)
after_blanks-first (b ∷ bytes) some = elim (cases_Bool (is_separator b)) [
  | inl blank ↦ let left = rw blank at some in rw blank (after_blanks-first bytes left)
  | inr other ↦ rw (other, other) (omega arith)
]

-- the first word comes after the blanks
pub first_word : (text rest : List ℕ) (n : ℕ) → rest ≡ after_blanks text → 0 < length rest
    → n ≡ position_or_len is_separator rest → (words_of text ≡ take n rest ∷ words_of (drop n rest)) × (0 < n)
first_word text rest n e some at =
    let same : position_or_len is_separator rest ≡ position_or_len is_separator (after_blanks text) = ap
    (position_or_len is_separator) e in
    let here : 0 < n = omega (arith, same, at, after_blanks-first text (omega (arith, ap length e, some))) in
    grind (arith, ints, words_of-after_blanks, words_of-first)

-- blanks alone have no word
pub no_word : (text rest : List ℕ) → rest ≡ after_blanks text → length rest ≡ 0 → words_of text ≡ []
no_word text rest e none =
    sym (words_of-after_blanks text) ∙ ap words_of (sym e) ∙ ap words_of (nil_from_length rest none)

-- a place within the text, or its length
place_or : (n len : ℕ) → n ≤ len → unwrap_or (cond (nat_lt n len) (Some n) None) len ≡ n
place_or n len within = grind (arith, nat_tests)

-- the place of the first blank, or otherwise the length
pub position-or : (text : List ℕ) → unwrap_or (position is_separator text)
    (length text) ≡ position_or_len is_separator text
position-or text =
    place_or (position_or_len is_separator text) (length text) (prefix_len-le-length (λ b. not (is_separator b)) text)

-- no text has more bytes past its blanks
pub after_blanks-le : (text : List ℕ) → length (after_blanks text) ≤ length text
after_blanks-le [] = omega arith
after_blanks-le (b ∷ bytes) = elim (cases_Bool (is_separator b)) [
  | inl blank ↦ rw blank (omega (arith, after_blanks-le bytes))
  | inr other ↦ rw other (omega arith)
]

-- the numbered words of a text are its first word, and those of what is left
pub words_left : (given : ℕ) (all : List (ℕ × List ℕ)) (text word rest shown left : List ℕ)
    → enumerate_from (given + 1) (words_of text) ≡ all → words_of text ≡ word ∷ words_of rest → word ≡ shown
    → rest ≡ left → all ≡ (given + 1, shown) ∷ enumerate_from (given + 1 + 1) (words_of left)
words_left given all text word rest shown left view first same over = cc

-- a list that is one item and then others is longer than those
pub longer : {A : Type 0} (all : List A) (x : A) (others : List A) → all ≡ x ∷ others → length others < length all
longer all x others e = omega (arith, ap length e)
