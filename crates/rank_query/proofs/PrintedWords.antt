-- The words of a canonical text: each is one word, and short.
use Rattle.rank_query.proofs.Cited.{◌≡◌, ℕ, suc, ◌+◌, ◌*◌, ◌/◌, ◌%◌, ◌<◌, ◌≤◌, ◌^◌, Bool, true, ◌&&◌, List, [], ◌∷◌}
use Rattle.rank_query.proofs.Cited.{◌++◌, length, decimal, codes, refl, sym, ap, ◌∙◌, length-append, append_assoc}
use Rattle.rank_query.proofs.Cited.{false, arith, nat_le, ℤ, pos, negsuc, neg_ℤ, ◌≤ℤ◌, list_all, AllByRecursion}
use Rattle.rank_query.proofs.Cited.{join_with_byte, is_ascii_digit, digit_value, AllDigits, digits_value, and_parts}
use Rattle.rank_query.proofs.Cited.{nat_tests, decimal_is_IsNumeral, length-decimal-le, decimal_digit, ints, civil}
use Rattle.rank_query.proofs.Cited.{date_text, Spells, sign_text, with_sign, last_digits, four_places, tenths, Element}
use Rattle.rank_query.proofs.Cited.{Prcp, Snow, Snwd, Tmax, Tmin, code_of, is_visible, is_printable, is_code}
use Rattle.rank_query.proofs.Cited.{IsNumeralOf, TwoMonths, SpellsWord, word_text, dates_text, drop, ◌-◌, get_or, subst}
use Rattle.rank_query.proofs.Cited.{AllPass-from_list_all}
use Rattle.std.proofs.lemmas.List.Sums.{list_all-from_AllPass}
use Rattle.std.proofs.lemmas.List.Folds.{list_all-append}
use Rattle.ghcn_fields.specs.Meaning.Fields.{part_text}
use Rattle.ghcn_fields.proofs.DateDigits.{digits-last_digits}
use Rattle.ghcn_fields.specs.Meaning.NumberTexts.{tenths_of}
use Rattle.rank_query.proofs.OneWords.{stands_in_word, IsOneWord}

-- one word of at most twelve visible bytes
pub record IsShortWord (word : List ℕ) : Type 0 where
  pub one : IsOneWord word
  pub short : length word ≤ 12
  pub visible : list_all is_visible word ≡ true

-- some short words, joined by blanks, are a short text
pub length-join : (words : List (List ℕ)) → AllByRecursion IsShortWord words
    → length (join_with_byte 32 words) ≤ 13 * length words
length-join [] all = omega arith
length-join (w ∷ []) all = omega (arith, all.0.short)
length-join (w ∷ v ∷ words) all =
    omega (arith, length-append w (32 ∷ join_with_byte 32 (v ∷ words)), all.0.short, length-join (v ∷ words) all.1)

-- digits are digits
all_digits : (digits : List ℕ) → AllDigits 10 digits → list_all is_ascii_digit digits ≡ true
all_digits [] h = refl
all_digits (d ∷ digits) h = grind (arith, ints, all_digits digits h.1)

-- bytes that pass one test pass another, if each of them does
all_pass : (p q : ℕ → Bool) → ((b : ℕ) → p b ≡ true → q b ≡ true) → (bytes : List ℕ) → list_all p bytes ≡ true
    → list_all q bytes ≡ true
all_pass p q each bytes h =
    list_all-from_AllPass q bytes (λ k d inside. each (get_or bytes k d) (AllPass-from_list_all p bytes h k d inside))

-- no visible byte is a blank
visible_in_word : (b : ℕ) → is_visible b ≡ true → stands_in_word b ≡ true
visible_in_word b h = grind (arith, nat_tests)

-- and each is printable
visible_printable : (b : ℕ) → is_visible b ≡ true → is_printable b ≡ true
visible_printable b h = grind (arith, nat_tests)

-- what has a byte is a word, if each of them is visible
word_from : (word : List ℕ) → 1 ≤ length word → length word ≤ 12 → list_all is_visible word ≡ true → IsShortWord word
word_from word some short visible = record {
  one = record {
    some = grind (arith, nat_tests);
    no_blank = all_pass is_visible stands_in_word visible_in_word word visible;
  };
  short = short;
  visible = visible;
}

-- a word of the language's own is one
pub known_word : (word : List ℕ) → (nat_le 1 (length word) && list_all is_visible word && nat_le (length word) 11) ≡
    true → IsShortWord word
known_word word e =
    word_from word (grind (arith, nat_tests)) (grind (arith, nat_tests)) (grind (arith, nat_tests))

-- words joined by blanks are printable
pub printable-join : (words : List (List ℕ)) → AllByRecursion IsShortWord words
    → list_all is_printable (join_with_byte 32 words) ≡ true
printable-join [] all = refl
printable-join (w ∷ []) all = all_pass is_visible is_printable visible_printable w all.0.visible
printable-join (w ∷ v ∷ words) all =
    let word = all_pass is_visible is_printable visible_printable w all.0.visible in
    rw (list_all-append is_printable w (32 ∷ join_with_byte 32 (v ∷ words)), word, printable-join (v ∷ words) all.1)

-- digits are visible
digit_visible : (d : ℕ) → is_ascii_digit d ≡ true → is_visible d ≡ true
digit_visible d h = grind (arith, nat_tests)

-- so are the bytes of a numeral
digits_visible : (digits : List ℕ) → list_all is_ascii_digit digits ≡ true → list_all is_visible digits ≡ true
digits_visible digits h = all_pass is_ascii_digit is_visible digit_visible digits h

-- the decimal text of a number is a numeral of it
pub decimal_numeral : (n : ℕ) → n < 2 ^ 64 → IsNumeralOf (decimal n) n
decimal_numeral n fits =
    let text = decimal_is_IsNumeral n fits in
    record { some_digit = omega (arith, text.0.0); digits_alone = all_digits (decimal n) text.0.1; value = sym text.1 }

-- and one word, if it has few digits
pub decimal_word : (n : ℕ) → n < 10 ^ 4 → n < 2 ^ 64 → IsShortWord (decimal n)
decimal_word n few fits =
    let numeral = decimal_numeral n fits in
    word_from (decimal n) numeral.some_digit (omega (arith, length-decimal-le 4 n (omega arith) few fits))
    (digits_visible (decimal n) numeral.digits_alone)

-- an element's code is one word
pub code_word : (e : Element) → IsShortWord (code_of e)
code_word Prcp = known_word (codes "PRCP") refl
code_word Snow = known_word (codes "SNOW") refl
code_word Snwd = known_word (codes "SNWD") refl
code_word Tmax = known_word (codes "TMAX") refl
code_word Tmin = known_word (codes "TMIN") refl

-- that many visible bytes, if there is one, are one word
pub visible_word : (len : ℕ) (code : List ℕ) → 1 ≤ len → len ≤ 11 → is_code len code ≡ true → IsShortWord code
visible_word len code some short is =
    let both = and_parts _ (list_all is_visible code) is in
    let long : length code ≡ len = grind (arith, nat_tests) in
    word_from code (omega arith) (omega arith) both.1

-- visible bytes before others
visible-append : (xs ys : List ℕ) → list_all is_visible xs ≡ true → list_all is_visible ys ≡ true
    → list_all is_visible (xs ++ ys) ≡ true
visible-append xs ys first second =
    list_all-append is_visible xs ys ∙ ap (λ t. t && list_all is_visible ys) first ∙ second

-- the last digits of a number are visible
last_visible : (k n : ℕ) → list_all is_visible (last_digits k n) ≡ true
last_visible k n = digits_visible (last_digits k n) (digits-last_digits k n)

-- the date of a day is one word
pub date_word : (day : ℤ) → IsShortWord (date_text day)
date_word day =
    let year : ℕ = (civil day).0 in
    let month : ℕ = (civil day).1 in
    let dom : ℕ = (civil day).2 in
    let visible : list_all is_visible (date_text day) ≡ true =
    visible-append (last_digits 4 year) (45 ∷ last_digits 2 month ++ 45 ∷ last_digits 2 dom) (last_visible 4 year)
    (visible-append (last_digits 2 month) (45 ∷ last_digits 2 dom) (last_visible 2 month) (last_visible 2 dom)) in
    word_from (date_text day) (omega arith) (omega arith) visible

-- its date without the year
pub date_end_visible : (day : ℤ) → list_all is_visible (drop 5 (date_text day)) ≡ true
date_end_visible day =
    visible-append (last_digits 2 (civil day).1) (45 ∷ last_digits 2 (civil day).2) (last_visible 2 (civil day).1)
    (last_visible 2 (civil day).2)

-- and two such dates with two points between them are one word
pub dates_word : (first last : ℤ) → IsShortWord (dates_text first last)
dates_word first last =
    word_from (dates_text first last) (omega arith) (omega arith)
    (visible-append (drop 5 (date_text first)) (codes ".." ++ drop 5 (date_text last)) (date_end_visible first)
    (date_end_visible last))

-- a digit after a number's last one has its value
digit_value-byte : (n : ℕ) → digit_value (48 + n % 10) ≡ n % 10
digit_value-byte n = grind (arith, nat_tests)

-- the last four digits write what is left of a number by its whole part
value_of_four : (n : ℕ) → digits_value 10 (last_digits 4 n) ≡ n % 10000
value_of_four n = grind (arith, ints, digit_value-byte)

-- and so does the last one
value_of_one : (n : ℕ) → digits_value 10 (last_digits 1 n) ≡ n % 10
value_of_one n = rw (digit_value-byte n) (omega arith)

-- a numeral of few digits and some visible bytes after it are one word
numeral_then : (digits n : ℕ) (rest : List ℕ) → 0 < digits → n < 10 ^ digits → n < 2 ^ 64
    → list_all is_visible rest ≡ true → digits + length rest ≤ 11
    → IsShortWord (decimal n ++ rest) × (length (decimal n ++ rest) ≤ digits + length rest)
numeral_then digits n rest some few fits visible short =
    let numeral = decimal_numeral n fits in
    let whole : length (decimal n) ≤ digits = length-decimal-le digits n some few fits in
    let all = length-append (decimal n) rest in (
      word_from (decimal n ++ rest) (omega (arith, all, numeral.some_digit)) (omega (arith, all, whole))
          (visible-append (decimal n) rest (digits_visible (decimal n) numeral.digits_alone) visible),
      omega (arith, all, whole),
    )

-- a number's text is one short word, and spells it
pub record IsNumberText (places : ℕ) (text : List ℕ) (z : ℤ) : Type 0 where
  pub short : IsShortWord text
  pub spelt : Spells places text z

-- so it is with a numeral and some decimals, after a minus or without one
decimals_text : (places width whole n : ℕ) (part : List ℕ) (negative : Bool) → 0 < width → whole < 10 ^ width
    → whole < 2 ^ 64 → list_all is_ascii_digit part ≡ true → length part ≤ places
    → width + length (part_text part) ≤ 10 → list_all is_visible (part_text part) ≡ true
    → n ≡ whole * 10 ^ places + digits_value 10 part * 10 ^ (places - length part)
    → IsNumberText places (sign_text negative ++ decimal whole ++ part_text part) (with_sign negative n)
decimals_text places width whole n part negative some few fits digits at_most short visible value =
    let numeral = decimal_numeral whole fits in
    let it = numeral_then width whole (part_text part) some few fits visible (omega arith) in
    let parts : sign_text negative ++ decimal whole ++ part_text part ≡ sign_text negative ++
    (decimal whole ++ part_text part) = append_assoc (sign_text negative) (decimal whole) (part_text part) in
    record {
      short = subst IsShortWord (sym parts)
          (signed_word negative (decimal whole ++ part_text part) it.0 (omega (arith, it.1)));
      spelt = record {
        negative = negative;
        whole = decimal whole;
        part = part;
        parts = refl;
        some_digit = numeral.some_digit;
        digits = list_all-append is_ascii_digit (decimal whole) part
            ∙ ap (λ t. t && list_all is_ascii_digit part) numeral.digits_alone ∙ digits;
        few = at_most;
        value = ap (with_sign negative) (value
            ∙ ap (λ (w : ℕ). w * 10 ^ places + digits_value 10 part * 10 ^ (places - length part)) numeral.value);
      };
    }
  where
    signed_word : (negative : Bool) (text : List ℕ) → IsShortWord text → length text ≤ 10
        → IsShortWord (sign_text negative ++ text)
    signed_word true text it few = word_from (45 ∷ text) (omega arith) (omega arith) it.visible
    signed_word false text it few = it

-- that many ten-thousandths
four_places_of_text : (negative : Bool) (n : ℕ) → n < 10 ^ 7
    → IsNumberText 4 (sign_text negative ++ decimal (n / 10000) ++ 46 ∷ last_digits 4 n) (with_sign negative n)
four_places_of_text negative n few =
    decimals_text 4 3 (n / 10000) n (last_digits 4 n) negative (omega arith) (omega arith) (omega arith)
    (digits-last_digits 4 n) (omega arith) (omega arith) (last_visible 4 n) (omega (arith, value_of_four n))

-- at an edge of a box
pub four_places_text : (z : ℤ) → neg_ℤ (pos 1_800_000) ≤ℤ z → z ≤ℤ pos 1_800_000 → IsNumberText 4 (four_places z) z
four_places_text (pos n) low high = four_places_of_text false n (omega (arith, ints))
four_places_text (negsuc n) low high = four_places_of_text true (suc n) (omega (arith, ints))

-- and that many tenths
tenths_of_text : (negative : Bool) (n : ℕ) → n < 10 ^ 4
    → IsNumberText 1 (sign_text negative ++ tenths_of n) (with_sign negative n)
tenths_of_text negative n few =
    subst (λ (text : List ℕ). IsNumberText 1 text (with_sign negative n))
    (append_assoc (sign_text negative) (decimal (n / 10)) (46 ∷ last_digits 1 n)
    ∙ ap (λ (d : List ℕ). sign_text negative ++ (decimal (n / 10) ++ 46 ∷ d))
    (sym (decimal_digit (n % 10) (omega arith))))
    (decimals_text 1 4 (n / 10) n (last_digits 1 n) negative (omega arith) (omega arith) (omega arith)
    (digits-last_digits 1 n) (omega arith) (omega arith) (last_visible 1 n) (omega (arith, value_of_one n)))

-- by which a day is hot or cold
pub tenths_text : (t : ℤ) → neg_ℤ (pos 1_000) ≤ℤ t → t ≤ℤ pos 1_000 → IsNumberText 1 (tenths t) t
tenths_text (pos n) low high = tenths_of_text false n (omega (arith, ints))
tenths_text (negsuc n) low high = tenths_of_text true (suc n) (omega (arith, ints))

-- two months joined by two points are one word
pub months_word : (a b : ℕ) → a ≤ 12 → b ≤ 12 → IsShortWord (word_text (TwoMonths a b))
months_word a b first last =
    let two = decimal_numeral b (omega arith) in
    let wide : length (decimal b) ≤ 2 = length-decimal-le 2 b (omega arith) (omega arith) (omega arith) in
    (numeral_then 2 a (46 ∷ 46 ∷ decimal b) (omega arith) (omega arith) (omega arith)
    (digits_visible (decimal b) two.digits_alone) (omega (arith, wide))).0

-- and spell them
pub months_spelt : (a b : ℕ) → a ≤ 12 → b ≤ 12 → SpellsWord (word_text (TwoMonths a b)) (TwoMonths a b)
months_spelt a b first last =
    (decimal a, decimal b, refl, decimal_numeral a (omega arith), decimal_numeral b (omega arith))
