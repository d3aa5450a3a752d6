-- What a single word is read as spells it, and what spells a value is read as it.
use Rattle.rank_query.proofs.Cited.{◌≡◌, ℕ, zero, suc, ◌+◌, ◌<◌, Bool, true, false, cond, ◌&&◌, List, [], ◌∷◌, ◌++◌}
use Rattle.rank_query.proofs.Cited.{length, take, drop, get_or, replicate, Option, Some, None, Ok, Err, refl, sym, ap}
use Rattle.rank_query.proofs.Cited.{◌∙◌, subst, FitsSigned, w32, arith, length-drop, ℤ, pos, neg_ℤ, int_le, list_all}
use Rattle.rank_query.proofs.Cited.{cases_Bool, inl, inr, before_first, after_first, position_or_len, is_ascii_digit}
use Rattle.rank_query.proofs.Cited.{digits_value, bytes_decides, and_parts, nat_tests, split_at_first, passes_at_first}
use Rattle.rank_query.proofs.Cited.{cond_some, Field, Blank, Number, Bad, same_bytes, is_within, is_day, date_text}
use Rattle.rank_query.proofs.Cited.{read_date, Spells, natural, scaled_field, Element, Prcp, Snow, Snwd, Tmax, Tmin}
use Rattle.rank_query.proofs.Cited.{code_of, element_of, elements, is_number_within, number_of, UnexpectedWord}
use Rattle.rank_query.proofs.Cited.{OutOfLimits, BadDate, BadBox, is_code, is_heat, is_month, Word, or_fault, number}
use Rattle.rank_query.proofs.Cited.{element, heat, months, degrees, code, date, tenths_in, two_numbers, is_point}
use Rattle.rank_query.proofs.Cited.{natural_behind, both, IsNumeralOf, TwoMonths, SpellsWord, QueryFault}
use Rattle.std.proofs.Math.Seq.{take-append_seam, drop-append-add}
use Rattle.ghcn_fields.proofs.DateTexts.{read_date-law}
use Rattle.ghcn_fields.proofs.DecimalTexts.{spells-from_signed, signed-from_spells}
use Rattle.ghcn_fields.proofs.FieldNumbers.{scaled_field-number}
use Rattle.ghcn_files.proofs.Among.{found_in}
use Rattle.rank_query.proofs.OneWords.{stands_in_word, HasNoBlank}
use Rattle.rank_query.proofs.ReadingSteps.{test_ok, or_fault_ok, tested_ok, tested_again}

-- digits alone write the number that is read of them
natural_numeral : (digits : List ℕ) (n : ℕ) → natural digits ≡ Some n → IsNumeralOf digits n
natural_numeral [] n e = cc
natural_numeral (d ∷ ds) n e =
    let both = cond_some (list_all is_ascii_digit (d ∷ ds)) (digits_value 10 (d ∷ ds)) n e in
    record { some_digit = omega arith; digits_alone = both.0; value = sym both.1 }

-- a numeral is read as its number
numeral_natural : (digits : List ℕ) (n : ℕ) → IsNumeralOf digits n → natural digits ≡ Some n
numeral_natural [] n numeral = absurd (omega (arith, numeral.some_digit))
numeral_natural (d ∷ ds) n numeral =
    ap (λ b. cond b (Some (digits_value 10 (d ∷ ds))) None) numeral.digits_alone ∙ ap Some (sym numeral.value)

-- a word that is read as a number is a numeral of it
pub number_numeral : (low high : ℕ) (w : Word) (n : ℕ) → number low high w ≡ Ok n → IsNumeralOf w.1 n
unfolding number
number_numeral low high w n e = natural_numeral w.1 n (tested_ok natural (is_within low high) OutOfLimits w n e).0

-- a numeral of a number within the limits is read as it
pub numeral_number : (low high n at : ℕ) (digits : List ℕ) → is_within low high n ≡ true → IsNumeralOf digits n
    → number low high (at, digits) ≡ Ok n
unfolding number
numeral_number low high n at digits inside numeral =
    tested_again natural (is_within low high) OutOfLimits at digits n (numeral_natural digits n numeral) inside

-- a word that is read as a number of degrees spells its tenths
pub heat_spelt : (w : Word) (t : ℤ) → heat w ≡ Ok t → Spells 1 w.1 t
unfolding heat
heat_spelt w t e = spells-from_signed 1 w.1 t (tested_ok tenths_in is_heat OutOfLimits w t e).0

-- what spells tenths within the limits is read as them
pub spelt_heat : (t : ℤ) (at : ℕ) (text : List ℕ) → is_heat t ≡ true → Spells 1 text t → heat (at, text) ≡ Ok t
unfolding heat
spelt_heat t at text inside spells =
    tested_again tenths_in is_heat OutOfLimits at text t (signed-from_spells 1 text t spells) inside

-- a point is the byte 46
point_is : (b : ℕ) → is_point b ≡ true → b ≡ 46
point_is b e = grind (arith, nat_tests)

-- a digit isn't a point
no_point : (d : ℕ) → is_ascii_digit d ≡ true → is_point d ≡ false
no_point d is = grind (arith, nat_tests)

-- the first point comes after the digits before it
point_at : (digits rest : List ℕ) → list_all is_ascii_digit digits ≡ true
    → position_or_len is_point (digits ++ 46 ∷ rest) ≡ length digits
point_at [] rest all = refl
point_at (d ∷ digits) rest all =
    let parts = and_parts (is_ascii_digit d) (list_all is_ascii_digit digits) all in
    rw (no_point d parts.0) (omega (arith, point_at digits rest parts.1))

-- two values that there are
pub both-some : {A : Type 0} (o p : Option A) (s : A × A) → both o p ≡ Some s → (o ≡ Some s.0) × (p ≡ Some s.1)
both-some None p s e = cc
both-some (Some a) None s e = cc
both-some {A} (Some a) (Some b) s e =
    let same : (a, b) ≡ s = cc in (ap (λ (s : A × A). Some s.0) same, ap (λ (s : A × A). Some s.1) same)

-- a number after a point
behind-some : (bytes : List ℕ) (n : ℕ) → natural_behind bytes ≡ Some n
    → (digits : List ℕ) × (bytes ≡ 46 ∷ digits) × (natural digits ≡ Some n)
behind-some [] n e = cc
behind-some (b ∷ bytes) n e = elim (cases_Bool (is_point b)) [
  | inl is ↦ let here = rw is at e in (bytes, ap (λ (c : ℕ). c ∷ bytes) (point_is b is), here)
  | inr other ↦ let here = rw other at e in absurd cc
]

-- a word that is read as two numbers joins them
two_joined : (word : List ℕ) (s : ℕ × ℕ) → two_numbers word ≡ Some s
    → SpellsWord word (TwoMonths s.0 s.1)
two_joined word s e =
    let front : List ℕ = before_first is_point word in
    let place : ℕ = position_or_len is_point word in
    let both = both-some (natural front) (natural_behind (after_first is_point word)) s e in
    let behind = behind-some (after_first is_point word) s.1 both.1 in
    let inside : place < length word = omega (arith, ap length behind.1, length-drop (place + 1) word) in
    let at : get_or word place 0 ≡ 46 = point_is _ (passes_at_first is_point word 0 inside) in (
      front,
      behind.0,
      split_at_first is_point word 0 inside ∙ ap (λ (b : ℕ). front ++ b ∷ after_first is_point word) at
          ∙ ap (λ (rest : List ℕ). front ++ 46 ∷ rest) behind.1,
      natural_numeral front s.0 both.0,
      natural_numeral behind.0 s.1 behind.2,
    )

-- and a word that joins two numbers is read as them
joined_two : (word : List ℕ) (a b : ℕ) → SpellsWord word (TwoMonths a b) → two_numbers word ≡ Some (a, b)
joined_two word a b j =
    let first : List ℕ = j.0 in
    let last : List ℕ = j.1 in
    let rest : List ℕ = 46 ∷ last in
    let text : List ℕ = first ++ 46 ∷ rest in
    let front : take (length first) text ≡ first = take-append_seam first (46 ∷ rest) in
    let behind : drop (length first + 1) text ≡ rest = drop-append-add first (46 ∷ rest) 1 in
    let at = point_at first rest j.3.digits_alone in
    let one = numeral_natural first a j.3 in
    let two = numeral_natural last b j.4 in
    rw (j.2, at, front, behind, one, two)

-- a word that is read as months joins them
pub months_joined : (w : Word) (s : ℕ × ℕ) → months w ≡ Ok s → SpellsWord w.1 (TwoMonths s.0 s.1)
unfolding months
months_joined w s e = two_joined w.1 s (tested_ok two_numbers (λ v. is_month v.0 && is_month v.1) OutOfLimits w s e).0

-- what joins two months is read as them
pub joined_months : (s : ℕ × ℕ) (at : ℕ) (word : List ℕ) → (is_month s.0 && is_month s.1) ≡ true
    → SpellsWord word (TwoMonths s.0 s.1) → months (at, word) ≡ Ok s
unfolding months
joined_months s at word inside joins = tested_again two_numbers (λ v. is_month v.0 && is_month v.1) OutOfLimits at word
    s (joined_two word s.0 s.1 joins) inside

-- a word that is read as an element is its code
pub element_code : (allows : Element → Bool) (w : Word) (e : Element) → element allows w ≡ Ok e → w.1 ≡ code_of e
unfolding element
element_code allows w e read =
    let found : element_of w.1 ≡ Some e = (tested_ok element_of allows UnexpectedWord w e read).0 in
    sym ((bytes_decides (code_of e) w.1).0 (found_in (λ e. same_bytes (code_of e) w.1) elements e found).1)

-- an element is found by its code
code_found : (e : Element) → element_of (code_of e) ≡ Some e
code_found Prcp = refl
code_found Snow = refl
code_found Snwd = refl
code_found Tmax = refl
code_found Tmin = refl

-- the code of an element that is allowed is read as it
pub code_element : (allows : Element → Bool) (e : Element) (at : ℕ) → allows e ≡ true
    → element allows (at, code_of e) ≡ Ok e
unfolding element
code_element allows e at allowed = tested_again element_of allows UnexpectedWord at (code_of e) e (code_found e) allowed

-- a text that begins with no blank is no longer than what comes after its blanks
no_blanks : (n : ℕ) (word text : List ℕ) → word ≡ replicate n 32 ++ text → HasNoBlank word → text ≡ word
no_blanks zero word text parts clean = sym parts
no_blanks (suc n) word text parts clean =
    let blank : false ≡ true = sym (ap (list_all stands_in_word) parts) ∙ clean in absurd cc

-- a field that has a number within limits is that number
pub field_number : (low high z : ℤ) (f : Field) (fault : QueryFault)
    → cond (is_number_within low high f) (Ok (number_of f)) (Err fault) ≡ Ok z
    → (f ≡ Number z) × ((int_le low z && int_le z high) ≡ true)
field_number low high z Blank fault e = absurd cc
field_number low high z (Number n) fault e =
    let test = test_ok (int_le low n && int_le n high) n z fault e in (ap Number test.1, cc)
field_number low high z Bad fault e = absurd cc

-- a word that is read as degrees spells them
pub degrees_spelt : (low high : ℤ) (w : Word) (z : ℤ) → HasNoBlank w.1 → degrees low high w ≡ Ok z → Spells 4 w.1 z
unfolding degrees
degrees_spelt low high w z clean e =
    let has = ((scaled_field-number 4 w.1 z).0 (field_number low high z (scaled_field 4 w.1) (BadBox w.0) e).0).0 in
    subst (λ (text : List ℕ). Spells 4 text z) (no_blanks has.blanks w.1 has.text has.parts clean) has.spells

-- a longitude, in ten-thousandths of a degree
abbrev pub is_longitude : ℤ → Bool
is_longitude z = int_le (neg_ℤ (pos 1_800_000)) z && int_le z (pos 1_800_000)

-- what spells degrees within the limits is read as them
pub spelt_degrees : (low high z : ℤ) (at : ℕ) (text : List ℕ) → (int_le low z && int_le z high) ≡ true
    → FitsSigned w32 z → Spells 4 text z → degrees low high (at, text) ≡ Ok z
unfolding degrees
spelt_degrees low high z at text inside fits spells =
    let field : scaled_field 4 text ≡ Number z = (scaled_field-number 4 text z).1
    (record { blanks = 0; text = text; parts = refl; spells = spells }, fits) in
    cc

-- a word that is read as a code is that code
pub code_word : (len : ℕ) (w : Word) (c : List ℕ) → code len w ≡ Ok c → w.1 ≡ c
unfolding code
code_word len w c e = (test_ok (is_code len w.1) w.1 c (UnexpectedWord w.0) e).1

-- a code is read as itself
pub word_code : (len at : ℕ) (c : List ℕ) → is_code len c ≡ true → code len (at, c) ≡ Ok c
unfolding code
word_code len at c is = ap (λ b. cond b (Ok c) (Err (UnexpectedWord at))) is

-- a word that is read as a day is its date
pub date_written : (w : Word) (day : ℤ) → date w ≡ Ok day → w.1 ≡ date_text day
unfolding date
date_written w day e = ((read_date-law w.1 day).0 (or_fault_ok (BadDate w.0) (read_date w.1) day e)).1

-- and that day is one
pub date_day : (w : Word) (day : ℤ) → date w ≡ Ok day → is_day day ≡ true
unfolding date
date_day w day e = ((read_date-law w.1 day).0 (or_fault_ok (BadDate w.0) (read_date w.1) day e)).0

-- the date of a day is read as it
pub written_date : (at : ℕ) (day : ℤ) → is_day day ≡ true → date (at, date_text day) ≡ Ok day
unfolding date
written_date at day is = ap (or_fault (BadDate at)) ((read_date-law (date_text day) day).1 (is, refl))
