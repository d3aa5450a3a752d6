-- The error of a word is the one that the words before it call for, and so it is with the values of words.
use Rattle.rank_query.proofs.Cited.{ints, ◌≡◌, ℕ, ◌+◌, Bool, ◌⊎◌, inl, inr, List, [], ◌∷◌, ◌++◌, length, Option, Some}
use Rattle.rank_query.proofs.Cited.{Result, Ok, Err, refl, sym, ap, ◌∙◌, subst, is_some, arith, ℤ, AllByRecursion}
use Rattle.rank_query.proofs.Cited.{read_date, is_within, natural, scaled_field, Element, element_of, is_number_within}
use Rattle.rank_query.proofs.Cited.{number_of, QueryFault, UnexpectedWord, QueryEnds, OutOfLimits, BadDate, BadBox}
use Rattle.rank_query.proofs.Cited.{Query, is_code, Word, says, ◌>>=◌, Read, keyword, one_word, made_into, by_word}
use Rattle.rank_query.proofs.Cited.{number, element, degrees, code, date, two_days, dates, place_behind, edge, has_form}
use Rattle.rank_query.proofs.Cited.{cases_Bool}
use mathlib.Core.List.{reverse_aux}
use Rattle.rank_query.specs.FaultKinds.{number as a_number, date as a_date, dates as a_dates, IsFaultOf}
use Rattle.rank_query.proofs.ReadingSteps.{assoc, said, unnumbered, tested, tested_err, test_err, or_fault_err}
use Rattle.rank_query.proofs.Stops.{bind_err}
use Rattle.rank_query.proofs.Places.{IsSettled}

-- the error of a word that is wrong after these, if it has this number
abbrev pub IsKind : QueryFault → ℕ → List (List ℕ) → List ℕ → Type 0
IsKind fault n past word = n ≡ length past + 1 → IsFaultOf fault past word

-- one of these words, which come after others, has the error
pub record IsWrong (past : List (List ℕ)) (ws : List Word) (fault : QueryFault) : Type 0 where
  pub before : List Word
  pub word : Word
  pub behind : List Word
  pub parts : ws ≡ before ++ word ∷ behind
  pub kind : IsKind fault word.0 (reverse_aux (unnumbered before) past) word.1

-- no word is left, or one has the error
abbrev pub IsFaultBehind : List (List ℕ) → List Word → QueryFault → Type 0
IsFaultBehind past ws fault = (fault ≡ QueryEnds) ⊎ IsWrong past ws fault

-- the first word has it
pub here : (past : List (List ℕ)) (w : Word) (rest : List Word) (fault : QueryFault) → IsKind fault w.0 past w.1
    → IsFaultBehind past (w ∷ rest) fault
here past w rest fault is = inr (record { before = []; word = w; behind = rest; parts = refl; kind = is })

-- a word that no place calls for is unexpected
pub unexpected : (past : List (List ℕ)) (w : Word) (rest : List Word) (fault : QueryFault) → IsSettled past
    → UnexpectedWord w.0 ≡ fault → IsFaultBehind past (w ∷ rest) fault
unexpected past w rest fault settled is =
    here past w rest fault (subst (λ f. IsKind f w.0 past w.1) is (λ at. (at, inl settled)))

-- or one after it
pub further : (past : List (List ℕ)) (w : Word) (rest : List Word) (fault : QueryFault)
    → IsFaultBehind (w.1 ∷ past) rest fault → IsFaultBehind past (w ∷ rest) fault
further past w rest fault (inl ends) = inl ends
further past w rest fault (inr is) =
    inr (record {
      before = w ∷ is.before;
      word = is.word;
      behind = is.behind;
      parts = ap (λ ws. w ∷ ws) is.parts;
      kind = is.kind;
    })

-- what is made goes on
pub made_then : {A B C : Type 0} (make : A → B) (r : Read A) (g : B × List Word → Result C QueryFault)
    → (made_into make r >>= g) ≡ (r >>= λ p. g (make p.0, p.1))
made_then make (Ok p) g = refl
made_then make (Err d) g = refl

-- an error at one word, or after it
pub one_step : {A C : Type 0} (value : Word → Result A QueryFault) (g : A × List Word → Result C QueryFault)
    (past : List (List ℕ)) (ws : List Word) (fault : QueryFault) → (one_word value ws >>= g) ≡ Err fault
    → ((w : Word) (f : QueryFault) → value w ≡ Err f → IsKind f w.0 past w.1)
    → ((w : Word) (x : A) (rest : List Word) → value w ≡ Ok x → g (x, rest) ≡ Err fault
    → IsFaultBehind past (w ∷ rest) fault) → IsFaultBehind past ws fault
one_step value g past [] fault e wrong next = let same : QueryEnds ≡ fault = cc in inl (sym same)
one_step value g past (w ∷ rest) fault e wrong next =
    elim (bind_err (value w) (λ x. g (x, rest)) fault (sym (assoc (value w) (λ x. Ok (x, rest)) g) ∙ e)) [
      | inl none ↦ here past w rest fault (wrong w fault none)
      | inr found ↦ next w found.0 rest found.1 found.2
    ]

-- the same inside a part
pub inner_step : {A B C : Type 0} (value : Word → Result A QueryFault) (f : A × List Word → Result B QueryFault)
    (g : B → Result C QueryFault) (past : List (List ℕ)) (ws : List Word) (fault : QueryFault)
    → ((one_word value ws >>= f) >>= g) ≡ Err fault
    → ((w : Word) (d : QueryFault) → value w ≡ Err d → IsKind d w.0 past w.1)
    → ((w : Word) (x : A) (rest : List Word) → value w ≡ Ok x → (f (x, rest) >>= g) ≡ Err fault
    → IsFaultBehind past (w ∷ rest) fault) → IsFaultBehind past ws fault
inner_step value f g past ws fault e wrong next =
    one_step value (λ x. f x >>= g) past ws fault (sym (assoc (one_word value ws) f g) ∙ e) wrong next

-- an error at a keyword, or after it
pub keyword_step : {C : Type 0} (text : List ℕ) (g : List Word → Result C QueryFault) (past : List (List ℕ))
    (ws : List Word) (fault : QueryFault) → (keyword text ws >>= g) ≡ Err fault → IsSettled past
    → ((rest : List Word) → g rest ≡ Err fault → IsFaultBehind (text ∷ past) rest fault) → IsFaultBehind past ws fault
unfolding keyword
keyword_step text g past [] fault e settled next = let same : QueryEnds ≡ fault = cc in inl (sym same)
keyword_step text g past (w ∷ rest) fault e settled next = elim (cases_Bool (says text w.1)) [
  | inl same ↦
      let found = rw same at e in
      further past w rest fault (subst (λ (t : List ℕ). IsFaultBehind (t ∷ past) rest fault) (sym (said text w.1 same))
      (next rest found))
  | inr differs ↦
      let missing = rw differs at e in
      unexpected past w rest fault settled (let same : UnexpectedWord w.0 ≡ fault = cc in same)
]

-- how it goes on after a part
abbrev pub Next : (A : Type 0) → (A × List Word → Result Query QueryFault) → QueryFault → Type 0
Next A g fault =
    (past : List (List ℕ)) (x : A) (rest : List Word) → IsSettled past → g (x, rest) ≡ Err fault
    → IsFaultBehind past rest fault

-- a part of a query, after words that settle
abbrev pub Part : (A : Type 0) → (List Word → Read A) → Type 0
Part A read = (past : List (List ℕ)) (ws : List Word) (g : A × List Word → Result Query QueryFault) (fault : QueryFault)
    → IsSettled past → (read ws >>= g) ≡ Err fault → Next A g fault → IsFaultBehind past ws fault

-- what is read after a word of its own
abbrev pub Row : (A : Type 0) → List ℕ → (List Word → Read A) → Type 0
Row A text read =
    (past : List (List ℕ)) (ws : List Word) (g : A × List Word → Result Query QueryFault) (fault : QueryFault)
    → (read ws >>= g) ≡ Err fault → Next A g fault → IsFaultBehind (text ∷ past) ws fault

-- a row, or one of those below it
row_step : {A : Type 0} (text : List ℕ) (read : List Word → Read A) (table : List (List ℕ × (List Word → Read A)))
    (otherwise : List Word → Read A)
    → Row A text read → Part A (by_word table otherwise) → Part A (by_word ((text, read) ∷ table) otherwise)
row_step text read table otherwise row others past [] g fault settled e next = others past [] g fault settled e next
row_step text read table otherwise row others past (w ∷ rest) g fault settled e next =
    elim (cases_Bool (says text w.1)) [
      | inl same ↦
          let found = rw (same, by_word) at e in
          further past w rest fault (subst (λ (t : List ℕ). IsFaultBehind (t ∷ past) rest fault)
          (sym (said text w.1 same)) (row past rest g fault found next))
      | inr differs ↦ let missing = rw (differs, by_word) at e in others past (w ∷ rest) g fault settled missing next
    ]

-- so with all rows
pub rows_part : {A : Type 0} (table : List (List ℕ × (List Word → Read A))) (otherwise : List Word → Read A)
    → AllByRecursion (λ row. Row A row.0 row.1) table → Part A otherwise → Part A (by_word table otherwise)
rows_part [] otherwise rows others = others
rows_part (row ∷ table) otherwise rows others =
    row_step row.0 row.1 table otherwise rows.0 (rows_part table otherwise rows.1 others)

-- what is at the place after some words has a form, and a value is read of what has it
abbrev pub ReadByForm : {A : Type 0} → (List ℕ → Option A) → List (List ℕ) → Type 0
ReadByForm read past = (word : List ℕ) → has_form (place_behind past) word ≡ Some (is_some (read word))

-- the kind of an error of a value with limits
pub limited_kind : {A : Type 0} (read : List ℕ → Option A) (within : A → Bool) (past : List (List ℕ))
    → ReadByForm read past → (w : Word) (f : QueryFault) → tested read within OutOfLimits w ≡ Err f
    → IsKind f w.0 past w.1
limited_kind read within past form w f e = grind (arith, ints, tested_err)

-- of a number
pub number_kind : (low high : ℕ) (past : List (List ℕ)) → place_behind past ≡ a_number → (w : Word) (f : QueryFault)
    → number low high w ≡ Err f → IsKind f w.0 past w.1
unfolding number
number_kind low high past place w f e = limited_kind natural (is_within low high) past
    (λ word. ap (λ p. has_form p word) place) w f e

-- of an element
pub element_kind : (allows : Element → Bool) (past : List (List ℕ)) → IsSettled past → (w : Word) (f : QueryFault)
    → element allows w ≡ Err f → IsKind f w.0 past w.1
unfolding element
element_kind allows past settled w f e = elim (tested_err element_of allows UnexpectedWord w f e) [
  | inl none ↦ subst (λ f. IsKind f w.0 past w.1) none.1 (λ at. (at, inl settled))
  | inr wrong ↦ subst (λ f. IsKind f w.0 past w.1) wrong.2 (λ at. (at, inl settled))
]

-- of degrees
pub degrees_kind : (low high : ℤ) (past : List (List ℕ)) → place_behind past ≡ edge → (w : Word) (f : QueryFault)
    → degrees low high w ≡ Err f → IsKind f w.0 past w.1
unfolding degrees
degrees_kind low high past place w f e = subst (λ f. IsKind f w.0 past w.1)
    (test_err (is_number_within low high (scaled_field 4 w.1)) (number_of (scaled_field 4 w.1)) (BadBox w.0) f e).1
    (λ at. (at, place))

-- of a code
pub code_kind : (len : ℕ) (past : List (List ℕ)) → IsSettled past → (w : Word) (f : QueryFault) → code len w ≡ Err f
    → IsKind f w.0 past w.1
unfolding code
code_kind len past settled w f e = subst (λ f. IsKind f w.0 past w.1)
    (test_err (is_code len w.1) w.1 (UnexpectedWord w.0) f e).1 (λ at. (at, inl settled))

-- and of a date
pub date_kind : (past : List (List ℕ)) → place_behind past ≡ a_date → (w : Word) (f : QueryFault) → date w ≡ Err f
    → IsKind f w.0 past w.1
unfolding date
date_kind past place w f e =
    let none = or_fault_err (BadDate w.0) f (read_date w.1) e in
    subst (λ f. IsKind f w.0 past w.1) none.1 (λ at. (at, inl (place, ap is_some none.0)))

-- also of the days of a season
pub dates_kind : (past : List (List ℕ)) → place_behind past ≡ a_dates → (w : Word) (f : QueryFault) → dates w ≡ Err f
    → IsKind f w.0 past w.1
unfolding dates
dates_kind past place w f e =
    let none = or_fault_err (BadDate w.0) f (two_days w.1) e in
    subst (λ f. IsKind f w.0 past w.1) none.1 (λ at. (at, inr (place, ap is_some none.0)))
