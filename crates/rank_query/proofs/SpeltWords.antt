-- Words that spell those of a part of a query: what is read as the part spells it, and what spells it is read as it.
use Rattle.rank_query.proofs.Cited.{◌≡◌, ℕ, ◌+◌, List, [], ◌∷◌, ◌++◌, Result, Ok, refl, sym, ap, ◌∙◌, subst, inl, inr}
use Rattle.rank_query.proofs.Cited.{AllZip, AllByRecursion, enumerate_from, QueryWord, Exactly, SpellsWord, QueryFault}
use Rattle.rank_query.proofs.Cited.{Word, ◌>>=◌, Read, one_word, made_into, by_word}
use Rattle.rank_query.proofs.OneWords.{HasNoBlank}
use Rattle.rank_query.proofs.ReadingSteps.{unnumbered, one_word_took, made_into_took, by_word_took}

-- words spell these, one by one
abbrev pub SpellAll : List (List ℕ) → List QueryWord → Type 0
SpellAll words these = AllZip SpellsWord words these

-- so they do if no blank is in them
abbrev pub Spell : List (List ℕ) → List QueryWord → Type 0
Spell words these = AllByRecursion HasNoBlank words → SpellAll words these

-- words spell these and others, if what is left of them spells the others
abbrev pub Took : List QueryWord → List (List ℕ) → List Word → Type 0
Took these words rest = (others : List QueryWord) → Spell (unnumbered rest) others → Spell words (these ++ others)

-- what is read after some words spells, with them, the words of its value
abbrev pub TakesBehind : {A : Type 0} → List (List ℕ) → (A → List QueryWord) → (List Word → Read A) → Type 0
TakesBehind {A} front words read =
    (ws rest : List Word) (x : A) → read ws ≡ Ok (x, rest) → Took (words x) (front ++ unnumbered ws) rest

-- what is read was a value, and the words after it
pub took_same : {A : Type 0} (words : A → List QueryWord) (all : List (List ℕ)) (x y : A) (left rest : List Word)
    → ◌≡◌ {A = Read A} (Ok (x, left)) (Ok (y, rest)) → Took (words x) all left → Took (words y) all rest
took_same {A} words all x y left rest e took =
    let pair : (x, left) ≡ (y, rest) = cc in subst (λ (p : A × List Word). Took (words p.0) all p.1) pair took

-- one word is taken, if it spells what it is read as
pub word_took : {A : Type 0} (value : Word → Result A QueryFault) (word_of : A → QueryWord)
    → ((w : Word) (x : A) → HasNoBlank w.1 → value w ≡ Ok x → SpellsWord w.1 (word_of x))
    → TakesBehind [] (λ x. word_of x ∷ []) (one_word value)
word_took value word_of spells = λ ws rest x e.
    let word = one_word_took value ws rest x e in
    subst (λ words. Took (word_of x ∷ []) words rest) (sym word.1)
    (λ others more clean. (spells word.0 x clean.0 word.2, more clean.1))

-- and what is made of it is, after a word of its own
pub made_took : {A B : Type 0} (text : List ℕ) (make : A → B) (inner : A → List QueryWord) (words : B → List QueryWord)
    (read : List Word → Read A) → ((x : A) → words (make x) ≡ Exactly text ∷ inner x) → TakesBehind [] inner read
    → TakesBehind (text ∷ []) words (λ ws. made_into make (read ws))
made_took text make inner words read are took = λ ws rest y e.
    let made = made_into_took make (read ws) rest y e in
    let all = took ws rest made.0 made.1 in
    subst (λ these. Took these (text ∷ unnumbered ws) rest) (sym (are made.0) ∙ ap words made.2)
    (λ others more clean. (refl, all others more clean.1))

-- what is read by its first word, or without one, is taken if each row takes what comes after its word
pub rows_took : {A : Type 0} (words : A → List QueryWord) (table : List (List ℕ × (List Word → Read A)))
    (otherwise : List Word → Read A) → AllByRecursion (λ row. TakesBehind (row.0 ∷ []) words row.1) table
    → TakesBehind [] words otherwise → TakesBehind [] words (by_word table otherwise)
rows_took words [] otherwise rows none = none
rows_took words (row ∷ table) otherwise rows none = λ ws rest x e.
    elim (by_word_took row.0 row.1 table otherwise ws (x, rest) e) [
      | inl here ↦ subst (λ all. Took (words x) all rest) (sym here.1) (rows.0 here.0 rest x here.2)
      | inr later ↦ rows_took words table otherwise rows.1 none ws rest x later
    ]

-- words are read as a value, and the rest of them, whose first one has this number, spells others
pub record IsRead (A : Type 0) (read : List Word → Read A) (x : A) (others : List QueryWord) (words : List (List ℕ))
    (n : ℕ) : Type 0 where
  pub rest : List (List ℕ)
  pub at : ℕ
  pub reads : read (enumerate_from n words) ≡ Ok (x, enumerate_from at rest)
  pub spells : SpellAll rest others

-- so it is with all words that spell these, whatever their numbers
abbrev pub ReadsAs : {A : Type 0} → (List Word → Read A) → A → List QueryWord → List QueryWord → Type 0
ReadsAs {A} read x these others =
    (words : List (List ℕ)) (n : ℕ) → SpellAll words these → IsRead A read x others words n

-- a word that has a value is read as it
pub word_read : {A : Type 0} (value : Word → Result A QueryFault) (y : QueryWord) (x : A) {others : List QueryWord}
    → ((at : ℕ) (word : List ℕ) → SpellsWord word y → value (at, word) ≡ Ok x)
    → ReadsAs (one_word value) x (y ∷ others) others
word_read value y x has [] n spelt = absurd spelt
word_read {A} value y x has (w ∷ words) n spelt = record {
  rest = words;
  at = n + 1;
  reads = ap (λ (r : Result A QueryFault). r >>= λ x. Ok (x, enumerate_from (n + 1) words)) (has n w spelt.0);
  spells = spelt.1;
}

-- what is made of it is made
pub made_read : {A B : Type 0} {read : List Word → Read A} {x : A} {these others : List QueryWord} (make : A → B)
    → ReadsAs read x these others → ReadsAs (λ ws. made_into make (read ws)) (make x) these others
made_read make reads words n spelt =
    let it = reads words n spelt in
    record { rest = it.rest; at = it.at; reads = ap (made_into make) it.reads; spells = it.spells }

-- and reading goes on after it
pub then_read : {A B : Type 0} {read : List Word → Read A} {x : A} {z : B} {these middle others : List QueryWord}
    (onward : A × List Word → Read B) → ReadsAs read x these middle
    → ReadsAs (λ ws. onward (x, ws)) z middle others → ReadsAs (λ ws. read ws >>= onward) z these others
then_read onward one next words n spelt =
    let first = one words n spelt in
    let left = next first.rest first.at first.spells in
    record {
      rest = left.rest;
      at = left.at;
      reads = ap (λ r. r >>= onward) first.reads ∙ left.reads;
      spells = left.spells;
    }

-- or after a word of its own
pub behind_read : {A : Type 0} {x : A} {these others : List QueryWord} (whole read : List Word → Read A) (text : List ℕ)
    → ((at : ℕ) (ws : List Word) → whole ((at, text) ∷ ws) ≡ read ws) → ReadsAs read x these others
    → ReadsAs whole x (Exactly text ∷ these) others
behind_read whole read text same reads [] n spelt = absurd spelt
behind_read whole read text same reads (w ∷ words) n spelt =
    let left = reads words (n + 1) spelt.1 in
    record {
      rest = left.rest;
      at = left.at;
      reads = ap (λ (v : List ℕ). whole ((n, v) ∷ enumerate_from (n + 1) words)) spelt.0
          ∙ same n (enumerate_from (n + 1) words) ∙ left.reads;
      spells = left.spells;
    }

-- if no word is needed all are left
pub always_read : {A : Type 0} {read : List Word → Read A} {x : A} {others : List QueryWord}
    → ((ws : List Word) → read ws ≡ Ok (x, ws)) → ReadsAs read x others others
always_read same words n spelt =
    record { rest = words; at = n; reads = same (enumerate_from n words); spells = spelt }

-- with none of these words coming first none is read
abbrev pub PassesBy : {A : Type 0} → (List Word → Read A) → A → List QueryWord → Type 0
PassesBy read x [] = read [] ≡ Ok (x, [])
PassesBy read x (y ∷ these) =
    (text : List ℕ) × (y ≡ Exactly text)
    × ((at : ℕ) (ws : List Word) → read ((at, text) ∷ ws) ≡ Ok (x, (at, text) ∷ ws))

-- so they are left
pub passed_by : {A : Type 0} (read : List Word → Read A) (x : A) (others : List QueryWord) → PassesBy read x others
    → ReadsAs read x others others
passed_by read x [] passes [] n spelt = record { rest = []; at = n; reads = passes; spells = tt }
passed_by read x [] passes (w ∷ words) n spelt = absurd spelt
passed_by read x (y ∷ others) passes [] n spelt = absurd spelt
passed_by read x (y ∷ others) passes (w ∷ words) n spelt =
    let word : w ≡ passes.0 = subst (SpellsWord w) passes.1 spelt.0 in
    record {
      rest = w ∷ words;
      at = n;
      reads = subst (λ (v : List ℕ). read ((n, v) ∷ enumerate_from (n + 1) words) ≡ Ok
          (x, (n, v) ∷ enumerate_from (n + 1) words)) (sym word) (passes.2 n (enumerate_from (n + 1) words));
      spells = spelt;
    }
