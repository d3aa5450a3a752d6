-- What follows when a step of the reading succeeds.
use Rattle.rank_query.proofs.Cited.{cases_Bool, ints, arith, ◌≡◌, ℕ, ◌+◌, Bool, true, false, cond, ◌⊎◌, inl, inr, List}
use Rattle.rank_query.proofs.Cited.{[], ◌∷◌, map, Option, Some, None, Result, Ok, Err, refl, ap, enumerate_from}
use Rattle.rank_query.proofs.Cited.{bytes_decides, QueryFault, UnexpectedWord, Word, says, ◌>>=◌, Read, or_fault}
use Rattle.rank_query.proofs.Cited.{keyword, one_word, made_into, by_word}

-- both steps of a reading that succeeds do
pub bind_ok : {A B : Type 0} (r : Result A QueryFault) (f : A → Result B QueryFault) (y : B) → (r >>= f) ≡ Ok y
    → (x : A) × (r ≡ Ok x) × (f x ≡ Ok y)
bind_ok (Ok x) f y e = (x, refl, e)
bind_ok (Err d) f y e = cc

-- three steps one after another
pub assoc : {A B C : Type 0} (r : Result A QueryFault) (f : A → Result B QueryFault) (g : B → Result C QueryFault)
    → ((r >>= f) >>= g) ≡ (r >>= λ x. f x >>= g)
assoc (Ok x) f g = refl
assoc (Err d) f g = refl

-- a test that doesn't fail holds
pub test_ok : {A : Type 0} (b : Bool) (x y : A) (fault : QueryFault) → cond b (Ok x) (Err fault) ≡ Ok y → (b ≡ true)
    × (x ≡ y)
test_ok true x y fault e = (refl, cc)
test_ok false x y fault e = cc

-- what is an error if a test passes, and a result otherwise, succeeds only with that result
pub else_ok : {A : Type 0} (b : Bool) (fault : QueryFault) (r : Result A QueryFault) (x : A)
    → cond b (Err fault) r ≡ Ok x → r ≡ Ok x
else_ok true fault r x e = cc
else_ok false fault r x e = e

-- a value that is needed is there
pub or_fault_ok : {A : Type 0} (fault : QueryFault) (o : Option A) (x : A) → or_fault fault o ≡ Ok x → o ≡ Some x
or_fault_ok fault None x e = cc
or_fault_ok fault (Some v) x e = cc

-- a test that fails has its error
pub test_err : {A : Type 0} (b : Bool) (x : A) (named fault : QueryFault) → cond b (Ok x) (Err named) ≡ Err fault
    → (b ≡ false) × (named ≡ fault)
test_err true x named fault e = absurd cc
test_err false x named fault e = (refl, cc)

-- and so has a value that isn't there
pub or_fault_err : {A : Type 0} (named fault : QueryFault) (o : Option A) → or_fault named o ≡ Err fault
    → (o ≡ None) × (named ≡ fault)
or_fault_err named fault None e = (refl, cc)
or_fault_err named fault (Some x) e = absurd cc

-- the value of a word that has one and passes a test, which has an error of its own
abbrev pub tested : {A : Type 0} → (List ℕ → Option A) → (A → Bool) → (ℕ → QueryFault) → Word → Result A QueryFault
tested read passes bad w = or_fault (UnexpectedWord w.0) (read w.1) >>= λ x. cond (passes x) (Ok x) (Err (bad w.0))

module _ {A : Type 0} (read : List ℕ → Option A) (passes : A → Bool) (bad : ℕ → QueryFault) where
  -- a word that is read so has the value, and the value passes
  pub tested_ok : (w : Word) (x : A) → tested read passes bad w ≡ Ok x → (read w.1 ≡ Some x) × (passes x ≡ true)
  tested_ok w x e = grind (arith, ints, test_ok, or_fault_ok)

  -- a word whose value passes is read so
  pub tested_again : (at : ℕ) (word : List ℕ) (x : A) → read word ≡ Some x → passes x ≡ true
      → tested read passes bad (at, word) ≡ Ok x
  tested_again at word x is passed = cc

  -- another has no value, or one that fails
  pub tested_err : (w : Word) (fault : QueryFault) → tested read passes bad w ≡ Err fault
      → ((read w.1 ≡ None) × (UnexpectedWord w.0 ≡ fault)) ⊎ ((x : A) × (read w.1 ≡ Some x) × (bad w.0 ≡ fault))
  tested_err w fault e = by_value (read w.1) refl e where
    by_value : (o : Option A) → read w.1 ≡ o
        → (or_fault (UnexpectedWord w.0) o >>= λ x. cond (passes x) (Ok x) (Err (bad w.0))) ≡ Err fault
        → ((read w.1 ≡ None) × (UnexpectedWord w.0 ≡ fault)) ⊎ ((x : A) × (read w.1 ≡ Some x) × (bad w.0 ≡ fault))
    by_value None is e = inl (is, cc)
    by_value (Some x) is e = inr (x, is, (test_err (passes x) x (bad w.0) fault e).1)

-- the words without their numbers
abbrev pub unnumbered : List Word → List (List ℕ)
unnumbered ws = map (λ w. w.1) ws

-- numbers come and go
pub unnumbered-enumerate_from : (n : ℕ) (words : List (List ℕ)) → unnumbered (enumerate_from n words) ≡ words
unnumbered-enumerate_from n [] = refl
unnumbered-enumerate_from n (w ∷ words) = ap (λ ws. w ∷ ws) (unnumbered-enumerate_from (n + 1) words)

-- a word that is found to be this one is
pub said : (text word : List ℕ) → says text word ≡ true → word ≡ text
unfolding says
said text word e = (bytes_decides word text).0 e

-- the keyword that was read is there
pub keyword_took : (text : List ℕ) (ws rest : List Word) → keyword text ws ≡ Ok rest
    → unnumbered ws ≡ text ∷ unnumbered rest
unfolding keyword
keyword_took text [] rest e = cc
keyword_took text (w ∷ ws) rest e =
    let test = test_ok (says text w.1) ws rest (UnexpectedWord w.0) e in
    rw (said text w.1 test.0, test.1)

-- the word that was read is there, and was read as its value
pub one_word_took : {A : Type 0} (value : Word → Result A QueryFault) (ws rest : List Word) (x : A)
    → one_word value ws ≡ Ok (x, rest) → (w : Word) × (unnumbered ws ≡ w.1 ∷ unnumbered rest) × (value w ≡ Ok x)
one_word_took value [] rest x e = cc
one_word_took {A} value (w ∷ ws) rest x e = grind (arith, ints, bind_ok)

-- what was made was read, with the same words after it
pub made_into_took : {A B : Type 0} (make : A → B) (r : Read A) (rest : List Word) (y : B)
    → made_into make r ≡ Ok (y, rest) → (x : A) × (r ≡ Ok (x, rest)) × (make x ≡ y)
made_into_took {A} {B} make (Ok p) rest y e = grind (arith, ints)
made_into_took make (Err fault) rest y e = cc

-- what is read by the first of some words was read after that word, or by a later one
pub by_word_took : {A : Type 0} (text : List ℕ) (reader : List Word → Read A)
    (others : List (List ℕ × (List Word → Read A))) (otherwise : List Word → Read A) (ws : List Word)
    (y : A × List Word) → by_word ((text, reader) ∷ others) otherwise ws ≡ Ok y
    → ((rest : List Word) × (unnumbered ws ≡ text ∷ unnumbered rest) × (reader rest ≡ Ok y))
    ⊎ (by_word others otherwise ws ≡ Ok y)
by_word_took text reader others otherwise [] y e = inr e
by_word_took text reader others otherwise (w ∷ ws) y e = elim (cases_Bool (says text w.1)) [
  | inl same ↦
      let read = rw (same, by_word) at e in inl (ws, ap (λ word. word ∷ unnumbered ws) (said text w.1 same), read)
  | inr other ↦ let read = rw (other, by_word) at e in inr read
]

-- a word that has a value is read as it, and the reading goes on after it
pub one_word_again : {A B : Type 0} (value : Word → Result A QueryFault) (n : ℕ) (word : List ℕ)
    (more : List (List ℕ)) (x : A) (onward : A × List Word → Result B QueryFault)
    → value (n, word) ≡ Ok x → (one_word value (enumerate_from n (word ∷ more)) >>= onward) ≡ onward
    (x, enumerate_from (n + 1) more)
one_word_again {A} value n word more x onward e =
    ap (λ (r : Result A QueryFault). (r >>= λ y. Ok (y, enumerate_from (n + 1) more)) >>= onward) e
