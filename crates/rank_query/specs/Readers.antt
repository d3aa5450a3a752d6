-- How words are read one after another, until the first error.
use Rattle.std.specs.Prelude.{◌≡◌, ℕ, if◌then◌else◌, List, [], ◌∷◌, Option, None, Some, Result, Ok, Err}
use Rattle.rank_query.specs.declared.fault.QueryFault.{QueryFault}
use Rattle.rank_query.specs.declared.fault.QueryFault.TheVariants.{UnexpectedWord, QueryEnds}
use Rattle.rank_query.specs.Words.{Word, says, after}

-- what is read goes on to the next reader, and an error ends the reading
infixl 10 ◌>>=◌
abbrev pub ◌>>=◌ : {A B : Type 0} → Result A QueryFault → (A → Result B QueryFault) → Result B QueryFault
(Ok x) >>= f = f x
(Err e) >>= f = Err e

-- what a reader returns: a value and the words after it, or the first error
abbrev pub Read : Type 0 → Type 0
Read A = Result (A × List Word) QueryFault

-- what a call returned, seen by a view, is what reading returns
abbrev pub Gives : {X Y : Type 0} → (X → Y) → Result X QueryFault → Result Y QueryFault → Type 0
Gives view (Ok x) read = read ≡ Ok (view x)
Gives view (Err e) read = read ≡ Err e

-- the value, or this error if there is none
abbrev pub or_fault : {A : Type 0} → QueryFault → Option A → Result A QueryFault
or_fault fault None = Err fault
or_fault fault (Some x) = Ok x

-- the next word, which is needed
abbrev pub next_word : List Word → Read Word
next_word [] = Err QueryEnds
next_word (w ∷ ws) = Ok (w, ws)

-- the words after this one given word
unfoldable pub keyword : List ℕ → List Word → Result (List Word) QueryFault
keyword text ws = do
  w ← next_word ws
  if says text w.0.1 then Ok w.1 else Err (UnexpectedWord w.0.0)

-- what the next word, which is needed, is read as
abbrev pub one_word : {A : Type 0} → (Word → Result A QueryFault) → List Word → Read A
one_word value ws = do
  w ← next_word ws
  x ← value w.0
  Ok (x, w.1)

-- what a reader read, made into another value
abbrev pub made_into : {A B : Type 0} → (A → B) → Read A → Read B
made_into make (Ok r) = Ok (make r.0, r.1)
made_into make (Err e) = Err e

-- what is read after the first of some words that comes next, and otherwise what is read without one
abbrev pub by_word : {A : Type 0} → List (List ℕ × (List Word → Read A)) → (List Word → Read A) → List Word → Read A
by_word [] otherwise ws = otherwise ws
by_word (r ∷ rs) otherwise ws = elim (after r.0 ws) [ Some rest ↦ r.1 rest | None ↦ by_word rs otherwise ws ]
