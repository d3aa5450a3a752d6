-- Where the reading of one word stops, and that of a part that its first word determines.
use Rattle.rank_query.proofs.Cited.{cases_Bool, ◌≡◌, ℕ, zero, Bool, true, false, cond, ◌⊎◌, inl, inr, List, [], ◌∷◌}
use Rattle.rank_query.proofs.Cited.{Result, Ok, Err, refl, sym, ap, ◌∙◌, subst, AllByRecursion, QueryFault}
use Rattle.rank_query.proofs.Cited.{UnexpectedWord, QueryEnds, Word, says, ◌>>=◌, Read, keyword, one_word, made_into}
use Rattle.rank_query.proofs.Cited.{by_word}
use Rattle.rank_query.proofs.OneWords.{HasNoBlank}
use Rattle.rank_query.proofs.ReadingSteps.{bind_ok, test_err, made_into_took}
use Rattle.rank_query.proofs.Stops.{Reading, then, GoesOn, IsWordOf, Stops, StopsFirst, TakesAll, Ended, ReadsPart}
use Rattle.rank_query.proofs.Stops.{bind_err, Follows, same_follows, on_follows, stops_follows, stops_behind}
use Rattle.rank_query.proofs.Stops.{stops_word, stops_end, takes_behind}

-- a word's value is good, the error of a word without one names the word's number, and some word has a value
pub record ReadsWord (A : Type 0) (Good : A → Type 0) (value : Word → Result A QueryFault) : Type 0 where
  pub good : (w : Word) (x : A) → value w ≡ Ok x → Good x
  pub told : (w : Word) (fault : QueryFault) → value w ≡ Err fault → IsWordOf fault [] w
  pub sample : List ℕ
  pub clean : HasNoBlank sample
  pub it : A
  pub reads : value (0, sample) ≡ Ok it

-- that word goes on alone
word_on : {A : Type 0} {Good : A → Type 0} {value : Word → Result A QueryFault} → ReadsWord A Good value
    → GoesOn (A × List Word) Ended (one_word value)
word_on {A} word = record {
  tail = (0, word.sample) ∷ [];
  clean = (word.clean, tt);
  value = (word.it, []);
  good = refl;
  reads = ap (λ (r : Result A QueryFault). r >>= λ x. Ok (x, [])) word.reads;
}

-- a missing word and one without a value are errors
word_stops : {A : Type 0} {Good : A → Type 0} {value : Word → Result A QueryFault} → ReadsWord A Good value
    → (ws : List Word) (fault : QueryFault) → one_word value ws ≡ Err fault
    → Stops (A × List Word) Ended (one_word value) fault ws
word_stops word [] fault e =
    stops_end [] (word_on word) (let same : fault ≡ QueryEnds = cc in same)
word_stops {A} {value = value} word (w ∷ ws) fault e = elim (bind_err (value w) (λ x. Ok (x, ws)) fault e) [
  | inl here ↦ stops_word [] w ws (word_on word) (word.told w fault here)
      (λ more. ap (λ (r : Result A QueryFault). r >>= λ x. Ok (x, more)) here)
  | inr later ↦ absurd (ok_is_no_fault (later.0, ws) fault later.2)
] where
  ok_is_no_fault : (r : A × List Word) (fault : QueryFault) → ◌≡◌ {A = Read A} (Ok r) (Err fault) → ⊥
  ok_is_no_fault r fault e = absurd cc

-- a word with a value is taken
word_takes : {A : Type 0} {Good : A → Type 0} {value : Word → Result A QueryFault} → ReadsWord A Good value
    → TakesAll A Good (one_word value)
word_takes word [] r e = absurd cc
word_takes {A} {value = value} word (w ∷ ws) r e =
    let both = bind_ok (value w) (λ x. Ok (x, ws)) r e in
    let pair : (both.0, ws) ≡ r = cc in
    record {
      good = word.good w r.0 (both.1 ∙ ap (λ (p : A × List Word). Ok p.0) pair);
      taken = w ∷ [];
      parts = ap (λ (p : A × List Word). w ∷ p.1) pair;
      again = λ more. ap (λ (r : Result A QueryFault). r >>= λ x. Ok (x, more)) both.1
          ∙ ap (λ (p : A × List Word). Ok (p.0, more)) pair;
    }

-- one word is a part
pub part_word : {A : Type 0} {Good : A → Type 0} {value : Word → Result A QueryFault} → ReadsWord A Good value
    → ReadsPart A Good (one_word value)
part_word word = record { first = record { on = word_on word; stops = word_stops word }; takes = word_takes word }

-- an error of what was made is that of what it is made of
made_err : {A B : Type 0} (make : A → B) (r : Read A) (fault : QueryFault) → made_into make r ≡ Err fault
    → r ≡ Err fault
made_err make (Ok p) fault e = absurd cc
made_err make (Err d) fault e = let same : d ≡ fault = cc in ap Err same

-- what is made of a part is one
pub part_made : {A B : Type 0} {GoodA : A → Type 0} {Good : B → Type 0} {read : Reading (A × List Word)} (make : A → B)
    → ((x : A) → GoodA x → Good (make x))
    → ReadsPart A GoodA read → ReadsPart B Good (λ ws. made_into make (read ws))
part_made {A} {B} {GoodA} {Good} {read} make good part = record {
  first =
      let follows : Follows (λ r. (make r.0, r.1)) (λ ws. made_into make (read ws)) [] read = record {
        ok = λ more x e. ap (made_into make) e;
        err = λ more fault e. ap (made_into make) e;
      } in
      record {
        on = on_follows Ended Ended _ _ read [] [] (λ r is. is) follows part.first.on;
        stops = λ ws fault e. stops_follows Ended Ended _ _ read [] ws fault (λ r is. is) follows
            (part.first.stops ws fault (made_err make (read ws) fault e));
      };
  takes = λ ws r e.
      let made = made_into_took make (read ws) r.1 r.0 e in
      let took = part.takes ws (made.0, r.1) made.1 in
      record {
        good = subst Good made.2 (good made.0 took.good);
        taken = took.taken;
        parts = took.parts;
        again = λ more. ap (made_into make) (took.again more) ∙ ap (λ (y : B). Ok (y, more)) made.2;
      };
}

-- a value without a word is a part
pub part_always : {A : Type 0} {Good : A → Type 0} (y : A) → Good y → ReadsPart A Good (λ ws. Ok (y, ws))
part_always {A} {Good} y good = record {
  first = record {
    on = record { tail = []; clean = tt; value = (y, []); good = refl; reads = refl };
    stops = λ ws fault e. absurd cc;
  };
  takes = λ ws r e.
      let pair : (y, ws) ≡ r = cc in
      record {
        good = subst Good (ap (λ (p : A × List Word). p.0) pair) good;
        taken = [];
        parts = ap (λ (p : A × List Word). p.1) pair;
        again = λ more. ap (λ (p : A × List Word). Ok (p.0, more)) pair;
      };
}

-- the word itself, which has to be the next one
abbrev pub the_word : List ℕ → Word → Result ℕ QueryFault
the_word text w = cond (says text w.1) (Ok zero) (Err (UnexpectedWord w.0))

-- no condition
abbrev pub Any : {A : Type 0} → A → Type 0
Any x = Unit {0}

-- so is a keyword
pub part_the_word : (text : List ℕ) → HasNoBlank text → says text text ≡ true
    → ReadsPart ℕ Any (one_word (the_word text))
part_the_word text clean same = part_word (record {
  good = λ w x e. tt;
  told = λ w fault e. subst (λ f. IsWordOf f [] w) (test_err (says text w.1) zero (UnexpectedWord w.0) fault e).1 refl;
  sample = text;
  clean = clean;
  it = zero;
  reads = ap (λ b. cond b (Ok zero) (Err (UnexpectedWord 0))) same;
})

-- what was found out of a word, and the words after it
abbrev pub beside : {A : Type 0} → List Word → Result A QueryFault → Read A
beside ws value = value >>= λ x. Ok (x, ws)

-- a keyword read as a word with a value
by_test : {C : Type 0} (b : Bool) (w : Word) (ws : List Word) (onward : Reading C)
    → (cond b (Ok ws) (Err (UnexpectedWord w.0)) >>= onward) ≡
    (beside ws (cond b (Ok zero) (Err (UnexpectedWord w.0))) >>= λ r. onward r.1)
by_test true w ws onward = refl
by_test false w ws onward = refl

-- and reading goes on after it
pub keyword-then : {C : Type 0} (text : List ℕ) (onward : Reading C) (ws : List Word)
    → (keyword text ws >>= onward) ≡ then (one_word (the_word text)) (λ x. onward) ws
unfolding keyword
keyword-then text onward [] = refl
keyword-then text onward (w ∷ ws) = by_test (says text w.1) w ws onward

-- a reading that always returns what another one does stops as it does
pub first_same : {C : Type 0} (Good : C → Type 0) (read other : Reading C) → ((ws : List Word) → other ws ≡ read ws)
    → StopsFirst C Good read → StopsFirst C Good other
first_same Good read other same first = record {
  on = on_follows Good Good (λ x. x) other read [] [] (λ x good. good) (same_follows other read [] same) first.on;
  stops = λ ws fault e. stops_behind Good other read [] ws fault same (first.stops ws fault (sym (same ws) ∙ e));
}

-- and takes what it takes
pub takes_same : {A : Type 0} (Good : A → Type 0) (read other : Reading (A × List Word))
    → ((ws : List Word) → other ws ≡ read ws) → TakesAll A Good read → TakesAll A Good other
takes_same Good read other same takes =
    λ ws r e. takes_behind Good other read [] ws r same (takes ws r (sym (same ws) ∙ e))

-- the first word determines by which row all is read that begins with it, or that none of the rows is used
pub by_first : {A : Type 0} (Good : A → Type 0) (table : List (List ℕ × (List Word → Read A)))
    (otherwise : List Word → Read A) (w : Word) → AllByRecursion (λ row. ReadsPart A Good row.1) table
    → ((read : List Word → Read A) × ReadsPart A Good read
    × ((rest : List Word) → by_word table otherwise (w ∷ rest) ≡ read rest))
    ⊎ ((rest : List Word) → by_word table otherwise (w ∷ rest) ≡ otherwise (w ∷ rest))
by_first Good [] otherwise w all = inr (λ rest. refl)
by_first Good (row ∷ table) otherwise w all = elim (cases_Bool (says row.0 w.1)) [
  | inl same ↦ inl (row.1, all.0, λ rest. rw (same, by_word) refl)
  | inr other ↦ elim (by_first Good table otherwise w all.1) [
    | inl found ↦ inl (found.0, found.1, λ rest. rw (other, by_word) (found.2 rest))
    | inr none ↦ inr (λ rest. rw (other, by_word) (none rest))
  ]
]
