-- The error that is reported is at the first word with which no query goes on.
use Rattle.rank_query.proofs.Cited.{cases_Bool, ◌≡◌, ℕ, ◌+◌, ◌⊎◌, inl, inr, List, [], ◌∷◌, ◌++◌, length, Result, Ok}
use Rattle.rank_query.proofs.Cited.{Err, refl, sym, ap, ◌∙◌, subst, append_assoc, append-nil, IfErr, arith, nat_lt}
use Rattle.rank_query.proofs.Cited.{enumerate_from, AllByRecursion, map-append, length-map, nat_tests, QueryFault}
use Rattle.rank_query.proofs.Cited.{QueryTooLong, UnexpectedWord, QueryEnds, OutOfLimits, BadDate, BadBox, EmptyPeriod}
use Rattle.rank_query.proofs.Cited.{Query, Word, words_of, numbered_words, SpellsQuery, read_words, read_query}
use Rattle.rank_query.proofs.Cited.{BeginQuery, IsFirstWrong, IsFirstWrongAt, SpellNone, StandsAmong, StandsIn}
use Rattle.rank_query.proofs.OneWords.{HasNoBlank, words_no_blank}
use Rattle.rank_query.proofs.ReadingSteps.{unnumbered, unnumbered-enumerate_from}
use Rattle.rank_query.proofs.Spellings.{words_spell, spelt_read}
use Rattle.rank_query.proofs.Stops.{HaveNoBlank, blank_in_neither, GoesOn, IsWordOf, StopsAt}
use Rattle.rank_query.proofs.PartStops.{Any}
use Rattle.rank_query.proofs.QueryStops.{query_first}
use Rattle.rank_query.proofs.ReadAsked.{words_asked}

-- the words in front of others have no blank if none of all has
blank_in_front : (front back : List Word) → AllByRecursion HasNoBlank (unnumbered (front ++ back)) → HaveNoBlank front
blank_in_front [] back clean = tt
blank_in_front (w ∷ front) back clean = (clean.0, blank_in_front front back clean.1)

-- a word that comes after others has the number that follows theirs, and so it is with other words after it
pub record IsPlace (n : ℕ) (before : List Word) (w : Word) : Type 0 where
  pub number : w.0 ≡ n + length before
  pub again : (more : List (List ℕ)) → (rest : List Word)
      × (enumerate_from n (unnumbered before ++ w.1 ∷ more) ≡ before ++ w ∷ rest)

-- the numbers of words give their places
pub place_of : (n : ℕ) (words : List (List ℕ)) (before : List Word) (w : Word) (behind : List Word)
    → enumerate_from n words ≡ before ++ w ∷ behind → IsPlace n before w
place_of n [] [] w behind e = absurd cc
place_of n (v ∷ words) [] w behind e =
    let first : (n, v) ≡ w = cc in
    let at : n ≡ w.0 = ap (λ (w : Word). w.0) first in
    record {
      number = omega (arith, at);
      again = λ more. (enumerate_from (n + 1) more, ap (λ (m : ℕ). (m, w.1) ∷ enumerate_from (n + 1) more) at);
    }
place_of n [] (b ∷ before) w behind e = absurd cc
place_of n (v ∷ words) (b ∷ before) w behind e =
    let first : (n, v) ≡ b = cc in
    let others : enumerate_from (n + 1) words ≡ before ++ w ∷ behind = cc in
    let at : n ≡ b.0 = ap (λ (w : Word). w.0) first in
    let place = place_of (n + 1) words before w behind others in
    record {
      number = omega (arith, place.number);
      again = λ more.
          let rest = place.again more in (
            rest.0,
            ap (λ (m : ℕ). (m, b.1) ∷ enumerate_from (n + 1) (unnumbered before ++ w.1 ∷ more)) at
                ∙ ap (λ ws. b ∷ ws) rest.1,
          );
    }

-- words after which a query is read begin one
begun : (before left : List Word) → AllByRecursion HasNoBlank (unnumbered (before ++ left))
    → GoesOn Query Any (λ tail. read_words (before ++ tail)) → BeginQuery (unnumbered before)
begun before left clean on =
    let all = blank_in_neither before on.tail (blank_in_front before left clean) on.clean in
    record {
      query = on.value;
      can_be_asked = words_asked (before ++ on.tail) on.value on.reads;
      more = unnumbered on.tail;
      spelt = subst (λ ws. SpellsQuery ws on.value) (map-append (λ (w : Word). w.1) before on.tail)
          (words_spell (before ++ on.tail) on.value all on.reads);
    }

-- words with which no query is read begin none
ended : (before : List Word) (w : Word) (fault : QueryFault) → IsPlace 1 before w
    → ((more : List Word) → read_words (before ++ w ∷ more) ≡ Err fault) → BeginQuery (unnumbered before ++ w.1 ∷ [])
    → ⊥
ended before w fault place stops begin =
    let rest = place.again begin.more in
    let words : (unnumbered before ++ w.1 ∷ []) ++ begin.more ≡ unnumbered before ++ w.1 ∷ begin.more = append_assoc
    (unnumbered before) (w.1 ∷ []) begin.more in
    let read = spelt_read ((unnumbered before ++ w.1 ∷ []) ++ begin.more) begin.query begin.can_be_asked begin.spelt in
    let both : ◌≡◌ {A = Result Query QueryFault} (Ok begin.query) (Err fault) = sym read
    ∙ ap (λ ws. read_words (enumerate_from 1 ws)) words ∙ ap read_words rest.1 ∙ stops rest.0 in
    absurd cc

-- the error of a word is there
stands_at : (ws : List (List ℕ)) (fault : QueryFault) (before : List Word) (w : Word)
    → IsFirstWrong ws (unnumbered before) w.1 → w.0 ≡ 1 + length before → IsWordOf fault before w → StandsAmong ws fault
stands_at ws QueryTooLong before w wrong at is = absurd is
stands_at ws (UnexpectedWord n) before w wrong at is =
    (unnumbered before, w.1, wrong, omega (arith, is, at, length-map before (λ (w : Word). w.1)))
stands_at ws QueryEnds before w wrong at is = absurd is
stands_at ws (OutOfLimits n) before w wrong at is =
    (unnumbered before, w.1, wrong, omega (arith, is, at, length-map before (λ (w : Word). w.1)))
stands_at ws (BadDate n) before w wrong at is =
    (unnumbered before, w.1, wrong, omega (arith, is, at, length-map before (λ (w : Word). w.1)))
stands_at ws (BadBox n) before w wrong at is =
    (unnumbered before, w.1, wrong, omega (arith, is, at, length-map before (λ (w : Word). w.1)))
stands_at ws EmptyPeriod before w wrong at is = (unnumbered before, w.1, wrong, is)

-- the error of words is where the reading stops
by_left : (text : List ℕ) (fault : QueryFault) (before left : List Word) → read_words (numbered_words text) ≡ Err fault
    → words_of text ≡ unnumbered (before ++ left) → numbered_words text ≡ before ++ left
    → BeginQuery (unnumbered before) → StopsAt read_words fault before left → StandsAmong (words_of text) fault
by_left text fault before [] e words numbered begins at =
    let same : words_of text ≡ unnumbered before = words ∙ ap unnumbered (append-nil before) in
    let none : SpellNone (words_of text) = λ q is spelt.
    let both : ◌≡◌ {A = Result Query QueryFault} (Ok q) (Err fault) = sym (spelt_read (words_of text) q is spelt) ∙ e in
    absurd cc in
    subst (StandsAmong (words_of text)) (sym at) (subst BeginQuery (sym same) begins, none)
by_left text fault before (w ∷ behind) e words numbered begins at =
    let place = place_of 1 (words_of text) before w behind numbered in
    let wrong : IsFirstWrong (words_of text) (unnumbered before) w.1 = record {
      behind = unnumbered behind;
      parts = words ∙ map-append (λ (w : Word). w.1) before (w ∷ behind);
      begun = begins;
      ended = ended before w fault place at.1;
    } in
    stands_at (words_of text) fault before w wrong place.number at.0

-- an error of the words of a text is among them
words_fault : (text : List ℕ) (fault : QueryFault) → read_words (numbered_words text) ≡ Err fault
    → StandsAmong (words_of text) fault
words_fault text fault e =
    let stops = query_first.stops (numbered_words text) fault e in
    let words : words_of text ≡ unnumbered (stops.before ++ stops.left) = sym
    (unnumbered-enumerate_from 1 (words_of text)) ∙ ap unnumbered stops.parts in
    let clean = subst (AllByRecursion HasNoBlank) words (words_no_blank text) in
    by_left text fault stops.before stops.left e words stops.parts
    (begun stops.before stops.left clean stops.on) stops.at

-- and each error of a text is where it says
pub fault_stands : (text : List ℕ) (fault : QueryFault) → read_query text ≡ Err fault → StandsIn text fault
unfolding read_query
fault_stands text fault e = elim (cases_Bool (nat_lt 256 (length text))) [
  | inl long ↦ let told = rw long at e in let same : fault ≡ QueryTooLong = cc in inl (grind (arith, nat_tests), same)
  | inr short ↦ let read = rw short at e in inr (grind (arith, nat_tests), words_fault text fault read)
]

-- if the reading fails, the error is where it is reported
pub if_fault_stands : (text : List ℕ) (r : Result Query QueryFault) → r ≡ read_query text
    → IfErr r (λ fault. StandsIn text fault)
if_fault_stands text (Ok q) e = tt
if_fault_stands text (Err fault) e = fault_stands text fault (sym e)

-- words that begin a query still do so if some of the last are left out
fewer_begin : (front back : List (List ℕ)) → BeginQuery (front ++ back) → BeginQuery front
fewer_begin front back begin = record {
  query = begin.query;
  can_be_asked = begin.can_be_asked;
  more = back ++ begin.more;
  spelt = subst (λ ws. SpellsQuery ws begin.query) (append_assoc front back begin.more) begin.spelt;
}

-- of two words of one list, one is among those before the other, or both have the same number of words before them
two_places : (xs ys : List (List ℕ)) (x y : List ℕ) (behind_x behind_y : List (List ℕ))
    → xs ++ x ∷ behind_x ≡ ys ++ y ∷ behind_y
    → (length xs ≡ length ys) ⊎ ((back : List (List ℕ)) × (ys ≡ (xs ++ x ∷ []) ++ back))
    ⊎ ((back : List (List ℕ)) × (xs ≡ (ys ++ y ∷ []) ++ back))
two_places [] [] x y behind_x behind_y e = inl refl
two_places [] (v ∷ ys) x y behind_x behind_y e =
    let first : v ≡ x = cc in inr (inl (ys, ap (λ (w : List ℕ). w ∷ ys) first))
two_places (v ∷ xs) [] x y behind_x behind_y e =
    let first : v ≡ y = cc in inr (inr (xs, ap (λ (w : List ℕ). w ∷ xs) first))
two_places (v ∷ xs) (u ∷ ys) x y behind_x behind_y e =
    let first : v ≡ u = cc in
    let others : xs ++ x ∷ behind_x ≡ ys ++ y ∷ behind_y = cc in
    elim (two_places xs ys x y behind_x behind_y others) [
      | inl same ↦ inl (omega (arith, same))
      | inr (inl later) ↦ inr (inl (later.0, ap (λ (w : List ℕ). w ∷ ys) (sym first) ∙ ap (λ ws. v ∷ ws) later.1))
      | inr (inr sooner) ↦ inr (inr (sooner.0, ap (λ (w : List ℕ). w ∷ xs) first ∙ ap (λ ws. u ∷ ws) sooner.1))
    ]

-- so there is one first wrong word at most
pub one_place : (ws : List (List ℕ)) (n m : ℕ) → IsFirstWrongAt ws n → IsFirstWrongAt ws m → n ≡ m
one_place ws n m a b = elim (two_places a.0 b.0 a.1 b.1 a.2.behind b.2.behind (sym a.2.parts ∙ b.2.parts)) [
  | inl same ↦ omega (arith, same, a.3, b.3)
  | inr (inl later) ↦ absurd (a.2.ended (fewer_begin (a.0 ++ a.1 ∷ []) later.0 (subst BeginQuery later.1 b.2.begun)))
  | inr (inr sooner) ↦ absurd (b.2.ended (fewer_begin (b.0 ++ b.1 ∷ []) sooner.0 (subst BeginQuery sooner.1 a.2.begun)))
]
