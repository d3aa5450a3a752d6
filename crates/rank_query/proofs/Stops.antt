-- Where a reading stops at an error, and what it could go on with there.
use Rattle.rank_query.proofs.Cited.{◌≡◌, ◌⊎◌, inl, inr, List, [], ◌∷◌, ◌++◌, Result, Ok, Err, refl, sym, ap, ◌∙◌, subst}
use Rattle.rank_query.proofs.Cited.{append_assoc, append-nil, AllByRecursion, map-append, QueryFault, QueryTooLong}
use Rattle.rank_query.proofs.Cited.{UnexpectedWord, QueryEnds, OutOfLimits, BadDate, BadBox, EmptyPeriod, Word, ◌>>=◌}
use Rattle.rank_query.proofs.Cited.{EndsTooEarly}
use Rattle.rank_query.proofs.OneWords.{HasNoBlank}
use Rattle.rank_query.proofs.ReadingSteps.{bind_ok, unnumbered}

-- a reading of words
abbrev pub Reading : Type 0 → Type 0
Reading C = List Word → Result C QueryFault

-- a reading, and another of the words that it leaves
abbrev pub then : {A C : Type 0} → Reading (A × List Word) → (A → Reading C) → Reading C
then read onward ws = read ws >>= λ r. onward r.0 r.1

-- no blank is in these words
abbrev pub HaveNoBlank : List Word → Type 0
HaveNoBlank ws = AllByRecursion HasNoBlank (unnumbered ws)

-- nor in others before them
pub blank_in_neither : (front back : List Word) → HaveNoBlank front → HaveNoBlank back → HaveNoBlank (front ++ back)
blank_in_neither [] back first second = second
blank_in_neither (w ∷ front) back first second = (first.0, blank_in_neither front back first.1 second)

-- some words are read to a good end
pub record GoesOn (C : Type 0) (Good : C → Type 0) (read : Reading C) : Type 0 where
  pub tail : List Word
  pub clean : HaveNoBlank tail
  pub value : C
  pub good : Good value
  pub reads : read tail ≡ Ok value

-- the word of an error, after those before it
abbrev pub IsWordOf : QueryFault → List Word → Word → Type 0
IsWordOf QueryTooLong before w = ⊥
IsWordOf (UnexpectedWord n) before w = n ≡ w.0
IsWordOf QueryEnds before w = ⊥
IsWordOf (OutOfLimits n) before w = n ≡ w.0
IsWordOf (BadDate n) before w = n ≡ w.0
IsWordOf (BadBox n) before w = n ≡ w.0
IsWordOf EmptyPeriod before w = EndsTooEarly (unnumbered before) w.1

-- the error is that of the first of the words that are left, whatever comes after it; or none are left
abbrev pub StopsAt : {C : Type 0} → Reading C → QueryFault → List Word → List Word → Type 0
StopsAt read fault before [] = fault ≡ QueryEnds
StopsAt read fault before (w ∷ behind) =
    IsWordOf fault before w × ((more : List Word) → read (before ++ w ∷ more) ≡ Err fault)

-- before the error the reading can go on
pub record Stops (C : Type 0) (Good : C → Type 0) (read : Reading C) (fault : QueryFault)
    (ws : List Word) : Type 0 where
  pub before : List Word
  pub left : List Word
  pub parts : ws ≡ before ++ left
  pub on : GoesOn C Good (λ tail. read (before ++ tail))
  pub at : StopsAt read fault before left

-- a reading that can go on, and does so before each error
pub record StopsFirst (C : Type 0) (Good : C → Type 0) (read : Reading C) : Type 0 where
  pub on : GoesOn C Good read
  pub stops : (ws : List Word) (fault : QueryFault) → read ws ≡ Err fault → Stops C Good read fault ws

-- what was read is good, and the same whatever comes after it
pub record Takes (A : Type 0) (Good : A → Type 0) (read : Reading (A × List Word)) (ws : List Word)
    (r : A × List Word) : Type 0 where
  pub good : Good r.0
  pub taken : List Word
  pub parts : ws ≡ taken ++ r.1
  pub again : (more : List Word) → read (taken ++ more) ≡ Ok (r.0, more)

-- so it is with all that is read
abbrev pub TakesAll : (A : Type 0) → (A → Type 0) → Reading (A × List Word) → Type 0
TakesAll A Good read = (ws : List Word) (r : A × List Word) → read ws ≡ Ok r → Takes A Good read ws r

-- no word is left after a value
abbrev pub Ended : {A : Type 0} → A × List Word → Type 0
Ended r = r.1 ≡ []

-- a reading of one part of a query
pub record ReadsPart (A : Type 0) (Good : A → Type 0) (read : Reading (A × List Word)) : Type 0 where
  pub first : StopsFirst (A × List Word) Ended read
  pub takes : TakesAll A Good read

-- an error of two steps is that of the first or of the second
pub bind_err : {A B : Type 0} (r : Result A QueryFault) (f : A → Result B QueryFault) (fault : QueryFault)
    → (r >>= f) ≡ Err fault → (r ≡ Err fault) ⊎ ((x : A) × (r ≡ Ok x) × (f x ≡ Err fault))
bind_err (Ok x) f fault e = inr (x, refl, e)
bind_err (Err d) f fault e = let same : d ≡ fault = cc in inl (ap Err same)

-- the word of an error is the same after more words
pub word_behind : (fault : QueryFault) (front before : List Word) (w : Word) → IsWordOf fault before w
    → IsWordOf fault (front ++ before) w
word_behind QueryTooLong front before w is = is
word_behind (UnexpectedWord n) front before w is = is
word_behind QueryEnds front before w is = is
word_behind (OutOfLimits n) front before w is = is
word_behind (BadDate n) front before w is = is
word_behind (BadBox n) front before w is = is
word_behind EmptyPeriod front before w is = record {
  earlier = unnumbered front ++ is.earlier;
  first = is.first;
  last = is.last;
  are_days = is.are_days;
  period = map-append (λ (w : Word). w.1) front before ∙ ap (λ words. unnumbered front ++ words) is.period
      ∙ sym (append_assoc (unnumbered front) is.earlier _);
  date = is.date;
  order = is.order;
}

-- a whole reading ends after some words as a part does, with what is made of its value or with its error
pub record Follows {A C : Type 0} (make : A → C) (whole : Reading C) (front : List Word)
    (part : Reading A) : Type 0 where
  pub ok : (more : List Word) (x : A) → part more ≡ Ok x → whole (front ++ more) ≡ Ok (make x)
  pub err : (more : List Word) (fault : QueryFault) → part more ≡ Err fault → whole (front ++ more) ≡ Err fault

-- so it does if it is the same there
pub same_follows : {C : Type 0} (whole part : Reading C) (front : List Word)
    → ((more : List Word) → whole (front ++ more) ≡ part more) → Follows (λ x. x) whole front part
same_follows whole part front same = record { ok = λ more x e. same more ∙ e; err = λ more fault e. same more ∙ e }

-- it stops at the word at which the part does
at_follows : {A C : Type 0} (whole : Reading C) (part : Reading A) (front : List Word) (fault : QueryFault)
    (before left : List Word) → ((more : List Word) → part more ≡ Err fault → whole (front ++ more) ≡ Err fault)
    → StopsAt part fault before left → StopsAt whole fault (front ++ before) left
at_follows whole part front fault before [] err at = at
at_follows whole part front fault before (w ∷ behind) err at = (
  word_behind fault front before w at.0,
  λ more. ap whole (append_assoc front before (w ∷ more)) ∙ err (before ++ w ∷ more) (at.1 more),
)

-- goes on after the words after which it does
pub on_follows : {A C : Type 0} (GoodA : A → Type 0) (Good : C → Type 0) (make : A → C) (whole : Reading C)
    (part : Reading A) (front before : List Word) → ((x : A) → GoodA x → Good (make x)) → Follows make whole front part
    → GoesOn A GoodA (λ tail. part (before ++ tail)) → GoesOn C Good (λ tail. whole ((front ++ before) ++ tail))
on_follows GoodA Good make whole part front before good follows on = record {
  tail = on.tail;
  clean = on.clean;
  value = make on.value;
  good = good on.value on.good;
  reads = ap whole (append_assoc front before on.tail) ∙ follows.ok (before ++ on.tail) on.value on.reads;
}

-- and has its errors at the words at which it has them
pub stops_follows : {A C : Type 0} (GoodA : A → Type 0) (Good : C → Type 0) (make : A → C) (whole : Reading C)
    (part : Reading A) (front ws : List Word) (fault : QueryFault)
    → ((x : A) → GoodA x → Good (make x)) → Follows make whole front part
    → Stops A GoodA part fault ws → Stops C Good whole fault (front ++ ws)
stops_follows GoodA Good make whole part front ws fault good follows stops = record {
  before = front ++ stops.before;
  left = stops.left;
  parts = ap (λ words. front ++ words) stops.parts ∙ sym (append_assoc front stops.before stops.left);
  on = on_follows GoodA Good make whole part front stops.before good follows stops.on;
  at = at_follows whole part front fault stops.before stops.left (λ more e. follows.err more fault e) stops.at;
}

-- the same, if it is the same after some words
pub stops_behind : {C : Type 0} (Good : C → Type 0) (whole part : Reading C) (front ws : List Word) (fault : QueryFault)
    → ((more : List Word) → whole (front ++ more) ≡ part more) → Stops C Good part fault ws
    → Stops C Good whole fault (front ++ ws)
stops_behind Good whole part front ws fault same stops = stops_follows Good Good (λ x. x) whole part front ws fault
    (λ x good. good) (same_follows whole part front same) stops

-- the reading stops at the word after some that were read
pub stops_word : {C : Type 0} {Good : C → Type 0} {read : Reading C} {fault : QueryFault} (before : List Word)
    (w : Word) (ws : List Word) → GoesOn C Good (λ tail. read (before ++ tail)) → IsWordOf fault before w
    → ((more : List Word) → read (before ++ w ∷ more) ≡ Err fault) → Stops C Good read fault (before ++ w ∷ ws)
stops_word before w ws on is again =
    record { before = before; left = w ∷ ws; parts = refl; on = on; at = (is, again) }

-- or no word is left there
pub stops_end : {C : Type 0} {Good : C → Type 0} {read : Reading C} {fault : QueryFault} (before : List Word)
    → GoesOn C Good (λ tail. read (before ++ tail)) → fault ≡ QueryEnds → Stops C Good read fault (before ++ [])
stops_end before on ends = record { before = before; left = []; parts = refl; on = on; at = ends }

-- if a part can go on, and the next one as well, both can
pub goes_on_then : {A C : Type 0} (GoodA : A → Type 0) (Good : C → Type 0) (read : Reading (A × List Word))
    (onward : A → Reading C) (before : List Word)
    → TakesAll A GoodA read → GoesOn (A × List Word) Ended (λ tail. read (before ++ tail))
    → ((x : A) → GoodA x → GoesOn C Good (onward x)) → GoesOn C Good (λ tail. then read onward (before ++ tail))
goes_on_then GoodA Good read onward before takes on next =
    let took = takes (before ++ on.tail) on.value on.reads in
    let more = next on.value.0 took.good in
    let same : before ++ on.tail ≡ took.taken = took.parts ∙ ap (λ left. took.taken ++ left) on.good
    ∙ append-nil took.taken in
    record {
      tail = on.tail ++ more.tail;
      clean = blank_in_neither on.tail more.tail on.clean more.clean;
      value = more.value;
      good = more.good;
      reads = ap (then read onward) (sym (append_assoc before on.tail more.tail))
          ∙ ap (λ front. then read onward (front ++ more.tail)) same
          ∙ ap (λ r. r >>= λ r. onward r.0 r.1) (took.again more.tail) ∙ more.reads;
    }

-- the same of two parts
pub first_then : {A C : Type 0} {GoodA : A → Type 0} {Good : C → Type 0} {read : Reading (A × List Word)}
    (onward : A → Reading C)
    → ReadsPart A GoodA read → ((x : A) → GoodA x → StopsFirst C Good (onward x)) → StopsFirst C Good (then read onward)
first_then {A} {C} {GoodA} {Good} {read} onward part next = record {
  on = goes_on_then GoodA Good read onward [] part.takes part.first.on (λ x good. (next x good).on);
  stops = λ ws fault e. elim (bind_err (read ws) (λ r. onward r.0 r.1) fault e) [
    | inl here ↦
        let stops = part.first.stops ws fault here in
        record {
          before = stops.before;
          left = stops.left;
          parts = stops.parts;
          on = goes_on_then GoodA Good read onward stops.before part.takes stops.on (λ x good. (next x good).on);
          at = at_follows (then read onward) read [] fault stops.before stops.left
              (λ more e. ap (λ r. r >>= λ r. onward r.0 r.1) e) stops.at;
        }
    | inr later ↦
        let took = part.takes ws later.0 later.1 in
        let stops = (next later.0.0 took.good).stops later.0.1 fault later.2 in
        subst (Stops C Good (then read onward) fault) (sym took.parts)
        (stops_behind Good (then read onward) (onward later.0.0) took.taken later.0.1 fault
        (λ more. ap (λ r. r >>= λ r. onward r.0 r.1) (took.again more)) stops)
  ];
}

-- and takes what that takes, after them
pub takes_behind : {A : Type 0} (Good : A → Type 0) (whole part : Reading (A × List Word)) (front ws : List Word)
    (r : A × List Word) → ((more : List Word) → whole (front ++ more) ≡ part more) → Takes A Good part ws r
    → Takes A Good whole (front ++ ws) r
takes_behind Good whole part front ws r same took = record {
  good = took.good;
  taken = front ++ took.taken;
  parts = ap (λ words. front ++ words) took.parts ∙ sym (append_assoc front took.taken r.1);
  again = λ more. ap whole (append_assoc front took.taken more) ∙ same (took.taken ++ more) ∙ took.again more;
}

-- two parts take the words of both
pub takes_then : {A B : Type 0} (GoodA : A → Type 0) (GoodB : B → Type 0) (read : Reading (A × List Word))
    (onward : A → Reading (B × List Word))
    → TakesAll A GoodA read → ((x : A) → GoodA x → TakesAll B GoodB (onward x)) → TakesAll B GoodB (then read onward)
takes_then GoodA GoodB read onward takes next = λ ws r e.
    let both = bind_ok (read ws) (λ r. onward r.0 r.1) r e in
    let one = takes ws both.0 both.1 in
    let two = next both.0.0 one.good both.0.1 r both.2 in
    record {
      good = two.good;
      taken = one.taken ++ two.taken;
      parts = one.parts ∙ ap (λ left. one.taken ++ left) two.parts ∙ sym (append_assoc one.taken two.taken r.1);
      again = λ more. ap (then read onward) (append_assoc one.taken two.taken more)
          ∙ ap (λ r. r >>= λ r. onward r.0 r.1) (one.again (two.taken ++ more)) ∙ two.again more;
    }

-- two parts are a part
pub part_then : {A B : Type 0} {GoodA : A → Type 0} {GoodB : B → Type 0} {read : Reading (A × List Word)}
    (onward : A → Reading (B × List Word))
    → ReadsPart A GoodA read → ((x : A) → GoodA x → ReadsPart B GoodB (onward x)) → ReadsPart B GoodB (then read onward)
part_then {GoodA = GoodA} {GoodB = GoodB} {read = read} onward part next = record {
  first = first_then onward part (λ x good. (next x good).first);
  takes = takes_then GoodA GoodB read onward part.takes (λ x good. (next x good).takes);
}
