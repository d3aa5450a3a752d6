-- Where the reading of a period stops.
use Rattle.rank_query.proofs.Cited.{sym, inl, inr, cases_Bool, ◌≡◌, ℕ, true, false, cond, ◌&&◌, List, [], ◌∷◌, ◌++◌}
use Rattle.rank_query.proofs.Cited.{Option, Some, Result, Ok, Err, codes, refl, ap, ◌∙◌, subst, arith, ℤ, pos, int_le}
use Rattle.rank_query.proofs.Cited.{◌<ℤ◌, AllByRecursion, ints, is_day, date_text, QueryFault, UnexpectedWord}
use Rattle.rank_query.proofs.Cited.{QueryEnds, EmptyPeriod, is_period, Word, says, ◌>>=◌, Read, keyword, one_word, date}
use Rattle.rank_query.proofs.Cited.{days_at, EndsTooEarly}
use Rattle.rank_query.proofs.ReadingSteps.{assoc, test_err, said, test_ok, one_word_again}
use Rattle.rank_query.proofs.Stops.{bind_err, Reading, then, GoesOn, IsWordOf, Stops, TakesAll, Ended, ReadsPart}
use Rattle.rank_query.proofs.Stops.{word_behind, stops_word, stops_end, takes_then}
use Rattle.rank_query.proofs.WordValues.{date_written, date_day, written_date}
use Rattle.rank_query.proofs.RegionWords.{and_true}
use Rattle.rank_query.proofs.PeriodWords.{period_rows}
use Rattle.rank_query.proofs.PrintedWords.{date_word}
use Rattle.rank_query.proofs.PartStops.{beside, part_word, part_made, part_the_word, the_word, Any, keyword-then}
use Rattle.rank_query.proofs.PartStops.{takes_same}
use Rattle.rank_query.proofs.WordStops.{reads_date}

-- two days that can be asked for
abbrev pub GoodDays : ℤ × ℤ → Type 0
GoodDays p = is_period (Some p) ≡ true

-- what two days are read as
abbrev Days : Type 0
Days = (ℤ × ℤ) × List Word

-- what follows the first day, and what follows "to"
abbrev last_from : ℤ → Reading ((ℤ × ℤ) × List Word)
last_from first ws =
    one_word date ws >>= λ last. cond (int_le first last.0) (Ok ((first, last.0), last.1)) (Err EmptyPeriod)

-- what follows "to", after that word
abbrev to_last : ℤ → Reading ((ℤ × ℤ) × List Word)
to_last first ws = keyword (codes "to") ws >>= last_from first

-- a day is not before itself
same_day : (d : ℤ) → int_le d d ≡ true
same_day d = grind (arith, ints)

-- its date ends a period that it begins
last_again : (first : ℤ) → is_day first ≡ true → last_from first ((0, date_text first) ∷ []) ≡ Ok ((first, first), [])
last_again first is =
    one_word_again date 0 (date_text first) [] first
    (λ (last : ℤ × List Word). cond (int_le first last.0) (Ok ((first, last.0), last.1)) (Err EmptyPeriod))
    (written_date 0 first is) ∙ ap (λ b. cond b (Ok ((first, first), [])) (Err EmptyPeriod)) (same_day first)

-- after "to"
to_again : (first : ℤ) → is_day first ≡ true → to_last first ((0, codes "to") ∷ (0, date_text first) ∷ []) ≡ Ok
    ((first, first), [])
unfolding keyword says
to_again first is = last_again first is

-- what the date of a day and two more words go on with
record Behind (first : ℤ) (w t : Word) : Type 0 where
  is : is_day first ≡ true
  date : w.1 ≡ date_text first
  to : t.1 ≡ codes "to"
  same : (more : List Word) → days_at (w ∷ t ∷ more) ≡ last_from first more

-- the first day's own date
last_on : (first : ℤ) (w t : Word) → Behind first w t → GoesOn Days Ended
    (λ tail. days_at ((w ∷ t ∷ []) ++ tail))
last_on first w t behind = record {
  tail = (0, date_text first) ∷ [];
  clean = ((date_word first).one.no_blank, tt);
  value = ((first, first), []);
  good = refl;
  reads = behind.same ((0, date_text first) ∷ []) ∙ last_again first behind.is;
}

-- a test that fails
before_from_test : (first last : ℤ) → int_le first last ≡ false → last <ℤ first
before_from_test first last e = grind (arith, ints)

-- the second date is wrong if it isn't a date, or is that of an earlier day
last_stops : (first : ℤ) (w t : Word) (ws : List Word) (fault : QueryFault) → Behind first w t
    → last_from first ws ≡ Err fault → Stops Days Ended days_at fault (w ∷ t ∷ ws)
last_stops first w t [] fault behind e =
    stops_end (w ∷ t ∷ []) (last_on first w t behind) (let same : fault ≡ QueryEnds = cc in same)
last_stops first w t (l ∷ ws) fault behind e = elim (bind_err (date l) (in_order ws) fault
    (sym (assoc (date l) (λ last. Ok (last, ws)) (λ last. in_order last.1 last.0)) ∙ e)) [
      | inl none ↦ stops_word (w ∷ t ∷ []) l ws (last_on first w t behind)
          (word_behind fault (w ∷ t ∷ []) [] l ((reads_date first behind.is).told l fault none))
          (λ more. behind.same (l ∷ more) ∙ ap (test more) none)
      | inr found ↦
          let order = test_err (int_le first found.0) ((first, found.0), ws) EmptyPeriod fault found.2 in
          let early : EndsTooEarly (w.1 ∷ t.1 ∷ []) l.1 = record {
            earlier = [];
            first = first;
            last = found.0;
            are_days = and_true (is_day first) (is_day found.0) behind.is (date_day l found.0 found.1);
            period = ap (λ (word : List ℕ). word ∷ t.1 ∷ []) behind.date
                ∙ ap (λ (word : List ℕ). date_text first ∷ word ∷ []) behind.to;
            date = date_written l found.0 found.1;
            order = before_from_test first found.0 order.0;
          } in
          stops_word (w ∷ t ∷ []) l ws (last_on first w t behind) (subst (λ f. IsWordOf f (w ∷ t ∷ []) l) order.1 early)
          (λ more. behind.same (l ∷ more) ∙ ap (test more) found.1
          ∙ ap (λ b. cond b (Ok ((first, found.0), more)) (Err EmptyPeriod)) order.0 ∙ ap Err order.1)
    ] where
      in_order : List Word → ℤ → Read (ℤ × ℤ)
      in_order more last = cond (int_le first last) (Ok ((first, last), more)) (Err EmptyPeriod)

      test : List Word → Result ℤ QueryFault → Read (ℤ × ℤ)
      test more r = beside more r >>= λ last. in_order last.1 last.0

-- after the date of a first day
to_on : (first : ℤ) (w : Word) → is_day first ≡ true → ((more : List Word) → days_at (w ∷ more) ≡ to_last first more)
    → GoesOn Days Ended (λ tail. days_at ((w ∷ []) ++ tail))
to_on first w is same = record {
  tail = (0, codes "to") ∷ (0, date_text first) ∷ [];
  clean = (refl, ((date_word first).one.no_blank, tt));
  value = ((first, first), []);
  good = refl;
  reads = same ((0, codes "to") ∷ (0, date_text first) ∷ []) ∙ to_again first is;
}

-- another word than "to" is wrong
to_stops : (first : ℤ) (w : Word) (ws : List Word) (fault : QueryFault) → is_day first ≡ true → w.1 ≡ date_text first
    → ((more : List Word) → days_at (w ∷ more) ≡ to_last first more)
    → to_last first ws ≡ Err fault → Stops Days Ended days_at fault (w ∷ ws)
unfolding keyword
to_stops first w [] fault is date same e =
    stops_end (w ∷ []) (to_on first w is same) (let ends : fault ≡ QueryEnds = cc in ends)
to_stops first w (t ∷ ws) fault is date same e = elim (cases_Bool (says (codes "to") t.1)) [
  | inl to ↦
      let found = rw to at e in
      last_stops first w t ws fault (record {
        is = is;
        date = date;
        to = said (codes "to") t.1 to;
        same = λ more. same (t ∷ more) ∙ ap (λ b. cond b (Ok more) (Err (UnexpectedWord t.0)) >>= last_from first) to;
      }) found
  | inr differs ↦
      let missing = rw differs at e in
      let here : UnexpectedWord t.0 ≡ fault = cc in
      stops_word (w ∷ []) t ws (to_on first w is same)
      (word_behind fault (w ∷ []) [] t (subst (λ f. IsWordOf f [] t) here refl))
      (λ more. same (t ∷ more) ∙ ap (λ b. cond b (Ok more) (Err (UnexpectedWord t.0)) >>= last_from first) differs
      ∙ ap Err here)
]

-- some day
abbrev some_day : ℤ
some_day = pos 0

-- a period of some day
days_on : GoesOn Days Ended days_at
unfolding days_at
days_on = record {
  tail = (0, date_text some_day) ∷ (0, codes "to") ∷ (0, date_text some_day) ∷ [];
  clean = ((date_word some_day).one.no_blank, (refl, ((date_word some_day).one.no_blank, tt)));
  value = ((some_day, some_day), []);
  good = refl;
  reads = ap (λ (r : Result ℤ QueryFault). beside ((0, codes "to") ∷ (0, date_text some_day) ∷ []) r >>= λ first.
      to_last first.0 first.1) (written_date 0 some_day refl) ∙ to_again some_day refl;
}

-- a first word that isn't a date is wrong
days_stops : (ws : List Word) (fault : QueryFault) → days_at ws ≡ Err fault
    → Stops Days Ended days_at fault ws
unfolding days_at
days_stops [] fault e = stops_end [] days_on (let ends : fault ≡ QueryEnds = cc in ends)
days_stops (w ∷ ws) fault e = elim (bind_err (date w) (λ first. to_last first ws) fault
    (sym (assoc (date w) (λ first. Ok (first, ws)) (λ first. to_last first.0 first.1)) ∙ e)) [
      | inl none ↦ stops_word [] w ws days_on ((reads_date some_day refl).told w fault none)
          (λ more. ap (first_of_two more) none)
      | inr found ↦ to_stops found.0 w ws fault (date_day w found.0 found.1) (date_written w found.0 found.1)
          (λ more. ap (first_of_two more) found.1) found.2
    ] where
      first_of_two : List Word → Result ℤ QueryFault → Read (ℤ × ℤ)
      first_of_two more r = beside more r >>= λ first. to_last first.0 first.1

-- the days in their order are taken
order_takes : (first last : ℤ) → is_day first ≡ true → is_day last ≡ true
    → TakesAll (ℤ × ℤ) GoodDays (λ ws. cond (int_le first last) (Ok ((first, last), ws)) (Err EmptyPeriod))
order_takes first last one two ws r e =
    let test = test_ok (int_le first last) ((first, last), ws) r EmptyPeriod e in
    record {
      good = subst GoodDays (ap (λ (p : Days). p.0) test.1) (and_true (is_day first && is_day last)
          (int_le first last) (and_true (is_day first) (is_day last) one two) test.0);
      taken = [];
      parts = ap (λ (p : Days). p.1) test.1;
      again = λ more. ap (λ b. cond b (Ok ((first, last), more)) (Err EmptyPeriod)) test.0
          ∙ ap (λ (p : Days). Ok (p.0, more)) test.1;
    }

-- a date is taken
date_takes : TakesAll ℤ (λ day. is_day day ≡ true) (one_word date)
date_takes = (part_word (reads_date some_day refl)).takes

-- "to" is itself
says_to : says (codes "to") (codes "to") ≡ true
unfolding says
says_to = refl

-- both dates are taken with what is between them
days_take : TakesAll (ℤ × ℤ) GoodDays days_at
unfolding days_at
days_take =
    takes_then (λ day. is_day day ≡ true) GoodDays (one_word date) to_last date_takes (λ first one.
    takes_same GoodDays (then (one_word (the_word (codes "to"))) (λ x. last_from first)) (to_last first)
    (keyword-then (codes "to") (last_from first))
    (takes_then Any GoodDays (one_word (the_word (codes "to"))) (λ x. last_from first)
    (part_the_word (codes "to") refl says_to).takes (λ x any.
    takes_then (λ day. is_day day ≡ true) GoodDays (one_word date)
    (λ last ws. cond (int_le first last) (Ok ((first, last), ws)) (Err EmptyPeriod)) date_takes
    (λ last two. order_takes first last one two))))

-- a period that can be asked for
abbrev pub GoodPeriod : Option (ℤ × ℤ) → Type 0
GoodPeriod p = is_period p ≡ true

-- it is a part after its word
pub period_parts : AllByRecursion (λ row. ReadsPart (Option (ℤ × ℤ)) GoodPeriod row.1) period_rows
period_parts = (
  part_made Some (λ p is. is)
      (record { first = record { on = days_on; stops = days_stops }; takes = days_take }),
  tt,
)
