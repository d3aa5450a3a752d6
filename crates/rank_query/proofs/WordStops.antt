-- Which words have no value, and some that have one.
use Rattle.rank_query.proofs.Cited.{inl, inr, ◌≡◌, ℕ, Bool, true, cond, ◌&&◌, List, [], Option, Result, Ok, Err, codes}
use Rattle.rank_query.proofs.Cited.{refl, ap, subst, ℤ, pos, neg_ℤ, int_le, is_within, is_day, date_text, dates_text}
use Rattle.rank_query.proofs.Cited.{read_date, natural, scaled_field, Element, code_of, element_of, is_number_within}
use Rattle.rank_query.proofs.Cited.{number_of, QueryFault, UnexpectedWord, OutOfLimits, BadDate, BadBox, is_code}
use Rattle.rank_query.proofs.Cited.{is_heat, is_month, is_day_of_2000, Word, number, element, heat, dates, months}
use Rattle.rank_query.proofs.Cited.{degrees, code, date, tenths_in, two_numbers, two_days, latitude_from, longitude}
use Rattle.rank_query.proofs.OneWords.{HasNoBlank}
use Rattle.rank_query.proofs.ReadingSteps.{test_ok, test_err, or_fault_err, tested, tested_ok, tested_err}
use Rattle.rank_query.proofs.WordValues.{is_longitude, code_element, date_day, written_date, field_number}
use Rattle.rank_query.proofs.DaysOfYear.{dates_read, written_dates}
use Rattle.rank_query.proofs.PrintedWords.{date_word, dates_word}
use Rattle.rank_query.proofs.Stops.{IsWordOf}
use Rattle.rank_query.proofs.PartStops.{ReadsWord}

-- an error belongs to the word that it names
pub told : {A : Type 0} (named fault : QueryFault) (w : Word) → IsWordOf named [] w
    → ◌≡◌ {A = Result A QueryFault} (Err named) (Err fault) → IsWordOf fault [] w
told named fault w is e = let same : named ≡ fault = cc in subst (λ f. IsWordOf f [] w) same is

-- also if a test fails
test_told : {A : Type 0} (b : Bool) (x : A) (named fault : QueryFault) (w : Word) → IsWordOf named [] w
    → cond b (Ok x) (Err named) ≡ Err fault → IsWordOf fault [] w
test_told b x named fault w is e = subst (λ f. IsWordOf f [] w) (test_err b x named fault e).1 is

-- values that pass a test, of which some word writes one
reads_tested : {A : Type 0} (read : List ℕ → Option A) (passes : A → Bool) (bad : ℕ → QueryFault) (sample : List ℕ)
    (it : A) → HasNoBlank sample → ((w : Word) → IsWordOf (bad w.0) [] w) → tested read passes bad (0, sample) ≡ Ok it
    → ReadsWord A (λ x. passes x ≡ true) (tested read passes bad)
reads_tested read passes bad sample it clean named reads = record {
  good = λ w x e. (tested_ok read passes bad w x e).1;
  told = λ w fault e. elim (tested_err read passes bad w fault e) [
    | inl none ↦ subst (λ f. IsWordOf f [] w) none.1 refl
    | inr wrong ↦ subst (λ f. IsWordOf f [] w) wrong.2 (named w)
  ];
  sample = sample;
  clean = clean;
  it = it;
  reads = reads;
}

-- numbers within limits, of which 1 is one
pub reads_number : (low high : ℕ) → number low high (0, codes "1") ≡ Ok 1
    → ReadsWord ℕ (λ n. is_within low high n ≡ true) (number low high)
unfolding number
reads_number low high one = reads_tested natural (is_within low high) OutOfLimits (codes "1") 1 refl (λ w. refl) one

-- degrees by which a day is hot or cold
pub reads_heat : ReadsWord ℤ (λ t. is_heat t ≡ true) heat
unfolding heat
reads_heat = reads_tested tenths_in is_heat OutOfLimits (codes "0") (pos 0) refl (λ w. refl) refl

-- the months of a season
pub reads_months : ReadsWord (ℕ × ℕ) (λ s. (is_month s.0 && is_month s.1) ≡ true) months
unfolding months
reads_months = reads_tested two_numbers (λ s. is_month s.0 && is_month s.1) OutOfLimits (codes "1..1") (1, 1) refl
    (λ w. refl) refl

-- the first and the last day of a season
pub reads_dates : ReadsWord (ℤ × ℤ) (λ s. (is_day_of_2000 s.0 && is_day_of_2000 s.1) ≡ true) dates
unfolding dates
reads_dates = record {
  good = λ w s e. (dates_read w s e).0;
  told = λ w fault e. subst (λ f. IsWordOf f [] w) (or_fault_err (BadDate w.0) fault (two_days w.1) e).1 refl;
  sample = dates_text (pos 10_957) (pos 10_957);
  clean = (dates_word (pos 10_957) (pos 10_957)).one.no_blank;
  it = (pos 10_957, pos 10_957);
  reads = written_dates 0 (pos 10_957) (pos 10_957) refl;
}

-- elements that a test allows, of which there is one
pub reads_element : (allows : Element → Bool) (one : Element) → allows one ≡ true → HasNoBlank (code_of one)
    → ReadsWord Element (λ e. allows e ≡ true) (element allows)
unfolding element
reads_element allows one allowed clean = reads_tested element_of allows UnexpectedWord (code_of one) one clean
    (λ w. refl) (code_element allows one 0 allowed)

-- degrees within limits, of which some word writes one
pub reads_degrees : (low high : ℤ) (sample : List ℕ) (z : ℤ) → HasNoBlank sample → degrees low high (0, sample) ≡ Ok z
    → ReadsWord ℤ (λ z. (int_le low z && int_le z high) ≡ true) (degrees low high)
unfolding degrees
reads_degrees low high sample z clean e = record {
  good = λ w z e. (field_number low high z (scaled_field 4 w.1) (BadBox w.0) e).1;
  told = λ w fault e. test_told (is_number_within low high (scaled_field 4 w.1)) (number_of (scaled_field 4 w.1))
      (BadBox w.0) fault w refl e;
  sample = sample;
  clean = clean;
  it = z;
  reads = e;
}

-- the north pole lies north of every latitude
pole : (south : ℤ) → int_le south (pos 900_000) ≡ true → degrees south (pos 900_000) (0, codes "90") ≡ Ok (pos 900_000)
unfolding degrees
pole south below = ap (λ b. cond (b && true) (Ok (pos 900_000)) (Err (BadBox 0))) below

-- latitudes from a southernmost one
pub reads_latitude : (south : ℤ) → int_le south (pos 900_000) ≡ true
    → ReadsWord ℤ (λ z. (int_le south z && int_le z (pos 900_000)) ≡ true) (latitude_from south)
reads_latitude south below = reads_degrees south (pos 900_000) (codes "90") (pos 900_000) refl (pole south below)

-- longitudes
pub reads_longitude : ReadsWord ℤ (λ z. is_longitude z ≡ true) longitude
unfolding degrees
reads_longitude = reads_degrees (neg_ℤ (pos 1_800_000)) (pos 1_800_000) (codes "0") (pos 0) refl refl

-- codes of some length, of which there is one
pub reads_code : (len : ℕ) (one : List ℕ) → is_code len one ≡ true → HasNoBlank one
    → ReadsWord (List ℕ) (λ c. is_code len c ≡ true) (code len)
unfolding code
reads_code len one is clean = record {
  good = λ w c e. let test = test_ok (is_code len w.1) w.1 c (UnexpectedWord w.0) e in subst
      (λ c. is_code len c ≡ true) test.1 test.0;
  told = λ w fault e. test_told (is_code len w.1) w.1 (UnexpectedWord w.0) fault w refl e;
  sample = one;
  clean = clean;
  it = one;
  reads = ap (λ b. cond b (Ok one) (Err (UnexpectedWord 0))) is;
}

-- dates of days, of which there is one
pub reads_date : (one : ℤ) → is_day one ≡ true → ReadsWord ℤ (λ day. is_day day ≡ true) date
unfolding date
reads_date one is = record {
  good = date_day;
  told = λ w fault e. subst (λ f. IsWordOf f [] w) (or_fault_err (BadDate w.0) fault (read_date w.1) e).1 refl;
  sample = date_text one;
  clean = (date_word one).one.no_blank;
  it = one;
  reads = written_date 0 one is;
}
