-- The score of each candidate can be a floor: it lies from -2^31 to 2^31.
use Rattle.rank_sched.proofs.Cited.{rules, ◌≡◌, ℕ, zero, suc, ◌*◌, ◌≤◌, Bool, true, List, [], ◌∷◌, Option, Some, arith}
use Rattle.rank_sched.proofs.Cited.{ℤ, pos, neg_ℤ, ◌+ℤ◌, ◌≤ℤ◌, AllByRecursion, option_map, ints, is_within, IsScore}
use Rattle.rank_sched.proofs.Cited.{StationId, DayValue, Series, IsSeries, value_on, all-filter, Score, Highest, Lowest}
use Rattle.rank_sched.proofs.Cited.{Sum, Dry, Wet, Hot, Cold, Query, IsAsked, is_score, run_from, run_len, Shape}
use Rattle.rank_sched.proofs.Cited.{Windows, Spells, shape, plus, window_total, test_of, begun, candidate}
use Rattle.rank_sched.proofs.Cited.{contenders_among, contenders, candidates, admitted, Candidate, IsSmall}
use Rattle.rank_sched.proofs.Cited.{admitted-small, all-made, each, None, refl, subst}
use Rattle.rank_scores.specs.Meaning.Candidates.{Days}
use Rattle.rank_scores.specs.declared.spell.Spell.TheVariants as spells
use Rattle.rank_sched.proofs.Lists.{each-weaker}

-- ---- totals and lengths

-- the value of a day is small if all values are
value_small : (days : List DayValue) (d v : ℤ) → AllByRecursion (λ x. IsSmall x.1) days → value_on days d ≡ Some v
    → IsSmall v
value_small [] d v h e = absurd cc
value_small (x ∷ xs) d v h e = grind (arith, value_small xs d v h.1)

-- the sum of two numbers, if there are both
sum_of : (a b : Option ℤ) (t : ℤ) → plus a b ≡ Some t → (v : ℤ) × (w : ℤ) × (a ≡ Some v) × (b ≡ Some w) × (t ≡ v +ℤ w)
sum_of a b t e = grind arith

-- the total of n days is n times a small value at most
total_small : (days : List DayValue) → AllByRecursion (λ x. IsSmall x.1) days → (n : ℕ) (a t : ℤ)
    → window_total days n a ≡ Some t → (neg_ℤ (pos (99_999 * n)) ≤ℤ t) × (t ≤ℤ pos (99_999 * n))
total_small days h zero a t e = search (rules, ints)
total_small days h (suc n) a t e =
    let parts = sum_of (value_on days a) (window_total days n (a +ℤ pos 1)) t e in
    let one = value_small days a parts.0 h parts.2 in
    let rest = total_small days h n (a +ℤ pos 1) parts.1 parts.3 in
    (omega (arith, ints, one.low), omega (arith, ints, one.high))

-- a run is no longer than it was counted
run_short : (such : ℤ → Bool) (n : ℕ) (a : ℤ) → run_from such n a ≤ n
unfolding run_from
run_short such zero a = omega arith
run_short such (suc n) a = grind (arith, run_short such n (a +ℤ pos 1))

-- the length of a run can be a floor
run_score : (such : ℤ → Bool) (a : ℤ) → IsScore (pos (run_len such a))
run_score such a = grind (arith, ints, run_short)

-- ---- candidates

-- a candidate that begins on one of the days has a score that can be a floor
abbrev BeginsRight : Shape → List DayValue → DayValue → Type 0
BeginsRight sh days x = (e : ℤ × ℤ) → begun sh days x ≡ Some e → IsScore e.1

-- so has the candidate that is made of what begins
of_begun : (id : StationId) (first : ℤ) (o : Option (ℤ × ℤ)) (c : Candidate) → ((e : ℤ × ℤ) → o ≡ Some e → IsScore e.1)
    → option_map (candidate id first) o ≡ Some c → IsScore c.score
of_begun id first None c right e = absurd cc
of_begun id first (Some found) c right e =
    let same : candidate id first found ≡ c = cc in subst (λ (d : Candidate). IsScore d.score) same (right found refl)

-- then each of them has
begun_right : (id : StationId) (sh : Shape) (days : List DayValue) → AllByRecursion (BeginsRight sh days) days
    → AllByRecursion (λ c. IsScore c.score) (contenders_among id sh days)
begun_right id sh days h = all-made (λ c. IsScore c.score) (λ x. option_map (candidate id x.0) (begun sh days x)) days
    (each-weaker (BeginsRight sh days)
    (λ x. (c : Candidate) → option_map (candidate id x.0) (begun sh days x) ≡ Some c → IsScore c.score) days
    (λ x right c e. of_begun id x.0 (begun sh days x) c right e) h)

module _ (days : List DayValue) (small : AllByRecursion (λ x. IsSmall x.1) days) where
  -- those of single days
  days_right : (id : StationId) (f : ℤ → ℤ) → ((v : ℤ) → IsSmall v → IsScore (f v))
      → AllByRecursion (λ c. IsScore c.score) (contenders_among id (Days f) days)
  days_right id f fits = begun_right id (Days f) days (each-weaker (λ x. IsSmall x.1) (BeginsRight (Days f) days) days
      (λ x is e on. let same : (x.0, f x.1) ≡ e = cc in subst (λ (p : ℤ × ℤ). IsScore p.1) same (fits x.1 is)) small)

  -- a window's
  window_right : (n : ℕ) → n ≤ 366 → (x : DayValue) → BeginsRight (Windows n) days x
  window_right n few x e f =
      let limits = total_small days small n x.0 e.1 (grind arith) in (omega (arith, ints), omega (arith, ints))

  -- those of all spells
  spells_right : (id : StationId) (test : ℤ → Bool)
      → AllByRecursion (λ c. IsScore c.score) (contenders_among id (Spells test) days)
  spells_right id test = begun_right id (Spells test) days
      (each (BeginsRight (Spells test) days) days (λ x e f. grind (arith, run_score)))

  -- the candidates among these days, whatever the query asks for
  by_score : (id : StationId) (sc : Score) → is_score sc ≡ true
      → AllByRecursion (λ c. IsScore c.score) (contenders_among id (shape sc) days)
  by_score id (Highest e) right = days_right id (λ v. v) (λ v is. (grind (arith, ints), grind (arith, ints)))
  by_score id (Lowest e) right = days_right id neg_ℤ (λ v is. (grind (arith, ints), grind (arith, ints)))
  by_score id (Sum n e) right =
      let within : is_within 1 366 n ≡ true = grind arith in
      begun_right id (Windows n) days (each (BeginsRight (Windows n) days) days (window_right n (grind arith)))
  by_score id Dry right = spells_right id (test_of spells.Dry)
  by_score id Wet right = spells_right id (test_of spells.Wet)
  by_score id (Hot t) right = spells_right id (test_of (spells.Hot t))
  by_score id (Cold t) right = spells_right id (test_of (spells.Cold t))

-- the score of each candidate of a series can be a floor
pub candidates_ranged : (q : Query) (s : Series) → IsAsked q → IsSeries s
    → AllByRecursion (λ c. IsScore c.score) (candidates q s)
candidates_ranged q s asked right = all-filter (λ c. IsScore c.score) _ (contenders q s)
    (by_score (admitted q s) (admitted-small q s right) s.id q.score asked.score)
