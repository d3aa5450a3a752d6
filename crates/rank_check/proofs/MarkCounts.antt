-- One more candidate is counted by the marks that come after it.
use Rattle.std.proofs.Common.{◌≡◌, ℕ, zero, suc, ◌+◌, ◌<◌, ◌≤◌, Bool, true, false, cond, List, [], ◌∷◌, length, Some}
use Rattle.std.proofs.Common.{None, refl, sym, ap, ◌∙◌, arith, get_or, set, not, ◌||◌, ◌&&◌, ltb, ltb-true, ltb-false}
use Rattle.std.specs.Prelude.{slice_get, Option}
use Rattle.std.specs.Option.{option_map_or}
use Rattle.std.specs.List.{Contains, sum_by}
use Rattle.std.proofs.lemmas.List.{length-map}
use Rattle.std.proofs.lemmas.List.Sums.{sum_by-set, sum_by_more_le, sum_by-cons}
use Rattle.std.proofs.lemmas.Option.{slice_get-get_or, slice_get_past}
use Rattle.ghcn_series.specs.Says.{in_64_bits}
use Rattle.rank_scores.specs.declared.candidate.Candidate.{Candidate}
use Rattle.rank_scores.specs.Meaning.Order.{precedes}
use Rattle.rank_check.specs.declared.tally.Mark.{Mark}
use Rattle.rank_check.specs.Marks.{candidates_at, unmet, is_met_at, is_met, passed_at, passed}
use Rattle.rank_check.specs.Marks.{counted_mark, counted_at, IsPlace, AreMarksInOrder}
use Rattle.rank_check.proofs.Places.{precedes-at, precedes-none, at-mark}

-- or something true
pub or_true : (b : Bool) → (b || true) ≡ true
or_true true = refl
or_true false = refl

-- and nothing
pub and_none : (b : Bool) → (b && false) ≡ false
and_none true = refl
and_none false = refl

-- what is put at a place counts in the sum
part-of : (marks : List Mark) (i : ℕ) (m : Mark) (c : Candidate) → i < length marks
    → passed_at c m ≤ passed (set marks i m) c
part-of [] i m c lt = absurd (omega arith)
part-of (x ∷ marks) zero m c lt = omega (arith, sum_by-cons (passed_at c) m marks)
part-of (x ∷ marks) (suc i) m c lt =
    omega (arith, sum_by-cons (passed_at c) x (set marks i m), part-of marks i m c (omega arith))

-- ---- one more candidate is counted

-- counting one more keeps the candidates
pub counted-same : (p : ℕ) (marks : List Mark) → candidates_at (counted_at p marks) ≡ candidates_at marks
counted-same p [] = refl
counted-same zero (m ∷ marks) = refl
counted-same (suc p) (m ∷ marks) = elim (slice_get marks p) as (λ o. slice_get marks p ≡ o
    → candidates_at (option_map_or (λ x. set (m ∷ marks) (suc p) (counted_mark x)) o (m ∷ marks))
    ≡ candidates_at (m ∷ marks)) [
      | None ↦ λ _. refl
      | Some x ↦ λ e.
          let rest : candidates_at (set marks p (counted_mark x)) ≡ candidates_at marks =
          ap (λ (o : Option Mark). candidates_at (option_map_or (λ x. set marks p (counted_mark x)) o marks)) (sym e)
          ∙ counted-same p marks in
          ap (λ (l : List Candidate). m.candidate ∷ l) rest
    ] refl

-- and what is met
pub counted-met : (p : ℕ) (marks : List Mark) (c : Candidate) → is_met (counted_at p marks) c ≡ is_met marks c
counted-met p [] c = refl
counted-met zero (m ∷ marks) c = refl
counted-met (suc p) (m ∷ marks) c = elim (slice_get marks p) as (λ o. slice_get marks p ≡ o
    → is_met (option_map_or (λ x. set (m ∷ marks) (suc p) (counted_mark x)) o (m ∷ marks)) c ≡ is_met (m ∷ marks) c) [
      | None ↦ λ _. refl
      | Some x ↦ λ e.
          let rest : is_met (set marks p (counted_mark x)) c ≡ is_met marks c =
          ap (λ (o : Option Mark). is_met (option_map_or (λ x. set marks p (counted_mark x)) o marks) c) (sym e)
          ∙ counted-met p marks c in
          ap (λ (b : Bool). is_met_at c m || b) rest
    ] refl

-- a number once one more may count, within 64 bits
abbrev pub one_more_if : Bool → ℕ → ℕ
one_more_if b n = cond b (in_64_bits (in_64_bits n + 1)) (in_64_bits n)

-- a sum of which one part is counted up, within 64 bits
one_more : (s t x : ℕ) → t + x ≡ s + in_64_bits (x + 1) → x ≤ s → in_64_bits (x + 1) ≤ t
    → in_64_bits t ≡ in_64_bits (in_64_bits s + 1)
one_more s t x e low high = omega (arith, e, low, high)

-- those at a mark that the row doesn't precede are one more
counted-by : (b : Bool) (s t x : ℕ) → t + cond b 0 x ≡ s + cond b 0 (in_64_bits (x + 1)) → cond b 0 x ≤ s
    → cond b 0 (in_64_bits (x + 1)) ≤ t
    → in_64_bits t ≡ one_more_if (not b) s
counted-by true s t x e low high = let same : t ≡ s = omega (arith, e) in ap in_64_bits same
counted-by false s t x e low high = one_more s t x e low high

-- those that a row doesn't precede are one more if the candidate precedes the row
pub counted-passed : (marks : List Mark) → AreMarksInOrder marks → (d : Candidate) (p : ℕ)
    → IsPlace (candidates_at marks) d p → (c : Candidate) → Contains (candidates_at marks) c
    → in_64_bits (passed (counted_at p marks) c)
    ≡ one_more_if (precedes d c) (passed marks c)
counted-passed marks up d p here c there = elim (ltb p (length marks)) as (λ t. ltb p (length marks) ≡ t → the) [
  | true ↦ λ b. within (ltb-true p (length marks) b)
  | false ↦ λ b. beyond (ltb-false p (length marks) b)
] refl
  where
    ks : List Candidate
    ks = candidates_at marks

    the : Type 0
    the = in_64_bits (passed (counted_at p marks) c)
        ≡ one_more_if (precedes d c) (passed marks c)

    many : length ks ≡ length marks
    many = length-map marks (λ m. m.candidate)

    beyond : length marks ≤ p → the
    beyond low =
        let none : slice_get marks p ≡ None = slice_get_past marks p low in
        let same : counted_at p marks ≡ marks =
        ap (λ (o : Option Mark). option_map_or (λ m. set marks p (counted_mark m)) o marks) none in
        let out : precedes d c ≡ false = precedes-none ks up d p here c there (omega (arith, many, low)) in
        ap (λ (l : List Mark). in_64_bits (passed l c)) same
        ∙ sym (ap (λ (b : Bool). one_more_if b (passed marks c)) out)

    within : p < length marks → the
    within lt =
        let x : Mark = get_or marks p (unmet c) in
        let got : slice_get marks p ≡ Some x = slice_get-get_or marks p (unmet c) lt in
        let now : counted_at p marks ≡ set marks p (counted_mark x) =
        ap (λ (o : Option Mark). option_map_or (λ m. set marks p (counted_mark m)) o marks) got in
        let first : precedes d c ≡ not (precedes c x.candidate) =
        precedes-at ks up d p here c there (omega (arith, many, lt))
        ∙ ap (λ (y : Candidate). not (precedes c y)) (at-mark marks p c) in
        let total : sum_by (passed_at c) (set marks p (counted_mark x)) + passed_at c x
        ≡ passed marks c + passed_at c (counted_mark x) = sum_by-set (passed_at c) marks p (counted_mark x)
        (unmet c) lt in
        let low : passed_at c x ≤ passed marks c =
        omega (arith, sum_by_more_le (passed_at c) marks p (unmet c) lt) in
        let high : passed_at c (counted_mark x) ≤ passed (set marks p (counted_mark x)) c = part-of marks p
        (counted_mark x) c lt in
        ap (λ (l : List Mark). in_64_bits (passed l c)) now
        ∙ counted-by (precedes c x.candidate) (passed marks c)
        (passed (set marks p (counted_mark x)) c) x.fresh total low
        high
        ∙ sym (ap (λ (b : Bool). one_more_if b (passed marks c))
        first)
