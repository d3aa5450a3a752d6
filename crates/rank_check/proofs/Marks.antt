-- What marks in the order of candidates know of the rows, and how one more candidate changes it.
use Rattle.std.proofs.Common.{◌≡◌, ℕ, zero, suc, ◌<◌, ◌≤◌, Bool, true, false, cond, List, [], ◌∷◌, length, map, Some}
use Rattle.std.proofs.Common.{refl, sym, ap, ◌∙◌, subst, arith, get_or, not, ◌||◌, ◌&&◌, ltb, ltb-true, ltb-false, take}
use Rattle.std.specs.Prelude.{slice_get, Option}
use Rattle.std.specs.Option.{option_map_or}
use Rattle.std.specs.List.{AllByRecursion, Contains}
use Rattle.std.specs.List.Sorted.{IsPermutation, IsSorted}
use Rattle.std.specs.Ordering.{is_eq}
use Rattle.std.proofs.lemmas.List.{length-map, get_or_default}
use Rattle.std.proofs.lemmas.List.Folds.{list_any_at}
use Rattle.std.proofs.lemmas.List.Sums.{sum_by-cons}
use Rattle.std.proofs.lemmas.List.Elements.{recursion_from_All}
use Rattle.std.proofs.lemmas.List.Sorted.{Contains-permutation}
use Rattle.std.proofs.lemmas.Option.{slice_get-get_or, slice_get_past}
use Rattle.std.proofs.Math.ListN.{get_or-map}
use Rattle.ghcn_series.specs.Says.{in_64_bits}
use Rattle.rank_scores.specs.declared.candidate.Candidate.{Candidate}
use Rattle.rank_scores.specs.Meaning.Order.{precedes}
use Rattle.rank_scores.specs.Order.{full_cmp}
use Rattle.rank_check.specs.declared.tally.Mark.{Mark}
use Rattle.rank_check.specs.declared.tally.Met.{Met}
use Rattle.rank_check.specs.Survey.{met, met_by, reaches, IsLast}
use Rattle.rank_check.specs.Marks.{candidates_at, unmet, is_met_at, is_met, passed_at, passed, known, shown_by}
use Rattle.rank_check.specs.Marks.{counted_at, IsPlace, ties_before, AreMarksInOrder, Meets}
use Rattle.rank_check.specs.Marks.{AreUnmet, is_met_before, counted}
use Rattle.rank_check.proofs.SortedCandidates.{same_from_tie, own_tie}
use Rattle.rank_check.proofs.Surveying.{or_false, rows-behind}
use Rattle.rank_check.proofs.Places.{not_itself, in_turn, at-mark}
use Rattle.rank_check.proofs.MarkCounts.{or_true, and_none, counted-same, counted-met, one_more_if, counted-passed}

-- ---- a candidate that may be a row's

-- taking it into account keeps the candidates
pub shown-same : (d : Candidate) (marks : List Mark) → candidates_at (map (shown_by d) marks) ≡ candidates_at marks
shown-same d [] = refl
shown-same d (m ∷ marks) = ap (λ (l : List Candidate). m.candidate ∷ l) (shown-same d marks)

-- and what was counted
pub shown-passed : (d : Candidate) (marks : List Mark) (c : Candidate)
    → passed (map (shown_by d) marks) c ≡ passed marks c
shown-passed d [] c = refl
shown-passed d (m ∷ marks) c =
    let one = sum_by-cons (passed_at c) (shown_by d m) (map (shown_by d) marks) in
    let other = sum_by-cons (passed_at c) m marks in
    omega (arith, one, other, shown-passed d marks c)

-- of candidates that aren't the same at most one ties with a third
apart : (d m c : Candidate) → is_eq (full_cmp d c) ≡ false → is_eq (full_cmp m c) ≡ true → is_eq (full_cmp d m) ≡ false
apart d m c e f = ap (λ (x : Candidate). is_eq (full_cmp d x)) (same_from_tie m c f) ∙ e

-- another candidate is met as before
met-other : (d : Candidate) (marks : List Mark) (c : Candidate) → is_eq (full_cmp d c) ≡ false
    → is_met (map (shown_by d) marks) c ≡ is_met marks c
met-other d [] c e = refl
met-other d (m ∷ marks) c e =
    ap (λ (b : Bool). b || is_met (map (shown_by d) marks) c) own
    ∙ ap (λ (b : Bool). is_met_at c m || b) (met-other d marks c e)
  where
    own : is_met_at c (shown_by d m) ≡ is_met_at c m
    own = elim (is_eq (full_cmp m.candidate c)) as (λ t. is_eq (full_cmp m.candidate c) ≡ t
        → ((m.present || is_eq (full_cmp d m.candidate)) && t) ≡ (m.present && t)) [
          | true ↦ λ h. ap (λ (b : Bool). (m.present || b) && true) (apart d m.candidate c e h)
              ∙ ap (λ (b : Bool). b && true) (or_false m.present)
          | false ↦ λ h. and_none (m.present || is_eq (full_cmp d m.candidate)) ∙ sym (and_none m.present)
        ] refl

-- its own is met
met-own : (marks : List Mark) (c : Candidate) → Contains (candidates_at marks) c
    → is_met (map (shown_by c) marks) c ≡ true
met-own marks c (j, lt, e) =
    let m : Mark = get_or marks j (unmet c) in
    let its : m.candidate ≡ c = sym (at-mark marks j c) ∙ e in
    let met : is_met_at c (shown_by c m) ≡ true =
    ap (λ (x : Candidate). (m.present || is_eq (full_cmp c x)) && is_eq (full_cmp x c)) its
    ∙ ap (λ (b : Bool). (m.present || b) && b) (own_tie c)
    ∙ ap (λ (b : Bool). b && true) (or_true m.present) in
    list_any_at (is_met_at c) (map (shown_by c) marks) j (shown_by c (unmet c))
    (omega (arith, lt, length-map marks (shown_by c), length-map marks (λ m. m.candidate)))
    (ap (is_met_at c) (get_or-map (shown_by c) marks j (unmet c)) ∙ met)

-- a candidate is met if it was, or is the one that is offered
pub shown-met : (d : Candidate) (marks : List Mark) (c : Candidate) → Contains (candidates_at marks) c
    → is_met (map (shown_by d) marks) c ≡ (is_met marks c || is_eq (full_cmp d c))
shown-met d marks c there = elim (is_eq (full_cmp d c)) as (λ t. is_eq (full_cmp d c) ≡ t
    → is_met (map (shown_by d) marks) c ≡ (is_met marks c || t)) [
      | true ↦ λ h.
          let same : d ≡ c = same_from_tie d c h in
          ap (λ (x : Candidate). is_met (map (shown_by x) marks) c) same ∙ met-own marks c there
          ∙ sym (or_true (is_met marks c))
      | false ↦ λ h. met-other d marks c h ∙ sym (or_false (is_met marks c))
    ] refl

-- ---- if no row ties with the candidate

-- if the mark before the place precedes the candidate none is at a place
none_ties : (marks : List Mark) → AreMarksInOrder marks → (d : Candidate) (p : ℕ) → p ≤ length marks
    → IsPlace (candidates_at marks) d p → ties_before p marks d ≡ false
    → (j : ℕ) (c : Candidate) → j < length (candidates_at marks) → get_or (candidates_at marks) j c ≡ d → ⊥
none_ties marks up d zero bound here none j c lt e =
    let front : precedes d (get_or (candidates_at marks) j c) ≡ true = here.1 j c (omega arith) lt in
    let no : precedes d (get_or (candidates_at marks) j c) ≡ false = ap (precedes d) e ∙ not_itself d in
    cc
none_ties marks up d (suc q) bound here none j c lt e = elim (ltb q j) as (λ t. ltb q j ≡ t → ⊥) [
  | true ↦ λ b.
      let behind : q < j = ltb-true q j b in
      let front : precedes d (get_or (candidates_at marks) j c) ≡ true = here.1 j c (omega (arith, behind)) lt in
      let no : precedes d (get_or (candidates_at marks) j c) ≡ false = ap (precedes d) e ∙ not_itself d in
      cc
  | false ↦ λ b.
      let x : Mark = get_or marks q (unmet c) in
      let many : length (candidates_at marks) ≡ length marks = length-map marks (λ m. m.candidate) in
      let got : slice_get marks q ≡ Some x = slice_get-get_or marks q (unmet c) (omega (arith, bound)) in
      let ahead : not (precedes x.candidate d) ≡ false =
      sym (ap (λ (o : Option Mark). option_map_or (λ m. not (precedes m.candidate d)) o false) got) ∙ none in
      let turn : precedes (get_or (candidates_at marks) q c) (get_or (candidates_at marks) j c) ≡ false =
      in_turn (candidates_at marks) up j q c (ltb-false q j b) (omega (arith, bound, many)) in
      let no : precedes x.candidate d ≡ false =
      ap (λ (y : Candidate). precedes y d) (sym (at-mark marks q c))
      ∙ ap (precedes (get_or (candidates_at marks) q c)) (sym e) ∙ turn in
      let yes : not (precedes x.candidate d) ≡ true = ap not no in
      cc
] refl

-- if the mark before the place precedes the candidate no mark is its own
pub not_marked : (marks : List Mark) → AreMarksInOrder marks → (d : Candidate) (p : ℕ) → p ≤ length marks
    → IsPlace (candidates_at marks) d p → ties_before p marks d ≡ false → (c : Candidate)
    → Contains (candidates_at marks) c → is_eq (full_cmp d c) ≡ false
not_marked marks up d p bound here none c (j, lt, e) = elim (is_eq (full_cmp d c)) as (λ t. is_eq (full_cmp d c) ≡ t
    → t ≡ false) [
      | true ↦ λ h. absurd (none_ties marks up d p bound here none j c lt (e ∙ sym (same_from_tie d c h)))
      | false ↦ λ _. refl
    ] refl

-- ---- what is known of the rows once one more candidate was offered

-- what is known of a row
met-known : (d : Candidate) (old new : List Mark) (c : Candidate)
    → is_met new c ≡ (is_met old c || is_eq (full_cmp d c))
    → in_64_bits (passed new c)
    ≡ one_more_if (precedes d c) (passed old c)
    → known new c ≡ met_by d (known old c)
met-known d old new c e f = λ i. record { candidate = c; present = e i; ahead = f i }

module _ (marks : List Mark) (up : AreMarksInOrder marks) (d : Candidate) (p : ℕ) (bound : p ≤ length marks)
    (here : IsPlace (candidates_at marks) d p) where
  -- if no mark is the candidate's own it is counted at its place
  pub meet-apart : ties_before p marks d ≡ false → Meets d marks (counted_at p marks)
  meet-apart none = record {
    same = counted-same p marks;
    met = λ c there.
        met-known d marks (counted_at p marks) c
        (counted-met p marks c ∙ sym (or_false (is_met marks c))
        ∙ ap (λ (b : Bool). is_met marks c || b) (sym (not_marked marks up d p bound here none c there)))
        (counted-passed marks up d p here c there);
  }

  -- if one may be it is also taken into account at that one
  pub meet-own : Meets d marks (counted_at p (map (shown_by d) marks))
  meet-own = record {
    same = counted-same p (map (shown_by d) marks) ∙ shown-same d marks;
    met = λ c there.
        let shown : List Mark = map (shown_by d) marks in
        let keys : candidates_at marks ≡ candidates_at shown = sym (shown-same d marks) in
        met-known d marks (counted_at p shown) c (counted-met p shown c ∙ shown-met d marks c there)
        (counted-passed shown (subst (λ (ks : List Candidate). IsSorted full_cmp ks) keys up) d p
        (subst (λ (ks : List Candidate). IsPlace ks d p) keys here) c
        (subst (λ (ks : List Candidate). Contains ks c) keys there)
        ∙ ap (λ (n : ℕ). one_more_if (precedes d c) n) (shown-passed d marks c));
  }

-- what is known of each of the rows
pub rows-met : (d : Candidate) (old new : List Mark) → Meets d old new → (rows : List Candidate)
    → AllByRecursion (Contains (candidates_at old)) rows → map (known new) rows ≡ map (met_by d) (map (known old) rows)
rows-met d old new m [] h = refl
rows-met d old new m (c ∷ rows) h =
    ap (λ (x : Met). x ∷ map (known new) rows) (m.met c h.0)
    ∙ ap (λ (l : List Met). met_by d (known old c) ∷ l) (rows-met d old new m rows h.1)

-- and so it is with a candidate that changes no mark if it comes after the last row
pub rows-offered : (last : Option Candidate) (d : Candidate) (old new : List Mark) (rows : List Candidate)
    → IsLast last rows → AllByRecursion (Contains (candidates_at old)) rows
    → (reaches last d ≡ true → Meets d old new) → (reaches last d ≡ false → new ≡ old)
    → map (known new) rows ≡ map (met_by d) (map (known old) rows)
rows-offered last d old new rows behind marked reached out =
    elim (reaches last d) as (λ b. reaches last d ≡ b
    → map (known new) rows ≡ map (met_by d) (map (known old) rows)) [
      | true ↦ λ e. rows-met d old new (reached e) rows marked
      | false ↦ λ e. ap (λ (l : List Mark). map (known l) rows) (out e) ∙ sym (rows-behind last d old rows behind e)
    ] refl

-- ---- what is known of one candidate

-- those at the marks that a candidate doesn't precede are all at the marks before its place
pub passed-before : (marks : List Mark) (c : Candidate) (p : ℕ) → p ≤ length marks
    → ((k : ℕ) → k < p → precedes c (get_or marks k (unmet c)).candidate ≡ false)
    → ((k : ℕ) → p ≤ k → k < length marks → precedes c (get_or marks k (unmet c)).candidate ≡ true)
    → passed marks c ≡ counted (take p marks)
passed-before [] c zero bound before behind = refl
passed-before [] c (suc p) bound before behind = absurd (omega arith)
passed-before (m ∷ marks) c zero bound before behind =
    let none : passed_at c m ≡ 0 = ap (λ (b : Bool). cond b 0 m.fresh) (behind 0 (omega arith) (omega arith)) in
    let rest : passed marks c ≡ 0 =
    passed-before marks c zero (omega arith) (λ k lt. absurd (omega arith))
    (λ k le lt. behind (suc k) (omega arith) (omega arith)) in
    omega (arith, sum_by-cons (passed_at c) m marks, none, rest)
passed-before (m ∷ marks) c (suc p) bound before behind =
    let own : passed_at c m ≡ m.fresh = ap (λ (b : Bool). cond b 0 m.fresh) (before 0 (omega arith)) in
    let rest = passed-before marks c p (omega arith) (λ k lt. before (suc k) (omega arith))
    (λ k le lt. behind (suc k) (omega arith) (omega arith)) in
    omega (arith, sum_by-cons (passed_at c) m marks, sum_by-cons (λ (x : Mark). x.fresh) m (take p marks), own, rest)

-- so it is at the place among the marks
pub passed-place : (marks : List Mark) (c : Candidate) (p : ℕ) → p ≤ length marks
    → IsPlace (candidates_at marks) c p → passed marks c ≡ counted (take p marks)
passed-place marks c p bound here =
    let many : length (candidates_at marks) ≡ length marks = length-map marks (λ m. m.candidate) in
    passed-before marks c p bound
    (λ k lt. sym (ap (precedes c) (at-mark marks k c)) ∙ here.0 k c (omega arith) lt)
    (λ k le lt. sym (ap (precedes c) (at-mark marks k c)) ∙ here.1 k c le (omega (arith, many)))

-- a candidate whose mark was offered is met
pub met-before : (p : ℕ) (marks : List Mark) (c : Candidate) → (is_met_before p marks c || is_met marks c)
    ≡ is_met marks c
met-before zero marks c = refl
met-before (suc p) marks c = elim (ltb p (length marks)) as (λ t. ltb p (length marks) ≡ t
    → (is_met_before (suc p) marks c || is_met marks c) ≡ is_met marks c) [
      | true ↦ λ b.
          let within : p < length marks = ltb-true p (length marks) b in
          let m : Mark = get_or marks p (unmet c) in
          let got : slice_get marks p ≡ Some m = slice_get-get_or marks p (unmet c) within in
          let its : is_met_before (suc p) marks c ≡ is_met_at c m =
          ap (λ (o : Option Mark). option_map_or (is_met_at c) o false) got in
          ap (λ (t : Bool). t || is_met marks c) its ∙ either (is_met_at c m) (is_met marks c)
          (λ e. list_any_at (is_met_at c) marks p (unmet c) within e)
      | false ↦ λ b.
          ap (λ (o : Option Mark). option_map_or (is_met_at c) o false || is_met marks c)
          (slice_get_past marks p (ltb-false p (length marks) b))
    ] refl
  where
    either : (a b : Bool) → (a ≡ true → b ≡ true) → (a || b) ≡ b
    either true b e = sym (e refl)
    either false b e = refl

-- ---- nothing was offered yet

-- marks that were offered nothing have met none
unmet-met : (ks : List Candidate) (c : Candidate) → is_met (map unmet ks) c ≡ false
unmet-met [] c = refl
unmet-met (k ∷ ks) c = unmet-met ks c

-- nor passed any
unmet-passed : (ks : List Candidate) (c : Candidate) → passed (map unmet ks) c ≡ 0
unmet-passed [] c = refl
unmet-passed (k ∷ ks) c =
    let one = sum_by-cons (passed_at c) (unmet k) (map unmet ks) in
    omega (arith, one, no_part (precedes c k) 0 refl, unmet-passed ks c)
  where
    no_part : (b : Bool) (n : ℕ) → n ≡ 0 → cond b 0 n ≡ 0
    no_part true n e = refl
    no_part false n e = e

-- so of the rows nothing is known
pub rows-unmet : (ks rows : List Candidate) → map (known (map unmet ks)) rows ≡ map (met []) rows
rows-unmet ks [] = refl
rows-unmet ks (c ∷ rows) =
    (λ i. record { candidate = c; present = unmet-met ks c i; ahead = in_64_bits (unmet-passed ks c i) }
    ∷ map (known (map unmet ks)) rows)
    ∙ ap (λ (l : List Met). met [] c ∷ l) (rows-unmet ks rows)

-- marks have the candidates that they were made of
pub unmet-same : (ks : List Candidate) → candidates_at (map unmet ks) ≡ ks
unmet-same [] = refl
unmet-same (k ∷ ks) = ap (λ (l : List Candidate). k ∷ l) (unmet-same ks)

-- the rows are among what they are sorted to
all_among : (xs ks : List Candidate) → IsPermutation xs ks → (rows : List Candidate)
    → AllByRecursion (Contains xs) rows → AllByRecursion (Contains ks) rows
all_among xs ks moved [] h = tt
all_among xs ks moved (c ∷ rows) h = (Contains-permutation xs ks c moved h.0, all_among xs ks moved rows h.1)

-- each of some is among them
each_among : (rows : List Candidate) → AllByRecursion (Contains rows) rows
each_among rows = recursion_from_All (Contains rows) rows
    (λ k d lt. (k, lt, get_or_default rows k (get_or rows k d) d lt))

-- marks of sorted rows are in order
pub marks-unmet : (rows ks : List Candidate) (marks : List Mark) → IsPermutation rows ks → IsSorted full_cmp ks
    → marks ≡ map unmet ks → AreUnmet rows marks
marks-unmet rows ks marks moved up e =
    let keys : candidates_at marks ≡ ks = ap candidates_at e ∙ unmet-same ks in
    record {
      order = subst (λ (l : List Candidate). IsSorted full_cmp l) (sym keys) up;
      marked = subst (λ (l : List Candidate). AllByRecursion (Contains l) rows) (sym keys)
          (all_among rows ks moved rows (each_among rows));
      blank = e ∙ ap (map unmet) (sym keys);
    }
