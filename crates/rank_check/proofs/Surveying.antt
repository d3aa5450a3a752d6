-- What a pass over all data finds, candidate by candidate and series by series.
use Rattle.std.proofs.Common.{◌≡◌, ℕ, ◌+◌, ◌<◌, Bool, true, false, cond, List, [], ◌∷◌, ◌++◌, length, take, map, Option}
use Rattle.std.proofs.Common.{Some, None, refl, sym, ap, ◌∙◌, subst, arith, append-nil, append_assoc, ◌||◌, ℤ, get_or}
use Rattle.std.proofs.Common.{inl, inr, ◌^◌, ◌<ℤ◌, ◌≤ℤ◌}
use Rattle.std.specs.List.{fold, flat_map, AllByRecursion}
use Rattle.std.specs.Prelude.{int_le}
use Rattle.std.proofs.lemmas.Bool.{cases_Bool}
use Rattle.std.specs.Int.{int_max, int_min}
use Rattle.std.specs.Ordering.{is_eq, is_lt, is_le, int_cmp, ordering_then}
use Rattle.std.specs.declared.cmp.Ordering.{Ordering}
use Rattle.std.specs.declared.cmp.Ordering.TheVariants.{Less, Equal, Greater}
use Rattle.std.proofs.lemmas.Cmp.{tied_itself}
use Rattle.std.proofs.lemmas.List.{length-append, map-append}
use Rattle.std.proofs.lemmas.List.Folds.{list_any-append}
use Rattle.std.proofs.lemmas.List.Sums.{sum_by-append, sum_by-cons}
use Rattle.std.proofs.lemmas.Grind.{flat_map-append}
use Rattle.std.proofs.lemmas.Int.{ints}
use Rattle.ghcn_series.specs.Meaning.Series.{Series}
use Rattle.ghcn_series.specs.Says.{in_64_bits}
use Rattle.rank_query.specs.Meaning.Asked.{Query}
use Rattle.rank_scores.specs.declared.candidate.Candidate.{Candidate}
use Rattle.rank_scores.specs.Candidates.{candidates}
use Rattle.rank_scores.specs.Meaning.Order.{rank_cmp, precedes}
use Rattle.rank_scores.specs.Order.{full_cmp, rank_in}
use Rattle.rank_scores.proofs.Listing.{full_cmp_total}
use Rattle.rank_check.specs.declared.tally.Met.{Met}
use Rattle.rank_check.specs.Tests.{is_one_of}
use Rattle.ghcn_files.proofs.Ordered.{first_trans, first_either}
use Rattle.ghcn_files.proofs.Among.{each-weaker}
use Rattle.rank_check.specs.Marks.{known, may_reach}
use Rattle.rank_check.proofs.Each.{each-more}
use Rattle.rank_check.specs.Survey.{IsLast, reaches, later, top, met, met_by, raised, top_score, Tally, tally_with}
use Rattle.rank_check.specs.declared.tally.Mark.{Mark}
use Rattle.rank_check.specs.Survey.{reset, IsFloor}

-- ---- one candidate more

-- or nothing
pub or_false : (b : Bool) → (b || false) ≡ b
or_false true = refl
or_false false = refl

-- it may be the row's
among-more : (cs : List Candidate) (d c : Candidate)
    → (is_one_of cs c || is_eq (full_cmp d c)) ≡ is_one_of (cs ++ d ∷ []) c
among-more cs d c = ap (λ (b : Bool). is_one_of cs c || b) (sym (or_false (is_eq (full_cmp d c))))
    ∙ sym (list_any-append (λ x. is_eq (full_cmp x c)) cs (d ∷ []))

-- a test, as a number that counts
abbrev one_if : Bool → ℕ
one_if b = cond b 1 0

-- it may precede the row
rank-more : (cs : List Candidate) (d c : Candidate)
    → rank_in (cs ++ d ∷ []) c ≡ rank_in cs c + one_if (precedes d c)
rank-more cs d c =
    let test : Candidate → ℕ = λ x. one_if (precedes x c) in
    omega (arith, sum_by-append test cs (d ∷ []), sum_by-cons test d [])

-- a number that is counted up stays within 64 bits
counted-up : (n : ℕ) → in_64_bits (in_64_bits n + 1) ≡ in_64_bits (n + 1)
counted-up n = omega arith

-- so it is with those ahead of a row
ahead-more : (cs : List Candidate) (d c : Candidate)
    → cond (precedes d c) (in_64_bits (in_64_bits (rank_in cs c) + 1)) (in_64_bits (rank_in cs c))
    ≡ in_64_bits (rank_in (cs ++ d ∷ []) c)
ahead-more cs d c = by (precedes d c) (rank-more cs d c)
  where
    by : (b : Bool) → rank_in (cs ++ d ∷ []) c ≡ rank_in cs c + one_if b
        → cond b (in_64_bits (in_64_bits (rank_in cs c) + 1)) (in_64_bits (rank_in cs c))
        ≡ in_64_bits (rank_in (cs ++ d ∷ []) c)
    by true e = counted-up (rank_in cs c) ∙ ap in_64_bits (sym e)
    by false e = let same : rank_in cs c ≡ rank_in (cs ++ d ∷ []) c = omega (arith, e) in ap in_64_bits same

-- a row once one more candidate was offered
met-more : (cs : List Candidate) (d c : Candidate) → met_by d (met cs c) ≡ met (cs ++ d ∷ []) c
met-more cs d c =
    λ i. record { candidate = c; present = among-more cs d c i; ahead = ahead-more cs d c i }

-- all rows
rows-more : (rows : List Candidate) (cs : List Candidate) (d : Candidate)
    → map (met_by d) (map (met cs) rows) ≡ map (met (cs ++ d ∷ [])) rows
rows-more [] cs d = refl
rows-more (c ∷ rows) cs d = ap (λ (m : Met). m ∷ map (met_by d) (map (met cs) rows)) (met-more cs d c)
    ∙ ap (λ (l : List Met). met (cs ++ d ∷ []) c ∷ l) (rows-more rows cs d)

-- the greatest of one number more
fold-more : (a : ℤ) (cs : List Candidate) (d : Candidate) → fold int_max a (map (λ c. c.score) (cs ++ d ∷ []))
    ≡ int_max (fold int_max a (map (λ c. c.score) cs)) d.score
fold-more a [] d = refl
fold-more a (c ∷ cs) d = fold-more (int_max a c.score) cs d

-- the greatest score with one candidate more
pub top-more : (cs : List Candidate) (d : Candidate) → Some (raised (top_score cs) d.score) ≡ top_score (cs ++ d ∷ [])
top-more [] d = refl
top-more (c ∷ cs) d = ap (λ (z : ℤ). Some z) (sym (fold-more c.score cs d))

-- ---- a tally of rows and candidates

-- a tally that was offered some candidates, the last of them since it was reset
abbrev pub tallied : List Candidate → List Candidate → List Candidate → Tally
tallied rows cs since = record {
  rows = map (met cs) rows;
  count = in_64_bits (length cs);
  highest = top_score since;
}

-- one more
tallied-more : (rows cs since : List Candidate) (d : Candidate)
    → tally_with (tallied rows cs since) d ≡ tallied rows (cs ++ d ∷ []) (since ++ d ∷ [])
tallied-more rows cs since d =
    let long : length (cs ++ d ∷ []) ≡ length cs + 1 = length-append cs (d ∷ []) in
    let many : in_64_bits (in_64_bits (length cs) + 1) ≡ in_64_bits (length (cs ++ d ∷ [])) =
    counted-up (length cs) ∙ ap in_64_bits (sym long) in
    λ i. record { rows = rows-more rows cs d i; count = many i; highest = top-more since d i }

-- and some more
pub tallied-all : (rows cs since ds : List Candidate)
    → fold tally_with (tallied rows cs since) ds ≡ tallied rows (cs ++ ds) (since ++ ds)
tallied-all rows cs since [] =
    ap (λ (l : List Candidate). tallied rows l since) (sym (append-nil cs))
    ∙ ap (λ (l : List Candidate). tallied rows (cs ++ []) l) (sym (append-nil since))
tallied-all rows cs since (d ∷ ds) =
    ap (λ (t : Tally). fold tally_with t ds) (tallied-more rows cs since d)
    ∙ tallied-all rows (cs ++ d ∷ []) (since ++ d ∷ []) ds
    ∙ ap (λ (l : List Candidate). tallied rows l ((since ++ d ∷ []) ++ ds)) (append_assoc cs (d ∷ []) ds)
    ∙ ap (λ (l : List Candidate). tallied rows (cs ++ d ∷ ds) l) (append_assoc since (d ∷ []) ds)

-- one more series was scanned
pub scanned-more : (q : Query) (rows : List Candidate) (ss : List Series) (s : Series) (t new : Tally)
    → t.rows ≡ map (met (flat_map (candidates q) ss)) rows
    → t.count ≡ in_64_bits (length (flat_map (candidates q) ss))
    → new ≡ fold tally_with (reset t) (candidates q s)
    → new ≡ tallied rows (flat_map (candidates q) (ss ++ s ∷ [])) (candidates q s)
scanned-more q rows ss s t new e f scan =
    let cs : List Candidate = flat_map (candidates q) ss in
    let begin : reset t ≡ tallied rows cs [] = λ i. record { rows = e i; count = f i; highest = None } in
    let alone : flat_map (candidates q) (s ∷ []) ≡ candidates q s = append-nil (candidates q s) in
    let all : cs ++ candidates q s ≡ flat_map (candidates q) (ss ++ s ∷ []) =
    sym (flat_map-append (candidates q) ss (s ∷ []) ∙ ap (λ (l : List Candidate). cs ++ l) alone) in
    scan ∙ ap (λ (x : Tally). fold tally_with x (candidates q s)) begin
    ∙ tallied-all rows cs [] (candidates q s)
    ∙ ap (λ (l : List Candidate). tallied rows l (candidates q s)) all

-- its ID and greatest score come after those before it
pub top-behind : (q : Query) (ss : List Series) (s : Series) (highest : Option ℤ) → highest ≡ top_score (candidates q s)
    → map (top q) ss ++ record { id = s.id; highest = highest } ∷ [] ≡ map (top q) (ss ++ s ∷ [])
top-behind q ss s highest e =
    ap (λ (h : Option ℤ). map (top q) ss ++ record { id = s.id; highest = h } ∷ []) e
    ∙ sym (map-append (top q) ss (s ∷ []))

-- ---- rows that a candidate can't be, nor come before

-- what doesn't come after another doesn't come after what that one doesn't come after
reach_on : (a b c : Candidate) → is_le (full_cmp a b) ≡ true → is_le (full_cmp b c) ≡ true → is_le (full_cmp a c) ≡ true
reach_on a b c = first_trans full_cmp full_cmp_total (λ x y. is_le (full_cmp x y)) (λ x y. refl) a b c

-- what doesn't come after the last one doesn't come after the later one
later-holds : (last : Option Candidate) (c m : Candidate) → reaches last m ≡ true
    → reaches (Some (later last c)) m ≡ true
later-holds None c m h = absurd cc
later-holds (Some l) c m h =
    elim (is_le (full_cmp c l)) as (λ b. is_le (full_cmp c l) ≡ b → is_le (full_cmp m (cond b l c)) ≡ true) [
      | true ↦ λ _. h
      | false ↦ λ e.
          reach_on m l c h (first_either full_cmp full_cmp_total (λ x y. is_le (full_cmp x y)) (λ x y. refl) c l e)
    ] refl

-- nor does the candidate itself
later-own : (last : Option Candidate) (c : Candidate) → reaches (Some (later last c)) c ≡ true
later-own None c = ap is_le (tied_itself full_cmp_total c)
later-own (Some l) c =
    elim (is_le (full_cmp c l)) as (λ b. is_le (full_cmp c l) ≡ b → is_le (full_cmp c (cond b l c)) ≡ true) [
      | true ↦ λ e. e
      | false ↦ λ _. ap is_le (tied_itself full_cmp_total c)
    ] refl

-- so it is the last with one row more
pub last-more : (last : Option Candidate) (rows : List Candidate) (i : ℕ) (c z : Candidate)
    → IsLast last (take i rows) → z ≡ later last c → i < length rows → c ≡ get_or rows i c
    → IsLast (Some z) (take (i + 1) rows)
last-more last rows i c z h e lt is =
    let next : Option Candidate = Some (later last c) in
    subst (λ (y : Candidate). IsLast (Some y) (take (i + 1) rows)) (sym e)
    (each-more (λ d. reaches next d ≡ true) rows i c lt is
    (each-weaker (λ d. reaches last d ≡ true) (λ d. reaches next d ≡ true)
    (take i rows) (λ d k. later-holds last c d k) h) (later-own last c))

-- a candidate that comes after the last row comes after each
behind : (last : Option Candidate) (d c : Candidate) → reaches last c ≡ true → reaches last d ≡ false
    → is_le (full_cmp d c) ≡ false
behind None d c h e = absurd cc
behind (Some l) d c h e = elim (is_le (full_cmp d c)) as (λ b. is_le (full_cmp d c) ≡ b → b ≡ false) [
  | true ↦ λ f. absurd (let on : is_le (full_cmp d l) ≡ true = reach_on d c l f h in cc)
  | false ↦ λ f. refl
] refl

-- what comes after isn't a tie
not_tied : (o : Ordering) → is_le o ≡ false → is_eq o ≡ false
not_tied Less e = refl
not_tied Equal e = absurd cc
not_tied Greater e = refl

-- nor in front by the first of two comparisons
not_in_front : (o p : Ordering) → is_le (ordering_then o p) ≡ false → is_lt o ≡ false
not_in_front Less p e = absurd cc
not_in_front Equal p e = refl
not_in_front Greater p e = refl

-- a candidate that comes after a row changes nothing about it
row-behind : (d : Candidate) (m : Met) → is_le (full_cmp d m.candidate) ≡ false → met_by d m ≡ m
row-behind d m e =
    let apart : is_eq (full_cmp d m.candidate) ≡ false = not_tied (full_cmp d m.candidate) e in
    let later : precedes d m.candidate ≡ false =
    not_in_front (rank_cmp d m.candidate) (int_cmp d.last m.candidate.last) e in
    let present : (m.present || is_eq (full_cmp d m.candidate)) ≡ m.present =
    ap (λ (b : Bool). m.present || b) apart ∙ or_false m.present in
    let ahead : cond (precedes d m.candidate) (in_64_bits (m.ahead + 1)) m.ahead ≡ m.ahead =
    ap (λ (b : Bool). cond b (in_64_bits (m.ahead + 1)) m.ahead) later in
    λ i. record { candidate = m.candidate; present = present i; ahead = ahead i }

-- nor about any of them
pub rows-behind : (last : Option Candidate) (d : Candidate) (marks : List Mark) (rows : List Candidate)
    → IsLast last rows → reaches last d ≡ false → map (met_by d) (map (known marks) rows) ≡ map (known marks) rows
rows-behind last d marks [] h e = refl
rows-behind last d marks (c ∷ rows) h e =
    ap (λ (x : Met). x ∷ map (met_by d) (map (known marks) rows))
    (row-behind d (known marks c) (behind last d c h.0 e))
    ∙ ap (λ (l : List Met). known marks c ∷ l) (rows-behind last d marks rows h.1 e)

-- what is greater by the first of three comparisons comes after
greater_first : (s o l : Ordering) → s ≡ Greater → is_le (ordering_then (ordering_then s o) l) ≡ false
greater_first s o l e = grind arith

-- a candidate that scores less than the last row comes after it
pub low-behind : (last : Option Candidate) (d : Candidate) → may_reach last d.score ≡ false → reaches last d ≡ false
low-behind None d e = refl
low-behind (Some l) d e =
    let less : int_cmp l.score d.score ≡ Greater = grind (arith, ints) in
    greater_first (int_cmp l.score d.score) _ _ less

-- ---- candidates below a floor

-- a candidate that scores less than a row changes nothing about it
below-row : (d : Candidate) (m : Met) → d.score <ℤ m.candidate.score → met_by d m ≡ m
below-row d m low =
    let less : int_cmp m.candidate.score d.score ≡ Greater = grind (arith, ints) in
    row-behind d m (greater_first (int_cmp m.candidate.score d.score) _ _ less)

-- nor about any of them
below-rows : (d : Candidate) (floor : ℤ) (rows : List Met) → d.score <ℤ floor
    → AllByRecursion (λ m. floor ≤ℤ m.candidate.score) rows → map (met_by d) rows ≡ rows
below-rows d floor [] low from = refl
below-rows d floor (m ∷ ms) low from =
    let under : d.score <ℤ m.candidate.score = omega (arith, ints, low, from.0) in
    ap (λ (x : Met). x ∷ map (met_by d) ms) (below-row d m under)
    ∙ ap (λ (l : List Met). m ∷ l) (below-rows d floor ms low from.1)

-- nor does it raise the greatest score
not-raised : (highest score floor : ℤ) → floor ≤ℤ highest → score <ℤ floor → int_max highest score ≡ highest
not-raised highest score floor under low = grind (arith, ints)

-- a tally is changed by its number alone
below-one : (t : Tally) (d : Candidate) (floor : ℤ) → IsFloor t floor → d.score <ℤ floor
    → tally_with t d ≡ record { rows = t.rows; count = in_64_bits (t.count + 1); highest = t.highest }
below-one t d floor is low =
    let rows = below-rows d floor t.rows low is.rows in
    let highest : Some (raised t.highest d.score) ≡ t.highest =
    ap (λ (h : Option ℤ). Some (raised h d.score)) is.known
    ∙ ap (λ (z : ℤ). Some z) (not-raised is.highest d.score floor is.under low) ∙ sym is.known in
    λ i. record { rows = rows i; count = in_64_bits (t.count + 1); highest = highest i }

-- so it is by those of many
pub below-many : (t : Tally) (ds : List Candidate) (floor : ℤ) → t.count < 2 ^ 64 → IsFloor t floor
    → AllByRecursion (λ d. d.score <ℤ floor) ds
    → fold tally_with t ds ≡ record { rows = t.rows; count = in_64_bits (t.count + length ds); highest = t.highest }
below-many t [] floor fits is low =
    let same : t.count ≡ in_64_bits (t.count + 0) = omega (arith, fits) in
    λ i. record { rows = t.rows; count = same i; highest = t.highest }
below-many t (d ∷ ds) floor fits is low =
    let one = below-one t d floor is low.0 in
    let next : Tally = record { rows = t.rows; count = in_64_bits (t.count + 1); highest = t.highest } in
    let less : next.count < 2 ^ 64 = omega arith in
    let more : in_64_bits (next.count + length ds) ≡ in_64_bits (t.count + length (d ∷ ds)) = omega arith in
    ap (λ (u : Tally). fold tally_with u ds) one
    ∙ below-many next ds floor less (record {
      rows = is.rows;
      highest = is.highest;
      known = is.known;
      under = is.under;
    }) low.1
    ∙ (λ i. record { rows = t.rows; count = more i; highest = t.highest })

-- no row scores less than the last one
pub from-last : (last : Candidate) (marks : List Mark) (rows : List Candidate) → IsLast (Some last) rows
    → AllByRecursion (λ m. last.score ≤ℤ m.candidate.score) (map (known marks) rows)
from-last last marks [] behind = tt
from-last last marks (c ∷ cs) behind = (
  elim (cases_Bool (int_le last.score c.score)) [
    | inl e ↦ grind (arith, ints)
    | inr e ↦ let off = low-behind (Some last) c e in absurd (let on = behind.0 in cc)
  ],
  from-last last marks cs behind.1,
)

-- so the lesser of its score and the greatest so far is a floor
pub floor-some : (last : Candidate) (marks : List Mark) (rows : List Candidate) (count : ℕ) (highest : Option ℤ)
    (top floor : ℤ) → IsLast (Some last) rows → highest ≡ Some top → floor ≡ int_min top last.score
    → IsFloor (record { rows = map (known marks) rows; count = count; highest = highest }) floor
floor-some last marks rows count highest top floor behind known is =
    let low : floor ≤ℤ last.score = grind (arith, ints) in
    let under : floor ≤ℤ top = grind (arith, ints) in
    record {
      rows = each-weaker (λ (m : Met). last.score ≤ℤ m.candidate.score) (λ m. floor ≤ℤ m.candidate.score) _
          (λ m le. omega (arith, ints, low, le)) (from-last last marks rows behind);
      highest = top;
      known = known;
      under = under;
    }

-- if there is no last row there is none, and the greatest score so far is one
pub floor-none : (marks : List Mark) (rows : List Candidate) (count : ℕ) (highest : Option ℤ) (top : ℤ)
    → IsLast None rows → highest ≡ Some top
    → IsFloor (record { rows = map (known marks) rows; count = count; highest = highest }) top
floor-none marks [] count highest top behind known =
    record { rows = tt; highest = top; known = known; under = omega (arith, ints) }
floor-none marks (c ∷ cs) count highest top behind known = let none = behind.0 in absurd cc
