-- Counts of other codes, and what more lines of a code do to them.
use Rattle.std.proofs.Common.{◌≡◌, ℕ, zero, suc, ◌+◌, ◌-◌, ◌<◌, ◌≤◌, Bool, true, false, cond, List, [], ◌∷◌, ◌++◌}
use Rattle.std.proofs.Common.{length, get_or, set, take, refl, sym, ap, ◌∙◌, subst, arith, inl, inr, Ordering}
use Rattle.std.specs.Prelude.{◌⊎◌, drop}
use Rattle.std.specs.List.{All, AllPairs, AllWithin, insert, sum_by}
use Rattle.std.specs.List.Sorted.{IsNonDecreasingBy}
use Rattle.std.specs.Cmp.Lexicographic.{slice_cmp}
use Rattle.std.specs.Ordering.{nat_cmp, is_lt, is_eq, ordering_reverse, ordering_index}
use Rattle.std.specs.declared.cmp.Ordering.TheVariants.{Less, Equal, Greater}
use Rattle.std.proofs.lemmas.Bool.{cases_eq, cases_lt}
use Rattle.std.proofs.lemmas.Bool.Decides.{Decides-eqb}
use Rattle.std.proofs.lemmas.Cmp.{nat_list_cmp_total, nat_list_eq_equiv, tied_itself}
use Rattle.std.proofs.lemmas.Slice.Eq.{slice_eq-Decides}
use Rattle.std.proofs.lemmas.List.{length-append, length-set, get_or_append_left, get_or_push, get_or-set_same}
use Rattle.std.proofs.lemmas.List.{get_or-set_other, get_or_read}
use Rattle.std.proofs.lemmas.List.Edits.{length-insert}
use Rattle.std.proofs.lemmas.List.Elements.{All-append, All-cons, All-take, All-drop, All-set}
use Rattle.std.proofs.lemmas.List.Kept.{AllPairs-cons}
use Rattle.std.proofs.lemmas.List.Sorted.{searchable_from_sorted}
use Rattle.std.proofs.lemmas.List.Sums.{get_or-le-sum_by, sum_by-cons, sum_by-insert, sum_by-le-sum_by, sum_by-set}
use Rattle.std.proofs.lemmas.List.Sums.{sum_by_push}
use Rattle.std.proofs.lemmas.Map.Text.{is_eq-slice_cmp}
use Rattle.ghcn_fields.specs.Meaning.Bytes.{same_bytes}
use Rattle.ghcn_description.specs.declared.counts.CodeCount.{CodeCount}
use Rattle.ghcn_description.specs.declared.others.Others.{Others}
use Rattle.ghcn_description.specs.Described.{CountCodes, CountSmallest, Precedes, Rise, codes_before, lines_for}
use Rattle.ghcn_description.specs.Described.{most_codes}
use Rattle.ghcn_description.specs.Steps.{IsPlaceOf, KeepsMost}

-- ---- the order of codes

-- codes that are the same by their bytes are the same
same_bytes-is : (a b : List ℕ) → same_bytes a b ≡ true → a ≡ b
same_bytes-is a b e = (slice_eq-Decides Decides-eqb a b (same_bytes a b) refl).0 e

-- what a code comes after, it comes after
turned : (a b : List ℕ) → slice_cmp nat_cmp b a ≡ Greater → Precedes a b
turned a b e = nat_list_cmp_total.antisymm a b ∙ ap ordering_reverse e

-- if the order says that codes tie, they are the same
pub ties-are : (a b : List ℕ) → slice_cmp nat_cmp a b ≡ Equal → a ≡ b
ties-are a b e = same_bytes-is a b (sym (is_eq-slice_cmp a b) ∙ ap is_eq e)

-- one for a code that comes before another one
abbrev pub one_before : List ℕ → CodeCount → ℕ
one_before k c = cond (is_lt (slice_cmp nat_cmp c.code k)) 1 0

-- the lines of a code, of one count
abbrev pub lines_at : List ℕ → CodeCount → ℕ
lines_at k c = cond (same_bytes c.code k) c.lines 0

-- what comes before a code comes before a later one too
stays-before : (a b : List ℕ) → Precedes a b → (c : CodeCount) → one_before a c ≤ one_before b c
stays-before a b before c = go (slice_cmp nat_cmp c.code a) refl
  where
    go : (o : Ordering) → slice_cmp nat_cmp c.code a ≡ o → cond {A = ℕ} (is_lt o) 1 0 ≤ one_before b c
    go Less is = rw (nat_list_cmp_total.trans c.code a b is before) (omega arith)
    go Equal is = omega arith
    go Greater is = omega arith

-- no fewer codes come before a later one
no_fewer : (cs : List CodeCount) (a b : List ℕ) → Precedes a b → codes_before cs a ≤ codes_before cs b
no_fewer cs a b before = sum_by-le-sum_by (one_before a) (one_before b) cs (stays-before a b before)

-- if a code is counted, more come before a later one
one_more : (cs : List CodeCount) (a b : List ℕ) → Precedes a b → 0 < lines_for cs a
    → codes_before cs a + 1 ≤ codes_before cs b
one_more [] a b before some = absurd (omega (arith, some))
one_more (c ∷ cs) a b before some =
    let at_a = sum_by-cons (one_before a) c cs in
    let at_b = sum_by-cons (one_before b) c cs in
    let lines = sum_by-cons (lines_at a) c cs in
    elim (same_bytes c.code a) as
    (λ s. same_bytes c.code a ≡ s → codes_before (c ∷ cs) a + 1 ≤ codes_before (c ∷ cs) b) [
      | true ↦ λ same.
          let is : c.code ≡ a = same_bytes-is c.code a same in
          let here : one_before a c ≡ 0 =
          ap (λ k. cond {A = ℕ} (is_lt (slice_cmp nat_cmp k a)) 1 0) is
          ∙ ap (λ o. cond {A = ℕ} (is_lt o) 1 0) (tied_itself nat_list_cmp_total a) in
          let there : one_before b c ≡ 1 =
          ap (λ k. cond {A = ℕ} (is_lt (slice_cmp nat_cmp k b)) 1 0) is
          ∙ ap (λ o. cond {A = ℕ} (is_lt o) 1 0) before in
          omega (arith, at_a, at_b, here, there, no_fewer cs a b before)
      | false ↦ λ other.
          let none : lines_at a c ≡ 0 = ap (λ s. cond s c.lines 0) other in
          let more = one_more cs a b before (omega (arith, some, lines, none)) in
          omega (arith, at_a, at_b, stays-before a b before c, more)
    ] refl

-- ---- as many codes as are named

-- a code is counted, or as many as are named come before it
abbrev pub IsInOrFar : List CodeCount → List ℕ → Type 0
IsInOrFar cs k = (0 < lines_for cs k) ⊎ (most_codes ≤ codes_before cs k)

-- a code that has a count is counted
pub counted : (cs : List CodeCount) (i : ℕ) (d : CodeCount) → All (λ c. 0 < c.lines) cs → i < length cs
    → 0 < lines_for cs (get_or cs i d).code
counted cs i d some lt =
    let c : CodeCount = get_or cs i d in
    let own = get_or-le-sum_by (lines_at c.code) cs i d lt in
    let all : lines_at c.code c ≡ c.lines = ap (λ s. cond s c.lines 0) (nat_list_eq_equiv.refl c.code) in
    omega (arith, own, all, some i d lt)

-- after such a code one more comes before a later one, up to as many as are named
up : (cs : List CodeCount) (a b : List ℕ) (i : ℕ) → Precedes a b → IsInOrFar cs a → i < most_codes
    → i ≤ codes_before cs a → i + 1 ≤ codes_before cs b
up cs a b i before (inl some) few low = omega (arith, low, one_more cs a b before some)
up cs a b i before (inr far) few low = omega (arith, few, far, no_fewer cs a b before)

module _ (ds cs : List CodeCount) (rising : Rise ds)
    (each : (i : ℕ) (d : CodeCount) → i < length ds → IsInOrFar cs (get_or ds i d).code) where
  -- if each of codes that rise is so, at least as many come before one as it has before it there
  up_to : (i : ℕ) (d : CodeCount) → i < length ds → i < most_codes → i ≤ codes_before cs (get_or ds i d).code
  up_to zero d lt few = omega arith
  up_to (suc i) d lt few =
      let below : i < length ds = omega arith in
      let more = up cs (get_or ds i d).code (get_or ds (suc i) d).code i (rising i (suc i) d (omega arith) lt)
      (each i d below) (omega arith) (up_to i d below (omega arith)) in
      omega (arith, more)

  -- so what comes after as many of them as are named comes after as many of the others
  pub beyond : (k : List ℕ) (i : ℕ) (d : CodeCount) → i + 1 ≡ most_codes → i < length ds
      → Precedes (get_or ds i d).code k → most_codes ≤ codes_before cs k
  beyond k i d last lt before =
      let few : i < most_codes = omega (arith, last) in
      let more = up cs (get_or ds i d).code k i before (each i d lt) few (up_to i d lt few) in
      omega (arith, last, more)

-- ---- a count more or less

-- elements in order around one more
insert-pairs : {X : Type 0} (R : X → X → Type 0) (xs : List X) (i : ℕ) (y : X) → AllPairs R xs
    → AllWithin (λ x. R x y) xs 0 i → AllWithin (λ x. R y x) xs i (length xs) → AllPairs R (insert xs i y)
insert-pairs R [] zero y all before behind = λ j k d lt below. absurd (omega arith)
insert-pairs R [] (suc i) y all before behind = λ j k d lt below. absurd (omega arith)
insert-pairs R (x ∷ xs) zero y all before behind =
    AllPairs-cons R y (x ∷ xs) (λ k d lt. behind k d (omega arith) lt) all
insert-pairs R (x ∷ xs) (suc i) y all before behind =
    AllPairs-cons R x (insert xs i y)
    (All-append (R x) (take i xs) (y ∷ drop i xs) (All-take (R x) i xs first)
    (All-cons (R x) y (drop i xs) (before 0 x (omega arith) (omega arith)) (All-drop (R x) i xs first)))
    (insert-pairs R xs i y (λ j k d lt below. all (suc j) (suc k) d (omega arith) (omega arith))
    (λ k d low lt. before (suc k) d (omega arith) (omega arith))
    (λ k d low lt. behind (suc k) d (omega arith) (omega arith)))
  where
    first : All (R x) xs
    first = λ k d lt. all 0 (suc k) d (omega arith) (omega arith)

-- lines of a new code, counted at its place
pub inserted : (f : List ℕ → ℕ) (all : ℕ) (cs : List CodeCount) (n i : ℕ) (new : CodeCount) → 0 < new.lines
    → IsPlaceOf new.code cs i → CountCodes f all cs n
    → CountCodes (λ k. f k + cond (same_bytes new.code k) new.lines 0) (all + new.lines) (insert cs i new) n
inserted f all cs n i new some at is =
    let sums = sum_by-insert (λ (c : CodeCount). c.lines) cs i new in
    let IsSome : CodeCount → Type 0 = λ c. 0 < c.lines in
    record {
      rising = insert-pairs (λ (a b : CodeCount). Precedes a.code b.code) cs i new is.rising at.parts.0
          (λ k d low lt. turned new.code (get_or cs k d).code (at.parts.1 k d low lt));
      some = All-append IsSome (take i cs) (new ∷ drop i cs) (All-take IsSome i cs is.some)
          (All-cons IsSome new (drop i cs) some (All-drop IsSome i cs is.some));
      each = λ k. elim (is.each k) [
        | inl has ↦ inl (sum_by-insert (lines_at k) cs i new ∙ ap (λ m. m + lines_at k new) has)
        | inr far ↦ inr (omega (arith, far, sum_by-insert (one_before k) cs i new))
      ];
      total = omega (arith, sums, is.total);
    }

-- the last code leaves, if more are counted than are named
pub trimmed : (f : List ℕ → ℕ) (all : ℕ) (cs : List CodeCount) (last : CodeCount) (n : ℕ) → length cs ≡ most_codes
    → CountCodes f all (cs ++ last ∷ []) n → CountSmallest f all cs (n + last.lines)
trimmed f all cs last n full is = record {
  few = omega (arith, full);
  codes = record {
    rising = rising;
    some = some;
    each = λ k. go k (slice_cmp nat_cmp last.code k) refl (is.each k);
    total = omega (arith, is.total, sum_by_push (λ (c : CodeCount). c.lines) cs last);
  };
}
  where
    front : (i : ℕ) (d : CodeCount) → i < length cs → get_or (cs ++ last ∷ []) i d ≡ get_or cs i d
    front i d lt = get_or_append_left cs (last ∷ []) d i lt

    long : length (cs ++ last ∷ []) ≡ length cs + 1
    long = length-append cs (last ∷ [])

    rising : Rise cs
    rising i j d lt below =
        rw (front i d (omega arith), front j d below) at (is.rising i j d lt (omega (arith, below, long)))

    some : All (λ c. 0 < c.lines) cs
    some i d lt = rw (front i d lt) at (is.some i d (omega (arith, lt, long)))

    -- as many as are named come before what comes after the last or ties with it
    far : (k : List ℕ) → ((c : CodeCount) → Precedes c.code last.code → Precedes c.code k)
        → most_codes ≤ codes_before cs k
    far k after =
        let i : ℕ = length cs - 1 in
        let lt : i < length cs = omega (arith, full) in
        let before = rw (front i last lt, get_or_push cs last last (length cs) refl) at
        (is.rising i (length cs) last lt (omega (arith, long))) in
        beyond cs cs rising (λ j d below. inl (counted cs j d some below)) k i last (omega (arith, full)) lt
        (after (get_or cs i last) before)

    go : (k : List ℕ) (o : Ordering) → slice_cmp nat_cmp last.code k ≡ o
        → (lines_for (cs ++ last ∷ []) k ≡ f k) ⊎ (most_codes ≤ codes_before (cs ++ last ∷ []) k)
        → (lines_for cs k ≡ f k) ⊎ (most_codes ≤ codes_before cs k)
    go k Less e old = inr (far k (λ c before. nat_list_cmp_total.trans c.code last.code k before e))
    go k Equal e old = inr (far k (λ c before. subst (Precedes c.code) (ties-are last.code k e) before))
    go k Greater e (inl has) =
        let none : lines_at k last ≡ 0 =
        ap (λ s. cond s last.lines 0) (sym (is_eq-slice_cmp last.code k) ∙ ap is_eq e) in
        inl (omega (arith, has, none, sum_by_push (lines_at k) cs last))
    go k Greater e (inr many) =
        let none : one_before k last ≡ 0 = ap (λ o. cond {A = ℕ} (is_lt o) 1 0) e in
        inr (omega (arith, many, none, sum_by_push (one_before k) cs last))

-- lines of a new code, of which the last one leaves if more are counted than are named
pub placed : (f : List ℕ → ℕ) (all : ℕ) (old mid new : Others) (i : ℕ) (one : CodeCount) → 0 < one.lines
    → IsPlaceOf one.code old.counts.items i → mid.counts.items ≡ insert old.counts.items i one
    → mid.further ≡ old.further → KeepsMost mid new → CountSmallest f all old.counts.items old.further
    → CountSmallest (λ k. f k + cond (same_bytes one.code k) one.lines 0) (all + one.lines) new.counts.items new.further
placed f all old mid new i one some at items same keeps is =
    let g : List ℕ → ℕ = λ k. f k + cond (same_bytes one.code k) one.lines 0 in
    let put : CountCodes g (all + one.lines) mid.counts.items mid.further =
    rw (items, same) (inserted f all old.counts.items old.further i one some at is.codes) in
    let long = length-insert old.counts.items i one at.within in
    elim (cases_lt most_codes (length mid.counts.items)) [
      | inl over ↦
          let lost = keeps.many over in
          let full : length new.counts.items ≡ most_codes = omega (
            arith,
            over,
            is.few,
            long,
            ap length items,
            ap length lost.counts,
            length-append new.counts.items (lost.last ∷ []),
          ) in
          rw lost.further (trimmed g (all + one.lines) new.counts.items lost.last mid.further full
          (rw lost.counts at put))
      | inr few ↦
          rw (keeps.few few) (record { few = few; codes = put })
    ]

-- a count of that many lines, of the same code
abbrev with_lines : CodeCount → ℕ → CodeCount
with_lines c lines = record { code = c.code; lines = lines }

-- more lines of a code that has a count
pub found : (f : List ℕ → ℕ) (all : ℕ) (cs : List CodeCount) (n i m lines : ℕ) (there : CodeCount) → 0 < m
    → i < length cs → there ≡ get_or cs i there → lines ≡ there.lines + m → CountSmallest f all cs n
    → CountSmallest (λ k. f k + cond (same_bytes there.code k) m 0) (all + m) (set cs i (with_lines there lines)) n
found f all cs n i m lines there some lt is_there more is = record {
  few = omega (arith, is.few, length-set cs i (with_lines there lines));
  codes = record {
    rising = λ j k d before below.
        subst (λ a. Precedes a (get_or (set cs i (with_lines there lines)) k d).code) (sym (code j d))
        (subst (Precedes (get_or cs j d).code) (sym (code k d))
        (is.codes.rising j k d before (omega (arith, below, length-set cs i (with_lines there lines)))));
    some = All-set (λ (c : CodeCount). 0 < c.lines) cs i (with_lines there lines) (omega (arith, some, more))
        is.codes.some;
    each = λ k. elim (is.codes.each k) [
      | inl has ↦ inl (omega (arith, has, changes (lines_at k), split (same_bytes there.code k)))
      | inr far ↦ inr (omega (arith, far, changes (one_before k)))
    ];
    total = omega (arith, more, is.codes.total, changes (λ (c : CodeCount). c.lines));
  };
}
  where
    -- what the change does to a sum
    changes : (g : CodeCount → ℕ)
        → sum_by g (set cs i (with_lines there lines)) + g there ≡ sum_by g cs + g (with_lines there lines)
    changes g =
        ap (λ c. sum_by g (set cs i (with_lines there lines)) + g c) is_there
        ∙ sum_by-set g cs i (with_lines there lines) there lt

    split : (s : Bool) → cond s lines 0 ≡ cond s there.lines 0 + cond s m 0
    split true = more
    split false = refl

    -- each place has its code
    code : (j : ℕ) (d : CodeCount) → (get_or (set cs i (with_lines there lines)) j d).code ≡ (get_or cs j d).code
    code j d = elim (cases_eq j i) [
      | inl same ↦ rw same (ap (λ (c : CodeCount). c.code) (get_or-set_same cs i (with_lines there lines) d lt)
          ∙ ap (λ (c : CodeCount). c.code) (get_or_read cs i there lt is_there d))
      | inr other ↦ ap (λ (c : CodeCount). c.code) (get_or-set_other cs i j (with_lines there lines) d other)
    ]

-- counts of as many lines
pub same-counts : (f g : List ℕ → ℕ) (all more : ℕ) (cs : List CodeCount) (n : ℕ) → ((k : List ℕ) → f k ≡ g k)
    → all ≡ more → CountSmallest f all cs n → CountSmallest g more cs n
same-counts f g all more cs n same sums is = record {
  few = is.few;
  codes = record {
    rising = is.codes.rising;
    some = is.codes.some;
    each = λ k. elim (is.codes.each k) [
      | inl has ↦ inl (has ∙ same k)
      | inr far ↦ inr far
    ];
    total = is.codes.total ∙ sums;
  };
}

-- ---- the search

-- a search by code finds its way among codes that rise
pub searchable : (code : List ℕ) (cs : List CodeCount) → Rise cs
    → IsNonDecreasingBy (λ c. ordering_index (slice_cmp nat_cmp c.code code)) cs
searchable code cs rising =
    searchable_from_sorted nat_list_cmp_total (λ (c : CodeCount). c.code) cs code
    (λ k d low high. ap is_lt (nat_list_cmp_total.antisymm (get_or cs (k + 1) d).code (get_or cs k d).code
    ∙ ap ordering_reverse (rising k (k + 1) d (omega arith) high)))
