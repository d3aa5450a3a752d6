-- The first error as a relation, and as it is found.
use Rattle.std.proofs.Common.{◌≡◌, List, [], ◌∷◌, ◌++◌, Option, Some, None, refl, sym, ap, ◌∙◌, append_assoc}
use Rattle.std.specs.Option.{option_or, option_map}
use Rattle.std.proofs.lemmas.List.{append-nil}
use Rattle.ghcn_fields.specs.Faults.{first_fault, first_fault_after, HaveNoFault, IsFirstFault}

module _ {L W : Type 0} (fault : List L → L → Option W) where
  -- none of these lines has an error, one after the other
  abbrev NoneAfter : List L → List L → Type 0
  NoneAfter earlier [] = Unit {0}
  NoneAfter earlier (l ∷ ls) = (fault earlier l ≡ None) × NoneAfter (earlier ++ l ∷ []) ls

  -- lines that have no error one after the other have none at any split
  at_split : (earlier ls before : List L) (l : L) (behind : List L) → NoneAfter earlier ls → ls ≡ before ++ l ∷ behind
      → fault (earlier ++ before) l ≡ None
  at_split earlier [] [] l behind none e = absurd cc
  at_split earlier [] (b ∷ bs) l behind none e = absurd cc
  at_split earlier (x ∷ xs) [] l behind none e =
      let same : x ≡ l = cc in
      ap (λ (ys : List L). fault ys l) (append-nil earlier) ∙ ap (fault earlier) (sym same) ∙ none.0
  at_split earlier (x ∷ xs) (b ∷ bs) l behind none e =
      let same : x ≡ b = cc in
      let rest : xs ≡ bs ++ l ∷ behind = cc in
      ap (λ (y : L). fault (earlier ++ y ∷ bs) l) (sym same)
      ∙ ap (λ (ys : List L). fault ys l) (sym (append_assoc earlier (x ∷ []) bs))
      ∙ at_split (earlier ++ x ∷ []) xs bs l behind none.1 rest

  -- and the other way round
  one_by_one : (earlier ls : List L)
      → ((before : List L) (l : L) (behind : List L) → ls ≡ before ++ l ∷ behind → fault (earlier ++ before) l ≡ None)
      → NoneAfter earlier ls
  one_by_one earlier [] none = tt
  one_by_one earlier (x ∷ xs) none = (
    ap (λ (ys : List L). fault ys x) (sym (append-nil earlier)) ∙ none [] x xs refl,
    one_by_one (earlier ++ x ∷ []) xs
        (λ before l behind e.
        ap (λ (ys : List L). fault ys l) (append_assoc earlier (x ∷ []) before)
        ∙ none (x ∷ before) l behind (ap (λ (ys : List L). x ∷ ys) e)),
  )

  -- lines without an error, one after the other
  in_turn : (ls : List L) → HaveNoFault fault ls → NoneAfter [] ls
  in_turn ls none = one_by_one [] ls none.none

  -- the same as all splits say it
  at_all_splits : (ls : List L) → NoneAfter [] ls → HaveNoFault fault ls
  at_all_splits ls none = record { none = λ before l behind. at_split [] ls before l behind none }

  -- no lines have no error
  pub no_fault-nil : HaveNoFault fault []
  no_fault-nil = at_all_splits [] tt

  -- one more without an error, after some without
  one_more : (earlier before : List L) (l : L) → NoneAfter earlier before → fault (earlier ++ before) l ≡ None
      → NoneAfter earlier (before ++ l ∷ [])
  one_more earlier [] l all none = (ap (λ (ls : List L). fault ls l) (sym (append-nil earlier)) ∙ none, tt)
  one_more earlier (x ∷ xs) l all none = (
    all.0,
    one_more (earlier ++ x ∷ []) xs l all.1
        (ap (λ (ls : List L). fault ls l) (append_assoc earlier (x ∷ []) xs) ∙ none),
  )

  -- lines without an error, and one more
  pub no_fault-more : (before : List L) (l : L) → HaveNoFault fault before → fault before l ≡ None
      → HaveNoFault fault (before ++ l ∷ [])
  no_fault-more before l all none = at_all_splits (before ++ l ∷ []) (one_more [] before l (in_turn before all) none)

  -- nothing is found among lines without an error, whatever is before them
  nothing_found : (earlier ls : List L) → NoneAfter earlier ls → first_fault_after fault earlier ls ≡ None
  nothing_found earlier [] none = refl
  nothing_found earlier (x ∷ xs) none =
      ap (λ (o : Option W). option_or (option_map (λ w. (x, w)) o) (first_fault_after fault (earlier ++ x ∷ []) xs))
      none.0
      ∙ nothing_found (earlier ++ x ∷ []) xs none.1

  -- among lines without an error none is found
  pub first_fault-none : (ls : List L) → HaveNoFault fault ls → first_fault fault ls ≡ None
  first_fault-none ls none = nothing_found [] ls (in_turn ls none)

  -- if none is found, no line has an error
  none_after : (earlier ls : List L) → first_fault_after fault earlier ls ≡ None → NoneAfter earlier ls
  none_after earlier [] e = tt
  none_after earlier (x ∷ xs) e =
      elim (fault earlier x) as (λ o. fault earlier x ≡ o
      → option_or (option_map (λ w. (x, w)) o) (first_fault_after fault (earlier ++ x ∷ []) xs) ≡ None
      → NoneAfter earlier (x ∷ xs)) [
        | None ↦ λ is rest. (is, none_after (earlier ++ x ∷ []) xs rest)
        | Some v ↦ λ is here. absurd cc
      ] refl e

  -- if none is found among lines, they have no error
  pub no_fault-from_none : (ls : List L) → first_fault fault ls ≡ None → HaveNoFault fault ls
  no_fault-from_none ls e = at_all_splits ls (none_after [] ls e)

  -- the line with this error is among these, and none before it has one
  abbrev Found : List L → List L → L → W → Type 0
  Found earlier ls l w = (before : List L) × (behind : List L) × (ls ≡ before ++ l ∷ behind)
      × (fault (earlier ++ before) l ≡ Some w) × NoneAfter earlier before

  -- an error that is found is the first
  found_is : (earlier ls : List L) (l : L) (w : W) → first_fault_after fault earlier ls ≡ Some (l, w)
      → Found earlier ls l w
  found_is earlier [] l w e = absurd cc
  found_is earlier (x ∷ xs) l w e =
      elim (fault earlier x) as (λ o. fault earlier x ≡ o
      → option_or (option_map (λ w. (x, w)) o) (first_fault_after fault (earlier ++ x ∷ []) xs) ≡ Some (l, w)
      → Found earlier (x ∷ xs) l w) [
        | None ↦ λ is rest.
            let more = found_is (earlier ++ x ∷ []) xs l w rest in (
              x ∷ more.0,
              more.1,
              ap (λ (ys : List L). x ∷ ys) more.2,
              ap (λ (ys : List L). fault ys l) (sym (append_assoc earlier (x ∷ []) more.0)) ∙ more.3,
              (is, more.4),
            )
        | Some v ↦ λ is here.
            let pair : ◌≡◌ {A = L × W} (x, v) (l, w) = cc in
            let same : (x ≡ l) × (v ≡ w) = (ap (λ (p : L × W). p.0) pair, ap (λ (p : L × W). p.1) pair) in (
              [],
              xs,
              ap (λ (y : L). y ∷ xs) same.0,
              ap (λ (ys : List L). fault ys l) (append-nil earlier)
                  ∙ ap (fault earlier) (sym same.0) ∙ is ∙ ap (λ (u : W). Some u) same.1,
              tt,
            )
      ] refl e

  -- the line that is found is the first with an error
  pub first_fault-is : (ls : List L) (l : L) (w : W) → first_fault fault ls ≡ Some (l, w) → IsFirstFault fault ls l w
  first_fault-is ls l w e =
      let found = found_is [] ls l w e in record {
        before = found.0;
        behind = found.1;
        place = found.2;
        here = found.3;
        none_before = at_all_splits found.0 found.4;
      }

  -- lines without an error are skipped
  passed : (earlier before ls : List L) → NoneAfter earlier before
      → first_fault_after fault earlier (before ++ ls) ≡ first_fault_after fault (earlier ++ before) ls
  passed earlier [] ls none = ap (λ (ys : List L). first_fault_after fault ys ls) (sym (append-nil earlier))
  passed earlier (x ∷ xs) ls none =
      ap (λ (o : Option W). option_or (option_map (λ w. (x, w)) o)
      (first_fault_after fault (earlier ++ x ∷ []) (xs ++ ls))) none.0
      ∙ passed (earlier ++ x ∷ []) xs ls none.1
      ∙ ap (λ (ys : List L). first_fault_after fault ys ls) (append_assoc earlier (x ∷ []) xs)

  -- and the first error is found
  pub first_fault-from : (ls : List L) (l : L) (w : W) → IsFirstFault fault ls l w
      → first_fault fault ls ≡ Some (l, w)
  first_fault-from ls l w is =
      ap (first_fault fault) is.place
      ∙ passed [] is.before (l ∷ is.behind) (in_turn is.before is.none_before)
      ∙ ap (λ (o : Option W). option_or (option_map (λ w. (l, w)) o)
      (first_fault_after fault (is.before ++ l ∷ []) is.behind)) is.here
