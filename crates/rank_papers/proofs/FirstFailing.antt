-- The first of some tests that fails.
use Rattle.std.proofs.Common.{◌≡◌, Bool, true, false, cond, List, [], ◌∷◌, ◌++◌, Option, Some, None, refl, sym, ◌∙◌, ap}
use Rattle.std.specs.List.{AllByRecursion}
use Rattle.std.specs.Option.{option_or, is_some}
use Rattle.ghcn_fields.specs.Faults.{first_failing}

-- an error that isn't there is none
pub not_some : {W : Type 0} (o : Option W) → is_some o ≡ false → o ≡ None
not_some None e = refl
not_some (Some w) e = absurd cc

module _ {W : Type 0} where
  -- ---- a test in front

  -- one that fails is the first, whatever comes after it
  pub first_fails : (t : Bool × W) (ts : List (Bool × W)) → t.0 ≡ false → Some t.1 ≡ first_failing (t ∷ ts)
  first_fails (true, why) ts e = absurd cc
  first_fails (false, why) ts e = refl

  -- one that passes leaves it to those after
  pub first_passes : (t : Bool × W) (ts : List (Bool × W)) → t.0 ≡ true → first_failing (t ∷ ts) ≡ first_failing ts
  first_passes (true, why) ts e = refl
  first_passes (false, why) ts e = absurd cc

  -- if none fails, it passes, and none of those after fails
  pub front_none : (t : Bool × W) (ts : List (Bool × W)) → first_failing (t ∷ ts) ≡ None
      → (t.0 ≡ true) × (first_failing ts ≡ None)
  front_none (true, why) ts e = (refl, e)
  front_none (false, why) ts e = absurd cc

  -- and back
  pub front_passed : (t : Bool × W) (ts : List (Bool × W)) → t.0 ≡ true → first_failing ts ≡ None
      → first_failing (t ∷ ts) ≡ None
  front_passed t ts e f = first_passes t ts e ∙ f

  -- ---- tests of two lists

  -- the first of two lists that fails is the first of the one, or otherwise of the other
  pub first_failing-append : (ts us : List (Bool × W))
      → option_or (first_failing ts) (first_failing us) ≡ first_failing (ts ++ us)
  first_failing-append [] us = refl
  first_failing-append (t ∷ ts) us =
      elim (t.0) as (λ b. option_or (cond b (first_failing ts) (Some t.1)) (first_failing us)
      ≡ cond b (first_failing (ts ++ us)) (Some t.1)) [
        | true ↦ first_failing-append ts us
        | false ↦ refl
      ]

  -- if none of some tests fails, the first that fails is among those after
  pub behind_none : (ts us : List (Bool × W)) → first_failing ts ≡ None
      → first_failing (ts ++ us) ≡ first_failing us
  behind_none ts us e = sym (first_failing-append ts us) ∙ ap (λ o. option_or o (first_failing us)) e

  -- if one of some tests fails, those after make no difference
  pub before_some : (ts us : List (Bool × W)) (why : W) → first_failing ts ≡ Some why
      → first_failing (ts ++ us) ≡ Some why
  before_some ts us why e = sym (first_failing-append ts us) ∙ ap (λ o. option_or o (first_failing us)) e

  -- an error that is found decides
  pub some_decides : (ts us : List (Bool × W)) (seen : Option W) → seen ≡ first_failing ts → is_some seen ≡ true
      → seen ≡ first_failing (ts ++ us)
  some_decides ts us None e some = absurd cc
  some_decides ts us (Some why) e some = sym (before_some ts us why (sym e))

  -- if none is found, it is left to the tests after
  pub none_decides : (ts us : List (Bool × W)) (seen : Option W) → seen ≡ first_failing ts → is_some seen ≡ false
      → first_failing us ≡ first_failing (ts ++ us)
  none_decides ts us seen e none = sym (behind_none ts us (sym e ∙ not_some seen none))

  -- if two have no error, neither has one
  both_none : (o p : Option W) → option_or o p ≡ None → (o ≡ None) × (p ≡ None)
  both_none None p e = (refl, e)
  both_none (Some why) p e = absurd cc

  -- if none of the tests of two lists fails, none of either does
  pub none_of : (ts us : List (Bool × W)) → first_failing (ts ++ us) ≡ None
      → (first_failing ts ≡ None) × (first_failing us ≡ None)
  none_of ts us e = both_none (first_failing ts) (first_failing us) (first_failing-append ts us ∙ e)

  -- and back
  pub none_of_both : (ts us : List (Bool × W)) → first_failing ts ≡ None → first_failing us ≡ None
      → first_failing (ts ++ us) ≡ None
  none_of_both ts us e f = behind_none ts us e ∙ f

  -- ---- all tests

  -- none fails only if each passes
  pub none_fails : (ts : List (Bool × W)) → first_failing ts ≡ None → AllByRecursion (λ t. t.0 ≡ true) ts
  none_fails [] e = tt
  none_fails (t ∷ ts) e = let front = front_none t ts e in (front.0, none_fails ts front.1)

  -- and if each passes
  pub all_pass : (ts : List (Bool × W)) → AllByRecursion (λ t. t.0 ≡ true) ts → first_failing ts ≡ None
  all_pass [] h = refl
  all_pass (t ∷ ts) h = front_passed t ts h.0 (all_pass ts h.1)
