-- Files that are compared one after the other, and a file that is found to be in use.
use Rattle.std.proofs.Common.{◌≡◌, ℕ, zero, suc, ◌+◌, ◌<◌, ◌≤◌, List, [], ◌∷◌, length, take, get_or, refl, sym, ap, subst}
use Rattle.std.proofs.Common.{Bool, true, false, Bor, arith, ◌∙◌}
use Rattle.std.specs.Prelude.{String, Option, Some, IfSome, IsSomeAnd, option_map}
use Rattle.std.proofs.lemmas.List.Elements.{All-more}
use Rattle.std.specs.List.{All, Any}
use Rattle.extremes.specs.declared.ending.Ending.{Ending}
use Rattle.extremes.specs.declared.ending.Ending.TheVariants.{File}
use Rattle.extremes.specs.Commands.{EndsAtOut, Using}
use Rattle.extremes.specs.Messages.{Saying, streams, not_written_line}
use Rattle.extremes.specs.Targets.{Sharing, Holding, IsInUse}
use Rattle.extremes.proofs.PrintedLines.{none-found}

module _ {X : Type 0} (P : X → Type 0) where
  -- what holds of the first elements and of the next one holds of one more
  pub all-next : (xs : List X) (i : ℕ) (x : X) → i < length xs → get_or xs i x ≡ x → All P (take i xs) → P x
      → All P (take (i + 1) xs)
  all-next xs i x lt at was is = All-more P xs i x lt was (subst P (sym at) is)

  -- what holds of one holds of some
  pub any-here : (xs : List X) (i : ℕ) (x : X) → i < length xs → get_or xs i x ≡ x → P x → Any P xs
  any-here xs i x lt at is = (i, x, lt, at, is)

  -- the first of them, at least as many as the list has, are all
  pub take-whole : (xs : List X) (i : ℕ) → length xs ≤ i → take i xs ≡ xs
  take-whole [] zero le = refl
  take-whole [] (suc i) le = refl
  take-whole (x ∷ xs) zero le = absurd (omega arith)
  take-whole (x ∷ xs) (suc i) le = ap (λ (l : List X). x ∷ l) (take-whole xs i (omega arith))

  -- what holds of the first i elements holds of all, if there aren't more
  pub all-whole : (xs : List X) (i : ℕ) → length xs ≤ i → All P (take i xs) → All P xs
  all-whole xs i le was = subst (λ l. All P l) (take-whole xs i le) was

-- a certificate's file is in use, or isn't, by what it is compared with
pub used-as : {A : Type 0} (shares : Sharing) (holds : Holding) (s t : List ℕ) (k l : Option (List ℕ))
    (fs gs : List (String A)) (was is : Bool) → s ≡ t → k ≡ l → fs ≡ gs → was ≡ is
    → IsInUse shares holds s k fs was → IsInUse shares holds t l gs is
used-as shares holds s t k l fs gs was is same_stations same_list same_files same used =
    subst (IsInUse shares holds t l gs) same
    (subst (λ f. IsInUse shares holds t l f was) same_files
    (subst (λ m. IsInUse shares holds t m fs was) same_list
    (subst (λ m. IsInUse shares holds m k fs was) same_stations used)))

module _ (uses : Using) (named : Option (Bor (List ℕ))) (path : Option (List ℕ))
    (same : option_map (λ p. p.now) named ≡ path) where
  -- a certificate's file that is named isn't in use
  pub some-unused : (out : Bor (List ℕ)) → named ≡ Some out → uses out.now false → IfSome path (λ p. uses p false)
  some-unused out is unused =
      subst (λ (p : Option (List ℕ)). IfSome p (λ q. uses q false)) (ap (option_map (λ p. p.now)) (sym is) ∙ same) unused

  -- or none is named
  pub none-unused : ((out : Bor (List ℕ)) → named ≡ Some out → ⊥) → IfSome path (λ p. uses p false)
  none-unused absent = subst (λ (p : Option (List ℕ)). IfSome p (λ q. uses q false))
      (ap (option_map (λ p. p.now)) (sym (none-found named absent)) ∙ same) tt

-- a run whose certificate's file is in use ends at it
pub ends-at-out : (uses : Using) (says : Saying) (named : Option (Bor (List ℕ))) (out : Bor (List ℕ))
    (path : Option (List ℕ)) (printed : Option (List ℕ)) (ending : Ending) → named ≡ Some out
    → option_map (λ p. p.now) named ≡ path → uses out.now true → says (not_written_line out.now ∷ []) → ending ≡ File
    → EndsAtOut uses (streams says printed printed) path ending
ends-at-out uses says named out path printed ending is same used said ends = record {
  used = subst (λ (p : Option (List ℕ)). IsSomeAnd p (λ q. uses q true × says (not_written_line q ∷ [])))
      (ap (option_map (λ p. p.now)) (sym is) ∙ same) (used, said);
  ends = ends;
  unprinted = refl;
}
