-- Which candidates are among others.
use Rattle.std.proofs.Common.{◌≡◌, inl, inr, true, false, List, [], ◌∷◌, refl, ◌||◌, subst}
use Rattle.std.specs.List.{AllZip}
use Rattle.std.specs.Ordering.{is_eq}
use Rattle.ghcn_series.proofs.Members.{In, in_any}
use Rattle.rank_scores.specs.declared.candidate.Candidate.{Candidate}
use Rattle.rank_scores.specs.Order.{full_cmp}
use Rattle.rank_check.specs.Tests.{is_one_of}
use Rattle.rank_check.proofs.SortedCandidates.{same_from_tie, own_tie}

-- what is among candidates is there
pub among_in : (cs : List Candidate) (c : Candidate) → is_one_of cs c ≡ true → In cs c
among_in [] c e = absurd cc
among_in (d ∷ cs) c e =
    elim (is_eq (full_cmp d c)) as (λ b. is_eq (full_cmp d c) ≡ b → (b || is_one_of cs c) ≡ true → In (d ∷ cs) c) [
      | true ↦ λ t f. inl (same_from_tie d c t)
      | false ↦ λ t f. inr (among_in cs c f)
    ] refl e

-- and back
pub in_among : (cs : List Candidate) (c : Candidate) → In cs c → is_one_of cs c ≡ true
in_among cs c h = in_any (λ d. is_eq (full_cmp d c)) cs c h (own_tie c)

-- of two lists that go together, the element of the one that goes with one of the other
pub zip_in : {X Y : Type 0} (R : X → Y → Type 0) (xs : List X) (ys : List Y) → AllZip R xs ys → (y : Y) → In ys y
    → (x : X) × In xs x × R x y
zip_in R [] [] h y k = absurd k
zip_in R [] (z ∷ ys) h y k = absurd h
zip_in R (x ∷ xs) [] h y k = absurd h
zip_in {X = X} R (x ∷ xs) (z ∷ ys) h y k = elim k [
  | inl e ↦ (x, inl refl, subst (R x) e h.0)
  | inr l ↦ let rest = zip_in R xs ys h.1 y l in (rest.0, inr rest.1, rest.2)
]
