-- What holds of each element of a list.
use Rattle.std.proofs.Common.{◌≡◌, ℕ, zero, suc, ◌+◌, ◌<◌, length, take, drop, map, set, get_or, sym, ◌∙◌, arith}
use Rattle.std.proofs.Common.{List, [], ◌∷◌, ◌++◌, Option, ap, subst, option_to_list}
use Rattle.std.specs.Prelude.{slice_get}
use Rattle.std.proofs.Math.Seq.{take-nil}
use Rattle.std.proofs.lemmas.List.{take_more, take_more_set, drop_more, drop-set-lt, map-append}
use Rattle.std.specs.List.{AllByRecursion, filter_map}
use Rattle.std.specs.Option.{option_and_then}
pub use Rattle.ghcn_series.proofs.ListFacts.{each-append}

-- of two lists, one after the other, what holds of all
pub each-parts : {X : Type 0} (P : X → Type 0) (xs ys : List X) → AllByRecursion P (xs ++ ys)
    → AllByRecursion P xs × AllByRecursion P ys
each-parts P [] ys h = (tt, h)
each-parts P (x ∷ xs) ys h = let rest = each-parts P xs ys h.1 in ((h.0, rest.0), rest.1)

-- what holds of each of the first, and of the next, holds of all these
pub each-more : {X : Type 0} (P : X → Type 0) (xs : List X) (i : ℕ) (x : X) → i < length xs → x ≡ get_or xs i x
    → AllByRecursion P (take i xs) → P x → AllByRecursion P (take (i + 1) xs)
each-more P xs i x lt is h p =
    subst (AllByRecursion P) (sym (take_more xs i x lt))
    (each-append P (take i xs) (get_or xs i x ∷ []) h (subst P is p, tt))

-- one more element of a list is changed, and those after it are as they were
pub mapped-more : {X : Type 0} (f : X → X) (items before : List X) (i : ℕ) (x y : X) → i < length items
    → length items ≡ length before → take i items ≡ map f (take i before) → drop i items ≡ drop i before
    → y ≡ f (get_or items i x)
    → (take (i + 1) (set items i y) ≡ map f (take (i + 1) before))
    × (drop (i + 1) (set items i y) ≡ drop (i + 1) before)
mapped-more f items before i x y lt same mapped left e =
    let both : get_or items i x ∷ drop (i + 1) items ≡ get_or before i x ∷ drop (i + 1) before =
    sym (drop_more items i x lt) ∙ left ∙ drop_more before i x (omega arith) in
    let own : get_or items i x ≡ get_or before i x = cc in
    let rest : drop (i + 1) items ≡ drop (i + 1) before = cc in (
      take_more_set items i y lt
          ∙ ap (λ zs. zs ++ y ∷ []) mapped
          ∙ ap (λ z. map f (take i before) ++ z ∷ []) (e ∙ ap f own)
          ∙ sym (ap (map f) (take_more before i x (omega arith))
          ∙ map-append f (take i before) (get_or before i x ∷ [])),
      drop-set-lt (i + 1) items i y (omega arith) ∙ rest,
    )

-- what is made of one element more
pub made-more : {X Y : Type 0} (f : X → Y) (xs : List X) (i : ℕ) (x : X) → i < length xs → x ≡ get_or xs i x
    → map f (take (i + 1) xs) ≡ map f (take i xs) ++ f x ∷ []
made-more f xs i x lt is =
    ap (map f) (take_more xs i x lt) ∙ map-append f (take i xs) (get_or xs i x ∷ [])
    ∙ ap (λ y. map f (take i xs) ++ f y ∷ []) (sym is)

-- what is made of one element more, if something is
pub kept-more : {X Y : Type 0} (f : X → Option Y) (xs : List X) (i : ℕ) → filter_map f (take (suc i) xs)
    ≡ filter_map f (take i xs) ++ option_to_list (option_and_then f (slice_get xs i))
kept-more f [] i = ap (λ l. filter_map f l ++ []) (sym (take-nil i))
kept-more f (x ∷ xs) zero = grind arith
kept-more f (x ∷ xs) (suc i) = grind (arith, kept-more f xs i)
