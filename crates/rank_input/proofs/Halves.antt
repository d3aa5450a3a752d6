-- A text that is cut after a line feed.
use Rattle.std.proofs.Common.{◌≡◌, ℕ, ◌-◌, inr, List, [], ◌∷◌, ◌++◌, length, take, drop, refl, sym, ap, ◌∙◌, arith}
use Rattle.std.proofs.Common.{Result, Ok, Err, Some, IfOk, subst}
use Rattle.std.proofs.Common.{append_assoc, length-append}
use Rattle.std.proofs.lemmas.List.{take-append-drop}
use Rattle.std.proofs.lemmas.Option.{same_Some}
use Rattle.std.specs.Result.{result_ok}
use Rattle.ghcn_fields.specs.Lines.{EndsLine}

-- two first parts of one text are the same if they are as long
same_front : (xs ys us vs : List ℕ) → xs ++ ys ≡ us ++ vs → length xs ≡ length us → xs ≡ us
same_front [] ys [] vs e long = refl
same_front [] ys (u ∷ us) vs e long = absurd (omega arith)
same_front (x ∷ xs) ys [] vs e long = absurd (omega arith)
same_front (x ∷ xs) ys (u ∷ us) vs e long =
    let head : x ≡ u = cc in
    let rest : xs ++ ys ≡ us ++ vs = cc in
    ap (λ (z : ℕ). z ∷ xs) head ∙ ap (λ (zs : List ℕ). u ∷ zs) (same_front xs ys us vs rest (omega arith))

-- what comes before what follows a line feed ends a line
pub ends_line : (text front rest line back : List ℕ) (from : ℕ) → text ≡ front ++ rest
    → length front ≡ length text - length back → drop from text ≡ line ++ 10 ∷ back → EndsLine front
ends_line text front rest line back from parts long found =
    let start : List ℕ = take from text ++ line in
    let whole : text ≡ (start ++ 10 ∷ []) ++ back =
    sym (take-append-drop from text) ∙ ap (λ (t : List ℕ). take from text ++ t) found
    ∙ sym (append_assoc (take from text) line (10 ∷ back)) ∙ sym (append_assoc start (10 ∷ []) back) in
    let same : length front ≡ length (start ++ 10 ∷ []) =
    omega (arith, long, ap length whole, length-append (start ++ 10 ∷ []) back) in
    inr (start, same_front front rest (start ++ 10 ∷ []) back (sym parts ∙ whole) same)

-- what is known of a result that is a value is known of the value
pub if_ok : {T E : Type 0} (P : T → Type 0) (r : Result T E) (x : T) → result_ok r ≡ Some x → IfOk r P → P x
if_ok P (Ok y) x is known = subst P (same_Some y x is) known
if_ok P (Err e) x is known = absurd cc
