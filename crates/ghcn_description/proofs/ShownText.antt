-- A text whose bytes are shown, one by one.
use Rattle.std.proofs.Common.{◌≡◌, ℕ, ◌+◌, ◌<◌, List, [], ◌∷◌, ◌++◌, length, take, drop, map, get_or, set, sym, ap, ◌∙◌}
use Rattle.std.proofs.Common.{arith}
use Rattle.std.proofs.lemmas.List.{take_more, take_more_set, drop_more, drop-set-lt, map-append}
use Rattle.ghcn_description.specs.Lines.{shown}

-- the next byte is the text's own, and so is what follows it
next_same : (items text : List ℕ) (i : ℕ) → i < length items → length items ≡ length text
    → drop i items ≡ drop i text → (get_or items i 0 ≡ get_or text i 0) × (drop (i + 1) items ≡ drop (i + 1) text)
next_same items text i lt same left =
    let both : get_or items i 0 ∷ drop (i + 1) items ≡ get_or text i 0 ∷ drop (i + 1) text =
    sym (drop_more items i 0 lt) ∙ left ∙ drop_more text i 0 (omega arith) in
    (cc, cc)

-- one more byte is shown, and the others are as they were
pub shown_more : (items text : List ℕ) (i y : ℕ) → i < length items → length items ≡ length text
    → take i items ≡ map shown (take i text) → drop i items ≡ drop i text → y ≡ shown (get_or items i 0)
    → (take (i + 1) (set items i y) ≡ map shown (take (i + 1) text))
    × (drop (i + 1) (set items i y) ≡ drop (i + 1) text)
shown_more items text i y lt same printed left e =
    let here = next_same items text i lt same left in (
      take_more_set items i y lt
          ∙ ap (λ (zs : List ℕ). zs ++ y ∷ []) printed
          ∙ ap (λ (z : ℕ). map shown (take i text) ++ z ∷ []) (e ∙ ap shown here.0)
          ∙ sym (ap (map shown) (take_more text i 0 (omega arith))
          ∙ map-append shown (take i text) (get_or text i 0 ∷ [])),
      drop-set-lt (i + 1) items i y (omega arith) ∙ here.1,
    )
