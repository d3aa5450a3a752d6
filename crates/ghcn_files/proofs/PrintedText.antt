-- A text that is made printable, byte by byte.
use Rattle.std.proofs.Common.{◌≡◌, ℕ, ◌+◌, ◌<◌, List, [], ◌∷◌, ◌++◌, length, take, drop, map, get_or, set, sym, ap, ◌∙◌}
use Rattle.std.proofs.Common.{arith}
use Rattle.std.proofs.lemmas.List.{take_more, take_more_set, drop_more, drop-set-lt, map-append}
use Rattle.ghcn_files.specs.Meaning.StationLines.{printable}

-- the next byte is the text's own, and so is what follows it
next_same : (items text : List ℕ) (i : ℕ) → i < length items → length items ≡ length text
    → drop i items ≡ drop i text → (get_or items i 0 ≡ get_or text i 0) × (drop (i + 1) items ≡ drop (i + 1) text)
next_same items text i lt same left =
    let both : get_or items i 0 ∷ drop (i + 1) items ≡ get_or text i 0 ∷ drop (i + 1) text =
    sym (drop_more items i 0 lt) ∙ left ∙ drop_more text i 0 (omega arith) in
    (cc, cc)

-- one more byte is printable, and the others are as they were
pub printed_more : (items text : List ℕ) (i y : ℕ) → i < length items → length items ≡ length text
    → take i items ≡ map printable (take i text) → drop i items ≡ drop i text → y ≡ printable (get_or items i 0)
    → (take (i + 1) (set items i y) ≡ map printable (take (i + 1) text))
    × (drop (i + 1) (set items i y) ≡ drop (i + 1) text)
printed_more items text i y lt same printed left e =
    let here = next_same items text i lt same left in (
      take_more_set items i y lt
          ∙ ap (λ (zs : List ℕ). zs ++ y ∷ []) printed
          ∙ ap (λ (z : ℕ). map printable (take i text) ++ z ∷ []) (e ∙ ap printable here.0)
          ∙ sym (ap (map printable) (take_more text i 0 (omega arith))
          ∙ map-append printable (take i text) (get_or text i 0 ∷ [])),
      drop-set-lt (i + 1) items i y (omega arith) ∙ here.1,
    )
