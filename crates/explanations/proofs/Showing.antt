-- How bytes are shown one after the other.
use Rattle.std.proofs.Common.{◌≡◌, ℕ, ◌+◌, ◌<◌, List, [], ◌∷◌, ◌++◌, length, get_or, take, sym, ap, ◌∙◌, arith}
use Rattle.std.proofs.lemmas.Bool.Decides.{nat_tests}
use Rattle.std.proofs.lemmas.List.{take_more, map-append}
use Rattle.std.proofs.lemmas.Str.{encode_ascii}
use Rattle.std.specs.Prelude.{encode_utf8}
use Rattle.explanations.specs.Shown.{shown, shown_byte}

-- what is shown is ASCII
pub shown_byte_small : (b : ℕ) → shown_byte b < 128
shown_byte_small b = grind (arith, nat_tests)

-- one more byte is shown after those before it
pub shown_more : (bytes : List ℕ) (i b : ℕ) → i < length bytes → b ≡ get_or bytes i 0
    → shown (take i bytes) ++ encode_utf8 (shown_byte b) ≡ shown (take (i + 1) bytes)
shown_more bytes i b within is =
    ap (λ c. shown (take i bytes) ++ c) (encode_ascii (shown_byte b) (shown_byte_small b))
    ∙ ap (λ x. shown (take i bytes) ++ shown_byte x ∷ []) is
    ∙ sym (ap shown (take_more bytes i 0 within) ∙ map-append shown_byte (take i bytes) (get_or bytes i 0 ∷ []))
