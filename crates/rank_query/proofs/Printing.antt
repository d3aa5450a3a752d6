-- The pieces of a canonical text, as they are printed one after another.
use Rattle.rank_query.proofs.Cited.{rules, ◌≡◌, ℕ, ◌+◌, ◌<◌, ◌/◌, ◌%◌, true, List, [], ◌∷◌, ◌++◌, Option, Result, Ok}
use Rattle.rank_query.proofs.Cited.{Err, IsOk, MatchResult, IsUtf8, codes, decimal, refl, sym, ap, ◌∙◌, append_assoc}
use Rattle.rank_query.proofs.Cited.{append-nil, arith, ℤ, join_with_byte, list_all, nat_tests, decimal_digit}
use Rattle.rank_query.proofs.Cited.{AllPass-from_list_all, four_places, four_places_of, is_visible, Score, Region}
use Rattle.rank_query.proofs.Cited.{Inside, Season, query_text, score_words, region_words, season_words, Per, per_words}
use Rattle.rank_query.proofs.Cited.{period_words, map, QueryWord, Exactly, Count, word_text}
use Rattle.std.proofs.lemmas.List.Concat.{flat_map-append}
use Rattle.std.proofs.lemmas.Str.{IsUtf8-from_ascii}
use Rattle.std.proofs.lemmas.Str.Ascii.{IsAscii-from_all}
use Rattle.rank_query.specs.Printed.{spaced}

-- words that are joined by a blank are the first one, and each other one after a blank
pub join-spaced : (word : QueryWord) (words : List QueryWord)
    → join_with_byte 32 (map word_text (word ∷ words)) ≡ word_text word ++ spaced words
join-spaced word [] = sym (append-nil (word_text word))
join-spaced word (next ∷ words) = ap (λ text. word_text word ++ 32 ∷ text) (join-spaced next words)

-- five lists of words are printed one after another
spaced-five : (vs ws xs ys zs : List QueryWord) → spaced (vs ++ ws ++ xs ++ ys ++ zs) ≡ spaced vs ++
    (spaced ws ++ (spaced xs ++ (spaced ys ++ spaced zs)))
spaced-five vs ws xs ys zs = simp (flat_map-append, append_assoc)

-- the pieces that are printed are the canonical text
pub printed-is : (k : ℕ) (s : Score) (r : Region) (t : Season) (p : Option (ℤ × ℤ)) (g : Per)
    → (codes "top " ++ decimal k) ++
    (spaced (score_words s) ++ (spaced (region_words r) ++ (spaced (season_words t) ++ (spaced (period_words p)
    ++ spaced (per_words g)))))
    ≡ query_text (record { k = k; score = s; region = r; season = t; period = p; per = g })
printed-is k s r t p g =
    ap (λ text. (codes "top " ++ decimal k) ++ text)
    (sym (spaced-five (score_words s) (region_words r) (season_words t) (period_words p) (per_words g)))
    ∙ sym (join-spaced (Exactly (codes "top"))
    (Count k ∷ score_words s ++ region_words r ++ season_words t ++ period_words p ++ per_words g))

-- four digits, one after another
four_digits : (a b c d : ℕ) → a < 10 → b < 10 → c < 10 → d < 10
    → decimal a ++ (decimal b ++ (decimal c ++ decimal d)) ≡ (48 + a) ∷ (48 + b) ∷ (48 + c) ∷ (48 + d) ∷ []
four_digits a b c d ha hb hc hd =
    rw (decimal_digit a ha, decimal_digit b hb, decimal_digit c hc, decimal_digit d hd) refl

-- the pieces of a number with four decimals are its text
pub four_places-is : (n : ℕ) → decimal (n / 10000) ++ (codes "." ++ (decimal (n / 1000 % 10) ++
    (decimal (n / 100 % 10) ++ (decimal (n / 10 % 10) ++ decimal (n % 10))))) ≡ four_places_of n
four_places-is n =
    let first : n / 1000 % 10 ≡ n / 10 / 10 / 10 % 10 = omega arith in
    let second : n / 100 % 10 ≡ n / 10 / 10 % 10 = omega arith in
    let digits = four_digits (n / 1000 % 10) (n / 100 % 10) (n / 10 % 10) (n % 10) (omega arith) (omega arith)
    (omega arith) (omega arith) in
    cc

-- the pieces of a box are printed one after another
pub box-is : (s w n e south west north east : ℤ) → s ≡ south → w ≡ west → n ≡ north → e ≡ east
    → codes " box" ++ ((32 ∷ four_places s) ++
    ((32 ∷ four_places w) ++ ((32 ∷ four_places n) ++ (32 ∷ four_places e)))) ≡ spaced
    (region_words (Inside south west north east))
box-is s w n e south west north east es ew en ee = search (rules, arith)

-- a visible byte is ASCII
visible_ascii : (b : ℕ) → is_visible b ≡ true → b < 128
visible_ascii b h = grind (arith, nat_tests)

-- visible bytes are a text
pub visible_text : (bytes : List ℕ) → list_all is_visible bytes ≡ true → IsUtf8 bytes
visible_text bytes h =
    IsUtf8-from_ascii bytes (IsAscii-from_all bytes
    (λ k d inside. visible_ascii _ (AllPass-from_list_all is_visible bytes h k d inside)))

-- what fails only if a fact doesn't hold succeeds if it does
pub ok_from_fact : {T E A : Type 0} (P : T → Type 0) (Q : E → Type 0) (r : Result T E)
    → MatchResult r P (λ e. (A → ⊥) × Q e) → A → IsOk r
ok_from_fact P Q (Ok x) cases fact = refl
ok_from_fact P Q (Err e) cases fact = absurd (cases.0 fact)
