-- The words of a score: those that are read as a score spell it, and those that spell it are read as it.
use Rattle.rank_query.proofs.Cited.{◌++◌, ◌≡◌, ℕ, true, List, [], ◌∷◌, Ok, codes, refl, and_parts, is_within, Element}
use Rattle.rank_query.proofs.Cited.{code_of, Score, Highest, Lowest, Sum, Dry, Wet, Hot, Cold, may_be_negative, is_fall}
use Rattle.rank_query.proofs.Cited.{is_heat, is_score, Word, says, Read, one_word, number, element, heat, highest_at}
use Rattle.rank_query.proofs.Cited.{lowest_at, sum_at, dry_at, wet_at, hot_at, cold_at, no_score_at, score_at}
use Rattle.rank_query.proofs.Cited.{score_words, QueryWord, Count, Exactly, Tenths, Bool, ℤ, sym, subst}
use Rattle.rank_query.proofs.SpeltWords.{TakesBehind, took_same, word_took, made_took, rows_took, ReadsAs, word_read}
use Rattle.rank_query.proofs.SpeltWords.{made_read, then_read, behind_read, always_read}
use Rattle.rank_query.proofs.ReadingSteps.{bind_ok, unnumbered}
use Rattle.rank_query.proofs.WordValues.{number_numeral, numeral_number, element_code, code_element, heat_spelt}
use Rattle.rank_query.proofs.WordValues.{spelt_heat}

-- each score after its word
abbrev pub score_rows : List (List ℕ × (List Word → Read Score))
score_rows =
    (codes "highest", highest_at) ∷ (codes "lowest", lowest_at) ∷ (codes "sum", sum_at) ∷ (codes "dry", dry_at) ∷
    (codes "wet", wet_at) ∷ (codes "hot", hot_at) ∷ (codes "cold", cold_at) ∷ []

-- if no score is there none is read
no_score : (ws : List Word) (y : Score × List Word) → no_score_at ws ≡ Ok y → ⊥
unfolding no_score_at
no_score [] y e = absurd cc
no_score (w ∷ ws) y e = absurd cc

-- a number within limits is spelt by the word that it was read of
pub count_took : (low high : ℕ) → TakesBehind [] (λ n. Count n ∷ []) (one_word (number low high))
count_took low high = word_took (number low high) (λ n. Count n) (λ w n clean. number_numeral low high w n)

-- and so is an element
element_took : (allows : Element → Bool) → TakesBehind [] (λ e. Exactly (code_of e) ∷ []) (one_word (element allows))
element_took allows = word_took (element allows) (λ e. Exactly (code_of e)) (λ w e clean. element_code allows w e)

-- and degrees by which a day is hot or cold
heat_took : TakesBehind [] (λ t. Tenths t ∷ []) (one_word heat)
heat_took = word_took heat (λ t. Tenths t) (λ w t clean. heat_spelt w t)

-- a sum
sum_took : TakesBehind (codes "sum" ∷ []) score_words sum_at
unfolding sum_at
sum_took = λ ws rest s e.
    let n = bind_ok (one_word (number 1 366) ws) _ (s, rest) e in
    let f = bind_ok (one_word (element is_fall) n.0.1) _ (s, rest) n.2 in
    took_same score_words (codes "sum" ∷ unnumbered ws) (Sum n.0.0 f.0.0) s f.0.1 rest f.2 (λ others more clean. (
      refl,
      count_took 1 366 ws n.0.1 n.0.0 n.1 (Exactly (code_of f.0.0) ∷ others)
          (element_took is_fall n.0.1 f.0.1 f.0.0 f.1 others more) clean.1,
    ))

-- the words that are read as a score spell it
pub score_took : TakesBehind [] score_words score_at
unfolding score_at
score_took = rows_took score_words score_rows no_score_at (
  made_took (codes "highest") Highest _ score_words _ (λ e. refl) (element_took (λ e. true)),
  (
    made_took (codes "lowest") Lowest _ score_words _ (λ e. refl) (element_took may_be_negative),
    (
      sum_took,
      (
        λ ws rest s e. took_same score_words (codes "dry" ∷ unnumbered ws) Dry s ws rest e
            (λ others more clean. (refl, more clean.1)),
        (
          λ ws rest s e. took_same score_words (codes "wet" ∷ unnumbered ws) Wet s ws rest e
              (λ others more clean. (refl, more clean.1)),
          (
            made_took (codes "hot") Hot _ score_words _ (λ t. refl) heat_took,
            (made_took (codes "cold") Cold _ score_words _ (λ t. refl) heat_took, tt),
          ),
        ),
      ),
    ),
  ),
) (λ ws rest s e. absurd (no_score ws (s, rest) e))

-- a code is read as its element
element_read : (allows : Element → Bool) (e : Element) {others : List QueryWord} → allows e ≡ true
    → ReadsAs (one_word (element allows)) e (Exactly (code_of e) ∷ others) others
element_read allows e allowed = word_read (element allows) (Exactly (code_of e)) e
    (λ at word is. subst (λ (v : List ℕ). element allows (at, v) ≡ Ok e) (sym is) (code_element allows e at allowed))

-- a numeral of a number within limits is read as it
count_read : (low high n : ℕ) {others : List QueryWord} → is_within low high n ≡ true
    → ReadsAs (one_word (number low high)) n (Count n ∷ others) others
count_read low high n inside =
    word_read (number low high) (Count n) n (λ at word. numeral_number low high n at word inside)

-- a number of tenths within limits is read as the degrees that it is
heat_read : (t : ℤ) {others : List QueryWord} → is_heat t ≡ true
    → ReadsAs (one_word heat) t (Tenths t ∷ others) others
heat_read t is = word_read heat (Tenths t) t (λ at word. spelt_heat t at word is)

-- the two words of a sum that can be asked for are read as it
sum_read : (k : ℕ) (e : Element) (others : List QueryWord) → is_score (Sum k e) ≡ true
    → ReadsAs sum_at (Sum k e) (Count k ∷ Exactly (code_of e) ∷ others) others
unfolding sum_at
sum_read k e others is =
    let both = and_parts (is_within 1 366 k) (is_fall e) is in
    then_read _ (count_read 1 366 k both.0) (then_read _ (element_read is_fall e both.1) (always_read (λ ws. refl)))

-- what spells a score that can be asked for is read as it
pub score_read : (s : Score) (others : List QueryWord) → is_score s ≡ true
    → ReadsAs score_at s (score_words s ++ others) others
unfolding score_at says
score_read (Highest e) others is = behind_read score_at highest_at (codes "highest") (λ at ws. refl)
    (made_read Highest (element_read (λ e. true) e refl))
score_read (Lowest e) others is = behind_read score_at lowest_at (codes "lowest") (λ at ws. refl)
    (made_read Lowest (element_read may_be_negative e is))
score_read (Sum k e) others is =
    behind_read score_at sum_at (codes "sum") (λ at ws. refl) (sum_read k e others is)
score_read Dry others is = behind_read score_at dry_at (codes "dry") (λ at ws. refl) (always_read (λ ws. refl))
score_read Wet others is = behind_read score_at wet_at (codes "wet") (λ at ws. refl) (always_read (λ ws. refl))
score_read (Hot t) others is = behind_read score_at hot_at (codes "hot") (λ at ws. refl)
    (made_read Hot (heat_read t is))
score_read (Cold t) others is = behind_read score_at cold_at (codes "cold") (λ at ws. refl)
    (made_read Cold (heat_read t is))
