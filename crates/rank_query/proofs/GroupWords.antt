-- The words of a group: those that are read as a group spell it, and those that spell it are read as it.
use Rattle.rank_query.proofs.Cited.{◌≡◌, ℕ, List, [], ◌∷◌, ◌++◌, Some, None, Ok, codes, refl, sym, ap, subst, inl, inr}
use Rattle.rank_query.proofs.Cited.{cases_Bool, same_bytes, bytes_decides, period_at, Per, Each, Station, Year}
use Rattle.rank_query.proofs.Cited.{UnexpectedWord, Word, says, Read, one_word, group, group_of, each_at, per_at}
use Rattle.rank_query.proofs.Cited.{Exactly, per_words}
use Rattle.rank_query.proofs.ReadingSteps.{or_fault_ok, one_word_took, unnumbered}
use Rattle.rank_query.proofs.SpeltWords.{TakesBehind, Took, took_same, rows_took, ReadsAs, word_read, behind_read}
use Rattle.rank_query.proofs.SpeltWords.{PassesBy, passed_by}

-- a group after its word
abbrev pub per_rows : List (List ℕ × (List Word → Read Per))
per_rows = (codes "per", one_word group) ∷ []

-- the words of a group that a word names
group_words : (word : List ℕ) (g : Per) → group_of word ≡ Some g
    → per_words g ≡ Exactly (codes "per") ∷ Exactly word ∷ []
group_words word g e = elim (cases_Bool (same_bytes word (codes "station"))) [
  | inl is ↦
      let found = rw is at e in
      let same : Station ≡ g = cc in
      subst (λ (g : Per). per_words g ≡ Exactly (codes "per") ∷ Exactly word ∷ []) same
      (ap (λ (w : List ℕ). Exactly (codes "per") ∷ Exactly w ∷ []) (sym ((bytes_decides word (codes "station")).0 is)))
  | inr other ↦
      let left = rw other at e in
      elim (cases_Bool (same_bytes word (codes "year"))) [
        | inl is ↦
            let found = rw is at left in
            let same : Year ≡ g = cc in
            subst (λ (g : Per). per_words g ≡ Exactly (codes "per") ∷ Exactly word ∷ []) same
            (ap (λ (w : List ℕ). Exactly (codes "per") ∷ Exactly w ∷ [])
            (sym ((bytes_decides word (codes "year")).0 is)))
        | inr none ↦ let found = rw none at left in absurd cc
      ]
]

-- a word that is read as a group names it
group_named : (w : Word) (g : Per) → group w ≡ Ok g → group_of w.1 ≡ Some g
unfolding group
group_named w g e = or_fault_ok (UnexpectedWord w.0) (group_of w.1) g e

-- with "per" it spells the group
group_took : TakesBehind (codes "per" ∷ []) per_words (one_word group)
group_took = λ ws rest g e.
    let word = one_word_took group ws rest g e in
    subst (λ these. Took these (codes "per" ∷ unnumbered ws) rest)
    (sym (group_words word.0.1 g (group_named word.0 g word.2)))
    (subst (λ words. Took (Exactly (codes "per") ∷ Exactly word.0.1 ∷ []) (codes "per" ∷ words) rest) (sym word.1)
    (λ others more clean. (refl, (refl, more clean.1.1))))

-- the words that are read as a group spell it
pub per_took : TakesBehind [] per_words per_at
unfolding per_at
per_took = rows_took per_words per_rows each_at (group_took, tt)
    (λ ws rest g e. took_same per_words (unnumbered ws) Each g ws rest e (λ others more. more))

-- a word that names a group is read as it
word_is : (text : List ℕ) (g : Per) → group_of text ≡ Some g → (at : ℕ) (word : List ℕ) → word ≡ text
    → group (at, word) ≡ Ok g
unfolding group
word_is text g named at word same = rw (same, named) refl

-- what spells a group is read as it
pub per_read : (g : Per) → ReadsAs per_at g (per_words g ++ []) []
unfolding per_at says
per_read Each = passed_by per_at Each [] refl
per_read Station = behind_read per_at (one_word group) (codes "per") (λ at ws. refl)
    (word_read group (Exactly (codes "station")) Station (word_is (codes "station") Station refl))
per_read Year = behind_read per_at (one_word group) (codes "per") (λ at ws. refl)
    (word_read group (Exactly (codes "year")) Year (word_is (codes "year") Year refl))

-- a group begins no period
pub no_period : (g : Per) → PassesBy period_at None (per_words g ++ [])
unfolding period_at says
no_period Each = refl
no_period Station = (codes "per", refl, λ at ws. refl)
no_period Year = (codes "per", refl, λ at ws. refl)
