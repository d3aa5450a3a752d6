-- Words of a text: no blank is in them, and those that are joined by blanks are the words of the text.
use Rattle.rank_query.proofs.Cited.{◌≡◌, ℕ, Bool, true, false, not, cond, ◌&&◌, List, [], ◌∷◌, ◌++◌, All, filter, refl}
use Rattle.rank_query.proofs.Cited.{ap, ◌∙◌, slice_split, onto_first, join_with_byte, list_all, AllByRecursion}
use Rattle.rank_query.proofs.Cited.{slice_split_none, slice_split_at, AllPass-from_list_all, is_separator, words_of}
use Rattle.rank_query.proofs.Cited.{◌==◌, length, cases_Bool, inl, inr}
use Rattle.std.proofs.lemmas.List.Elements.{All-filter, recursion_from_All}

-- something is in it
abbrev pub is_word : List ℕ → Bool
is_word part = not (length part == 0)

-- a byte that is in a word
abbrev pub stands_in_word : ℕ → Bool
stands_in_word b = not (is_separator b)

-- no blank is in a word
abbrev pub HasNoBlank : List ℕ → Type 0
HasNoBlank word = list_all stands_in_word word ≡ true

-- a word is something without a blank
pub record IsOneWord (word : List ℕ) : Type 0 where
  pub some : is_word word ≡ true
  pub no_blank : HasNoBlank word

-- no byte of a word separates
is_false : (b : Bool) → not b ≡ true → b ≡ false
is_false true e = cc
is_false false e = refl

-- so none of its bytes does
no_separator : (word : List ℕ) → IsOneWord word → All (λ b. is_separator b ≡ false) word
no_separator word one = λ k d inside. is_false _ (AllPass-from_list_all stands_in_word word one.no_blank k d inside)

-- a word comes first among the words
kept : (word : List ℕ) (parts : List (List ℕ)) → is_word word ≡ true
    → filter is_word (word ∷ parts) ≡ word ∷ filter is_word parts
kept word parts some = ap (λ b. cond b (word ∷ filter is_word parts) (filter is_word parts)) some

-- words that are joined by a blank are the words of the text
pub words_of-join : (words : List (List ℕ)) → AllByRecursion IsOneWord words
    → words_of (join_with_byte 32 words) ≡ words
words_of-join [] one = refl
words_of-join (w ∷ []) one =
    ap (filter is_word) (slice_split_none is_separator w (no_separator w one.0)) ∙ kept w [] one.0.some
words_of-join (w ∷ v ∷ words) one =
    ap (filter is_word) (slice_split_at is_separator w 32 (join_with_byte 32 (v ∷ words)) (no_separator w one.0) refl)
    ∙ kept w (slice_split is_separator (join_with_byte 32 (v ∷ words))) one.0.some
    ∙ ap (λ ws. w ∷ ws) (words_of-join (v ∷ words) one.1)

-- a byte of a word, put before a part
first_more : (b : ℕ) (parts : List (List ℕ)) → stands_in_word b ≡ true
    → list_all (list_all stands_in_word) parts ≡ true → list_all (list_all stands_in_word) (onto_first b parts) ≡ true
first_more b [] here rest = ap (λ t. t && true && true) here
first_more b (part ∷ parts) here rest =
    ap (λ t. (t && list_all stands_in_word part) && list_all (list_all stands_in_word) parts) here ∙ rest

-- the parts between blanks have none
parts_no_blank : (text : List ℕ) → list_all (list_all stands_in_word) (slice_split is_separator text) ≡ true
parts_no_blank [] = refl
parts_no_blank (b ∷ bytes) = elim (cases_Bool (is_separator b)) [
  | inl blank ↦ rw blank (parts_no_blank bytes)
  | inr other ↦ rw other (first_more b (slice_split is_separator bytes) (ap not other) (parts_no_blank bytes))
]

-- no word of a text has a blank
pub words_no_blank : (text : List ℕ) → AllByRecursion HasNoBlank (words_of text)
words_no_blank text =
    recursion_from_All HasNoBlank (words_of text) (All-filter is_word HasNoBlank (slice_split is_separator text)
    (AllPass-from_list_all (list_all stands_in_word) (slice_split is_separator text) (parts_no_blank text)))

-- what is true of all words is true of those after some of them
pub all_behind : (P : List ℕ → Type 0) (front back : List (List ℕ)) → AllByRecursion P (front ++ back)
    → AllByRecursion P back
all_behind P [] back all = all
all_behind P (w ∷ front) back all = all_behind P front back all.1
