-- How the pieces that are written make the text that is said.
use Rattle.std.proofs.Common.{◌≡◌, ℕ, List, ◌++◌, codes, sym, ap, ◌∙◌, append_assoc, Bor}
use Rattle.explanations.specs.declared.query.Wanted.{Wanted}
use Rattle.explanations.specs.declared.query.Wanted.TheVariants.{OneOf, Form, Nothing}
use Rattle.explanations.specs.declared.query.WrongWord.{WrongWord}
use Rattle.explanations.specs.declared.query.MoreWords.{MoreWords}
use Rattle.explanations.specs.Shown.{shown}
use Rattle.explanations.specs.Queries.{wrong_word_text, more_words_text, unwanted_text, following_text}

-- four pieces from their ends
four : (a b c d : List ℕ) → a ++ (b ++ (c ++ d)) ≡ a ++ b ++ c ++ d
four a b c d = sym (append_assoc (a ++ b) c d ∙ append_assoc a b (c ++ d))

-- and five
five : (a b c d e : List ℕ) → a ++ (b ++ (c ++ (d ++ e))) ≡ a ++ b ++ c ++ d ++ e
five a b c d e = four a b c (d ++ e) ∙ sym (append_assoc (a ++ b ++ c) d e)

-- a word that some words don't include
pub is_none_of : (w : WrongWord) (words : Bor (List ℕ)) → w.wanted ≡ OneOf words
    → shown w.query.now ++ (codes ": " ++ (shown w.word.now ++ (codes " is none of " ++ words.now))) ≡ wrong_word_text w
is_none_of w words is = five (shown w.query.now) (codes ": ") (shown w.word.now) (codes " is none of ") words.now
    ∙ ap (λ (v : Wanted). unwanted_text w.query.now v w.word.now) (sym is)

-- a word before which nothing may follow
pub is_too_much : (w : WrongWord) → w.wanted ≡ Nothing
    → shown w.query.now ++ (codes ": nothing may follow before " ++ shown w.word.now) ≡ wrong_word_text w
is_too_much w is = sym (append_assoc (shown w.query.now) (codes ": nothing may follow before ") (shown w.word.now))
    ∙ ap (λ (v : Wanted). unwanted_text w.query.now v w.word.now) (sym is)

-- one of some words has to follow
pub one_follows : (m : MoreWords) (words : Bor (List ℕ)) → m.wanted ≡ OneOf words
    → shown m.query.now ++ (codes ": one of " ++ (words.now ++ codes " has to follow")) ≡ more_words_text m
one_follows m words is = four (shown m.query.now) (codes ": one of ") words.now (codes " has to follow")
    ∙ ap (λ (v : Wanted). following_text m.query.now v) (sym is)

-- a word of a form has to follow
pub form_follows : (m : MoreWords) (form : Bor (List ℕ)) → m.wanted ≡ Form form
    → shown m.query.now ++ (codes ": " ++ (form.now ++ codes " has to follow")) ≡ more_words_text m
form_follows m form is = four (shown m.query.now) (codes ": ") form.now (codes " has to follow")
    ∙ ap (λ (v : Wanted). following_text m.query.now v) (sym is)
