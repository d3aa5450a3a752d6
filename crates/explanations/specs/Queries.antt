-- What is said about a word of a query, and about a query that ends too early.
use Rattle.std.specs.Prelude.{◌≡◌, ℕ, List, ◌++◌, codes, take, slice_range}
use Rattle.explanations.specs.declared.query.Wanted.{Wanted}
use Rattle.explanations.specs.declared.query.Wanted.TheVariants.{OneOf, Form, Nothing}
use Rattle.explanations.specs.declared.query.WrongWord.{WrongWord}
use Rattle.explanations.specs.declared.query.MoreWords.{MoreWords}
use Rattle.explanations.specs.Shown.{shown}

-- the query up to a word, and why the word is wrong, by what is allowed in its place
abbrev pub unwanted_text : List ℕ → Wanted → List ℕ → List ℕ
unwanted_text query (OneOf words) word = shown query ++ codes ": " ++ shown word ++ codes " is none of " ++ words.now
unwanted_text query (Form form) word = shown query ++ codes ": " ++ shown word ++ codes " isn't " ++ form.now
unwanted_text query Nothing word = shown query ++ codes ": nothing may follow before " ++ shown word

-- the query, and what has to follow
abbrev pub following_text : List ℕ → Wanted → List ℕ
following_text query (OneOf words) = shown query ++ codes ": one of " ++ words.now ++ codes " has to follow"
following_text query (Form form) = shown query ++ codes ": " ++ form.now ++ codes " has to follow"
following_text query Nothing = shown query ++ codes ": nothing has to follow"

-- this text for a wrong word
abbrev pub wrong_word_text : WrongWord → List ℕ
wrong_word_text w = unwanted_text w.query.now w.wanted w.word.now

-- this text for a query that ends too early
abbrev pub more_words_text : MoreWords → List ℕ
more_words_text m = following_text m.query.now m.wanted

-- a word of a query: what is said has the query up to the end of the word
pub record IsWordOf (query : List ℕ) (w : WrongWord) : Type 0 where
  pub start : ℕ
  pub stop : ℕ
  pub up_to : w.query.now ≡ take stop query
  pub word : w.word.now ≡ slice_range query start stop
