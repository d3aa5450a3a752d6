-- Words as they are printed, each with a blank before it.
use Rattle.std.specs.Prelude.{ℕ, List, ◌∷◌}
use Rattle.std.specs.List.{flat_map}
use Rattle.rank_query.specs.Meaning.QueryTexts.{QueryWord, word_text}

-- each word after a blank
abbrev pub spaced : List QueryWord → List ℕ
spaced words = flat_map (λ w. 32 ∷ word_text w) words
