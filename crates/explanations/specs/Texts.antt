-- What is said to people, without the line feed at its end.
use Rattle.std.specs.Prelude.{◌≡◌, ℕ, List, ◌++◌, codes, Option, Some}
use Rattle.std.specs.Fmt.{decimal}
use Rattle.explanations.specs.declared.explanation.Explanation.{Explanation}
use Rattle.explanations.specs.declared.explanation.Explanation.TheVariants.{Line, At, Of, NoAccess, Station, Word, End, Plain}
use Rattle.explanations.specs.declared.explanation.Found.{Found}
use Rattle.explanations.specs.declared.explanation.Found.TheVariants as founds
use Rattle.explanations.specs.Columns.{columns_text, count_text}
use Rattle.explanations.specs.Shown.{shown, shown_text}
use Rattle.explanations.specs.Queries.{wrong_word_text, more_words_text}

-- what a line has in place of what is asked for: the kind of its error, how many columns it has, or the bytes in some
-- of them
abbrev pub found_text : Found → List ℕ
found_text (founds.Kind kind) = kind.now
found_text (founds.Columns count) = count_text count
found_text (founds.At first last bytes) = columns_text first last bytes.now

-- the path of a file, and the number of a line in it
abbrev pub place_text : List ℕ → ℕ → List ℕ
place_text path line = shown_text path ++ codes ":" ++ decimal line ++ codes ": "

-- a line of a file: its place, what it has, and what is asked for
abbrev pub line_text : List ℕ → ℕ → List ℕ → List ℕ → List ℕ
line_text path number found wanted = place_text path number ++ found ++ codes "; " ++ wanted

-- what is said
abbrev pub explanation_text : Explanation → Option (List ℕ)
explanation_text (Line path line found wanted) = Some (line_text path.now line (found_text found) wanted.now)
explanation_text (At path line says) = Some (place_text path.now line ++ says.now)
explanation_text (Of name says) = Some (shown_text name.now ++ codes ": " ++ says.now)
explanation_text (NoAccess path reason) = Some (shown_text path.now ++ codes ": " ++ reason.now)
explanation_text (Station id says) = Some (shown id.0 ++ codes ": " ++ says.now)
explanation_text (Word word) = Some (wrong_word_text word)
explanation_text (End more) = Some (more_words_text more)
explanation_text (Plain says) = Some says.now

-- an explanation says this
abbrev pub Says : Explanation → List ℕ → Type 0
Says e text = explanation_text e ≡ Some text
