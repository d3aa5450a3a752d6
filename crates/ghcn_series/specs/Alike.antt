-- Lines of daily files of which nothing that is read, counted or refused differs.
use Rattle.std.specs.Prelude.{◌≡◌, ℕ, List, ◌++◌, take, drop}
use Rattle.std.specs.Str.Lines.{strip_carriage_return}
use Rattle.ghcn_fields.specs.Meaning.Bytes.{is_blank}

-- two lines are alike: they have the same columns, and only blanks follow the last column of both or of neither
pub record AreAlike (a b : List ℕ) : Type 0 where
  pub columns : take 269 a ≡ take 269 b
  pub behind : is_blank (drop 269 a) ≡ is_blank (drop 269 b)

-- two beginnings of a line are alike: whatever follows them up to the line feed, the lines are
pub record BeginAlike (a b : List ℕ) : Type 0 where
  pub holds : (more : List ℕ) → AreAlike (strip_carriage_return (a ++ more)) (strip_carriage_return (b ++ more))
