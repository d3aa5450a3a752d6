-- The line of an error in a text that was read again.
use Rattle.std.specs.Prelude.{◌≡◌, ℕ, List, Some}
use Rattle.std.specs.List.{slice_get}
use Rattle.ghcn_fields.specs.Lines.{numbered_lines}
use Rattle.rank_input.specs.declared.fault.Fault.{Fault}
use Rattle.rank_input.specs.declared.fault.Fault.TheVariants.{StationLine, DailyLine}

-- this is the line of this number in the text
pub record IsLineAt (text : List ℕ) (number : ℕ) (line : List ℕ) : Type 0 where
  pub place : ℕ
  pub there : slice_get (numbered_lines text) place ≡ Some (number, line)

-- this is the line that the error names, if it names one
abbrev pub IsLineOf : Fault → List ℕ → List ℕ → Type 0
IsLineOf (StationLine number why) text line = IsLineAt text number line
IsLineOf (DailyLine file number why) text line = IsLineAt text number line
IsLineOf fault text line = ⊥
