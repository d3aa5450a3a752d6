-- Reports and certificates that are taken two by two.
use Rattle.std.proofs.Common.{◌≡◌, ℕ, List, ◌++◌, length, ◌%◌, map}
use denote.Ref.{Bor}
use Rattle.clap.specs.Words.{Text}
use Rattle.command_line.specs.declared.asked.Part.{Part}
use Rattle.command_line.specs.CommandLine.{paths_of}

-- the texts that are lent
abbrev pub texts : List (Bor Text) → List Text
texts papers = map (λ s. s.now) papers

-- of some reports and certificates all but the rest are those of parts, and the rest is to be taken two by two
pub record HasPaired (papers rest : List (Bor Text)) (size : ℕ) (parts : List Part) : Type 0 where
  pub two : size ≡ 2
  pub even : length rest % 2 ≡ 0
  pub paired : paths_of parts ++ texts rest ≡ texts papers
