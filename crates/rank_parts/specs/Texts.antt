-- The line that a part prints.
use Rattle.std.specs.Prelude.{ℕ, List, ◌++◌, codes}
use Rattle.std.specs.Fmt.{decimal}
use Rattle.rank_check.specs.Texts.{refusal_text}
use Rattle.rank_parts.specs.declared.verdict.PartVerdict.{PartVerdict}
use Rattle.rank_parts.specs.declared.verdict.PartVerdict.TheVariants.{Accepted, Refused}

-- the line of a verdict, without its line feed
abbrev pub verdict_text : PartVerdict → List ℕ
verdict_text (Accepted series lines) = codes "accepted " ++ decimal series ++ codes " of " ++ decimal lines
verdict_text (Refused refusal) = refusal_text refusal
