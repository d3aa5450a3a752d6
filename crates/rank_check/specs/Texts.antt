-- The line that a verdict prints.
use Rattle.std.specs.Prelude.{ℕ, List, ◌++◌, codes}
use Rattle.std.specs.Fmt.{decimal}
use Rattle.rank_papers.specs.Papers.{paper_text}
use Rattle.rank_check.specs.declared.verdict.Why.{Why}
use Rattle.rank_check.specs.declared.verdict.Why.TheVariants.{Form, OtherQuery, NotACandidate, OutOfOrder, NotBest}
use Rattle.rank_check.specs.declared.verdict.Why.TheVariants.{TooFew, OtherSeries, NoBound, NotBelow, NotCounted}
use Rattle.rank_check.specs.declared.verdict.Why.TheVariants.{OtherFloor}
use Rattle.rank_check.specs.declared.refusal.Refusal.{Refusal}
use Rattle.rank_check.specs.declared.verdict.Verdict.{Verdict}
use Rattle.rank_check.specs.declared.verdict.Verdict.TheVariants.{Accepted, Refused}
use Rattle.rank_check.specs.Tests.{refusal}

-- the word for a reason
abbrev pub why_text : Why → List ℕ
why_text Form = codes "Form"
why_text OtherQuery = codes "OtherQuery"
why_text NotACandidate = codes "NotACandidate"
why_text OutOfOrder = codes "OutOfOrder"
why_text NotBest = codes "NotBest"
why_text TooFew = codes "TooFew"
why_text OtherSeries = codes "OtherSeries"
why_text NoBound = codes "NoBound"
why_text NotBelow = codes "NotBelow"
why_text NotCounted = codes "NotCounted"
why_text OtherFloor = codes "OtherFloor"

-- the line of a refusal, without its line feed
abbrev pub refusal_text : Refusal → List ℕ
refusal_text r =
    codes "refused " ++ paper_text r.paper ++ codes " line " ++ decimal r.line ++ codes " " ++ why_text r.why

-- the line of a verdict, without its line feed
abbrev pub verdict_text : Verdict → List ℕ
verdict_text Accepted = codes "accepted"
verdict_text (Refused paper line why) = refusal_text (refusal paper line why)
