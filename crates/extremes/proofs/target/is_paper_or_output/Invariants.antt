use Rattle.std.proofs.Common.{take, false}
use Rattle.std.specs.List.{All}
use Rattle.extremes.specs.Targets.{IsPaper}
use Rattle.extremes.proofs.target.is_paper_or_output.Given as goal

-- none of the parts so far is found to have the certificate's file
abbrev pub invariant-loop-part : goal.invariant-loop-part
invariant-loop-part g l = All (λ part. IsPaper (g.T.Target.one_file l.target l.out) part false)
    (take l.part-index l.parts)
