use Rattle.std.proofs.Common.{inl, inr, refl}
use Rattle.extremes.proofs.NamedFiles.{ends-unnamed, runs-over}
use Rattle.extremes.proofs.run_judge_each.run_judging_each.Goals as goal

-- the files are named, and the report and the certificate of each query are checked against them
pub returns : goal.returns
returns g c = inr (runs-over _ _ _ _ _ _ c.in-Ok.files c.in-Ok.ensures.stand c.judge_each_named.ensures)

-- or they can't be named
pub returns-in-Err : goal.returns-in-Err
returns-in-Err g c =
    inl (ends-unnamed _ _ _ _ _ _ _ c.in-Err.why c.in-Err.ensures.stopped c.unnamed.ensures.ending refl
    c.unnamed.ensures.line)
