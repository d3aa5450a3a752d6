use Rattle.std.proofs.Common.{◌≡◌, ℕ, suc, ◌+◌, ◌-◌, List, false, refl, arith, subst}
use Rattle.std.specs.Prelude.{Option, None, Some, String, option_map, string_bytes}
use Rattle.std.specs.Global.{Global}
use Rattle.extremes.specs.PapersFolder.{IsFirstThere, paths_of}
use Rattle.extremes.proofs.PaperPaths.{found-next, none-next}
use Rattle.extremes.proofs.PrintedLines.{none-found}
use Rattle.extremes.proofs.papers_folder.first_there.Goals as goal

-- no file of one query more is there
pub loop-at-preserved : goal.loop-at-preserved
loop-at-preserved g c =
    let exists = g.T.Target.exists c.args.target.now in
    none-next exists c.args.folder.now c.loop-at.at (c.loop-at.at + 1) refl c.loop-at.invariant
    (subst (λ (f : Option (String Global)). IsFirstThere exists (paths_of c.args.folder.now (c.loop-at.at + 1))
    (option_map string_bytes f)) (none-found c.in_ok-found.found c.in_default.not-Some) c.in_ok-found.ensures)

-- or one is
pub returns-in-Some : goal.returns-in-Some
returns-in-Some g c =
    let exists = g.T.Target.exists c.args.target.now in
    found-next exists c.args.folder.now c.loop-at.at (c.loop-at.at + 1) (c.args.queries - suc c.loop-at.at)
    c.args.queries (string_bytes c.in-Some.path) refl (omega (arith, c.loop-at-test.true)) c.loop-at.invariant
    (subst (λ (f : Option (String Global)). IsFirstThere exists (paths_of c.args.folder.now (c.loop-at.at + 1))
    (option_map string_bytes f)) c.in-Some.is c.in_ok-found.ensures)
