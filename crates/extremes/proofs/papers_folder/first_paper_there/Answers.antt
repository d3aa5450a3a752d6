use Rattle.std.proofs.Common.{ℕ, List, sym, ◌∙◌, ap, subst}
use Rattle.std.specs.Prelude.{Option, None, Some, IfOk, String, option_map, string_bytes}
use Rattle.std.specs.Global.{Global}
use Rattle.std.proofs.lemmas.Result.{IfOk-weaker}
use Rattle.extremes.specs.PapersFolder.{IsFirstThere, new_paths}
use Rattle.extremes.proofs.papers_folder.first_paper_there.Goals as goal

-- the files of the folder are looked for
pub returns-in-Some : goal.returns-in-Some
returns-in-Some g c =
    let exists = g.T.Target.exists c.args.target.now in
    IfOk-weaker c.first_there.result _ _ (λ found is.
    subst (λ (f : Option (List ℕ)). IsFirstThere exists (new_paths f c.args.queries) (option_map string_bytes found))
    (ap Some c.deref.ensures ∙ ap (option_map string_bytes) (sym c.in-Some.is)) is) c.first_there.ensures

-- or there is no folder
pub returns-in-None : goal.returns-in-None
returns-in-None g c =
    subst (λ (f : Option (String Global)). IsFirstThere (g.T.Target.exists c.args.target.now)
    (new_paths (option_map string_bytes f) c.args.queries) None) (sym c.in-None.is) tt
