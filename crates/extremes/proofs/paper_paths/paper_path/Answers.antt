use Rattle.std.proofs.Common.{ℕ, List, sym, ap, ◌∙◌, append_assoc}
use Rattle.std.specs.Prelude.{codes}
use Rattle.std.specs.Fmt.{decimal}
use Rattle.std.proofs.lemmas.Result.{IfOk-weaker}
use Rattle.rank_input.specs.Named.{below}
use Rattle.extremes.proofs.paper_paths.paper_path.Goals as goal

-- the name is the number, a point and the kind
pub returns : goal.returns
returns c =
    IfOk-weaker c.below.result _ _ (λ path is. is
    ∙ ap (λ (name : List ℕ). below c.args.folder.now name)
    (c.deref.ensures ∙ c.in_ok-name.ensures.ok ∙ sym (append_assoc (decimal c.args.number) (codes ".") c.args.kind.now)))
    c.below.ensures
