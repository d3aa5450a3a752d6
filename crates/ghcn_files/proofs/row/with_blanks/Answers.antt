use Rattle.std.proofs.Common.{◌∙◌, ◌++◌, List, ℕ, length, drop, ap}
use Rattle.std.specs.Prelude.{replicate}
use Rattle.std.proofs.lemmas.List.{drop-replicate}
use Rattle.ghcn_files.proofs.row.with_blanks.Goals as goal

-- the blanks after the copied line are left
pub returns : goal.returns
returns c =
    let line = c.args.line.now in
    ap (λ (l : List ℕ). l ++ drop (length line) (replicate 269 32)) c.copy_from_slice.ensures.after
    ∙ ap (λ (l : List ℕ). line ++ l) (drop-replicate (length line) 269 32)
