use Rattle.std.proofs.Common.{◌-◌, ◌++◌, min, List, ℕ, length, take, drop, sym, ap, ◌∙◌, arith, length-drop}
use Rattle.std.specs.Prelude.{replicate}
use Rattle.std.proofs.lemmas.List.{take_all}
use Rattle.ghcn_files.proofs.ColumnSlices.{columns-filled}
use Rattle.ghcn_files.proofs.columns.columns_filled.Goals as goal

-- what is copied over the blanks are the columns
pub returns : goal.returns
returns g c =
    let line = c.args.line.now in
    let rest = drop c.min.result line in
    let whole = take_all (length line - c.min.result) rest (omega (arith, length-drop c.min.result line)) in
    let count = c.min-count.result in
    ap (λ (r : List ℕ). r ++ drop count (replicate g.row.N 32))
    (c.copy_from_slice.ensures.after ∙ ap (take count) whole)
    ∙ sym (columns-filled c.args.from g.row.N c.min.result count line (omega arith) c.min.ensures
    (c.min-count.ensures ∙ ap (λ (r : List ℕ). min g.row.N (length r)) whole))
