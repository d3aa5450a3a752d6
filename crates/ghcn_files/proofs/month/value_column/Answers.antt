use Rattle.std.proofs.Common.{◌≡◌, ℕ, ◌+◌, ◌-◌, ◌*◌, take, drop, sym, ap, ◌∙◌, arith}
use Rattle.std.proofs.lemmas.List.{take_rest}
use Rattle.ghcn_files.proofs.ColumnSlices.{columns-slice}
use Rattle.ghcn_files.proofs.month.value_column.Goals as goal

-- they are the first five from there
pub returns : goal.returns
returns c =
    let start : ℕ = 21 + 8 * c.args.day in
    let count : 5 ≡ start + 5 - start = omega arith in
    c.in-Some.ensures.cases.same ∙ ap (take 5) (take_rest c.args.line.now start)
    ∙ ap (λ (n : ℕ). take n (drop start c.args.line.now)) count
    ∙ sym (columns-slice (14 + 8 * (c.args.day + 1)) (18 + 8 * (c.args.day + 1)) start (start + 5) c.args.line.now
    (omega arith) (omega arith) (omega arith) (omega arith))
