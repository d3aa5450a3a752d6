use Rattle.std.proofs.Common.{ℕ, ◌+◌, List, get_or, sym, subst, arith}
use Rattle.ghcn_fields.specs.FieldForms.{IsSum}
use Rattle.ghcn_fields.proofs.FieldsByKind.{digit-small, kind-small, sum_of, five_are}
use Rattle.ghcn_fields.proofs.value.sum_of.Goals as goal

-- the sum of four columns is small
pub overflow_add-result-3 : goal.overflow_add-result-3
overflow_add-result-3 c = omega (arith, digit-small, kind-small)

-- the sum of five is
pub overflow_add-result-4 : goal.overflow_add-result-4
overflow_add-result-4 c = omega (arith, digit-small, kind-small)

-- the byte at a place
abbrev at : List ℕ → ℕ → ℕ
at xs k = get_or xs k 0

-- each table added its part
pub returns : goal.returns
returns c =
    let xs : List ℕ = c.args.column.now in
    subst (IsSum (c.first.result + c.second.result + c.third.result + c.fourth.result + c.fifth.result))
    (sym (five_are xs c.told-column))
    (sum_of (at xs 0) (at xs 1) (at xs 2) (at xs 3) (at xs 4)
    c.first.result c.second.result c.third.result c.fourth.result c.fifth.result
    c.first.ensures c.second.ensures c.third.ensures c.fourth.ensures c.fifth.ensures)
