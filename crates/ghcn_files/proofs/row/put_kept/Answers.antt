use Rattle.std.proofs.Common.{rules, ◌≡◌, subst, ◌∙◌, ℤ, w32, to_z, of_z}
use Rattle.std.proofs.lemmas.Int.{to_z-of_z}
use Rattle.ghcn_files.specs.Elements.{least_of}
use Rattle.ghcn_files.specs.Rows.{AreDays, value_from}
use Rattle.ghcn_files.proofs.Rows.{line-days}
use Rattle.ghcn_files.proofs.row.put_kept.Goals as goal

-- the values from the element's least on are those that count
pub returns : goal.returns
returns c =
    let least : to_z w32 (of_z w32 c.least_of.result) ≡ least_of c.args.element =
    to_z-of_z w32 c.least_of.result (search rules) ∙ c.least_of.ensures in
    let raw = c.put_values.new.values in
    line-days c.args.element c.args.count c.args.line.now raw _ _ c.put_values.ensures
    (subst (λ (z : ℤ). AreDays (value_from z c.args.count raw) c.keep_from.result c.keep_from.new.values) least
    c.keep_from.ensures)
