use Rattle.std.proofs.Common.{List, ℕ, ◌++◌, ℤ, ap, ◌∙◌, decimal, FitsSigned, w64, to_z-of_z, rules}
use Rattle.std.specs.List.{flat_map}
use Rattle.ghcn_fields.specs.Meaning.Dates.{date_text}
use Rattle.rank_query.specs.declared.score.Score.{Score}
use Rattle.rank_papers.specs.Meaning.Report.{field_unless_empty}
use Rattle.rank_papers.specs.Report.{after_blank}
use Rattle.rank_papers.proofs.RowText.{value_fields, added, row-pieces}
use Rattle.rank_papers.proofs.row.push_named.Goals as goal

-- the pieces were added in the order of the fields
pub returns : goal.returns
returns c =
    let paper : List ℕ = c.args.paper.now.items in
    let number : ℤ = c.args.candidate.now.score in
    let fits : FitsSigned w64 number = search rules in
    let first = c.in_ok-push_field-2.ensures
    ∙ ap (λ (t : List ℕ). c.push_field.new.paper.items ++ after_blank t) c.write_date.ensures in
    let last = c.in_ok-push_field-3.ensures
    ∙ ap (λ (t : List ℕ). c.push_field-2.new.paper.items ++ after_blank t) c.write_date-2.ensures in
    let with_value : Score → ℤ → List ℕ = λ s z.
    c.push_field-3.new.paper.items ++ flat_map after_blank (value_fields s z) in
    let value = c.in_ok-push_value_and_unit.ensures
    ∙ ap (with_value c.score.result) (to_z-of_z fits) ∙ ap (λ (s : Score). with_value s number) c.score.ensures.score in
    let days = added paper _ _ _ _ (added paper _ _ _ _ (added paper _ _ _ _
    c.in_ok-push_number.ensures c.in_ok-push_field.ensures) first) last in
    let to_name = added paper _ _ _ _ (added paper _ _ _ _ days value) c.in_ok-push_name.ensures in
    added paper _ _ _ _ to_name c.in_ok-push.ensures.items
    ∙ ap (λ (line : List ℕ). paper ++ line) (row-pieces (decimal c.args.rank) c.args.candidate.now.id.0
    (date_text c.args.candidate.now.first) (date_text c.args.candidate.now.last)
    (value_fields c.args.query.now.score number) (field_unless_empty c.args.name.now))
