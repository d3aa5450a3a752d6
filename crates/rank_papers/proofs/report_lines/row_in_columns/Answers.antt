use Rattle.std.proofs.Common.{◌≡◌, ◌∙◌, ◌+◌, ◌-◌, List, ℕ, Option, Some, None, length, sym, ap, subst, FitsSigned, w64, to_z-of_z}
use Rattle.std.specs.Prelude.{ℤ, slice_range, IfOk}
use Rattle.std.specs.Option.{option_map}
use Rattle.ghcn_fields.specs.Dates.{read_date}
use Rattle.rank_query.specs.Meaning.Asked.{Query}
use Rattle.rank_papers.specs.declared.paper.Row.{Row}
use Rattle.rank_papers.specs.Report.{Named}
use Rattle.rank_papers.specs.Meaning.Values.{measure_of_score, unit_text}
use Rattle.rank_papers.specs.ReportLines.{score_in, first_word, row_with, named_in}
use Rattle.rank_papers.proofs.ReportFields.{value_at, row_at-is, row_at-none, score_in-fits, AreParts, row_with-parts}
use Rattle.rank_papers.proofs.report_lines.row_in_columns.Goals as goal

-- there is no score
pub returns-in_default : goal.returns-in_default
returns-in_default c =
    let line : List ℕ = c.args.line.now in
    let digits : ℕ = c.args.digits in
    let q : Query = c.args.query.now in
    let word : List ℕ = c.first_word-value.result.now in
    let value : word ≡ value_at digits line = c.first_word-value.ensures ∙ ap first_word c.field_from.ensures in
    let score : None ≡ score_in q word = sym c.in_default.is ∙ c.in_ok-score.ensures in
    sym (row_at-none q digits line word) ∙ row_at-is q digits line word None value score

-- the columns are those of the row
pub returns : goal.returns
returns c =
    let line : List ℕ = c.args.line.now in
    let digits : ℕ = c.args.digits in
    let q : Query = c.args.query.now in
    let word : List ℕ = c.first_word-value.result.now in
    let score : Option ℤ = Some c.in-Some.score in
    let value : word ≡ value_at digits line = c.first_word-value.ensures ∙ ap first_word c.field_from.ensures in
    let is : score ≡ score_in q word = sym c.in-Some.is ∙ c.in_ok-score.ensures in
    let fits : FitsSigned w64 c.in-Some.score = score_in-fits q word c.in-Some.score (sym is) in
    let unit : c.unit-unit.result.now ≡ unit_text (measure_of_score q.score) =
    c.unit-unit.ensures ∙ ap unit_text (c.measure_of.ensures ∙ ap measure_of_score c.score.ensures.score) in
    let parts : AreParts q digits line word c.columns-id.result.now c.field_from-name.result.now
    c.read_date-first.result c.read_date-last.result = record {
      id_is = c.columns-id.ensures;
      name_is = c.field_from-name.ensures
          ∙ ap (λ (u : List ℕ). slice_range line (digits + length word + length u + 37) (length line - 1)) unit;
      first_is = c.read_date-first.ensures.value ∙ ap read_date c.columns.ensures;
      last_is = c.read_date-last.ensures.value ∙ ap read_date c.columns-2.ensures;
    } in
    let with_score : ℤ → Option Named = λ z. row_with c.columns-id.result.now c.field_from-name.result.now
    c.read_date-first.result c.read_date-last.result (Some z) in
    subst (λ (o : Option Named). IfOk c.row_with.result (λ (row : Option Row). option_map named_in row ≡ o))
    (ap with_score (to_z-of_z fits) ∙ row_with-parts parts score ∙ row_at-is q digits line word score value is)
    c.row_with.ensures
