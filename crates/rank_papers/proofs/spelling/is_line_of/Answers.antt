use Rattle.std.proofs.Common.{◌≡◌, ◌≤◌, List, ℕ, Bool, true, false, ◌++◌, length, ◌+◌, sym, ap, ◌∙◌, arith, subst, ℤ}
use Rattle.std.proofs.Common.{FitsSigned, w64, to_z-of_z, rules, refl}
use Rattle.std.specs.Prelude.{◌&&◌}
use Rattle.rank_query.specs.declared.score.Score.{Score}
use Rattle.rank_query.specs.Meaning.Asked.{Query}
use Rattle.rank_papers.specs.Report.{Named}
use Rattle.rank_papers.specs.ReportLines.{named_in}
use Rattle.rank_papers.specs.Meaning.Values.{measure_of_score, unit_text, value_text, value_of}
use Rattle.rank_papers.specs.Spelled.{has_front, has_back}
use Rattle.rank_papers.proofs.ReportFields.{IsCutOut, cut_out}
use Rattle.rank_papers.proofs.Spelled.{line_spelled, unit_short}
use Rattle.rank_papers.proofs.spelling.is_line_of.Goals as goal

-- there is room for all lengths
pub has_back-requires : goal.has_back-requires
has_back-requires c =
    let row : Named = named_in c.args.row.now in
    let cut : IsCutOut (length c.args.rank.now) c.args.line.now row =
    cut_out c.args.query.now (length c.args.rank.now) c.args.line.now row c.requires.cut in
    let name : length c.deref.result.now ≡ length row.1 = ap length c.deref.ensures.value in
    let unit : length c.unit-unit.result.now ≤ 4 =
    subst (λ (u : List ℕ). length u ≤ 4) (sym c.unit-unit.ensures) (unit_short c.measure_of.result) in
    omega (arith, cut.short, name, unit, c.requires.digits)

-- the front isn't that of the row's line
pub returns-then-not-has_front : goal.returns-then-not-has_front
returns-then-not-has_front c = λ n e.
    let q : Query = c.args.query.now in
    let rank : List ℕ = c.args.rank.now in
    let line : List ℕ = c.args.line.now in
    let row : Named = named_in c.args.row.now in
    let value : List ℕ = value_text (measure_of_score q.score) (value_of q.score row.0.score) in
    let unit : List ℕ = unit_text (measure_of_score q.score) in
    let front : has_front rank line ≡ false = sym c.has_front.ensures ∙ c.if-not-has_front.true in
    sym (ap (λ (b : Bool). b && has_back value unit row.1 line (length rank + 35)) front)
    ∙ line_spelled q rank line value unit row c.requires.cut refl refl n e

-- the back decides
pub returns : goal.returns
returns c = λ n e.
    let q : Query = c.args.query.now in
    let rank : List ℕ = c.args.rank.now in
    let line : List ℕ = c.args.line.now in
    let row : Named = named_in c.args.row.now in
    let value : List ℕ = c.as_slice.result.now in
    let unit : List ℕ = c.unit-unit.result.now in
    let number : ℤ = row.0.score in
    let fits : FitsSigned w64 number = search rules in
    let with_value : Score → ℤ → List ℕ = λ s z.
    c.clear.new.self.items ++ value_text (measure_of_score s) (value_of s z) in
    let printed = c.in_ok-push_value.ensures
    ∙ ap (with_value c.score.result) (to_z-of_z fits) ∙ ap (λ (s : Score). with_value s number) c.score.ensures.score in
    let value_is : value ≡ value_text (measure_of_score q.score) (value_of q.score number) =
    c.as_slice.ensures.value ∙ printed
    ∙ ap (λ (b : List ℕ). b ++ value_text (measure_of_score q.score) (value_of q.score number))
    c.clear.ensures.items in
    let unit_is : unit ≡ unit_text (measure_of_score q.score) =
    c.unit-unit.ensures ∙ ap unit_text (c.measure_of.ensures ∙ ap measure_of_score c.score-2.ensures.score) in
    let front : has_front rank line ≡ true = sym c.has_front.ensures ∙ c.if-not-has_front.false in
    c.has_back.ensures
    ∙ ap (λ (name : List ℕ). has_back value unit name line (length rank + 35)) c.deref.ensures.value
    ∙ sym (ap (λ (b : Bool). b && has_back value unit row.1 line (length rank + 35)) front)
    ∙ line_spelled q rank line value unit row c.requires.cut value_is unit_is n e
