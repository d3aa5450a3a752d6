use Rattle.std.proofs.Common.{rules, ◌≡◌, ◌++◌, ◌∷◌, ◌∙◌, [], None, Result, List, ℕ, length, map, sym, ap}
use Rattle.std.specs.Option.{option_map}
use Rattle.std.proofs.lemmas.List.{length-map, map-append}
use Rattle.rank_papers.specs.declared.fault.PaperFault.{PaperFault}
use Rattle.rank_papers.specs.declared.fault.PaperFault.TheVariants.{BadReport, BadCertificate, Memory}
use Rattle.rank_papers.specs.declared.paper.Row.{Row}
use Rattle.rank_papers.specs.Report.{Named}
use Rattle.rank_papers.specs.ReportLines.{report_end, row_behind, rows_in, named_in, IsBadReport}
use Rattle.rank_papers.specs.Lines.{paper_lines}
use Rattle.rank_papers.proofs.LinesRead.{and_values, HasRead-line, HasRead-more, HasRead-all}
use Rattle.rank_papers.proofs.report_lines.read_rows.Goals as goal

-- if what comes after some rows is bad, all is
bad_behind : (rows : List Named) (all ends : Result (List Named) ℕ) (f : PaperFault) → all ≡ and_values rows ends
    → IsBadReport ends f → IsBadReport all f
bad_behind rows all ends (BadReport m) e bad = e ∙ ap (and_values rows) bad
bad_behind rows all ends (BadCertificate m) e bad = absurd bad
bad_behind rows all ends (Memory m) e bad = tt

-- one row more
pub loop-line-preserved : goal.loop-line-preserved
loop-line-preserved c =
    let found : List Row = c.loop-line.found.items in
    let row : Row = c.in-Ok-Some.row in
    let count : c.len.result ≡ length found = search rules in
    let push : c.add.new.rows.items ≡ found ++ row ∷ [] = search rules in
    HasRead-more 3 (row_behind c.args.query.now) (report_end c.args.query.now) c.args.text.now (map named_in found)
    c.len.result c.loop-line.rest.now c.in-Some.line.now c.in-Some.behind.now c.loop-line.invariant c.in-Some.ensures
    (count ∙ sym (length-map found named_in)) (map named_in c.add.new.rows.items) (named_in row)
    (ap (option_map named_in) (sym c.in-Ok-Some.field-0-is) ∙ c.in-Ok-Some.ensures)
    (ap (map named_in) push ∙ map-append named_in found (row ∷ []))

-- the end line is that of the rows
pub returns-in-Ok-None-clause-ok : goal.returns-in-Ok-None-clause-ok
returns-in-Ok-None-clause-ok c =
    let found : List Row = c.loop-line.found.items in
    let n : ℕ = c.len-in-Ok-None.result in
    let count : n ≡ length found = search rules in
    let same : c.len.result ≡ n = search rules in
    let none : None ≡ row_behind c.args.query.now n c.in-Some.line.now =
    ap (option_map named_in) (sym c.in-Ok-None.field-0-is) ∙ c.in-Ok-None.ensures
    ∙ ap (λ (m : ℕ). row_behind c.args.query.now m c.in-Some.line.now) same in
    HasRead-all 3 (row_behind c.args.query.now) (report_end c.args.query.now) c.args.text.now (map named_in found) n
    c.loop-line.rest.now c.in-Some.line.now c.in-Some.behind.now c.loop-line.invariant c.in-Some.ensures
    (count ∙ sym (length-map found named_in)) none c.in_ok-read_end-in-Ok-None.ensures.ok

-- or the line is bad
pub returns-in_err-read_end-in-Ok-None-clause-err : goal.returns-in_err-read_end-in-Ok-None-clause-err
returns-in_err-read_end-in-Ok-None-clause-err c =
    let found : List Row = c.loop-line.found.items in
    let n : ℕ = c.len-in-Ok-None.result in
    let count : n ≡ length found = search rules in
    let same : c.len.result ≡ n = search rules in
    let none : None ≡ row_behind c.args.query.now n c.in-Some.line.now =
    ap (option_map named_in) (sym c.in-Ok-None.field-0-is) ∙ c.in-Ok-None.ensures
    ∙ ap (λ (m : ℕ). row_behind c.args.query.now m c.in-Some.line.now) same in
    let bad : IsBadReport (rows_in c.args.query.now 0 (paper_lines c.args.text.now))
    c.in_err-read_end-in-Ok-None.field-0.0 =
    bad_behind (map named_in found) _ _ c.in_err-read_end-in-Ok-None.field-0.0
    (HasRead-line 3 (row_behind c.args.query.now) (report_end c.args.query.now) c.args.text.now (map named_in found) n
    c.loop-line.rest.now c.in-Some.line.now c.in-Some.behind.now c.loop-line.invariant c.in-Some.ensures
    (count ∙ sym (length-map found named_in)) None none) c.in_err-read_end-in-Ok-None.ensures.err in
    search rules
