use Rattle.std.proofs.Common.{rules, ◌≡◌, ◌++◌, ◌∷◌, [], Some, List, ℕ, refl}
use Rattle.rank_papers.specs.declared.counted.Counted.{Counted}
use Rattle.rank_papers.specs.Meaning.Certificate.{end_line}
use Rattle.rank_papers.specs.CertificateLines.{entry_in}
use Rattle.rank_papers.specs.Lines.{IsFirstLineCut}
use Rattle.rank_papers.proofs.LinesRead.{HasRead-more}
use Rattle.rank_papers.proofs.certificate_lines.read_lines.Goals as goal

-- one entry more
pub loop-line-preserved : goal.loop-line-preserved
loop-line-preserved c =
    let line : List ℕ = c.in-Some.line.now in
    let behind : List ℕ = c.in-Some.behind.now in
    let e : Counted = c.in-Some-2.entry in
    let cut : IsFirstLineCut c.loop-line.rest.now (Some (line, behind)) = search rules in
    let is : Some e ≡ entry_in c.args.version line = search rules in
    let push : c.add.new.lines.items ≡ c.loop-line.found.items ++ e ∷ [] = search rules in
    HasRead-more 4 (λ n. entry_in c.args.version) end_line c.args.text.now c.loop-line.found.items _
    c.loop-line.rest.now line behind c.loop-line.invariant cut refl c.add.new.lines.items e is push
