use Rattle.std.proofs.Common.{List, ℕ, Option, subst}
use Rattle.memchr.specs.Find.{IsFirstByte, is_byte}
use Rattle.rank_papers.proofs.ReportFields.{first_word-at, first_word-whole}
use Rattle.rank_papers.proofs.report_lines.first_word.Goals as goal

-- without a blank the text is the word
pub returns-in-None : goal.returns-in-None
returns-in-None c =
    let text : List ℕ = c.args.text.now in
    first_word-whole text
    (subst (λ (r : Option ℕ). IsFirstByte (is_byte 32) text r) c.in-None.is c.memchr.ensures)

-- the first blank ends the word
pub returns-in-Some : goal.returns-in-Some
returns-in-Some c =
    let text : List ℕ = c.args.text.now in
    first_word-at text c.in-Some.end
    (subst (λ (r : Option ℕ). IsFirstByte (is_byte 32) text r) c.in-Some.is c.memchr.ensures)
