use Rattle.std.proofs.Common.{◌≡◌, ℕ, ◌+◌, ◌-◌, ◌<◌, List, [], length, take, drop, Option, subst, arith, Some, None}
use Rattle.std.proofs.lemmas.Bool.Decides.{nat_tests}
use Rattle.std.proofs.lemmas.Grind.{common_steps}
use Rattle.memchr.specs.Find.{IsFirstByte, is_byte}
use Rattle.rank_papers.proofs.PaperLines.{cut-at, cut-whole}
use Rattle.rank_papers.proofs.lines.first_line.Goals as goal

-- without a line feed the text is the line
pub returns-in-None : goal.returns-in-None
returns-in-None c =
    let text : List ℕ = c.args.text.now in
    let some : 0 < length text = grind (arith, nat_tests) in
    let none : IsFirstByte (is_byte 10) text None = subst (λ (r : Option ℕ). IsFirstByte (is_byte 10) text r)
    c.in-None.is c.memchr.ensures in
    let rest : take (length text - length text) (drop (length text) text) ≡ [] = grind (arith, common_steps) in
    cut-whole text _ some none rest

-- the first line feed ends the line
pub returns-in-Some : goal.returns-in-Some
returns-in-Some c =
    let text : List ℕ = c.args.text.now in
    let end : ℕ = c.in-Some.end in
    let first : IsFirstByte (is_byte 10) text (Some end) = subst (λ (r : Option ℕ). IsFirstByte (is_byte 10) text
    r) c.in-Some.is c.memchr.ensures in
    let rest : take (length text - (end + 1)) (drop (end + 1) text) ≡ drop (end + 1) text = grind (
      arith,
      common_steps,
    ) in
    cut-at text _ end first rest
