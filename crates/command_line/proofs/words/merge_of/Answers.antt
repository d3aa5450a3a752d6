use Rattle.std.proofs.Common.{◌≡◌, ◌∙◌, map, [], refl, codes}
use Rattle.clap.specs.Words.{found_of, rows_of}
use Rattle.clap.proofs.WalkLemmas.{first_value-rows, raw_values-rows}
use Rattle.command_line.specs.Fitting.{papers_to_merge}
use Rattle.command_line.proofs.CommandLines.{read_or, lent-pairs}
use Rattle.command_line.proofs.words.merge_of.Goals as goal

-- reports and certificates that come in pairs aren't odd in number
pub returns-then-papers-ne0-clause-paired : goal.returns-then-papers-ne0-clause-paired
returns-then-papers-ne0-clause-paired c = let f = found_of c.args.matches.now in
    let same : map (λ s. s.now) c.unwrap_or-papers.result.now ≡ papers_to_merge (rows_of f)
    = read_or (λ s. map (λ v. v.now) s.now) _ _ _ _ [] c.unwrap_or-papers.ensures
    (c.get_strs.ensures ∙ raw_values-rows f (codes "papers")) refl in
    λ pairs. absurd (c.if-papers-ne0.true (lent-pairs _ (rows_of f) same pairs))

-- each field is what the matches have under its name
pub returns-clause-ok : goal.returns-clause-ok
returns-clause-ok c = let f = found_of c.args.matches.now in (
  c.in_ok-text.ensures,
  c.in_ok-copy.ensures ∙ c.get_str.ensures ∙ first_value-rows f (codes "certificate"),
  c.in_ok-parts.ensures ∙ read_or (λ s. map (λ v. v.now) s.now) _ _ _ _ [] c.unwrap_or-papers.ensures
      (c.get_strs.ensures ∙ raw_values-rows f (codes "papers")) refl,
)
