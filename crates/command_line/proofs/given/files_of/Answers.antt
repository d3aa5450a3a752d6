use Rattle.std.proofs.Common.{◌∙◌, map, [], refl, sym, ap, not, codes, true≢false}
use Rattle.clap.specs.Words.{found_of}
use Rattle.clap.proofs.WalkLemmas.{first_value-rows, raw_values-rows}
use Rattle.command_line.proofs.CommandLines.{read_or, mapped_some, read_some}
use Rattle.command_line.proofs.given.files_of.Goals as goal
use Rattle.command_line.proofs.given.files_of.Goals.{else-null-via-then-null+else-is_none, else-null-via-else-null}

-- a list that has to be there with `--null` isn't missing
pub returns-then-is_none-clause-listed : goal.returns-then-is_none-clause-listed
returns-then-is_none-clause-listed c = λ has.
    let there = read_some _ c.get_str-list.result _
    (c.get_str-list.ensures ∙ first_value-rows (found_of c.args.matches.now) (codes "files-from"))
    (has (c.is_given-null.ensures.0 c.if-null.true)) in
    absurd (true≢false (sym there ∙ c.is_none.ensures ∙ ap not c.if-is_none.true))

-- each field is what the matches have under its name
pub returns-clause-ok : goal.returns-clause-ok
returns-clause-ok c = let f = found_of c.args.matches.now in record {
  paths = c.in_ok-copies.ensures ∙ read_or (λ s. map (λ v. v.now) s.now) _ _ _ _ [] c.unwrap_or.ensures
      (c.get_strs.ensures ∙ raw_values-rows f (codes "files")) refl;
  list = c.in_ok-copy.ensures ∙ c.get_str-list.ensures ∙ first_value-rows f (codes "files-from");
  null = c.is_given-null.ensures;
  listed = λ given. elim c.else-null.branch [
    | else-null-via-then-null+else-is_none w ↦ mapped_some _ _ c.get_str-list.result _ (sym c.in_ok-copy.ensures)
        (w.is_none.ensures ∙ ap not w.if-is_none.false)
    | else-null-via-else-null w ↦ absurd (true≢false (sym given ∙ w.if-null.false))
  ];
  progress = c.is_given.ensures;
}
