use Rattle.std.proofs.Common.{length, sym, subst, ◌∙◌}
use Rattle.std.specs.Prelude.{IfErr}
use Rattle.std.proofs.lemmas.Iterator.Consumers.{YieldsList-from_first, YieldsList-turn, YieldsList-end}
use Rattle.std.proofs.lemmas.List.{length_push}
use Rattle.ghcn_fields.specs.Lines.{numbered_lines}
use Rattle.ghcn_fields.specs.Refusals.{IsRefusal}
use Rattle.ghcn_files.specs.Listed.{listed, is_memory, IsFirstRefusal}
use Rattle.ghcn_files.proofs.Adding.{nothing_kept}
use Rattle.ghcn_files.proofs.Errors.{err_given}
use Rattle.ghcn_files.proofs.ReadLines.{HasRead, past_blank, past_line, at_end, ends_by}
use Rattle.ghcn_files.proofs.listing.Listing.read.Goals as goal

-- nothing is kept at first
pub invariant_of-listing : goal.invariant_of-listing
invariant_of-listing c =
    nothing_kept c.new.result.items c.new-2.result.entries c.new.ensures.items c.new-2.ensures.empty

-- a blank line changes nothing
pub loop-number-preserved : goal.loop-number-preserved
loop-number-preserved c =
    let given = YieldsList-from_first (λ item. (item.0, item.1.now)) (λ rest. rest) (numbered_lines c.args.text.now)
    (c.into_iter-number-iterator.ensures.into_iter_gives ∙ c.lines-number-items.ensures) in
    let turn =
    YieldsList-turn given c.loop-number.yielded _ c.loop-number.yielded_by _ _ _ c.in-Some.is c.next.ensures.steps in
    let read = past_blank _ _ _ (c.in-Some.number, c.in-Some.line.now) turn.0 turn.1
    (sym c.is_blank.ensures ∙ c.if-not-is_blank.false) c.loop-number.invariant.read in
    record {
      can = tt;
      finite = tt;
      read = subst (λ n. HasRead (numbered_lines c.args.text.now) n c.loop-number.listing)
          (sym (length_push c.loop-number.yielded (c.in-Some.number, c.in-Some.line))) read;
    }

-- any other line adds its station
pub loop-number-preserved-in-Continue-1 : goal.loop-number-preserved-in-Continue-1
loop-number-preserved-in-Continue-1 c =
    let given = YieldsList-from_first (λ item. (item.0, item.1.now)) (λ rest. rest) (numbered_lines c.args.text.now)
    (c.into_iter-number-iterator.ensures.into_iter_gives ∙ c.lines-number-items.ensures) in
    let turn =
    YieldsList-turn given c.loop-number.yielded _ c.loop-number.yielded_by _ _ _ c.in-Some.is c.next.ensures.steps in
    let read = past_line _ _ _ c.add.new.self (c.in-Some.number, c.in-Some.line.now) turn.0 turn.1
    (sym c.is_blank.ensures ∙ c.if-not-is_blank.true) c.in_ok-add.ensures.ok c.loop-number.invariant.read in
    record {
      can = tt;
      finite = tt;
      read = subst (λ n. HasRead (numbered_lines c.args.text.now) n c.add.new.self)
          (sym (length_push c.loop-number.yielded (c.in-Some.number, c.in-Some.line))) read;
    }

-- a line that is refused is the text's error
pub returns-in_err-add-clause-err : goal.returns-in_err-add-clause-err
returns-in_err-add-clause-err c =
    let text = c.args.text.now in
    let given = YieldsList-from_first (λ item. (item.0, item.1.now)) (λ rest. rest) (numbered_lines text)
    (c.into_iter-number-iterator.ensures.into_iter_gives ∙ c.lines-number-items.ensures) in
    let turn =
    YieldsList-turn given c.loop-number.yielded _ c.loop-number.yielded_by _ _ _ c.in-Some.is c.next.ensures.steps in
    let ends = ends_by text _ _ (c.in-Some.number, c.in-Some.line.now) c.in_err-add.field-0.0 turn.0 turn.1
    (sym c.is_blank.ensures ∙ c.if-not-is_blank.true) c.in_err-add.ensures.err c.loop-number.invariant.read in
    subst (λ r. IfErr r (λ fault. IsRefusal is_memory fault (listed text)))
    (sym (err_given _ _ c.from_residual.ensures.1)) ends.0

-- and the first of them
pub returns-in_err-add-clause-first : goal.returns-in_err-add-clause-first
returns-in_err-add-clause-first c =
    let text = c.args.text.now in
    let given = YieldsList-from_first (λ item. (item.0, item.1.now)) (λ rest. rest) (numbered_lines text)
    (c.into_iter-number-iterator.ensures.into_iter_gives ∙ c.lines-number-items.ensures) in
    let turn =
    YieldsList-turn given c.loop-number.yielded _ c.loop-number.yielded_by _ _ _ c.in-Some.is c.next.ensures.steps in
    let ends = ends_by text _ _ (c.in-Some.number, c.in-Some.line.now) c.in_err-add.field-0.0 turn.0 turn.1
    (sym c.is_blank.ensures ∙ c.if-not-is_blank.true) c.in_err-add.ensures.err c.loop-number.invariant.read in
    subst (λ r. IfErr r (λ fault. IsFirstRefusal fault text)) (sym (err_given _ _ c.from_residual.ensures.1)) ends.1

-- at the end of the lines all stations are held
pub returns-clause-ok : goal.returns-clause-ok
returns-clause-ok c =
    let given = YieldsList-from_first (λ item. (item.0, item.1.now)) (λ rest. rest) (numbered_lines c.args.text.now)
    (c.into_iter-number-iterator.ensures.into_iter_gives ∙ c.lines-number-items.ensures) in
    let end =
    YieldsList-end given c.loop-number.yielded _ c.loop-number.yielded_by _ _ c.in-None.is c.next.ensures.steps in
    at_end c.args.text.now (length c.loop-number.yielded) c.loop-number.listing end.1 c.loop-number.invariant.read
