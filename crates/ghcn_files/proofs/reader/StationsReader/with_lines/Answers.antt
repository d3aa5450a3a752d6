use Rattle.std.proofs.Common.{◌+◌, List, length, sym, subst, ◌∙◌}
use Rattle.std.proofs.lemmas.Iterator.Consumers.{YieldsList-from_first, YieldsList-turn, YieldsList-end}
use Rattle.std.proofs.lemmas.List.{length_push}
use Rattle.ghcn_fields.specs.Lines.{numbered_lines}
use Rattle.ghcn_files.specs.declared.station.Station.{Station}
use Rattle.ghcn_files.specs.KeptStations.{AreTaken}
use Rattle.ghcn_files.specs.Listed.{Numbered}
use Rattle.ghcn_files.proofs.Adding.{shows}
use Rattle.ghcn_files.proofs.Following.{follow_lines, refused_after, taken_at_end}
use Rattle.ghcn_files.proofs.Gathered.{HasGathered, none_gathered, past_blank, past_line}
use Rattle.ghcn_files.proofs.reader.StationsReader.with_lines.Goals as goal
use Rattle.ghcn_files.proofs.reader.StationsReader.with_lines.Goals.{
  else-not-branch-via-then-not-branch+else-not-is_blank,
  else-not-branch-via-else-not-branch,
}

-- at first the stations before are held
pub loop-line-init : goal.loop-line-init
loop-line-init c = record {
  can = tt;
  finite = tt;
  read = subst (λ (ss : List Station). HasGathered ss (numbered_lines c.args.text.now) 0 c.self.inside.list.items
      c.self.inside.keys.items) c.self.view_is
      (none_gathered c.self.inside.list.items (numbered_lines c.args.text.now) c.self.inside.keys.items c.self.invariant);
}

-- a line adds its station and its key, or it is blank and changes nothing
pub loop-line-preserved : goal.loop-line-preserved
loop-line-preserved c =
    let all = numbered_lines c.args.text.now in
    let line : Numbered = (c.in-Some.field-0-0, c.in-Some.line.now) in
    let held = c.add.new.list.items in
    let keys = c.add.new.keys.items in
    let given = YieldsList-from_first (λ item. (item.0, item.1.now)) (λ rest. rest) all
    (c.into_iter-line-iterator.ensures.into_iter_gives ∙ c.lines-line-items.ensures) in
    let turn =
    YieldsList-turn given c.loop-line.yielded _ c.loop-line.yielded_by _ _ _ c.in-Some.is c.next.ensures.steps in
    let read : HasGathered c.args.self all (length c.loop-line.yielded + 1) held keys = elim c.else-not-branch.branch [
      | else-not-branch-via-then-not-branch+else-not-is_blank w ↦
          past_blank c.args.self all _ _ held _ keys line turn.0 turn.1 (sym w.is_blank.ensures ∙ w.if-not-is_blank.false)
          (c.in_ok-add.ensures.list w.if-not-branch.true) (c.in_ok-add.ensures.keys w.if-not-branch.true)
          c.loop-line.invariant.read
      | else-not-branch-via-else-not-branch w ↦
          let added = c.in_ok-add.ensures.added w.if-not-branch.false in
          past_line c.args.self all _ _ held _ keys line turn.0 turn.1 (shows line.1 added.right) added
          c.loop-line.invariant.read
    ] in
    record {
      can = tt;
      finite = tt;
      read = subst (λ n. HasGathered c.args.self all n held keys)
          (sym (length_push c.loop-line.yielded (c.in-Some.field-0-0, c.in-Some.line))) read;
    }

-- a line is refused
pub returns-then-not-is_blank-clause-refused : goal.returns-then-not-is_blank-clause-refused
returns-then-not-is_blank-clause-refused c =
    let all = numbered_lines c.args.text.now in
    let line : Numbered = (c.in-Some.field-0-0, c.in-Some.line.now) in
    let given = YieldsList-from_first (λ item. (item.0, item.1.now)) (λ rest. rest) all
    (c.into_iter-line-iterator.ensures.into_iter_gives ∙ c.lines-line-items.ensures) in
    let turn =
    YieldsList-turn given c.loop-line.yielded _ c.loop-line.yielded_by _ _ _ c.in-Some.is c.next.ensures.steps in
    refused_after c.args.self c.args.text.now _ c.loop-line.list.items _ line turn.0 turn.1
    (sym c.is_blank.ensures ∙ c.if-not-is_blank.true) (c.in_ok-add.ensures.refused c.if-not-branch.true)
    c.loop-line.invariant.read

-- at the end of the lines the stations are those before and those of the lines
pub invariant_of-result : goal.invariant_of-result
invariant_of-result c =
    let given = YieldsList-from_first (λ item. (item.0, item.1.now)) (λ rest. rest) (numbered_lines c.args.text.now)
    (c.into_iter-line-iterator.ensures.into_iter_gives ∙ c.lines-line-items.ensures) in
    let end =
    YieldsList-end given c.loop-line.yielded _ c.loop-line.yielded_by _ _ c.in-None.is c.next.ensures.steps in
    taken_at_end c.args.self c.args.text.now (length c.loop-line.yielded) c.loop-line.list.items c.loop-line.keys.items
    c.self.inside.keys.items end.1
    (subst (λ (ss : List Station). AreTaken ss c.self.inside.keys.items) c.self.view_is c.self.invariant)
    c.loop-line.invariant.read

-- and follow those before
pub returns-clause-taken : goal.returns-clause-taken
returns-clause-taken c =
    let given = YieldsList-from_first (λ item. (item.0, item.1.now)) (λ rest. rest) (numbered_lines c.args.text.now)
    (c.into_iter-line-iterator.ensures.into_iter_gives ∙ c.lines-line-items.ensures) in
    let end =
    YieldsList-end given c.loop-line.yielded _ c.loop-line.yielded_by _ _ c.in-None.is c.next.ensures.steps in
    follow_lines c.args.self c.args.text.now (length c.loop-line.yielded) c.loop-line.list.items
    c.loop-line.keys.items end.1 c.loop-line.invariant.read
