use Rattle.std.proofs.Common.{◌≡◌, Bool, List, length, ap₂, arith, ◌∙◌}
use Rattle.std.specs.Prelude.{◌||◌}
use lib.Lanes.{zip2}
use Rattle.std.proofs.lemmas.List.{with_items_is}
use Rattle.ghcn_description.proofs.JoinedLines.{described-joined, described-apart}
use Rattle.ghcn_description.proofs.describer.Describer.join.Goals as goal

-- a listed station has months in both
pub returns-in_default-clause-apart : goal.returns-in_default-clause-apart
returns-in_default-clause-apart c =
    described-apart c.args.self c.args.next (rw c.in_default.is at c.in_ok-reader.ensures.apart)

-- or the lines of both are counted
pub returns-clause-joined : goal.returns-clause-joined
returns-clause-joined c =
    let news : List (List Bool) = c.join_marks.new.marks in
    let long : length news ≡ c.args.self.with_days.len =
    omega (arith, c.join_marks.auto.marks, c.deref_mut.ensures.len) in
    let marks = with_items_is c.args.self.with_days news long ∙ c.join_marks.ensures
    ∙ ap₂ (zip2 (zip2 ◌||◌)) c.deref_mut.ensures.value c.deref.ensures.value in
    described-joined c.args.self c.args.next _ (rw c.in-Some.is at c.in_ok-reader.ensures.joined) marks
    c.in_ok-join_counts.ensures c.in_ok-join.ensures c.in_ok-sum.ensures
