use Rattle.std.proofs.Common.{◌≡◌, List, true, false, sym, ap, ◌∙◌, arith, ◌+◌}
use Rattle.std.specs.Prelude.{slice_get}
use Rattle.std.specs.Option.{is_some}
use Rattle.std.proofs.lemmas.Option.{slice_get-map}
use Rattle.rank_scores.specs.Morsels.{morsels}
use Rattle.rank_check.specs.declared.survey.Top.{Top}
use Rattle.rank_check.specs.Survey.{top}
use Rattle.rank_check.specs.Tests.{entry_tests}
use Rattle.rank_check.proofs.Failing.{line_there, fault_here, none_here}
use Rattle.rank_check.proofs.lines.lines_fault.Goals as goal

-- the first line with a test that fails
pub returns-then-is_some : goal.returns-then-is_some
returns-then-is_some c = λ rows wanted q dataset tops.
    let place = c.loop-place.place in
    let said = c.fault_at-fault.ensures rows wanted q (slice_get (morsels q dataset) place)
    (c.top_at.ensures ∙ ap (λ (l : List Top). slice_get l place) tops ∙ slice_get-map (top q) (morsels q dataset) place)
    in
    let there = line_there q dataset c.args.kth rows c.args.counts.now c.args.lines.now place c.fault_at-fault.result
    said in
    let some : is_some c.fault_at-fault.result ≡ true = sym c.is_some.ensures ∙ c.if-is_some.true in
    fault_here (entry_tests q dataset c.args.kth rows c.args.counts.now) 1 c.args.lines.now place (place + 1) there.0
    c.fault_at-fault.result (omega arith) some there.1 (c.loop-place.invariant rows wanted q dataset tops) there.2

-- one line more whose tests pass
pub loop-place-preserved : goal.loop-place-preserved
loop-place-preserved c = λ rows wanted q dataset tops.
    let place = c.loop-place.place in
    let said = c.fault_at-fault.ensures rows wanted q (slice_get (morsels q dataset) place)
    (c.top_at.ensures ∙ ap (λ (l : List Top). slice_get l place) tops ∙ slice_get-map (top q) (morsels q dataset) place)
    in
    let there = line_there q dataset c.args.kth rows c.args.counts.now c.args.lines.now place c.fault_at-fault.result
    said in
    let none : is_some c.fault_at-fault.result ≡ false = sym c.is_some.ensures ∙ c.if-is_some.false in
    none_here (entry_tests q dataset c.args.kth rows c.args.counts.now) 1 c.args.lines.now place (place + 1) there.0
    c.fault_at-fault.result (omega arith) none there.1 (c.loop-place.invariant rows wanted q dataset tops) there.2
