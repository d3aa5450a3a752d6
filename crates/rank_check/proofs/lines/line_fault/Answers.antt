use Rattle.std.proofs.Common.{◌≡◌, Some, true, sym, ap, ◌∙◌}
use Rattle.std.specs.Option.{option_map, option_copied}
use Rattle.ghcn_files.specs.Meaning.Ids.{same_id}
use Rattle.rank_check.specs.Survey.{top}
use Rattle.rank_check.proofs.Failing.{no_bound, not_below, not_counted, none_fails_there, counted_there}
use Rattle.rank_check.proofs.lines.line_fault.Goals as goal

-- a candidate is above the bound
pub returns-then-not-is_at_most : goal.returns-then-not-is_at_most
returns-then-not-is_at_most c = λ rows wanted q s e.
    let made : Some c.in-Some.top.now ≡ option_map (top q) s = ap (λ o. option_copied o) (sym c.in-Some.is) ∙ e in
    let named : same_id c.in-Some.top.now.id c.args.line.now.id ≡ true = sym c.eq.ensures ∙ c.if-eq.true in
    ap (λ r. Some r) c.new-then-not-is_at_most.ensures
    ∙ no_bound q c.args.kth rows c.args.number c.args.line.now c.args.count c.in-Some.top.now s made named
    (sym c.is_at_most.ensures ∙ c.if-not-is_at_most.true)

-- a skip isn't below the k-th score
pub returns-then-not-may_stand : goal.returns-then-not-may_stand
returns-then-not-may_stand c = λ rows wanted q s e.
    let made : Some c.in-Some.top.now ≡ option_map (top q) s = ap (λ o. option_copied o) (sym c.in-Some.is) ∙ e in
    let named : same_id c.in-Some.top.now.id c.args.line.now.id ≡ true = sym c.eq.ensures ∙ c.if-eq.true in
    ap (λ r. Some r) c.new-then-not-may_stand.ensures
    ∙ not_below q c.args.kth rows c.args.number c.args.line.now c.args.count c.in-Some.top.now s made named
    (sym c.is_at_most.ensures ∙ c.if-not-is_at_most.false) (sym c.may_stand.ensures ∙ c.if-not-may_stand.true)

-- a count is wrong
pub returns-then-not-is_counted : goal.returns-then-not-is_counted
returns-then-not-is_counted c = λ rows wanted q s e.
    let made : Some c.in-Some.top.now ≡ option_map (top q) s = ap (λ o. option_copied o) (sym c.in-Some.is) ∙ e in
    let named : same_id c.in-Some.top.now.id c.args.line.now.id ≡ true = sym c.eq.ensures ∙ c.if-eq.true in
    ap (λ r. Some r) c.new-then-not-is_counted.ensures
    ∙ not_counted q c.args.kth rows c.args.number c.args.line.now c.args.count
    c.in-Some.top.now s made named (sym c.is_at_most.ensures ∙ c.if-not-is_at_most.false)
    (sym c.may_stand.ensures ∙ c.if-not-may_stand.false)
    (counted_there rows c.args.line.now c.args.wanted c.args.count wanted
    ∙ sym c.is_counted.ensures ∙ c.if-not-is_counted.true)

-- no test fails
pub returns : goal.returns
returns c = λ rows wanted q s e.
    let made : Some c.in-Some.top.now ≡ option_map (top q) s = ap (λ o. option_copied o) (sym c.in-Some.is) ∙ e in
    let named : same_id c.in-Some.top.now.id c.args.line.now.id ≡ true = sym c.eq.ensures ∙ c.if-eq.true in
    none_fails_there q c.args.kth rows c.args.number c.args.line.now c.args.count c.in-Some.top.now s made named
    (sym c.is_at_most.ensures ∙ c.if-not-is_at_most.false) (sym c.may_stand.ensures ∙ c.if-not-may_stand.false)
    (counted_there rows c.args.line.now c.args.wanted c.args.count wanted
    ∙ sym c.is_counted.ensures ∙ c.if-not-is_counted.false)
