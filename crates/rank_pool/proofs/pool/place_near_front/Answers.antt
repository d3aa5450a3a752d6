use Rattle.std.proofs.Common.{◌≡◌, ◌+◌, ◌<◌, ◌≤◌, List, length, get_or, arith, ap, sym, ◌∙◌, subst}
use Rattle.std.specs.Ordering.{is_lt}
use Rattle.std.proofs.lemmas.List.{get_or_default}
use Rattle.rank_scores.specs.Order.{full_cmp}
use Rattle.rank_scores.specs.declared.candidate.Candidate.{Candidate}
use Rattle.rank_pool.proofs.Searches.{IsBetween, between_first, between_high, between_low, between_placed}
use Rattle.rank_pool.proofs.pool.place_near_front.Goals as goal

-- its place is after the first one
pub loop-low-init : goal.loop-low-init
loop-low-init c =
    let held : List Candidate = c.args.held.now.items in
    let many : c.len-high.result ≡ length held = c.len-high.ensures ∙ c.args.held.now.ok.0 in
    record {
      between = subst (IsBetween c.args.candidate.now held 1) (sym many)
          (between_first c.args.candidate.now held c.requires.behind);
      some = omega arith;
    }

-- the one in the middle is listed before it
pub loop-low-preserved-then-lt : goal.loop-low-preserved-then-lt
loop-low-preserved-then-lt c =
    let held : List Candidate = c.args.held.now.items in
    let x : Candidate = c.args.candidate.now in
    let middle = c.loop-low.low + c.min.result in
    let above : c.loop-low.low ≤ middle = omega arith in
    let below : middle < c.loop-low.high = omega (arith, c.min.ensures, c.loop-low-test.true) in
    let within : middle < length held = omega (arith, below, c.loop-low.invariant.between.within) in
    let there : c.index.result.now ≡ get_or held middle x =
    c.index.ensures ∙ get_or_default held middle c.index.result.now x within in
    let listed = ap (λ (y : Candidate). is_lt (full_cmp y x)) (sym there) ∙ sym c.lt.ensures ∙ c.if-lt.true in
    record {
      between = between_high x held c.requires.order c.loop-low.low middle c.loop-low.high
          c.loop-low.invariant.between above below listed;
      some = omega arith;
    }

-- or isn't
pub loop-low-preserved : goal.loop-low-preserved
loop-low-preserved c =
    let held : List Candidate = c.args.held.now.items in
    let x : Candidate = c.args.candidate.now in
    let middle = c.loop-low.low + c.min.result in
    let above : c.loop-low.low ≤ middle = omega arith in
    let below : middle < c.loop-low.high = omega (arith, c.min.ensures, c.loop-low-test.true) in
    let within : middle < length held = omega (arith, below, c.loop-low.invariant.between.within) in
    let there : c.index.result.now ≡ get_or held middle x =
    c.index.ensures ∙ get_or_default held middle c.index.result.now x within in
    let listed = ap (λ (y : Candidate). is_lt (full_cmp y x)) (sym there) ∙ sym c.lt.ensures ∙ c.if-lt.false in
    record {
      between = between_low x held c.requires.order c.loop-low.low middle c.loop-low.high
          c.loop-low.invariant.between above below listed;
      some = c.loop-low.invariant.some;
    }

-- both places are one
pub returns-clause-placed : goal.returns-clause-placed
returns-clause-placed c =
    between_placed c.args.candidate.now c.args.held.now.items c.loop-low.low c.loop-low.high
    c.loop-low.invariant.between c.loop-low-test.false
