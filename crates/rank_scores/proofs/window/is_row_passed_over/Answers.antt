use Rattle.std.proofs.Common.{FitsSigned, w64, arith, rules, sym, subst, ◌+ℤ◌, ◌≤ℤ◌, ◌<ℤ◌, to_z-of_z}
use Rattle.std.proofs.lemmas.Int.{ints}
use Rattle.rank_scores.specs.Windows.{sum}
use Rattle.rank_scores.proofs.Rising.{from_each}
use Rattle.rank_scores.proofs.window.is_row_passed_over.Goals as goal

-- no window reaches the floor, and the number is that of the windows
pub returns-clause-passed : goal.returns-clause-passed
returns-clause-passed g c is windows low many =
    let near : FitsSigned w64 c.in-Some.floor = search rules in
    let total = c.args.window.now.total +ℤ sum c.args.values.now in
    let small : FitsSigned w64 (sum c.args.values.now) = rw (← c.sum_of.ensures) (search rules) in
    let own : FitsSigned w64 c.args.window.now.total = search rules in
    let test = rw (to_z-of_z near, c.sum_of.ensures, to_z-of_z small, to_z-of_z own, to_z-of_z c.requires.total)
    at c.if-window-sum_of.false in
    let under : total <ℤ c.in-Some.floor = grind (arith, ints) in
    c.pass_over.ensures windows (rw (to_z-of_z near) (from_each (λ x. x.score ≤ℤ total) (λ x. x.score <ℤ c.in-Some.floor)
    windows (λ x l. omega (arith, ints, l, under)) low)) (omega (arith, many))

-- the floor is the sink's
pub pass_over-requires : goal.pass_over-requires
pass_over-requires g c =
    let near : FitsSigned w64 c.in-Some.floor = search rules in
    subst (g.S.FloorSink.is_floor c.args.sink.now) (sym (to_z-of_z near)) c.in-Some.ensures
