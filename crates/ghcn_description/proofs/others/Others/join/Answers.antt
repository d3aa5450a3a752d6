use Rattle.std.proofs.Common.{◌≡◌, ℕ, ◌+◌, ◌<◌, Ok, Err, List, [], length, take, sym, ap, subst, arith, get_or}
use Rattle.std.specs.Prelude.{OnOk}
use Rattle.std.specs.List.{sum_by}
use Rattle.std.proofs.lemmas.List.{take_all}
use Rattle.ghcn_description.specs.declared.counts.CodeCount.{CodeCount}
use Rattle.ghcn_description.specs.Described.{CountSmallest, lines_for}
use Rattle.ghcn_description.specs.Steps.{CountsCode, JoinsCodes}
use Rattle.ghcn_description.proofs.JoinedCodes.{HasCounted, counted-none, counted-more, joined}
use Rattle.ghcn_description.proofs.others.Others.join.Goals as goal

-- before the first code
pub loop-count-init : goal.loop-count-init
loop-count-init c = λ f all is. counted-none f all c.args.self.now is

-- some lines were counted
pub add-requires-clause-counted : goal.add-requires-clause-counted
add-requires-clause-counted c =
    let now : List CodeCount = take c.loop-count.count-index c.args.next.now.counts.items in
    let f : List ℕ → ℕ = c.requires.counted.0 in
    let all : ℕ = c.requires.counted.1 in (
      (λ k. f k + lines_for now k),
      all + sum_by (λ (e : CodeCount). e.lines) now,
      c.loop-count.invariant f all c.requires.counted.2,
    )

-- the lines of one code more are counted
pub loop-count-preserved : goal.loop-count-preserved
loop-count-preserved c = λ f all is.
    let items : List CodeCount = c.args.next.now.counts.items in
    let i : ℕ = c.loop-count.count-index in
    let none : CodeCount = record { code = []; lines = 0 } in
    let value = c.deref-count-items.ensures.value in
    let adds = subst (λ (ds : List CodeCount). CountsCode c.loop-count.self c.add.new.self (get_or ds i none).code
    (get_or ds i none).lines) value c.in_ok-add.ensures in
    let lt : i < length items = omega (arith, c.loop-count-test.true, ap length value) in
    counted-more f all items i none c.loop-count.self c.add.new.self lt adds (c.loop-count.invariant f all is)

-- and the further ones
pub returns : goal.returns
returns c =
    let items : List CodeCount = c.args.next.now.counts.items in
    let n : ℕ = c.loop-count.self.further in
    let m : ℕ = c.args.next.now.further in
    let same = c.pass_over.ensures.counts in
    let whole : take c.loop-count.count-index items ≡ items =
    take_all c.loop-count.count-index items
    (omega (arith, c.loop-count-test.false, ap length c.deref-count-items.ensures.value)) in
    let step : c.pass_over.new.self.further ≡ n + m → JoinsCodes c.args.self.now c.args.next.now c.pass_over.new.self =
    λ further. record {
      holds = λ f g all more is of.
          let counted = subst (λ ds. HasCounted f all ds c.loop-count.self) whole (c.loop-count.invariant f all is) in
          subst (λ k. CountSmallest (λ code. f code + g code) (all + more) c.pass_over.new.self.counts.items k)
          (sym further)
          (subst (λ v. CountSmallest (λ code. f code + g code) (all + more) v.items (n + m)) (sym same)
          (joined f g all more c.loop-count.self.counts.items items n m counted of));
    } in
    elim c.pass_over.result as
    (λ r. OnOk r (c.pass_over.new.self.further ≡ n + m)
    → OnOk r (JoinsCodes c.args.self.now c.args.next.now c.pass_over.new.self)) [
      | Ok u ↦ step
      | Err e ↦ λ h. tt
    ] c.pass_over.ensures.further
