use Rattle.ghcn_series.proofs.Cited.{◌≡◌, List, ℕ, ℤ, pos, get_or, length, sym, arith, rules, w32, to_z-of_z}
use Rattle.std.proofs.lemmas.List.FromFn.{map-range_with_len_more}
use Rattle.ghcn_series.proofs.PartsInOrder.{sorted-by_number}
use Rattle.ghcn_series.proofs.parts.by_number.Goals as goal

-- one number more is there with its place
pub loop-place-preserved : goal.loop-place-preserved
loop-place-preserved c =
    let ns : List ℤ = c.args.numbers.now in let i : ℕ = c.loop-place.place in
    rw (c.in_ok-push.ensures.items, to_z-of_z w32 (get_or ns i (pos 0)) (search rules), c.loop-place.invariant)
    (sym (map-range_with_len_more (λ k. (get_or ns k (pos 0), k)) 0 i i (omega arith)))

-- all of them are sorted
pub returns : goal.returns
returns c =
    let ns : List ℤ = c.args.numbers.now in
    let all : c.loop-place.place ≡ length ns = omega (arith, c.loop-place-test.false, c.loop-place.auto.place-end) in
    sorted-by_number ns c.loop-place.order.items c.sort_unstable.new.self.items (rw all at c.loop-place.invariant)
    c.sort_unstable.ensures.permutation c.sort_unstable.ensures.sorted
