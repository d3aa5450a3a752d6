use Rattle.std.proofs.Common.{ℕ, ◌++◌, ◌+◌, ◌<◌, ◌≤◌, ◌^◌, List, length, map, sym, ap, subst, ◌∙◌, arith}
use Rattle.std.specs.List.{All}
use Rattle.ghcn_files.specs.declared.station.Station.{Station}
use Rattle.ghcn_files.specs.KeptStations.{later}
use Rattle.ghcn_files.proofs.JoinedKeys.{low_keys, ordered_both, parts_joined, stay_apart}
use Rattle.ghcn_files.proofs.Together.{list_together}
use Rattle.ghcn_files.proofs.kept.KeptStations.join.Goals as goal

-- each key of the next list can be put later
pub add_keys-requires : goal.add_keys-requires
add_keys-requires c =
    let next = c.next.inside in
    subst (All (λ (key : ℕ × ℕ × ℕ). key.2 + c.len-count.result < 2 ^ 32)) (sym c.deref.ensures.value)
    (low_keys (next.list.items ++ next.rest.items) next.keys.items c.len-count.result c.next.invariant.list
    c.next.invariant.own (omega (arith, c.len-count.ensures.number, c.len-count.ensures.listed.few)))

-- an ID is in both lists
pub returns-then-not-put_in_order-clause-apart : goal.returns-then-not-put_in_order-clause-apart
returns-then-not-put_in_order-clause-apart c =
    let first = c.self.inside in
    let next = c.next.inside in
    let few : length c.args.self + length c.args.next ≤ 2 ^ 20 =
    omega (arith, c.len-count.ensures.number, c.len-others.ensures.number) in
    stay_apart c.args.self c.args.next (first.list.items ++ first.rest.items) (next.list.items ++ next.rest.items)
    first.keys.items next.keys.items c.add_keys.new.keys.items c.len-count.result c.self.view_is c.next.view_is
    c.self.invariant c.next.invariant few c.len-count.ensures.number
    (c.in_ok-add_keys.ensures
    ∙ ap (λ (ks : List (ℕ × ℕ × ℕ)). first.keys.items ++ map (later c.len-count.result) ks) c.deref.ensures.value)
    (c.put_in_order.ensures.fall c.if-not-put_in_order.true)

-- the keys of both lists are in order
pub invariant_of-result : goal.invariant_of-result
invariant_of-result c =
    let first = c.self.inside in
    let next = c.next.inside in
    let few : length c.args.self + length c.args.next ≤ 2 ^ 20 =
    omega (arith, c.len-count.ensures.number, c.len-others.ensures.number) in
    ordered_both (first.list.items ++ first.rest.items) (next.list.items ++ next.rest.items)
    (first.list.items ++ c.in_ok-rest.rest.items) first.keys.items next.keys.items c.add_keys.new.keys.items
    c.put_in_order.new.keys.items c.self.invariant c.next.invariant
    (omega (arith, few, ap length c.self.view_is, ap length c.next.view_is))
    (c.in_ok-add_keys.ensures
    ∙ ap (λ (ks : List (ℕ × ℕ × ℕ)). first.keys.items ++ map (later c.len-count.result) ks) c.deref.ensures.value
    ∙ ap (λ (n : ℕ). first.keys.items ++ map (later n) next.keys.items)
    (c.len-count.ensures.number ∙ ap length (sym c.self.view_is)))
    c.put_in_order.ensures.same (c.put_in_order.ensures.rise c.if-not-put_in_order.false)
    (parts_joined first.list.items first.rest.items next.list.items next.rest.items c.in_ok-more.more.items
    c.in_ok-rest.rest.items c.in_ok-more.ensures c.in_ok-rest.ensures)

-- they are the stations of the first list and then those of the next
pub returns-clause-joined : goal.returns-clause-joined
returns-clause-joined c =
    let first = c.self.inside in
    let next = c.next.inside in
    parts_joined first.list.items first.rest.items next.list.items next.rest.items c.in_ok-more.more.items
    c.in_ok-rest.rest.items c.in_ok-more.ensures c.in_ok-rest.ensures
    ∙ ap (λ (ss : List Station). ss ++ (next.list.items ++ next.rest.items)) c.self.view_is
    ∙ ap (λ (ss : List Station). c.args.self ++ ss) c.next.view_is

-- and those of both texts, whatever texts the lists are of
pub returns-clause-together : goal.returns-clause-together
returns-clause-together c =
    let first = c.self.inside in
    let next = c.next.inside in
    let few : length c.args.self + length c.args.next ≤ 2 ^ 20 =
    omega (arith, c.len-count.ensures.number, c.len-others.ensures.number) in
    let ordered = ordered_both (first.list.items ++ first.rest.items) (next.list.items ++ next.rest.items)
    (first.list.items ++ c.in_ok-rest.rest.items) first.keys.items next.keys.items c.add_keys.new.keys.items
    c.put_in_order.new.keys.items c.self.invariant c.next.invariant
    (omega (arith, few, ap length c.self.view_is, ap length c.next.view_is))
    (c.in_ok-add_keys.ensures
    ∙ ap (λ (ks : List (ℕ × ℕ × ℕ)). first.keys.items ++ map (later c.len-count.result) ks) c.deref.ensures.value
    ∙ ap (λ (n : ℕ). first.keys.items ++ map (later n) next.keys.items)
    (c.len-count.ensures.number ∙ ap length (sym c.self.view_is)))
    c.put_in_order.ensures.same (c.put_in_order.ensures.rise c.if-not-put_in_order.false)
    (parts_joined first.list.items first.rest.items next.list.items next.rest.items c.in_ok-more.more.items
    c.in_ok-rest.rest.items c.in_ok-more.ensures c.in_ok-rest.ensures) in
    list_together c.args.self c.args.next (first.list.items ++ c.in_ok-rest.rest.items) (returns-clause-joined c)
    ordered.list
