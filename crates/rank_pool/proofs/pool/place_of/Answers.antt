use Rattle.std.proofs.Common.{◌≡◌, ◌≤◌, ◌-◌, List, length, get_or, rules, arith, ap, sym, ◌∙◌}
use Rattle.std.specs.Ordering.{is_lt}
use Rattle.std.proofs.lemmas.List.Sorted.{IsPartitionPoint-from_clause}
use Rattle.rank_scores.specs.Order.{full_cmp}
use Rattle.rank_scores.specs.declared.candidate.Candidate.{Candidate}
use Rattle.rank_pool.specs.First.{comes_first}
use Rattle.rank_pool.proofs.Searches.{placed_at, placed-last, before-parts, listed, not_listed}
use Rattle.rank_pool.proofs.pool.place_of.Goals as goal

-- all of them are listed before the candidate
pub returns-then-lt-clause-placed : goal.returns-then-lt-clause-placed
returns-then-lt-clause-placed c =
    let held : List Candidate = c.args.held.now.items in
    let x : Candidate = c.args.candidate.now in
    let last : c.in-Some-Some.last.now ≡ get_or held (length held - 1) x =
    c.in-Some-Some.ensures'.item.4 (omega arith) x ∙ ap (λ n. get_or held (n - 1) x) c.args.held.now.ok.0 in
    placed-last x held c.len.result c.requires (c.len.ensures
    ∙ c.args.held.now.ok.0) (ap (λ y. is_lt (full_cmp y x)) (sym last) ∙ sym c.lt.ensures ∙ c.if-lt.true)

-- those before the place are listed before the candidate, and the others aren't
pub returns-else-candidate-best-clause-placed : goal.returns-else-candidate-best-clause-placed
returns-else-candidate-best-clause-placed c =
    let held : List Candidate = c.args.held.now.items in
    let x : Candidate = c.args.candidate.now in
    let many : c.partition_point.result ≤ length held = omega
    (arith, c.partition_point.ensures.bound, c.args.held.now.ok.0) in
    let point = IsPartitionPoint-from_clause
    (λ y. is_lt (full_cmp y x)) held c.partition_point.result c.partition_point.ensures.partitioned
    (before-parts x held c.requires) (λ a r q k. search rules) in
    placed_at x held c.partition_point.result many
    (λ k h. listed (get_or held k x) x (point.0 k x (omega arith) h))
    (λ h. not_listed (get_or held c.partition_point.result x) x
    (point.1 c.partition_point.result x (omega arith) h))

-- the best one is listed before a candidate that isn't its equal nor before it
pub place_near_front-requires-clause-behind : goal.place_near_front-requires-clause-behind
place_near_front-requires-clause-behind c =
    let held : List Candidate = c.args.held.now.items in
    let x : Candidate = c.args.candidate.now in
    let best : c.in-Some-Some.best.now ≡ get_or held 0 x = c.in-Some-Some.ensures.item.4 (omega arith) x in
    ap (λ (y : Candidate). comes_first x y) (sym best) ∙ sym c.le.ensures ∙ c.if-le.false
