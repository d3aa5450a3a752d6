use Rattle.std.proofs.Common.{◌≡◌, ◌<◌, ℕ, List, length, map, sym, ap, ◌∙◌, arith, rules, tests, ◌==◌}
use Rattle.std.specs.Prelude.{filter}
use Rattle.std.specs.List.{slice_split}
use Rattle.std.proofs.lemmas.Bool.Decides.{nat_tests}
use Rattle.std.proofs.lemmas.Iterator.Consumers.{YieldsList-turn, YieldsList-end, YieldsList-at}
use Rattle.std.proofs.lemmas.Iterator.Splits.{YieldsList-from_slice_split}
use Rattle.rank_input.specs.Named.{is_daily, below}
use Rattle.rank_input.proofs.NamingFolders.{kept-there, none-daily, daily-sorted}
use Rattle.rank_input.proofs.named.daily_paths.Goals as goal

-- the name of a daily file isn't UTF-8
pub returns-in-Err-clause-stopped : goal.returns-in-Err-clause-stopped
returns-in-Err-clause-stopped c =
    let turn = YieldsList-turn
    (YieldsList-at c.into_iter-name-iterator.ensures.into_iter_gives
    (YieldsList-from_slice_split _ (λ b. b == 0) c.args.names.now c.split-name-items.ensures.rest
    c.split-name-items.ensures.done c.split-name-items.ensures.closure (λ x b q k. search (rules, tests))))
    c.loop-name.yielded _ c.loop-name.yielded_by _ _ c.in-Some.name c.in-Some.is c.next.ensures.steps in (
      c.in_ok-from_str-in-Err.ensures.ok,
      (
        c.in-Some.name.now,
        kept-there is_daily (slice_split (λ b. b == 0) c.args.names.now) (length c.loop-name.yielded) c.in-Some.name.now
            turn.0 (sym turn.1) (sym c.if-is_daily.ensures),
        c.in-Err.ensures.cases.0,
      ),
    )

-- no name is that of a daily file
pub returns-then-is_empty-clause-stopped : goal.returns-then-is_empty-clause-stopped
returns-then-is_empty-clause-stopped c =
    let end = YieldsList-end
    (YieldsList-at c.into_iter-name-iterator.ensures.into_iter_gives
    (YieldsList-from_slice_split _ (λ b. b == 0) c.args.names.now c.split-name-items.ensures.rest
    c.split-name-items.ensures.done c.split-name-items.ensures.closure (λ x b q k. search (rules, tests))))
    c.loop-name.yielded _ c.loop-name.yielded_by _ _ c.in-None.is c.next.ensures.steps in
    let none : length c.loop-name.paths.items ≡ 0 =
    grind (arith, nat_tests, c.if-is_empty.true, c.is_empty.ensures, c.loop-name.paths.ok) in (
      c.in_ok-from_str.ensures.ok,
      none-daily c.args.folder.now _ c.loop-name.paths.items none (c.loop-name.invariant
          ∙ ap (λ (ts : List (List ℕ)). map (below c.args.folder.now) (filter is_daily ts)) end.0),
    )

-- all daily files, sorted
pub returns-clause-files : goal.returns-clause-files
returns-clause-files c =
    let end = YieldsList-end
    (YieldsList-at c.into_iter-name-iterator.ensures.into_iter_gives
    (YieldsList-from_slice_split _ (λ b. b == 0) c.args.names.now c.split-name-items.ensures.rest
    c.split-name-items.ensures.done c.split-name-items.ensures.closure (λ x b q k. search (rules, tests))))
    c.loop-name.yielded _ c.loop-name.yielded_by _ _ c.in-None.is c.next.ensures.steps in
    let some : 0 < length c.sort_unstable.new.self.items =
    grind (
      arith,
      nat_tests,
      c.if-is_empty.false,
      c.is_empty.ensures,
      c.loop-name.paths.ok,
      c.sort_unstable.ensures.len,
      c.sort_unstable.new.self.ok,
    ) in
    daily-sorted c.args.folder.now c.args.names.now c.loop-name.paths.items c.sort_unstable.new.self.items
    (c.loop-name.invariant ∙ ap (λ (ts : List (List ℕ)). map (below c.args.folder.now) (filter is_daily ts)) end.0)
    some c.sort_unstable.ensures.permutation c.sort_unstable.ensures.sorted
