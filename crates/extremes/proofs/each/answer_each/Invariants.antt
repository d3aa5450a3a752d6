use Rattle.std.proofs.Common.{◌≡◌, take}
use Rattle.std.specs.Prelude.{option_map}
use Rattle.extremes.specs.Each.{IsRankedOver, RanksAll}
use Rattle.extremes.specs.Targets.{ArePut}
use Rattle.extremes.proofs.each.answer_each.Given as goal

-- the queries so far are ranked, and numbered
abbrev pub invariant-loop-query : goal.invariant-loop-query
invariant-loop-query g l = record {
  ranked : RanksAll (IsRankedOver l.workers l.dataset) (take l.query-index l.queries)
      (option_map (λ f. f.now) l.folder) 1
      (ArePut g.T.Target.creates g.T.Target.abandons g.T.Write.contents l.initial.target l.target) l.reports.items;
  counted : l.number ≡ l.query-index;
}
