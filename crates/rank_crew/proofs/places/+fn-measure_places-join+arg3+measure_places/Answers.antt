use Rattle.std.proofs.Common.{arith}
use Rattle.rank_crew.proofs.Parts.{both_parts}
use Rattle.rank_crew.proofs.places.+fn-measure_places-join+arg3+measure_places.Goals as goal

-- the morsels of both parts are those of all places
pub returns : goal.returns
returns g t c =
    let both = c.join-second in
    both_parts g.P.Places.seen (λ v. v.items) (g.P.Places.morsels c.args.places.now) 0 c.cut-from.result.from c.args.to both.result.1
    both.result.0 c.both.result (omega arith) c.cut-from.ensures c.both.ensures both.ensures.second both.ensures.first
