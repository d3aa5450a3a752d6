use Rattle.std.proofs.Common.{◌≡◌, List, [], ◌∷◌, ◌++◌, ap, ◌∙◌, Bor, arith, rules}
use Rattle.rank_input.specs.Shares.{paths_of}
use Rattle.rank_input.proofs.TakenShares.{cut_rest}
use Rattle.rank_input.proofs.claimed.shares_of.Goals as goal

-- the share is cut from the rest
pub loop-rest-preserved : goal.loop-rest-preserved
loop-rest-preserved g c =
    let pushed : c.push.new.self.items ≡ c.loop-rest.shares.items ++ c.split_at.result.0 ∷ [] = search rules in
    record {
      all = ap (λ (shares : List (Bor _)). paths_of shares ++ c.split_at.result.1.now) pushed
          ∙ cut_rest c.loop-rest.shares.items c.split_at.result.0 c.args.paths.now c.loop-rest.rest.now
          c.split_at.result.1.now c.cut_front-count.result.0 c.split_at.ensures.front c.split_at.ensures.back
          c.loop-rest.invariant.all;
      sizes = search (rules, arith);
    }
