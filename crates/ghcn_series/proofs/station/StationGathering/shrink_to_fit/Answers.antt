use Rattle.ghcn_series.proofs.Cited.{[], ◌∷◌, ◌∙◌, length-set, AreEmpty}
use Rattle.ghcn_series.proofs.ListFacts.{each-append}
use Rattle.ghcn_series.proofs.StationMonths.{settled_at}
use Rattle.ghcn_series.proofs.station.StationGathering.shrink_to_fit.Goals as goal

-- one gathering more is in memory of its own, and has the months that it had
pub loop-place-preserved : goal.loop-place-preserved
loop-place-preserved c = record {
  place = c.loop-place.invariant.place;
  number = length-set c.loop-place.self.by_element.items c.loop-place.place c.shrink_to_fit.new.self
      ∙ c.loop-place.invariant.number;
  same = record {
    holds = λ asked before id is. settled_at asked before id c.loop-place.self.by_element.items c.loop-place.place
        c.index_mut.result.now c.shrink_to_fit.new.self c.index_mut.ensures.value c.shrink_to_fit.ensures.element
        c.in_ok-shrink_to_fit.ensures.same (c.loop-place.invariant.same.holds asked before id is);
  };
  spare = rw c.in_ok-push.ensures.items
      (each-append AreEmpty c.loop-place.spare.items (c.in_ok-shrink_to_fit.field-0 ∷ []) c.loop-place.invariant.spare
      (c.in_ok-shrink_to_fit.ensures.empty, tt));
}
