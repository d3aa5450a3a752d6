use Rattle.ghcn_series.proofs.Cited.{◌≡◌, Bool, true, false, List, [], refl, ap, ◌∙◌, IsDistinct, DayValue, value_on}
use Rattle.ghcn_series.proofs.Cited.{has_month, kept_days}
use Rattle.ghcn_series.proofs.gathering.Gathering.new.Goals as goal

-- no month has no days
nothing : (kept : Bool) → [] ≡ kept_days kept []
nothing true = refl
nothing false = refl

-- nothing is gathered yet
pub returns-clause-empty : goal.returns-clause-empty
unfolding IsDistinct
returns-clause-empty c = λ kept. record {
  right = tt;
  seen = λ t. ap (λ months. has_month months t) c.new.ensures;
  parts = c.requires.order.parts;
  values = λ d. ap (λ (days : List DayValue). value_on days d) (c.requires.none ∙ nothing kept);
  distinct = tt;
}
