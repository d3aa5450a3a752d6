use Rattle.std.proofs.Common.{Bool, true, false, ◌≡◌, ◌∙◌, refl, ap}
use Rattle.std.specs.Prelude.{not}
use Rattle.ghcn_fields.proofs.lanes.has_bad_field.Goals as goal

-- what isn't true isn't true
twice : (t : Bool) → not (not t) ≡ t
twice true = refl
twice false = refl

-- a field is bad if not every column may be where it is
pub returns : goal.returns
returns c = ap not (c.are_set.ensures ∙ c.good_columns.ensures.good) ∙ twice _
