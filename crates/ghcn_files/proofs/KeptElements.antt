-- Sets of elements, and which elements they have.
use Rattle.std.proofs.Common.{◌≡◌, true, refl}
use Rattle.std.proofs.Math.Bool.{or-false}
use Rattle.ghcn_files.specs.declared.element.Element.{Element}
use Rattle.ghcn_files.specs.declared.element.Element.TheVariants.{Prcp, Snow, Snwd, Tmax, Tmin}
use Rattle.ghcn_files.specs.Elements.{same_element, is_kept, everything, only}

-- the set of all five has each
pub is_kept-everything : (f : Element) → is_kept everything f ≡ true
is_kept-everything Prcp = refl
is_kept-everything Snow = refl
is_kept-everything Snwd = refl
is_kept-everything Tmax = refl
is_kept-everything Tmin = refl

-- the set of one element has that one alone
pub is_kept-only : (e f : Element) → is_kept (only e) f ≡ same_element f e
is_kept-only e Prcp = or-false (same_element Prcp e)
is_kept-only e Snow = or-false (same_element Snow e)
is_kept-only e Snwd = or-false (same_element Snwd e)
is_kept-only e Tmax = or-false (same_element Tmax e)
is_kept-only e Tmin = or-false (same_element Tmin e)
