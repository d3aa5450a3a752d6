-- The five elements and their codes.
use Rattle.std.specs.Prelude.{ℕ, Bool, true, false, List, [], ◌∷◌, codes}
use Rattle.ghcn_files.specs.declared.element.Element.{Element}
use Rattle.ghcn_files.specs.declared.element.Element.TheVariants.{Prcp, Snow, Snwd, Tmax, Tmin}

-- the four bytes that name an element
abbrev pub code_of : Element → List ℕ
code_of Prcp = codes "PRCP"
code_of Snow = codes "SNOW"
code_of Snwd = codes "SNWD"
code_of Tmax = codes "TMAX"
code_of Tmin = codes "TMIN"

-- the five elements
abbrev pub elements : List Element
elements = Prcp ∷ Snow ∷ Snwd ∷ Tmax ∷ Tmin ∷ []

-- only temperatures have negative values
abbrev pub may_be_negative : Element → Bool
may_be_negative Prcp = false
may_be_negative Snow = false
may_be_negative Snwd = false
may_be_negative Tmax = true
may_be_negative Tmin = true
