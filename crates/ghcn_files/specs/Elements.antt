-- Elements by their places and codes, and sets of elements.
use Rattle.std.specs.Prelude.{ℕ, Bool, true, false, ◌==◌, ◌||◌, List, Option, ℤ, pos, neg_ℤ, if◌then◌else◌}
use Rattle.std.specs.List.{find}
use Rattle.ghcn_fields.specs.Meaning.Bytes.{same_bytes}
use Rattle.ghcn_files.specs.declared.element.Element.{Element}
use Rattle.ghcn_files.specs.declared.element.Element.TheVariants.{Prcp, Snow, Snwd, Tmax, Tmin}
use Rattle.ghcn_files.specs.declared.element.Keep.{Keep}
use Rattle.ghcn_files.specs.Meaning.Elements.{code_of, elements, may_be_negative}

-- an element's place among the five, from 0
abbrev pub element_index : Element → ℕ
element_index Prcp = 0
element_index Snow = 1
element_index Snwd = 2
element_index Tmax = 3
element_index Tmin = 4

-- two elements are the same
abbrev pub same_element : Element → Element → Bool
same_element a b = element_index a == element_index b

-- an element's values are kept
abbrev pub is_kept : Keep → Element → Bool
is_kept k Prcp = k.prcp
is_kept k Snow = k.snow
is_kept k Snwd = k.snwd
is_kept k Tmax = k.tmax
is_kept k Tmin = k.tmin

-- the set of the elements that pass a test
abbrev pub set_of : (Element → Bool) → Keep
set_of p = record { prcp = p Prcp; snow = p Snow; snwd = p Snwd; tmax = p Tmax; tmin = p Tmin }

-- the set of no element
abbrev pub nothing : Keep
nothing = set_of (λ e. false)

-- the set of all five
abbrev pub everything : Keep
everything = set_of (λ e. true)

-- a set with one element more
abbrev pub with_one : Keep → Element → Keep
with_one k e = set_of (λ f. same_element f e || is_kept k f)

-- the set of one element alone
abbrev pub only : Element → Keep
only e = with_one nothing e

-- the element that bytes name
abbrev pub element_of : List ℕ → Option Element
element_of bytes = find (λ e. same_bytes (code_of e) bytes) elements

-- the least value that an element can have: five columns hold no number below -9999, which stands for a missing one
abbrev pub least_of : Element → ℤ
least_of e = if may_be_negative e then neg_ℤ (pos 9998) else pos 0
