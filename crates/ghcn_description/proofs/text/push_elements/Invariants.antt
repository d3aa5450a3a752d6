use Rattle.std.proofs.Common.{◌≡◌, ◌++◌, take}
use Rattle.std.specs.List.{flat_map}
use Rattle.ghcn_description.specs.Texts.{element_line}
use Rattle.ghcn_description.proofs.text.push_elements.Given as goal

-- the lines so far are those of the elements so far
abbrev pub invariant-loop-counts : goal.invariant-loop-counts
invariant-loop-counts l = l.text.items ≡ l.fn.text.items ++ flat_map element_line (take l.counts-index l.elements)
