use Rattle.std.proofs.Common.{◌≡◌, ◌++◌, take}
use Rattle.std.specs.List.{flat_map}
use Rattle.ghcn_description.specs.Texts.{code_line}
use Rattle.ghcn_description.proofs.text.push_others.Given as goal

-- the lines so far are those of the codes so far
abbrev pub invariant-loop-count : goal.invariant-loop-count
invariant-loop-count l = l.text.items ≡ l.fn.text.items ++ flat_map code_line (take l.count-index l.others)
