use Rattle.std.proofs.Common.{◌≡◌, take}
use Rattle.rank_merge.specs.Found.{texts_in}
use Rattle.extremes.specs.Merges.{texts_of}
use Rattle.extremes.proofs.merge.slices.Given as goal

-- the texts of the parts so far are lent
abbrev pub invariant-loop-part : goal.invariant-loop-part
invariant-loop-part l = texts_in l.texts.items ≡ texts_of (take l.part-index l.parts)
