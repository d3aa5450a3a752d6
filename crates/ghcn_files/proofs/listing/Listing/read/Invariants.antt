use Rattle.std.proofs.Common.{length}
use Rattle.ghcn_fields.specs.Lines.{numbered_lines}
use Rattle.ghcn_files.proofs.ReadLines.{HasRead}
use Rattle.ghcn_files.proofs.listing.Listing.read.Given as goal

-- the stations of the lines so far are held
abbrev pub invariant-loop-number : goal.invariant-loop-number
invariant-loop-number l = record {
  can : (goal.iterator-loop-number).can_next l.number-iterator;
  finite : (goal.iterator-loop-number).is_finite l.number-iterator;
  read : HasRead (numbered_lines l.fn.text) (length l.yielded) l.listing;
}
