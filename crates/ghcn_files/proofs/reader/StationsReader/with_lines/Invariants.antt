use Rattle.std.proofs.Common.{length}
use Rattle.ghcn_fields.specs.Lines.{numbered_lines}
use Rattle.ghcn_files.proofs.Gathered.{HasGathered}
use Rattle.ghcn_files.proofs.reader.StationsReader.with_lines.Given as goal

-- the stations of the lines so far are held after those before, with the keys of all
abbrev pub invariant-loop-line : goal.invariant-loop-line
invariant-loop-line l = record {
  can : (goal.iterator-loop-line).can_next l.line-iterator;
  finite : (goal.iterator-loop-line).is_finite l.line-iterator;
  read : HasGathered l.fn.self (numbered_lines l.fn.text) (length l.yielded) l.list.items l.keys.items;
}
