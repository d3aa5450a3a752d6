use Rattle.std.proofs.Common.{◌≡◌, ◌++◌, take}
use Rattle.std.specs.List.{flat_map}
use Rattle.rank_papers.specs.Meaning.Certificate.{entry_line}
use Rattle.rank_papers.specs.Certificate.{counted, AreInRange}
use Rattle.rank_papers.proofs.certificate_text.push_lines.Given as goal

-- the lines so far are those of the entries so far with their counts, and the bounds of these are in range
abbrev pub invariant-loop-place : goal.invariant-loop-place
invariant-loop-place l = record {
  text : l.paper.items ≡ l.fn.paper.items
      ++ flat_map (entry_line 2) (counted (take l.place l.lines) (take l.place l.counts));
  fits : AreInRange (take l.place l.lines);
}
