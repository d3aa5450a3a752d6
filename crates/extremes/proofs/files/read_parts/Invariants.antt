use Rattle.std.proofs.Common.{◌≡◌, ◌≤◌, length, take, map}
use Rattle.std.specs.List.{AllZip}
use Rattle.std.specs.Vec.{vec_capacity, vec_len}
use Rattle.rank_input.specs.Feeding.{AreOpened}
use Rattle.extremes.specs.Merges.{AreBothOf, known_part, parts_paths, texts_of}
use Rattle.extremes.proofs.files.read_parts.Given as goal

-- the reports and certificates of the parts so far are opened and read, and there is room for those of all parts
abbrev pub invariant-loop-part : goal.invariant-loop-part
invariant-loop-part g l = record {
  read : AllZip AreBothOf (map (known_part (g.A.Archive.bytes_of l.archive)) (take l.part-index l.parts))
      (texts_of l.texts.items);
  opened : AreOpened (g.A.Archive.opens l.archive) (parts_paths (take l.part-index l.parts));
  count : vec_len l.texts ≡ l.part-index;
  room : length l.parts ≤ vec_capacity l.texts;
}
