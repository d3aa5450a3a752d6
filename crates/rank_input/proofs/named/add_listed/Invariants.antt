use Rattle.std.proofs.Common.{◌≡◌, ◌==◌, length, map, string_bytes}
use Rattle.rank_input.specs.Named.{AddsNamed}
use Rattle.rank_input.proofs.NamingFolders.{named_by}
use Rattle.rank_input.proofs.named.add_listed.Given as goal

-- what the names so far stand for was added
abbrev pub invariant-loop-part : goal.invariant-loop-part
invariant-loop-part g l = record {
  adds : AddsNamed (g.A.Archive.names_of l.archive) (named_by l.null l.yielded)
      (map string_bytes l.initial.paths.items) (map string_bytes l.paths.items);
  empty : l.is_empty ≡ (length (named_by l.null l.yielded) == 0);
}
