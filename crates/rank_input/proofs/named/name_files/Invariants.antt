use Rattle.std.proofs.Common.{[], take, map}
use Rattle.std.specs.Prelude.{string_bytes}
use Rattle.rank_input.specs.Named.{AddsNamed}
use Rattle.rank_input.proofs.named.name_files.Given as goal

-- the words so far stand for the paths
abbrev pub invariant-loop-word : goal.invariant-loop-word
invariant-loop-word g l =
    AddsNamed (g.A.Archive.names_of l.archive) (map string_bytes (take l.word-index l.words)) [] (map string_bytes l.paths.items)
