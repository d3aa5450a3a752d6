use Rattle.std.proofs.Common.{[]}
use Rattle.ghcn_files.specs.Elements.{everything}
use Rattle.ghcn_series.specs.Fed.{ended_files, more, with_end}
use Rattle.rank_input.specs.Takes.{file_input, with_bytes, with_file_end}
use Rattle.ranking_tests.proofs.input.joined.Goals as goal

-- both were given the same station list
pub join-requires : goal.join-requires
join-requires c = record {
  input = with_file_end (with_bytes (file_input everything c.args.stations.now []) c.args.file.now);
  files = with_end (more (ended_files []) c.args.other.now);
  of_first = c.share-first.ensures;
  of_next = c.share.ensures;
}
