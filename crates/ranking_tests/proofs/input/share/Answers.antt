use Rattle.std.proofs.Common.{[], subst}
use Rattle.ghcn_files.specs.declared.element.Keep.{Keep}
use Rattle.ghcn_series.specs.Gathered.{HasReadByRows}
use Rattle.rank_input.specs.Takes.{HasTaken, file_input, with_bytes, with_file_end}
use Rattle.ranking_tests.proofs.input.share.Goals as goal

-- the file was given
pub returns : goal.returns
returns c =
    subst (λ (keep : Keep). HasTaken HasReadByRows c.end_of_file.new.self
    (with_file_end (with_bytes (file_input keep c.args.stations.now []) c.args.file.now))) c.everything.ensures
    (c.end_of_file.ensures.taken.holds _ (c.piece.ensures.taken.holds _ c.new-intake.ensures.taken))
