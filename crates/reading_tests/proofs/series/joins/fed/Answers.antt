use Rattle.ghcn_files.specs.Elements.{everything}
use Rattle.ghcn_series.specs.Fed.{Fed, more, ended_files}
use Rattle.reading_tests.proofs.series.joins.fed.Goals as goal

-- one file more was fed
pub loop-file-preserved : goal.loop-file-preserved
loop-file-preserved c =
    let fed : Fed = record { keep = everything; stations = c.args.stations; files = c.loop-file.invariant.0 } in
    (_, c.end_of_file.ensures.fed.holds _ (c.piece.ensures.fed.holds fed c.loop-file.invariant.1))

-- and bytes of one more
pub returns : goal.returns
returns c =
    let fed : Fed = record { keep = everything; stations = c.args.stations; files = c.loop-file.invariant.0 } in
    (more fed.files c.args.bytes.now, c.piece-2.ensures.fed.holds fed c.loop-file.invariant.1)
