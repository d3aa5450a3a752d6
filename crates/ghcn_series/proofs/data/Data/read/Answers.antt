use Rattle.ghcn_series.proofs.Cited.{[], ℕ, Bor, List, get_or, arith, err_from_is_err_and, everything, more, with_files}
use Rattle.ghcn_series.proofs.AllSeries.{kept-everything}
use Rattle.ghcn_series.proofs.ReadFiles.{all_texts}
use Rattle.ghcn_series.proofs.FedFiles.{fed_files, texts-more}
use Rattle.ghcn_series.proofs.data.Data.read.Goals as goal

-- a file of nothing
nothing : Bor (List ℕ)
nothing = record { ref_ptr = (0, 0); now = [] }

-- one file more is fed
pub loop-file-preserved : goal.loop-file-preserved
unfolding nothing
loop-file-preserved c =
    let fed = fed_files everything c.args.stations c.args.files.now c.loop-file.file-index in
    let text = (get_or c.args.files.now c.loop-file.file-index nothing).now in
    rw (texts-more c.args.files.now c.loop-file.file-index nothing c.loop-file-test.true)
    (c.end_of_file.ensures.fed.holds (with_files fed (more fed.files text))
    (c.piece.ensures.fed.holds fed c.loop-file.invariant))

-- the data of all files that were fed
pub returns-clause-ok : goal.returns-clause-ok
returns-clause-ok c =
    let fed = fed_files everything c.args.stations c.args.files.now c.loop-file.file-index in
    let all = all_texts c.args.files.now c.loop-file.file-index (omega (arith, c.loop-file-test.false)) in
    let held = (rw all at (c.in_ok-dataset.ensures.ok.is fed c.loop-file.invariant)).held in
    rw (held.is, kept-everything held.whole) held.read

-- the refusal of all files that were fed
pub returns-in_err-dataset-clause-err : goal.returns-in_err-dataset-clause-err
returns-in_err-dataset-clause-err c =
    let fed = fed_files everything c.args.stations c.args.files.now c.loop-file.file-index in
    let all = all_texts c.args.files.now c.loop-file.file-index (omega (arith, c.loop-file-test.false)) in
    let p = err_from_is_err_and c.from_residual-in_err-dataset.result c.from_residual-in_err-dataset.ensures.1 in
    rw (p.1, p.2, ← all) (c.in_err-dataset.ensures.err.is fed c.loop-file.invariant)

-- and of their first line with an error
pub returns-in_err-dataset-clause-first : goal.returns-in_err-dataset-clause-first
returns-in_err-dataset-clause-first c =
    let fed = fed_files everything c.args.stations c.args.files.now c.loop-file.file-index in
    let all = all_texts c.args.files.now c.loop-file.file-index (omega (arith, c.loop-file-test.false)) in
    let p = err_from_is_err_and c.from_residual-in_err-dataset.result c.from_residual-in_err-dataset.ensures.1 in
    rw (p.1, p.2, ← all) (c.in_err-dataset.ensures.err.first fed c.loop-file.invariant)
