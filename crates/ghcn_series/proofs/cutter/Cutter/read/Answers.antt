use Rattle.ghcn_series.proofs.Cited.{◌∙◌, refl, err_from_is_err_and, IfOk-weaker, IfErr-weaker, more, with_files}
use Rattle.ghcn_series.proofs.AlikeBeginnings.{begin-same}
use Rattle.ghcn_series.proofs.FedPieces.{piece-begun, piece-line, piece-found, piece-part, memory-found}
use Rattle.ghcn_series.proofs.cutter.Cutter.read.Goals as goal

-- a line with an error is found
pub returns-in_err-end_line-clause-fault : goal.returns-in_err-end_line-clause-fault
returns-in_err-end_line-clause-fault g c =
    let p = err_from_is_err_and c.from_residual.result c.from_residual.ensures.1 in rw (p.1, p.2) (record {
      found = λ fed at is.
          piece-found c.loop-line.self c.in-Some.line.now c.in-Some.behind.now c.loop-line.left.now c.args.bytes.now
          fed c.in_err-end_line.field-0.0 c.in-Some.ensures.parts c.in-Some.ensures.first
          (c.loop-line.invariant.ended ∙ at) c.in_err-end_line.ensures.fault (c.loop-line.invariant.read fed at is);
    })

-- nothing is read yet
pub loop-line-init : goal.loop-line-init
loop-line-init g c = record {
  ended = refl;
  begun = refl;
  some = c.requires.read;
  read = λ fed at is. piece-begun c.args.self.now c.args.bytes.now fed is;
}

-- one line more is read
pub loop-line-preserved : goal.loop-line-preserved
loop-line-preserved g c =
    let some = c.loop-line.invariant.some in let rest = c.loop-line.self.rest.items in
    let line = c.in_ok-end_line.ensures.added.read rest (begin-same rest) in record {
      ended = c.in_ok-end_line.ensures.ended ∙ c.loop-line.invariant.ended;
      begun = c.in_ok-end_line.ensures.begun ∙ c.loop-line.invariant.begun;
      some = (some.0, (some.1.0, (_, line.holds some.0 some.1.0 some.1.1.0 some.1.1.1)));
      read = λ fed at is.
          piece-line c.loop-line.self c.end_line.new.self c.in-Some.line.now c.in-Some.behind.now c.loop-line.left.now
          c.args.bytes.now fed c.in-Some.ensures.parts c.in-Some.ensures.first (c.loop-line.invariant.ended ∙ at)
          c.in_ok-end_line.ensures.added (c.loop-line.invariant.read fed at is);
    }

-- what is left is kept
pub returns-clause-read : goal.returns-clause-read
returns-clause-read g c = IfOk-weaker c.keep.result _ _ (λ _ kept. record {
  holds = λ fed at is. piece-part c.loop-line.self c.keep.new.self c.loop-line.left.now c.args.bytes.now fed
      (c.in_default.ensures.none refl) c.keep.ensures.reader c.keep.ensures.counts c.keep.ensures.line kept
      (c.loop-line.invariant.read fed at is);
}) c.keep.ensures.kept

-- unless memory ran out
pub returns-clause-fault : goal.returns-clause-fault
returns-clause-fault g c = IfErr-weaker c.keep.result _ _ (λ fault memory. record {
  found = λ fed at is. memory-found (with_files fed (more fed.files c.args.bytes.now)) fault memory;
}) c.keep.ensures.fault
