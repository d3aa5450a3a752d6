use Rattle.std.proofs.Common.{◌+◌, map, take, sym, subst, arith}
use Rattle.std.proofs.lemmas.Result.{err_from_is_err_and}
use Rattle.std.specs.List.{AllZip}
use Rattle.extremes.specs.Merges.{AreBothOf, known_part, texts_of}
use Rattle.extremes.proofs.PartsRead.{next-read, parts-opened, parts-stop, parts-all}
use Rattle.extremes.proofs.files.read_parts.Goals as goal

-- one part more is read
pub loop-part-preserved : goal.loop-part-preserved
loop-part-preserved g c =
    let f = known_part (g.A.Archive.bytes_of c.args.archive.now) in
    record {
      read = subst (λ ts. AllZip AreBothOf (map f (take (c.loop-part.part-index + 1) c.args.parts.now)) (texts_of ts))
          (sym c.push_reserved.ensures.items)
          (next-read f c.args.parts.now c.loop-part.part-index c.part-item.result c.loop-part.texts.items
          c.in_ok-read.read c.loop-part-test.true (sym c.part-item.is) c.loop-part.invariant.read
          c.in_ok-read.ensures.read);
      opened = parts-opened (g.A.Archive.opens c.args.archive.now) c.args.parts.now c.loop-part.part-index
          c.part-item.result c.loop-part-test.true (sym c.part-item.is) c.loop-part.invariant.opened
          c.in_ok-read.ensures.opened;
      count = omega (arith, c.push_reserved.ensures.len, c.loop-part.invariant.count);
      room = omega (arith, c.push_reserved.ensures.capacity, c.loop-part.invariant.room);
    }

-- a report or a certificate can't be read
pub returns-in_err-read-clause-stopped : goal.returns-in_err-read-clause-stopped
returns-in_err-read-clause-stopped g c =
    let opens = g.A.Archive.opens c.args.archive.now in
    let p = err_from_is_err_and c.from_residual.result c.from_residual.ensures.1 in
    rw (p.1, p.2) (parts-stop opens c.args.parts.now c.loop-part.part-index c.part-item.result _ c.loop-part-test.true
    (sym c.part-item.is) c.loop-part.invariant.opened c.in_err-read.ensures.stopped)

-- the reports and certificates of all parts are opened
pub returns-clause-opened : goal.returns-clause-opened
returns-clause-opened g c =
    parts-all (g.A.Archive.opens c.args.archive.now) c.args.parts.now c.loop-part.part-index
    (omega (arith, c.loop-part-test.false)) c.loop-part.invariant.opened
