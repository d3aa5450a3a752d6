use Rattle.std.proofs.Common.{true, false, arith, inr, subst, sym}
use Rattle.std.specs.Prelude.{string_bytes}
use Rattle.extremes.proofs.Comparing.{all-next, all-whole, any-here}
use Rattle.extremes.proofs.target.is_in_use.Goals as goal

-- a daily file is found to be the certificate's
pub returns-then-is_one_file-2 : goal.returns-then-is_one_file-2
returns-then-is_one_file-2 g c =
    let shares = g.T.Target.one_file c.args.target.now c.args.out.now in
    inr (inr (inr (any-here (λ file. shares (string_bytes file) true) c.args.files.now c.loop-file.file-index
    c.file-item.result c.loop-file-test.true (sym c.file-item.is)
    (subst (λ p. shares p true) c.deref.ensures c.if-is_one_file-2.ensures))))

-- one file more is found to be another
pub loop-file-preserved : goal.loop-file-preserved
loop-file-preserved g c =
    let shares = g.T.Target.one_file c.args.target.now c.args.out.now in
    all-next (λ file. shares (string_bytes file) false) c.args.files.now c.loop-file.file-index c.file-item.result
    c.loop-file-test.true (sym c.file-item.is) c.loop-file.invariant
    (subst (λ p. shares p false) c.deref.ensures c.if-is_one_file-2.ensures)

-- all files are found to be others
pub returns : goal.returns
returns g c =
    let shares = g.T.Target.one_file c.args.target.now c.args.out.now in (
      c.if-is_taken.ensures,
      c.if-is_one_file.ensures,
      c.if-is_list.ensures,
      all-whole (λ file. shares (string_bytes file) false) c.args.files.now c.loop-file.file-index
          (omega (arith, c.loop-file-test.false)) c.loop-file.invariant,
    )
