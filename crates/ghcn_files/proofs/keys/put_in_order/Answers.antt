use Rattle.std.proofs.Common.{sym, subst}
use Rattle.ghcn_files.specs.KeptStations.{Rise}
use Rattle.ghcn_files.proofs.JoinedKeys.{differ_moved, rise_sorted}
use Rattle.ghcn_files.proofs.keys.put_in_order.Goals as goal

-- sorted keys rise if they differ
pub returns-clause-fall : goal.returns-clause-fall
returns-clause-fall c = λ is differ.
    let sorted = c.sort_unstable.new.self.items in
    c.do_rise-2.ensures.fall is (subst Rise (sym c.deref-2.ensures.value) (rise_sorted sorted
    c.sort_unstable.ensures.sorted (differ_moved c.args.keys.now.items sorted c.sort_unstable.ensures.permutation differ)))
