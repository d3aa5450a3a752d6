use Rattle.ghcn_series.proofs.Cited.{arith, ◌≡◌, true, refl, nat_tests}
use Rattle.ghcn_series.proofs.KeptFaults.{HasEnded, ended-begun, ended-unbegun, holds_fed, some_fed, refuses_kept}
use Rattle.ghcn_series.proofs.cutter.Cutter.close.Goals as goal
use Rattle.ghcn_series.proofs.cutter.Cutter.close.Goals.{then-self, else-self}

-- the error that was kept is returned
pub returns-in-Some-clause-err : goal.returns-in-Some-clause-err
returns-in-Some-clause-err g c =
    let ended : HasEnded g.L.LineReader.has_read c.args.self c.if-self.self = elim c.if-self.branch [
      | then-self w ↦
          rw w.self-is (ended-begun c.args.self w.end_of_file.new.self w.if-self.true w.end_of_file.ensures.fed)
      | else-self w ↦ rw w.self-is (ended-unbegun c.args.self w.if-self.false)
    ] in
    let few : c.has_few_files.result ≡ true = grind (arith, nat_tests, c.if-not-has_few_files.false) in
    refuses_kept c.args.self c.if-self.self c.in-Some.fault ended (rw few at c.has_few_files.ensures) c.in-Some.is

-- or all was read
pub returns-clause-ok : goal.returns-clause-ok
returns-clause-ok g c =
    let ended : HasEnded g.L.LineReader.has_read c.args.self c.if-self.self = elim c.if-self.branch [
      | then-self w ↦
          rw w.self-is (ended-begun c.args.self w.end_of_file.new.self w.if-self.true w.end_of_file.ensures.fed)
      | else-self w ↦ rw w.self-is (ended-unbegun c.args.self w.if-self.false)
    ] in
    let few : c.has_few_files.result ≡ true = grind (arith, nat_tests, c.if-not-has_few_files.false) in
    holds_fed c.args.self c.if-self.self _ ended (rw few at c.has_few_files.ensures) c.in_default.is refl refl refl

-- and something was
pub returns-clause-some : goal.returns-clause-some
returns-clause-some g c = some_fed c.args.self _ (returns-clause-ok g c) c.requires
