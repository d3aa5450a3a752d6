use Rattle.ghcn_series.proofs.Cited.{◌≡◌, [], arith, nat_tests, nil_from_length}
use Rattle.ghcn_series.proofs.JoinedCutters.{apart-passed, apart-passed_next, apart-within, goes-on}
use Rattle.ghcn_series.proofs.cutter.Cutter.goes_on_with.Goals as goal
use Rattle.ghcn_series.proofs.cutter.Cutter.goes_on_with.Goals.{then-not-is_reading-via-then-not-is_reading}
use Rattle.ghcn_series.proofs.cutter.Cutter.goes_on_with.Goals.{then-not-is_reading-via-else-not-is_reading+then-not-is_reading-2}
use Rattle.ghcn_series.proofs.cutter.Cutter.goes_on_with.Goals.{then-not-is_reading-via-else-not-is_reading+else-not-is_reading-2+then-not-is_empty}

-- one of the two doesn't look at lines, or the first one is within a line
pub returns-then-not-is_reading : goal.returns-then-not-is_reading
returns-then-not-is_reading g c =
    let first = c.args.self.now in
    let next = c.args.next.now in elim c.then-not-is_reading.branch [
      | then-not-is_reading-via-then-not-is_reading w ↦ apart-passed first next w.if-not-is_reading.ensures
      | then-not-is_reading-via-else-not-is_reading+then-not-is_reading-2 w ↦
          apart-passed_next first next w.if-not-is_reading-2.ensures
      | then-not-is_reading-via-else-not-is_reading+else-not-is_reading-2+then-not-is_empty w ↦ apart-within first next
          (grind (arith, nat_tests, w.if-not-is_empty.true, w.is_empty.ensures, first.rest.ok.0))
    ]

-- a part of the file is foreign by itself, or nothing hinders
pub returns : goal.returns
returns g c =
    let first = c.args.self.now in
    let none : first.rest.items ≡ [] = nil_from_length first.rest.items
    (grind (arith, nat_tests, c.if-not-is_empty.false, c.is_empty.ensures, first.rest.ok.0)) in
    goes-on g.L.LineReader.has_read first c.args.next.now c.cuts_foreign.result c.if-not-is_reading.ensures
    c.if-not-is_reading-2.ensures none c.cuts_foreign.ensures
