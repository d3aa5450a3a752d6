use Rattle.std.proofs.Common.{subst}
use Rattle.std.specs.Prelude.{Option, Some, IfSome}
use Rattle.std.proofs.lemmas.Option.{IfSome_then}
use Rattle.rank_input.specs.declared.intake.Intake.{Intake}
use Rattle.rank_input.specs.Lists.{IsSomeList}
use Rattle.rank_input.specs.Shares.{TakesStretch}
use Rattle.rank_input.proofs.TakenStretches.{joined_stretches, stretches_alike}
use Rattle.rank_input.proofs.stretches.+fn-take_stretches-join+arg3+take_stretches.Goals as goal

-- both stretches are of one station list
pub join-requires : goal.join-requires
join-requires g t c =
    let has_read = g.L.LineReader.has_read in
    let bytes_of = g.A.Archive.bytes_of c.args.archive.now in
    let opens = g.A.Archive.opens c.args.archive.now in
    let keep = c.args.keep in
    -- the clause follows what is known of the types
    let some : IsSomeList c.args.list.now = c.requires.1.1.1.1.1.1.1.1.1.1.1.1 in
    let text = some.0 in
    let takes = TakesStretch has_read bytes_of opens keep text c.args.path.now in
    stretches_alike has_read bytes_of opens keep text c.args.path.now c.in-Some.cut c.in-Some.count
    c.in_ok-begun.field-0 c.in_ok-rest.field-0
    (subst (λ (o : Option (Intake _)). IfSome o (takes 0 (Some c.in-Some.cut))) c.in_ok-begun.was
    (c.join-rest.ensures.second text some.1))
    (subst (λ (o : Option (Intake _)). IfSome o (takes c.in-Some.cut c.in-Some.count)) c.in_ok-rest.was
    (c.join-rest.ensures.first text some.1))

-- the bytes of both stretches are all that were asked for
pub returns : goal.returns
returns g t c = λ text is.
    let has_read = g.L.LineReader.has_read in
    let bytes_of = g.A.Archive.bytes_of c.args.archive.now in
    let opens = g.A.Archive.opens c.args.archive.now in
    let keep = c.args.keep in
    let takes = TakesStretch has_read bytes_of opens keep text c.args.path.now in
    let one = subst (λ (o : Option (Intake _)). IfSome o (takes 0 (Some c.in-Some.cut))) c.in_ok-begun.was
    (c.join-rest.ensures.second text is) in
    let two = subst (λ (o : Option (Intake _)). IfSome o (takes c.in-Some.cut c.in-Some.count)) c.in_ok-rest.was
    (c.join-rest.ensures.first text is) in
    IfSome_then c.join.result c.join.ensures.joined (λ both joins.
    joined_stretches has_read bytes_of opens keep text c.args.path.now c.args.until c.in-Some.cut
    c.in-Some.count c.in_ok-begun.field-0 c.in_ok-rest.field-0 both c.in-Some.ensures.rest one two joins)
