use Rattle.std.proofs.Common.{◌≡◌, ◌<◌, length, take, sym, subst, arith}
use Rattle.std.proofs.lemmas.Bool.Decides.{nat_tests}
use Rattle.rank_input.proofs.Feedings.{IsFedTo, fed-nothing, fed-more, fed-kept, fed-end, fed-some}
use Rattle.rank_input.proofs.archive.feed_bytes.Goals as goal
use Rattle.rank_input.proofs.archive.feed_bytes.Goals.{in-Ok, in-Err+else-ne}

-- at first nothing is read
pub loop-init : goal.loop-init
loop-init g c = fed-nothing g.L.LineReader.has_read c.args.intake.now (g.S.Read.remaining c.args.source.now)

-- the intake was given something
pub piece-requires : goal.piece-requires
piece-requires g c =
    fed-some g.L.LineReader.has_read c.args.intake.now c.loop.intake (g.S.Read.remaining c.args.source.now)
    (g.S.Read.remaining c.loop.source) c.requires c.loop.invariant

-- one read more
pub loop-preserved : goal.loop-preserved
loop-preserved g c =
    let all = g.S.Read.remaining c.args.source.now in
    let left = g.S.Read.remaining c.loop.source in
    let next = g.S.Read.remaining c.read.new.self in
    let has_read = g.L.LineReader.has_read in
    elim c.match-read.branch [
      | in-Ok w ↦ subst (λ t. IsFedTo has_read c.args.intake.now t all next) (sym w.intake-is)
          (fed-more has_read c.args.intake.now c.loop.intake w.piece.new.self all left next
          (take w.in-Ok.count c.read.new.buf) c.loop.invariant w.in-Ok.ensures.bytes.0 w.piece.ensures.taken)
      | in-Err+else-ne w ↦ subst (λ t. IsFedTo has_read c.args.intake.now t all next) (sym w.intake-is)
          (fed-kept has_read c.args.intake.now c.loop.intake all left next c.loop.invariant w.in-Err.ensures.bytes)
    ]

-- all is read
pub returns-in-Ok-eq0-clause-fed : goal.returns-in-Ok-eq0-clause-fed
returns-in-Ok-eq0-clause-fed g c =
    let some : 0 < length c.read.new.buf = grind
    (arith, nat_tests, c.if-is_empty.false, c.is_empty.ensures, c.loop.auto.buffer, c.read.auto.buf) in
    let none : c.in-Ok-eq0.field-0 ≡ 0 = omega arith in
    fed-end g.L.LineReader.has_read c.args.intake.now c.loop.intake
    (g.S.Read.remaining c.args.source.now) (g.S.Read.remaining c.loop.source) (g.S.Read.remaining c.read.new.self)
    c.in-Ok-eq0.field-0 c.read.new.buf c.loop.invariant none c.in-Ok-eq0.ensures.bytes some

-- and more can follow
pub returns-in-Ok-eq0-clause-going : goal.returns-in-Ok-eq0-clause-going
returns-in-Ok-eq0-clause-going g c =
    fed-some g.L.LineReader.has_read c.args.intake.now c.loop.intake (g.S.Read.remaining c.args.source.now)
    (g.S.Read.remaining c.loop.source) c.requires c.loop.invariant
