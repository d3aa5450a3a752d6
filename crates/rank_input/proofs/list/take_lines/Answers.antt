use Rattle.std.proofs.Common.{◌≡◌, ◌<◌, ℕ, List, length, take, subst, arith}
use Rattle.std.specs.Prelude.{Option, IfSome}
use Rattle.std.proofs.lemmas.Bool.Decides.{nat_tests}
use Rattle.ghcn_files.specs.declared.station.Station.{Station}
use Rattle.ghcn_files.specs.Listed.{FollowLines}
use Rattle.rank_input.proofs.ListPieces.{AreTakenTo, no_items, taken-end, taken-kept, taken-more, taken-nothing}
use Rattle.rank_input.proofs.list.take_lines.Goals as goal
use Rattle.rank_input.proofs.list.take_lines.Goals.{
  in-Ok-read+in-Ok-extend_from_slice+in_ok-reader-in-Ok-read+else-len-gt-PIECE,
  in-Err+else-ne,
}

-- at first nothing is taken
pub loop-init : goal.loop-init
loop-init g c =
    taken-nothing (g.S.Read.remaining c.args.source.now) c.new-reader.result c.in-Ok.text.items c.new-reader.ensures
    c.in-Ok.ensures.items

-- one read more
pub loop-preserved : goal.loop-preserved
loop-preserved g c = elim c.match-read.branch [
  | in-Ok-read+in-Ok-extend_from_slice+in_ok-reader-in-Ok-read+else-len-gt-PIECE w ↦
      let taken : AreTakenTo (g.S.Read.remaining c.args.source.now) (g.S.Read.remaining c.read.new.self)
      w.in_ok-reader-in-Ok-read.reader w.take_whole_lines.new.text.items =
      taken-more (g.S.Read.remaining c.args.source.now) (g.S.Read.remaining c.loop.source)
      (g.S.Read.remaining c.read.new.self) c.loop.reader w.in_ok-reader-in-Ok-read.reader c.loop.text.items
      (take w.in-Ok-read.count c.read.new.buf) w.extend_from_slice.new.self.items w.take_whole_lines.new.text.items
      c.loop.invariant w.in-Ok-read.ensures.bytes.0 w.in-Ok-extend_from_slice.ensures.items
      w.in_ok-reader-in-Ok-read.ensures in
      rw (w.reader-is, w.text-is) taken
  | in-Err+else-ne w ↦
      let kept : AreTakenTo (g.S.Read.remaining c.args.source.now) (g.S.Read.remaining c.read.new.self) c.loop.reader
      c.loop.text.items =
      taken-kept (g.S.Read.remaining c.args.source.now) (g.S.Read.remaining c.loop.source)
      (g.S.Read.remaining c.read.new.self) c.loop.reader c.loop.text.items c.loop.invariant w.in-Err.ensures.bytes in
      rw (w.reader-is, w.text-is) kept
]

-- all is taken
pub returns-in-Ok-eq0 : goal.returns-in-Ok-eq0
returns-in-Ok-eq0 g c =
    let some : 0 < length c.read.new.buf = grind
    (arith, nat_tests, c.if-is_empty.false, c.is_empty.ensures, c.loop.auto.buffer, c.read.auto.buf) in
    taken-end (g.S.Read.remaining c.args.source.now) (g.S.Read.remaining c.loop.source)
    (g.S.Read.remaining c.read.new.self) c.loop.reader c.in-Ok-Some.reader c.loop.text.items c.in-Ok-eq0.field-0
    c.read.new.buf c.is_empty-is_whole.result c.loop.invariant c.in-Ok-eq0.field-0-test
    c.in-Ok-eq0.ensures.bytes some
    (subst (λ (t : List ℕ). FollowLines c.loop.reader t c.in-Ok-Some.reader) c.deref.ensures.value
    (subst (λ (o : Option (List Station)). IfSome o (FollowLines c.loop.reader c.deref.result.now)) c.in-Ok-Some.field-0-is
    c.in-Ok-Some.ensures.taken))
    (λ e. let none : length c.loop.text.items ≡ 0 = grind
    (arith, nat_tests, c.is_empty-is_whole.ensures, c.deref.ensures.len, c.deref.ensures.value, e) in
    no_items c.loop.text.items none)
