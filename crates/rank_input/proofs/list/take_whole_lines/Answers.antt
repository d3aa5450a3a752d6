use Rattle.std.proofs.Common.{◌++◌, List, ℕ, ap, subst, ◌∙◌}
use Rattle.std.specs.Prelude.{Option, Some, IfSome}
use Rattle.memchr.specs.Find.{IsLastByte, is_byte}
use Rattle.ghcn_files.specs.declared.station.Station.{Station}
use Rattle.ghcn_files.specs.Listed.{FollowLines}
use Rattle.rank_input.proofs.ListPieces.{taken_whole}
use Rattle.rank_input.proofs.list.take_whole_lines.Goals as goal

-- whole lines are taken, and the rest is left
pub returns : goal.returns
returns c =
    let found : IsLastByte (is_byte 10) c.deref.result.now (Some c.in-Some.last) = rw c.in-Some.is at c.memrchr.ensures in
    taken_whole c.args.reader c.in-Ok-Some.reader c.args.text.now.items c.deref-2.result.now c.in-Ok.rest.items
    c.extend_from_slice.new.self.items c.in-Some.last
    (subst (λ (t : List ℕ). IsLastByte (is_byte 10) t (Some c.in-Some.last)) c.deref.ensures.value found)
    (c.deref-2.ensures.value ∙ c.in-Ok.ensures.items) c.in-Ok.ensures.tail
    (c.in-Ok-extend_from_slice.ensures.items
    ∙ ap (λ (zs : List ℕ). zs ++ c.deref-3.result.now) c.clear.ensures.items ∙ c.deref-3.ensures.value)
    (subst (λ (o : Option (List Station)). IfSome o (FollowLines c.args.reader c.deref-2.result.now)) c.in-Ok-Some.field-0-is
    c.in-Ok-Some.ensures.taken)
