use Rattle.std.proofs.Common.{◌≡◌, sym, ap, ◌∙◌}
use Rattle.std.specs.Ordering.{int_cmp, nat_cmp, ordering_then}
use Rattle.std.specs.Cmp.Lexicographic.{slice_cmp}
use Rattle.std.specs.declared.cmp.Ordering.{Ordering}
use Rattle.std.specs.declared.cmp.Ordering.TheVariants.{Equal}
use Rattle.std.proofs.lemmas.Cmp.{nat_list_cmp_total, tied_itself}
use Rattle.ghcn_files.specs.declared.station.StationId.{StationId}
use Rattle.ghcn_files.proofs.IdLaws.{same_id-is}
use Rattle.rank_scores.proofs.candidate.tie_cmp.Goals as goal

-- of one station the first days decide
pub returns-then-is_same : goal.returns-then-is_same
returns-then-is_same c =
    let a = c.args.a.now in
    let b = c.args.b.now in
    let same : a.id ≡ b.id = same_id-is a.id b.id (sym c.is_same.ensures ∙ c.if-is_same.true) in
    let tied : slice_cmp nat_cmp a.id.0 b.id.0 ≡ Equal =
    ap (λ (i : StationId). slice_cmp nat_cmp a.id.0 i.0) (sym same) ∙ tied_itself nat_list_cmp_total a.id.0 in
    c.cmp.ensures ∙ sym (ap (λ (o : Ordering). ordering_then o (int_cmp a.first b.first)) tied)
