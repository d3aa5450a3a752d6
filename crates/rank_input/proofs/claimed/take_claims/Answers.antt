use Rattle.std.proofs.Common.{◌≡◌, [], ◌∷◌, ◌++◌, refl, subst, sym, arith, rules}
use Rattle.std.proofs.lemmas.Bool.Decides.{nat_tests}
use Rattle.std.specs.Prelude.{Option, IfSome}
use Rattle.std.specs.List.{AllByRecursion}
use Rattle.std.proofs.lemmas.Option.{slice_get_read}
use Rattle.ghcn_series.proofs.ListFacts.{each-append}
use Rattle.rank_input.specs.declared.claimed.Taken.{Taken}
use Rattle.rank_input.specs.declared.intake.Intake.{Intake}
use Rattle.rank_input.specs.Shares.{TakesShare, TakesWhole}
use Rattle.rank_input.proofs.TakenShares.{taken-at}
use Rattle.rank_input.proofs.claimed.take_claims.Goals as goal

-- the share at the place that was claimed is taken too
pub loop-preserved : goal.loop-preserved
loop-preserved g c = λ text is.
    let has_read = g.L.LineReader.has_read in
    let bytes_of = g.A.Archive.bytes_of c.args.archive.now in
    let opens = g.A.Archive.opens c.args.archive.now in
    let takes = TakesShare has_read bytes_of opens c.args.keep text c.args.shares.now in
    let taken : Taken _ = record { place = c.fetch_add-place.result; intake = c.in-Some-take_part.intake } in
    let whole = subst (λ (o : Option (Intake _)). IfSome o
    (TakesWhole has_read bytes_of opens c.args.keep text c.in-Some.share.now.now)) c.in-Some-take_part.is
    (c.take_part.ensures text is) in
    let found = slice_get_read c.args.shares.now _ c.fetch_add-place.result c.in-Some.share.now refl
    (grind (arith, nat_tests, c.in-Some.ensures.lookup.0)) c.in-Some.ensures.lookup.1 in
    let pushed : c.push.new.self.items ≡ c.loop.taken.items ++ taken ∷ [] = search rules in
    subst (AllByRecursion takes) (sym pushed)
    (each-append takes c.loop.taken.items (taken ∷ []) (c.loop.invariant text is) (
      taken-at has_read bytes_of opens c.args.keep text c.args.shares.now taken c.in-Some.share.now
          found whole,
      tt,
    ))
