use Rattle.std.proofs.Common.{true, ℕ, List, take, drop, sym, ap, subst, ◌∙◌}
use Rattle.std.specs.Prelude.{Option, IfSome, Some}
use Rattle.rank_input.specs.Lists.{ListsStretch}
use Rattle.std.specs.Option.{option_map}
use Rattle.rank_input.proofs.ListPieces.{stretch_listed}
use Rattle.rank_input.proofs.TakenStretches.{bytes_taken, mapped_twice}
use Rattle.rank_input.proofs.list.read_stretch.Goals as goal

-- the list of the stretch
pub returns : goal.returns
returns g c =
    let known = g.A.Archive.bytes_of c.args.archive.now c.args.path.now in
    let opened = g.A.Archive.opens c.args.archive.now c.args.path.now true in
    subst (λ (count : Option ℕ). IfSome c.in-Ok-finish-2.stations (ListsStretch known opened c.args.from count))
    (sym c.in-Some.is)
    (stretch_listed known _ opened c.args.from (Some c.in-Some.count) c.in_ok-reader-2.reader c.in-Ok-finish-2.stations
    c.in_ok-reader-2.is_whole c.in-Ok-open_at.ensures.opened
    (bytes_taken g.A.File.Read.remaining c.take-stretch.result c.in-Ok-open_at.file c.in-Some.count c.take-stretch.ensures.limit
    c.take-stretch.ensures.inner ∙ ap (option_map (λ (bytes : List ℕ). take c.in-Some.count bytes)) c.in-Ok-open_at.ensures.bytes
    ∙ mapped_twice (λ bytes. drop c.args.from bytes) (λ bytes. take c.in-Some.count bytes) known)
    c.in_ok-reader-2.ensures c.if-not-is_whole.false
    c.in-Ok-finish-2.ensures.stations c.in-Ok-finish-2.ensures.listed)
