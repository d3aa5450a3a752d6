use Rattle.std.proofs.Common.{◌≡◌, ◌++◌, subst, sym, rules}
use Rattle.std.specs.Prelude.{Option, IfSome, Vec}
use Rattle.std.specs.List.{AllByRecursion}
use Rattle.ghcn_series.proofs.ListFacts.{each-append}
use Rattle.rank_input.specs.Shares.{TakesShare}
use Rattle.rank_input.proofs.claimed.+fn-take_by-join+arg3+take_by.Goals as goal

-- what this reader and the others took is of the shares at its places
pub returns : goal.returns
returns g t c = λ text is.
    let takes = TakesShare g.L.LineReader.has_read (g.A.Archive.bytes_of c.args.archive.now)
    (g.A.Archive.opens c.args.archive.now) c.args.keep text c.args.shares.now in
    let own = subst (λ (o : Option (Vec _ _)). IfSome o (λ taken. AllByRecursion takes taken.items)) c.in_ok-taken.was
    (c.join-own.ensures.first text is) in
    let rest = subst (λ (o : Option (Vec _ _)). IfSome o (λ taken. AllByRecursion takes taken.items)) c.in_ok-rest.was
    (c.join-own.ensures.second text is) in
    let both : c.append.new.self.items ≡ c.in_ok-taken.taken.items ++ c.in_ok-rest.field-0.items = search rules in
    subst (AllByRecursion takes) (sym both)
    (each-append takes c.in_ok-taken.taken.items c.in_ok-rest.field-0.items own rest)
