use Rattle.std.proofs.Common.{sym, ◌∙◌}
use Rattle.std.proofs.lemmas.Option.{IfSome_then}
use Rattle.rank_input.proofs.Halves.{if_ok}
use Rattle.rank_input.proofs.list.read_halves.Goals as goal

-- the lists of both parts make that of the whole
pub returns : goal.returns
returns g c =
    let first = if_ok _ c.join-next.result.1 c.in_ok-first.first (sym c.ok.ensures.value ∙ c.in_ok-first.was)
    c.join-next.ensures.second in
    let next = if_ok _ c.join-next.result.0 c.in_ok-next.next (sym c.ok-2.ensures.value ∙ c.in_ok-next.was)
    c.join-next.ensures.first in
    IfSome_then c.in_ok-ok.field-0
    (if_ok _ c.join.result c.in_ok-ok.field-0 (sym c.ok-3.ensures.value ∙ c.in_ok-ok.was) c.join.ensures.together)
    (λ both together. together.holds c.args.front.now c.args.back.now c.requires first next)
