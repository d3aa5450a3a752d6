use Rattle.std.proofs.Common.{◌≡◌, ◌+◌, ◌<◌, ◌^◌, length, sym, ap, ◌∙◌, subst, rules}
use Rattle.std.specs.List.{fold}
use Rattle.rank_check.specs.Survey.{Tally, IsFloor, tally_with}
use Rattle.ghcn_series.specs.Says.{in_64_bits}
use Rattle.std.specs.Prelude.{map}
use Rattle.rank_check.specs.Marks.{known}
use Rattle.rank_check.proofs.Surveying.{below-many}
use Rattle.rank_check.proofs.tally.TallyFloorSink.pass_over.Goals as goal

-- the number alone changes
pub returns : goal.returns
returns c candidates low many =
    let rows = map (known c.self.inside.marks.items) c.self.inside.rows.items in
    let before : Tally = record { rows = rows; count = c.self.inside.count; highest = c.self.inside.highest } in
    let fits : c.self.inside.count < 2 ^ 64 = search rules in
    let same : IsFloor before c.args._floor =
    subst (λ (t : Tally). IsFloor t c.args._floor) (sym c.self.view_is) c.requires in
    let count : c.saturating_add-self-inside.result ≡ in_64_bits (c.self.inside.count + length candidates) =
    c.saturating_add-self-inside.ensures ∙ ap (λ n. in_64_bits (c.self.inside.count + n)) (sym many) in
    (λ i. record { rows = rows; count = count i; highest = c.self.inside.highest })
    ∙ sym (below-many before candidates c.args._floor fits same low)
    ∙ ap (λ (t : Tally). fold tally_with t candidates) c.self.view_is
