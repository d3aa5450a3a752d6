use Rattle.ghcn_series.proofs.Cited.{◌≡◌, true, false, sym, ◌∙◌, arith, IfOk-weaker, AllZip-long, elements, is_kept}
use Rattle.ghcn_series.proofs.MonthRows.{for-own, for-kept}
use Rattle.ghcn_series.proofs.StationMonths.{station-more, some_at, element_within}
use Rattle.ghcn_series.proofs.station.StationGathering.add.Goals as goal

-- each element has its gathering
pub index_mut-gathering-requires : goal.index_mut-gathering-requires
index_mut-gathering-requires c =
    let five = AllZip-long _ c.args.self.now.by_element.items elements c.requires.gathered.1 in
    omega (arith, c.place_of.ensures, element_within c.args.row.now.element, c.args.self.now.by_element.ok.0, five)

-- which has the station's months of it
pub add-requires-clause-gathered : goal.add-requires-clause-gathered
add-requires-clause-gathered c =
    some_at c.args.asked true c.args.self.now.by_element.items c.requires.gathered.0 c.args.row.now.id
    c.args.row.now.element c.index_mut-gathering.result.now (sym c.is_kept.ensures ∙ c.if-is_kept.true)
    c.requires.gathered.1 (rw (← c.place_of.ensures) c.index_mut-gathering.ensures.value)

-- and without their days, if these aren't kept
pub note-requires : goal.note-requires
note-requires c = some_at c.args.asked false c.args.self.now.by_element.items c.requires.gathered.0 c.args.row.now.id
    c.args.row.now.element c.index_mut-gathering.result.now (sym c.is_kept.ensures ∙ c.if-is_kept.false)
    c.requires.gathered.1 (rw (← c.place_of.ensures) c.index_mut-gathering.ensures.value)

-- the row of a month whose days are kept has them
pub add-requires-clause-right : goal.add-requires-clause-right
add-requires-clause-right c =
    let kept = sym c.is_kept.ensures ∙ c.if-is_kept.true in
    let right = c.requires.right in (right.0, (right.1.0, for-kept _ right.0 c.args.row.now kept right.1.1))

-- the month is added to the gathering of its element
pub returns-then-is_kept-clause-added : goal.returns-then-is_kept-clause-added
returns-then-is_kept-clause-added c = IfOk-weaker c.add.result _ _ (λ added adds m right of.
    let is : is_kept c.args.asked c.args.row.now.element ≡ true = sym c.is_kept.ensures ∙ c.if-is_kept.true in
    station-more c.args.asked m c.args.self.now.by_element.items c.place_of.result c.index_mut-gathering.result.now
    c.add.new.self added true c.args.row.now.element c.place_of.ensures (for-own _ m c.args.row.now of).1 is
    c.index_mut-gathering.ensures.value c.add.ensures.element (adds m right (for-kept _ m c.args.row.now is of)))
    c.add.ensures.added

-- or noted there
pub returns-else-is_kept-clause-added : goal.returns-else-is_kept-clause-added
returns-else-is_kept-clause-added c = IfOk-weaker c.note.result _ _ (λ added adds m right of.
    let is : is_kept c.args.asked c.args.row.now.element ≡ false = sym c.is_kept.ensures ∙ c.if-is_kept.false in
    station-more c.args.asked m c.args.self.now.by_element.items c.place_of.result c.index_mut-gathering.result.now
    c.note.new.self added false c.args.row.now.element c.place_of.ensures (for-own _ m c.args.row.now of).1 is
    c.index_mut-gathering.ensures.value c.note.ensures.element (adds m right (rw is at of))) c.note.ensures.added
