use Rattle.std.proofs.Common.{rules, ◌≡◌, [], ◌∷◌, map, subst, ◌∙◌, ℤ, w32, to_z, of_z}
use Rattle.std.proofs.lemmas.Int.{to_z-of_z}
use Rattle.std.proofs.lemmas.Simd.{dot4_Fits}
use Rattle.ghcn_fields.specs.Groups.{AreNumbers}
use Rattle.ghcn_fields.proofs.GroupLanes.{front_lane, digits_fit, size-small, last-small, groups-read, by_fours, fronts}
use Rattle.ghcn_fields.proofs.lanes.four_numbers.Goals as goal

-- the digits are bytes
pub dot4-hundreds : goal.dot4-hundreds
dot4-hundreds c = (
  dot4_Fits (map front_lane (fronts c.args.columns.now)) (by_fours 10 1 0 0)
      (digits_fit (fronts c.args.columns.now)) tt,
  tt,
)

-- for either weights
pub dot4-tens : goal.dot4-tens
dot4-tens c = (
  dot4_Fits (map front_lane (fronts c.args.columns.now)) (by_fours 0 0 10 1)
      (digits_fit (fronts c.args.columns.now)) tt,
  tt,
)

-- five digits of the second group write no more
pub number_if-requires-2 : goal.number_if-requires-2
number_if-requires-2 c = search (rules, size-small, last-small)

-- nor do those of the third
pub number_if-requires-3 : goal.number_if-requires-3
number_if-requires-3 c = search (rules, size-small, last-small)

-- nor in the last
pub number_if-requires-4 : goal.number_if-requires-4
number_if-requires-4 c = search (rules, size-small, last-small)

-- each group has the number that its lanes say
pub returns : goal.returns
returns c =
    let other : ℤ = to_z w32 (of_z w32 c.args.other) in
    let near : other ≡ c.args.other = to_z-of_z w32 c.args.other (search rules) in
    let at = λ (z : ℤ). to_z w32 (of_z w32 z) in
    subst (λ (z : ℤ). AreNumbers z c.args.columns.now (at c.number_if.result ∷ at c.number_if-2.result
    ∷ at c.number_if-3.result ∷ at c.number_if-4.result ∷ [])) near
    (groups-read other c.args.columns.now (at c.number_if.result) (at c.number_if-2.result) (at c.number_if-3.result)
    (at c.number_if-4.result) c.told-columns
    (to_z-of_z w32 c.number_if.result (search rules) ∙ c.number_if.ensures)
    (to_z-of_z w32 c.number_if-2.result (search rules) ∙ c.number_if-2.ensures)
    (to_z-of_z w32 c.number_if-3.result (search rules) ∙ c.number_if-3.ensures)
    (to_z-of_z w32 c.number_if-4.result (search rules) ∙ c.number_if-4.ensures))
