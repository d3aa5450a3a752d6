use Rattle.ghcn_series.proofs.Cited.{rules, arith, ◌≡◌, ◌<◌, ℕ, List, get_or, take, drop, ℤ, pos, ◌+ℤ◌, w32, to_z, of_z}
use Rattle.ghcn_series.proofs.Cited.{ints, to_z-of_z, on_ok_weaker, IsBlock, Block, IsValueFrom, day_of, days_held}
use Rattle.ghcn_series.proofs.RowParts.{IsPart, part-packed, new-one, new-two, joined-both}
use Rattle.ghcn_series.proofs.RowParts.{zero_at, first-part, second-part}
use Rattle.ghcn_series.proofs.parts.Parts.add_row.Goals as goal
use Rattle.ghcn_series.proofs.parts.Parts.add_row.Goals.{After-high_bits-high}

-- a block of this number, and the next one, as the code computes their numbers
here : ℤ → ℕ → List ℤ → Block
here n w vs = (to_z w32 (of_z w32 n), (w, vs))

-- the part of the row in the next block
next : ℤ → ℕ → List ℤ → Block
next n w vs = (to_z w32 (of_z w32 (to_z w32 (of_z w32 n) +ℤ pos 1)), (w, vs))

-- the row's parts in the two
halves : (c : After-high_bits-high) (both u v : List ℤ) → u ≡ take 32 both → v ≡ drop 32 both
    → ((at : ℕ) → at < 64 → IsValueFrom c.args.values.now c.args.place at (get_or both at (pos 0)))
    → IsPart (day_of c.args.number c.args.place) c.args.place c.args.word c.args.values.now 0
    (here c.args.number c.low_bits-low.result u)
    × IsPart (day_of c.args.number c.args.place) c.args.place c.args.word c.args.values.now 32
    (next c.args.number c.high_bits-high.result v)
unfolding here next
halves c both u v one two stands =
    let near = to_z-of_z w32 c.args.number c.ranges.number in
    let block : IsBlock c.args.number = c.requires.number in (
      record {
        row = c.requires.row;
        below = c.requires.place;
        starts = omega (arith, ints, near);
        bits = c.low_bits-low.ensures;
        values = first-part c.args.values.now both u c.args.place one stands;
      },
      record {
        row = c.requires.row;
        below = c.requires.place;
        starts = omega (arith, ints, block.low, block.high);
        bits = c.high_bits-high.ensures;
        values = second-part c.args.values.now both v c.args.place two stands;
      },
    )

-- no day is in the two blocks yet
pub put_row-requires-clause-zeros : goal.put_row-requires-clause-zeros
put_row-requires-clause-zeros c = zero_at 64

-- the first part is as it may be
pub add_part-requires-clause-packed : goal.add_part-requires-clause-packed
unfolding here
add_part-requires-clause-packed c =
    part-packed _ _ _ _ _ _ (halves (goal.at.add_part-requires-clause-packed c).After-high_bits-high
    c.put_row.new.both _ _ c.first_of-first.ensures c.second_of-second.ensures c.put_row.ensures).0 (search rules)

-- and new
pub add_part-requires-clause-fresh : goal.add_part-requires-clause-fresh
unfolding here
add_part-requires-clause-fresh c =
    let parts = halves (goal.at.add_part-requires-clause-fresh c).After-high_bits-high
    c.put_row.new.both _ _ c.first_of-first.ensures c.second_of-second.ensures c.put_row.ensures in
    new-one _ _ _ _ _ _ parts.0 parts.1 (days_held c.args.self.now) c.requires.fresh

-- so is the second part
pub add_part-requires-2-clause-packed : goal.add_part-requires-2-clause-packed
unfolding next
add_part-requires-2-clause-packed c =
    part-packed _ _ _ _ _ _ (halves (goal.at.add_part-requires-2-clause-packed c).After-high_bits-high
    c.put_row.new.both _ _ c.first_of-first.ensures c.second_of-second.ensures c.put_row.ensures).1 (search rules)

-- and new beside the first one
pub add_part-requires-2-clause-fresh : goal.add_part-requires-2-clause-fresh
unfolding here next
add_part-requires-2-clause-fresh c =
    let parts = halves (goal.at.add_part-requires-2-clause-fresh c).After-high_bits-high
    c.put_row.new.both _ _ c.first_of-first.ensures c.second_of-second.ensures c.put_row.ensures in
    new-two _ _ _ _ _ _ parts.0 parts.1 (days_held c.args.self.now) c.requires.fresh (days_held c.add_part.new.self)
    c.in_ok-add_part.ensures.joined

-- both together are the row
pub returns-clause-joined : goal.returns-clause-joined
unfolding here next
returns-clause-joined c =
    let parts = halves (goal.at.returns-clause-joined c).After-high_bits-high
    c.put_row.new.both _ _ c.first_of-first.ensures c.second_of-second.ensures c.put_row.ensures in
    on_ok_weaker c.add_part-2.result (joined-both _ _ _ _ _ _ parts.0 parts.1
    (days_held c.args.self.now) c.requires.fresh (days_held c.add_part.new.self) (days_held c.add_part-2.new.self)
    c.in_ok-add_part.ensures.joined) c.add_part-2.ensures.joined
