use Rattle.rank_query.proofs.Cited.{w32, refl, put_five}
use Rattle.std.proofs.lemmas.Int.{to_z-of_z}
use Rattle.rank_query.proofs.Printing.{box-is}
use Rattle.rank_query.proofs.text.write_box.Goals as goal

-- the word and the four edges are written one after another
pub returns : goal.returns
returns g c = λ plain ok.
    let word = c.in_ok-write_str.ensures.writes plain refl in
    let south = c.in_ok-write_degrees.ensures word.plain refl in
    let west = c.in_ok-write_degrees-2.ensures south.plain refl in
    let north = c.in_ok-write_degrees-3.ensures west.plain refl in
    let east = c.write_degrees-4.ensures north.plain ok in
    put_five _ _ _ _ _ _ _ _ _ _ _ _ _ word south west north east
    (box-is _ _ _ _ c.args.south c.args.west c.args.north c.args.east
    (to_z-of_z w32 c.args.south c.ranges.south) (to_z-of_z w32 c.args.west c.ranges.west)
    (to_z-of_z w32 c.args.north c.ranges.north) (to_z-of_z w32 c.args.east c.ranges.east))
