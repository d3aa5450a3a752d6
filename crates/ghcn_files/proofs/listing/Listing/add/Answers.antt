use Rattle.std.proofs.Common.{◌^◌, true, false, length, refl, sym, ap, ◌∙◌, arith}
use Rattle.std.proofs.lemmas.Bool.{lt-ltb, le-ltb}
use Rattle.ghcn_files.specs.StationLines.{id_of}
use Rattle.ghcn_files.proofs.Adding.{fault_of_right_line, id_there, station_of-right}
use Rattle.ghcn_files.proofs.ById.{has_place, not_found}
use Rattle.ghcn_files.proofs.listing.Listing.add.Goals as goal

-- a line whose ID a station has
pub returns-then-is_listed-clause-err : goal.returns-then-is_listed-clause-err
returns-then-is_listed-clause-err c = λ earlier e.
    let right = c.in-Ok.ensures in
    let line = c.args.line.now in
    let known = sym (has_place c.args.self.now (id_of line)) ∙ sym c.is_listed.ensures ∙ c.if-is_listed.true in
    fault_of_right_line earlier c.args.number line c.args.self.now (id_of line) true _ e right.ok refl known refl

-- a line after as many stations as there may be
pub returns-then-len-ge-MOST_STATIONS-clause-err : goal.returns-then-len-ge-MOST_STATIONS-clause-err
returns-then-len-ge-MOST_STATIONS-clause-err c = λ earlier e.
    let right = c.in-Ok.ensures in
    let line = c.args.line.now in
    let known = sym (has_place c.args.self.now (id_of line)) ∙ sym c.is_listed.ensures ∙ c.if-is_listed.false in
    let full = le-ltb (length c.args.self.now) (2 ^ 20)
    (omega (arith, c.len.ensures, ap length c.self.view_is, c.if-len-ge-MOST_STATIONS.true)) in
    fault_of_right_line earlier c.args.number line c.args.self.now (id_of line) false false e right.ok refl known full

-- a line without an error has the columns of an ID
pub is_listed-requires : goal.is_listed-requires
is_listed-requires c =
    let there = id_there c.args.line.now c.in-Ok.ensures.ok in
    omega arith

-- when its station is held too
pub push-requires-clause-long : goal.push-requires-clause-long
push-requires-clause-long c = id_there c.args.line.now c.in-Ok.ensures.ok

-- an ID that isn't listed isn't any station's
pub push-requires-clause-new : goal.push-requires-clause-new
push-requires-clause-new c = not_found _ (sym c.is_listed.ensures ∙ c.if-is_listed.false)

-- the station of a line without an error is right
pub push-requires-clause-right : goal.push-requires-clause-right
push-requires-clause-right c = station_of-right c.args.line.now c.in-Ok.ensures.ok

-- the line's station is held after the others
pub returns-in-Ok-push-clause-ok : goal.returns-in-Ok-push-clause-ok
returns-in-Ok-push-clause-ok c =
    let right = c.in-Ok.ensures in
    let held = c.args.self.now in
    let line = c.args.line.now in
    let known = sym (has_place held (id_of line)) ∙ sym c.is_listed.ensures ∙ c.if-is_listed.false in
    let room = lt-ltb (length held) (2 ^ 20)
    (omega (arith, c.len.ensures, ap length c.self.view_is, c.if-len-ge-MOST_STATIONS.false)) in
    record {
      right = λ earlier e.
          fault_of_right_line earlier c.args.number line held (id_of line) false true e right.ok refl known room;
      added = c.in-Ok-push.ensures;
    }
