use Rattle.ghcn_series.proofs.Cited.{ℤ, get_or, pos, w32, rules, ap, to_z, of_z, int_le, Bool, to_z-of_z}
use Rattle.ghcn_series.proofs.RunDays.{places-more, places-unread}
use Rattle.ghcn_series.proofs.days.places_from.Goals as goal

-- with one more place
pub loop-place-preserved : goal.loop-place-preserved
loop-place-preserved c =
    let values = c.args.values.now in let p = c.loop-place.place in
    let lt = c.loop-place-test.true in
    let test : ℤ → Bool = int_le (to_z w32 (of_z w32 c.args.least)) in
    let is = ap test (to_z-of_z w32 (get_or values p (pos 0)) (search rules)) in rw c.from.ensures record {
      read = places-more test values c.loop-place.word p _ lt is c.loop-place.invariant.unread
          c.loop-place.invariant.read;
      unread = places-unread test values c.loop-place.word p _ lt is c.loop-place.invariant.unread;
    }
