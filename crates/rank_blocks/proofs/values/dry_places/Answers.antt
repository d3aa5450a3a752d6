use Rattle.rank_blocks.proofs.Cited.{◌≡◌, get_or, pos, SFits, w32, ap, ◌∙◌, rules, to_z-of_z, test_of}
use Rattle.ghcn_series.proofs.RunDays.{places-more, places-unread}
use Rattle.rank_scores.specs.declared.spell.Spell.TheVariants as spells
use Rattle.rank_blocks.proofs.values.dry_places.Goals as goal

-- with one more place
pub loop-place-preserved : goal.loop-place-preserved
loop-place-preserved c =
    let values = c.args.values.now in
    let p = c.loop-place.place in
    let lt = c.loop-place-test.true in
    let dry = c.loop-place.dry in
    let fits : SFits w32 (get_or values p (pos 0)) = search rules in
    let is : c.passes.result ≡ test_of spells.Dry (get_or values p (pos 0)) =
    c.passes.ensures ∙ ap (test_of spells.Dry) (to_z-of_z w32 _ fits) in
    rw c.from.ensures record {
      read = places-more (test_of spells.Dry) values dry p c.passes.result lt is c.loop-place.invariant.unread
          c.loop-place.invariant.read;
      unread = places-unread (test_of spells.Dry) values dry p c.passes.result lt is c.loop-place.invariant.unread;
    }
