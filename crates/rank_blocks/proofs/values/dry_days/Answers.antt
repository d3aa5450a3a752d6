use Rattle.rank_blocks.proofs.Cited.{test_of}
use Rattle.rank_blocks.proofs.ValueSteps.{usable-word}
use Rattle.rank_scores.specs.declared.spell.Spell.TheVariants as spells
use Rattle.rank_blocks.proofs.values.dry_days.Goals as goal

-- of all places those of the usable days
pub returns : goal.returns
returns c = usable-word (test_of spells.Dry) c.args.word c.dry_places.result c.args.values.now c.dry_places.ensures
