use Rattle.rank_blocks.proofs.Cited.{◌≡◌, ℤ, arith, rules, not, ints, test_of}
use Rattle.rank_blocks.proofs.ValueSteps.{usable-word, other-places}
use Rattle.rank_scores.specs.declared.spell.Spell.TheVariants as spells
use Rattle.rank_blocks.proofs.values.wet_days.Goals as goal

-- a value that isn't dry is wet
wet-not_dry : (v : ℤ) → not (test_of spells.Dry v) ≡ test_of spells.Wet v
wet-not_dry v = grind (arith, ints)

-- of the places that aren't dry those of the usable days
pub returns : goal.returns
returns c = search (rules, arith, usable-word, other-places, wet-not_dry)
