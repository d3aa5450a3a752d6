use Rattle.std.proofs.Common.{ℕ, ◌+◌, ◌*◌, List, min, sym, ◌∙◌, arith}
use Rattle.std.specs.Prelude.{bit_or}
use Rattle.std.proofs.lemmas.Simd.{length-zip2}
use Rattle.ghcn_files.proofs.FlagLanes.{AreGroups, are-zero, group_less, less-long, no-flag-more}
use Rattle.ghcn_files.proofs.flags.has_flag.Goals as goal

-- four days more
pub loop-part-preserved : goal.loop-part-preserved
loop-part-preserved c =
    let line : List ℕ = c.args.line.now in
    let part : ℕ = c.loop-part.part in
    let groups : AreGroups line c.four_groups.result.now c.min-day.result = record {
      long = c.told-line;
      bytes = c.fits-line;
      within = omega arith;
      same = c.four_groups.ensures;
    } in
    record {
      many = length-zip2 bit_or c.loop-part.others (group_less c.four_groups.result.now)
          (c.loop-part.invariant.many ∙ sym (less-long line c.four_groups.result.now c.min-day.result groups))
          ∙ c.loop-part.invariant.many;
      none = no-flag-more line c.loop-part.others c.four_groups.result.now (min (4 * part) 31) c.min-day.result
          (min (4 * (part + 1)) 31) groups c.loop-part.invariant.many (omega arith) (omega arith)
          c.loop-part.invariant.none;
    }

-- all days
pub returns : goal.returns
returns c = λ none j lt.
    c.loop-part.invariant.none (are-zero c.loop-part.others none) j (omega (arith, lt))
