use Rattle.std.proofs.Common.{◌+◌, ◌*◌, inl, inr, ◌∙◌, arith}
use Rattle.std.proofs.lemmas.Bool.{cases_lt}
use Rattle.ghcn_files.proofs.row.values_in.Goals as goal

-- the last ones come first
pub loop-part-init : goal.loop-part-init
loop-part-init c = record {
  first = λ j lt. absurd (omega (arith, lt));
  last = λ j le lt. c.put_four.ensures.four j le lt;
}

-- four days more have theirs
pub loop-part-preserved : goal.loop-part-preserved
loop-part-preserved c =
    let part = c.loop-part.part in
    let before = c.loop-part.invariant in
    let adds = c.put_four-in-loop-part.ensures in
    record {
      first = λ j lt. elim (cases_lt j (4 * part)) [
        | inl less ↦ adds.others j less ∙ before.first j less
        | inr from ↦ adds.four j from (omega (arith, lt))
      ];
      last = λ j le lt. elim (cases_lt j (4 * part + 4)) [
        | inl within ↦ adds.four j (omega (arith, le, c.loop-part-test.true)) within
        | inr past ↦ adds.behind j past ∙ before.last j le lt
      ];
    }

-- all days have theirs
pub returns : goal.returns
returns c = λ j lt. elim (cases_lt j 28) [
  | inl before ↦ c.loop-part.invariant.first j (omega (arith, before))
  | inr from ↦ c.loop-part.invariant.last j (omega (arith, from)) lt
]
