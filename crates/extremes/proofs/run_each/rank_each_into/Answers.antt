use Rattle.std.proofs.Common.{List, ℕ, inl, inr, refl, sym}
use Rattle.extremes.proofs.run_each.rank_each_into.Goals as goal

-- the folder is there, and the run goes on
pub returns-in-Ok-None : goal.returns-in-Ok-None
returns-in-Ok-None g c = λ lines asks. inr (
  rw c.in-Ok-None.field-0-is at c.in-Ok-None.ensures,
  c.rank_each_apart.ensures lines asks,
)

-- or it isn't
pub returns-in-Ok-Some : goal.returns-in-Ok-Some
returns-in-Ok-Some g c = λ lines asks.
    let missing = rw c.in-Ok-Some.field-0-is at c.in-Ok-Some.ensures in
    inl (
      refl,
      inl (
        c.in-Ok-Some.folder.now,
        missing.0,
        missing.1,
        record { ends = c.not_written-ending.ensures.ending; unprinted = refl; said = c.not_written-ending.ensures.line },
      ),
    )

-- or memory runs out
pub returns-in-Err : goal.returns-in-Err
returns-in-Err g c = λ lines asks. inl (
  refl,
  inr (record { ends = c.refused.ensures.ending; unprinted = refl; said = c.refused.ensures.line }),
)
