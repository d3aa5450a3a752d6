use Rattle.rank_table.proofs.Written.{kept_text}
use Rattle.rank_table.proofs.records.text_of.Goals as goal

-- the flushed bytes are all that was written
pub returns-in-Ok : goal.returns-in-Ok
returns-in-Ok c = λ all h. kept_text _ _ all c.in-Ok.ensures.ok h.written
