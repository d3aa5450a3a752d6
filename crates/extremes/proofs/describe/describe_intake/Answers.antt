use Rattle.std.proofs.Common.{refl}
use Rattle.extremes.proofs.Answering.{text_of_intake}
use Rattle.extremes.proofs.describe.describe_intake.Goals as goal

-- the text says what the files hold
pub returns-clause-ok : goal.returns-clause-ok
returns-clause-ok c = text_of_intake c.args.intake _ _ c.in_ok-description.ensures.ok c.in_ok-text.ensures refl
