use Rattle.std.proofs.Output.{has_written_of_eq}
use Rattle.explanations.proofs.Saying.{form_follows, one_follows}
use Rattle.explanations.proofs.query.MoreWordsDisplay.fmt.Goals as goal

pub returns-in-OneOf-clause-writes : goal.returns-in-OneOf-clause-writes
returns-in-OneOf-clause-writes g c = λ plain ok.
    has_written_of_eq _ _ _ _ _ (one_follows c.args.self.now c.in-OneOf.words c.in-OneOf.is)
    (c.write.ensures.writes plain ok)

pub returns-in-Form-clause-writes : goal.returns-in-Form-clause-writes
returns-in-Form-clause-writes g c = λ plain ok.
    has_written_of_eq _ _ _ _ _ (form_follows c.args.self.now c.in-Form.form c.in-Form.is)
    (c.write-in-Form.ensures.writes plain ok)
