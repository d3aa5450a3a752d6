use Rattle.std.proofs.Output.{has_written_of_eq}
use Rattle.explanations.proofs.Saying.{is_none_of, is_too_much}
use Rattle.explanations.proofs.query.WrongWordDisplay.fmt.Goals as goal

pub returns-in-OneOf-clause-writes : goal.returns-in-OneOf-clause-writes
returns-in-OneOf-clause-writes g c = λ plain ok.
    has_written_of_eq _ _ _ _ _ (is_none_of c.args.self.now c.in-OneOf.words c.in-OneOf.is)
    (c.write.ensures.writes plain ok)

pub returns-in-Nothing-clause-writes : goal.returns-in-Nothing-clause-writes
returns-in-Nothing-clause-writes g c = λ plain ok.
    has_written_of_eq _ _ _ _ _ (is_too_much c.args.self.now c.in-Nothing.is)
    (c.write-in-Nothing.ensures.writes plain ok)
