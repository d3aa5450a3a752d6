use Rattle.std.proofs.Common.{ap, ◌∙◌}
use Rattle.std.proofs.lemmas.Option.{IfSome_then}
use Rattle.ghcn_files.specs.Listed.{listed}
use Rattle.rank_input.proofs.list.read_text.Goals as goal

-- the list of both parts is that of the text
pub returns-in-Some : goal.returns-in-Some
returns-in-Some g c =
    IfSome_then c.read_halves.result c.read_halves.ensures (λ stations is. ap listed c.in-Some.ensures.parts ∙ is)
