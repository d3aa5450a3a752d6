use Rattle.std.proofs.Common.{◌∙◌, [], refl}
use Rattle.std.proofs.lemmas.Result.{IfOk-weaker}
use Rattle.clap.specs.Words.{found_of}
use Rattle.clap.proofs.WalkLemmas.{first_value-rows}
use Rattle.command_line.proofs.CommandLines.{read_or}
use Rattle.command_line.proofs.given.text.Goals as goal

-- the text is what the matches have under the name
pub returns : goal.returns
returns c =
    let given = read_or (λ s. s.now) _ _ _ _ [] c.unwrap_or.ensures
    (c.get_str.ensures ∙ first_value-rows (found_of c.args.matches.now) c.args.name.now) refl in
    IfOk-weaker c.from_str.result _ _ (λ t is. is ∙ given) c.from_str.ensures.ok
