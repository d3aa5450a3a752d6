use Rattle.std.proofs.Common.{◌∙◌}
use Rattle.clap.specs.Words.{found_of}
use Rattle.clap.proofs.WalkLemmas.{one_text-rows}
use Rattle.command_line.proofs.CommandLines.{flag_read}
use Rattle.command_line.proofs.given.is_given.Goals as goal

-- what is read of the flag's text says whether it is given
pub returns : goal.returns
returns c = let rows = one_text-rows (found_of c.args.matches.now) c.args.flag.now in
    flag_read _ _ _ _ c.unwrap_or.ensures
    (λ e. c.get_one.ensures.none (rows ∙ e)) (λ t e. c.get_one.ensures.value t (rows ∙ e))
