use Rattle.std.proofs.Common.{◌∙◌, codes, sym, true≢false}
use Rattle.std.specs.Str.Parse.{ParsesUnsigned, ExplainsUnsignedError, HasUnsignedDigitsIfOk}
use Rattle.clap.specs.Words.{found_of}
use Rattle.clap.proofs.WalkLemmas.{first_value-rows, one_text-rows}
use Rattle.command_line.proofs.CommandLines.{count_read}
use Rattle.command_line.proofs.words.rank_each_of.Goals as goal

-- each field is what the matches have under its name
pub returns-clause-ok : goal.returns-clause-ok
returns-clause-ok c = let f = found_of c.args.matches.now in (
  record {
    queries = c.requires;
    alone = c.has_part_of_one_ranking.ensures.0 c.if-has_part_of_one_ranking.false;
    input = λ both. true≢false (sym (c.are_both_input.ensures.1 both) ∙ c.if-are_both_input.false);
  },
  c.in_ok-text.ensures,
  c.in_ok-text-2.ensures,
  c.in_ok-copy.ensures ∙ c.get_str.ensures ∙ first_value-rows f (codes "papers"),
  (
    c.get_one.result,
    count_read (λ bs r. ParsesUnsigned 64 10 bs r × ExplainsUnsignedError 10 bs r × HasUnsignedDigitsIfOk bs r)
        (λ bs r given. given.0) _ _
        (λ e. c.get_one.ensures.none (one_text-rows f (codes "workers") ∙ e))
        (λ t e. c.get_one.ensures.value t (one_text-rows f (codes "workers") ∙ e)),
    c.unwrap_or.ensures,
  ),
  c.in_ok-files.ensures.ok,
)
