use Rattle.std.proofs.Common.{◌∙◌, codes, sym}
use Rattle.std.specs.Int.{w64}
use Rattle.std.specs.Str.Parse.{ParsesSigned, ExplainsSignedError, HasSignedDigitsIfOk}
use Rattle.std.specs.Str.Parse.{ParsesUnsigned, ExplainsUnsignedError, HasUnsignedDigitsIfOk}
use Rattle.clap.specs.Words.{found_of}
use Rattle.clap.proofs.WalkLemmas.{first_value-rows, one_text-rows}
use Rattle.command_line.proofs.CommandLines.{guess_read, count_read}
use Rattle.command_line.proofs.words.rank_one_of.Goals as goal

-- each field is what the matches have under its name
pub returns-clause-ok : goal.returns-clause-ok
returns-clause-ok c = let f = found_of c.args.matches.now in (
  record {
    query = sym c.has_value.ensures ∙ c.if-not-has_value.false;
    queries = c.requires;
    papers = sym c.has_value-2.ensures ∙ c.if-has_value.false;
  },
  c.in_ok-text.ensures,
  c.in_ok-text-2.ensures,
  (
    c.get_one.result,
    count_read (λ bs r. ParsesUnsigned 64 10 bs r × ExplainsUnsignedError 10 bs r × HasUnsignedDigitsIfOk bs r)
        (λ bs r given. given.0) _ _
        (λ e. c.get_one.ensures.none (one_text-rows f (codes "workers") ∙ e))
        (λ t e. c.get_one.ensures.value t (one_text-rows f (codes "workers") ∙ e)),
    c.unwrap_or.ensures,
  ),
  guess_read (λ bs r. ParsesSigned w64 10 bs r × ExplainsSignedError 10 bs r × HasSignedDigitsIfOk bs r)
      (λ bs r given. given.0) _ _
      (λ e. c.get_one-2.ensures.none (one_text-rows f (codes "guess") ∙ e))
      (λ t e. c.get_one-2.ensures.value t (one_text-rows f (codes "guess") ∙ e)),
  c.in_ok-copy.ensures ∙ c.get_str.ensures ∙ first_value-rows f (codes "certificate"),
  c.in_ok-files.ensures.ok,
)
