use Rattle.std.proofs.Common.{◌∙◌, codes, inl, inr, sym, true≢false}
use Rattle.std.specs.Str.Parse.{ParsesUnsigned, ExplainsUnsignedError, HasUnsignedDigitsIfOk}
use Rattle.clap.specs.Words.{found_of}
use Rattle.clap.proofs.WalkLemmas.{one_text-rows}
use Rattle.command_line.proofs.CommandLines.{count_read}
use Rattle.command_line.proofs.words.check_one_of.Goals as goal

-- if an option of the check of one query is missing, what is given doesn't fit together
pub returns-then-not-has_all_of_one_check-clause-fit : goal.returns-then-not-has_all_of_one_check-clause-fit
returns-then-not-has_all_of_one_check-clause-fit c = λ fit. elim fit.queries [
  | inl one ↦ absurd (true≢false (sym (c.has_all_of_one_check.ensures.1 one.whole)
      ∙ c.if-not-has_all_of_one_check.true))
  | inr several ↦ absurd (true≢false (sym several.queries ∙ c.requires))
]

-- nor does it if there is a folder
pub returns-then-has_value-clause-fit : goal.returns-then-has_value-clause-fit
returns-then-has_value-clause-fit c = λ fit. elim fit.queries [
  | inl one ↦ absurd (true≢false (sym c.if-has_value.true ∙ c.has_value.ensures ∙ one.papers))
  | inr several ↦ absurd (true≢false (sym several.queries ∙ c.requires))
]

-- each field is what the matches have under its name
pub returns-clause-ok : goal.returns-clause-ok
returns-clause-ok c = let f = found_of c.args.matches.now in (
  record {
    whole = c.has_all_of_one_check.ensures.0 c.if-not-has_all_of_one_check.false;
    queries = c.requires;
    papers = sym c.has_value.ensures ∙ c.if-has_value.false;
  },
  c.in_ok-text.ensures,
  c.in_ok-text-2.ensures,
  c.in_ok-text-3.ensures,
  c.in_ok-text-4.ensures,
  c.is_given.ensures,
  (
    c.get_one.result,
    count_read (λ bs r. ParsesUnsigned 64 10 bs r × ExplainsUnsignedError 10 bs r × HasUnsignedDigitsIfOk bs r)
        (λ bs r given. given.0) _ _
        (λ e. c.get_one.ensures.none (one_text-rows f (codes "workers") ∙ e))
        (λ t e. c.get_one.ensures.value t (one_text-rows f (codes "workers") ∙ e)),
    c.unwrap_or.ensures,
  ),
  c.in_ok-files.ensures.ok,
)
