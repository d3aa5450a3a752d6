use Rattle.std.proofs.Common.{ap, ap₂, codes, false, Some, ◌≡◌, ◌∙◌}
use Rattle.std.proofs.lemmas.Result.{IfOk-weaker}
use Rattle.clap.specs.Words.{app_of, new_app, rule_of, with_rule}
use Rattle.clap.specs.Simple.{app_of_fields}
use Rattle.clap.specs.declared.builder.Command.TheViews.{out-Command as fields_of}
use Rattle.clap.specs.declared.builder.ValueParser.{ValueParser}
use Rattle.command_line.specs.CommandLine.{option_of, parsed, is_global, and_files, whole_number, whole_count}
use Rattle.command_line.proofs.CommandLines.{parsed_by, either}
use Rattle.command_line.proofs.words.rank_words.Goals as goal

-- the subcommand as it is made is that of the definition
pub returns : goal.returns
returns c =
    let count : c.value_parser-workers.result.value_parser ≡ Some whole_count = c.value_parser-workers.ensures.given.1
    ∙ ap (λ (p : ValueParser). Some p) (c.value_parser-workers.ensures.given.2 ∙ c.value_parser.ensures) in
    let workers_is : rule_of c.value_parser-workers.result ≡ parsed whole_count (option_of (codes "workers"))
    = ap rule_of c.value_parser-workers.ensures.others
    ∙ ap (parsed_by c.value_parser-workers.result.value_parser) c.option.ensures.rule
    ∙ ap (λ p. parsed_by p (option_of (codes "workers"))) count in
    let whole : c.value_parser-guess.result.value_parser ≡ Some whole_number = c.value_parser-guess.ensures.given.1
    ∙ ap (λ (p : ValueParser). Some p) (c.value_parser-guess.ensures.given.2 ∙ c.value_parser-2.ensures) in
    let guess_is : rule_of c.value_parser-guess.result ≡ parsed whole_number (option_of (codes "guess"))
    = ap rule_of c.value_parser-guess.ensures.others
    ∙ ap (parsed_by c.value_parser-guess.result.value_parser) c.option-2.ensures.rule
    ∙ ap (λ p. parsed_by p (option_of (codes "guess"))) whole in
    let local_workers : is_global c.value_parser-workers.result ≡ false
    = ap is_global c.value_parser-workers.ensures.others ∙ c.option.ensures.local in
    let local_guess : is_global c.value_parser-guess.result ≡ false
    = ap is_global c.value_parser-guess.ensures.others ∙ c.option-2.ensures.local in
    let made : app_of c.after_help.result ≡ new_app (codes "rank")
    = ap app_of_fields c.after_help.ensures ∙ ap app_of_fields c.override_usage.ensures
    ∙ ap app_of_fields c.about.ensures ∙ c.new.ensures.app in
    let queries = c.in_ok-arg-4.ensures.shape c.option-5.ensures.local
    ∙ ap₂ with_rule (c.in_ok-arg-3.ensures.shape c.option-4.ensures.local
    ∙ ap₂ with_rule (c.in_ok-arg-2.ensures.shape c.option-3.ensures.local
    ∙ ap₂ with_rule (c.in_ok-arg.ensures.shape c.needed.ensures.local
    ∙ ap₂ with_rule made c.needed.ensures.rule) c.option-3.ensures.rule) c.option-4.ensures.rule)
    c.option-5.ensures.rule in
    let options = c.in_ok-rank.ensures.shape c.option-6.ensures.local
    ∙ ap₂ with_rule (c.in_ok-arg-6.ensures.shape local_guess
    ∙ ap₂ with_rule (c.in_ok-arg-5.ensures.shape local_workers ∙ ap₂ with_rule queries workers_is) guess_is)
    c.option-6.ensures.rule in
    record {
      app = IfOk-weaker c.with_files.result _ _ (λ r h. h ∙ ap and_files options) c.with_files.ensures.app;
      local = c.with_files.ensures.local;
    }

-- no argument of its own is one of subcommands
pub with_files-requires : goal.with_files-requires
with_files-requires c =
    let local_workers : is_global c.value_parser-workers.result ≡ false
    = ap is_global c.value_parser-workers.ensures.others ∙ c.option.ensures.local in
    let local_guess : is_global c.value_parser-guess.result ≡ false
    = ap is_global c.value_parser-guess.ensures.others ∙ c.option-2.ensures.local in
    let plain : (fields_of c.after_help.result).has_globals ≡ false
    = ap (λ f. f.has_globals) c.after_help.ensures ∙ ap (λ f. f.has_globals) c.override_usage.ensures
    ∙ ap (λ f. f.has_globals) c.about.ensures ∙ c.new.ensures.local in
    let without = c.in_ok-arg-4.ensures.globals ∙ ap₂ either (c.in_ok-arg-3.ensures.globals
    ∙ ap₂ either (c.in_ok-arg-2.ensures.globals ∙ ap₂ either (c.in_ok-arg.ensures.globals
    ∙ ap₂ either plain c.needed.ensures.local) c.option-3.ensures.local) c.option-4.ensures.local)
    c.option-5.ensures.local in
    c.in_ok-rank.ensures.globals
    ∙ ap₂ either (c.in_ok-arg-6.ensures.globals ∙ ap₂ either (c.in_ok-arg-5.ensures.globals
    ∙ ap₂ either without local_workers) local_guess) c.option-6.ensures.local
