use Rattle.std.proofs.Common.{ap, ap₂, codes, false, ◌≡◌, ◌∙◌}
use Rattle.std.proofs.lemmas.Result.{IfOk-weaker}
use Rattle.clap.specs.Words.{app_of, new_app, with_rule}
use Rattle.clap.specs.Simple.{app_of_fields}
use Rattle.clap.specs.declared.builder.Command.TheViews.{out-Command as fields_of}
use Rattle.command_line.specs.CommandLine.{and_files}
use Rattle.command_line.proofs.CommandLines.{either}
use Rattle.command_line.proofs.words.check_words.Goals as goal

-- the subcommand as it is made is that of the definition
pub returns : goal.returns
returns c =
    let made : app_of c.after_help.result ≡ new_app (codes "check")
    = ap app_of_fields c.after_help.ensures ∙ ap app_of_fields c.override_usage.ensures
    ∙ ap app_of_fields c.about.ensures ∙ c.new.ensures.app in
    let one = c.in_ok-arg-4.ensures.shape c.option-3.ensures.local
    ∙ ap₂ with_rule (c.in_ok-arg-3.ensures.shape c.option-2.ensures.local
    ∙ ap₂ with_rule (c.in_ok-arg-2.ensures.shape c.option.ensures.local
    ∙ ap₂ with_rule (c.in_ok-arg.ensures.shape c.needed.ensures.local
    ∙ ap₂ with_rule made c.needed.ensures.rule) c.option.ensures.rule) c.option-2.ensures.rule)
    c.option-3.ensures.rule in
    let options = c.in_ok-check.ensures.shape c.readers.ensures.local
    ∙ ap₂ with_rule (c.in_ok-arg-7.ensures.shape c.flag.ensures.local
    ∙ ap₂ with_rule (c.in_ok-arg-6.ensures.shape c.option-5.ensures.local
    ∙ ap₂ with_rule (c.in_ok-arg-5.ensures.shape c.option-4.ensures.local
    ∙ ap₂ with_rule one c.option-4.ensures.rule) c.option-5.ensures.rule) c.flag.ensures.rule)
    c.readers.ensures.rule in
    record {
      app = IfOk-weaker c.with_files.result _ _ (λ r h. h ∙ ap and_files options) c.with_files.ensures.app;
      local = c.with_files.ensures.local;
    }

-- no argument of its own is one of subcommands
pub with_files-requires : goal.with_files-requires
with_files-requires c =
    let plain : (fields_of c.after_help.result).has_globals ≡ false
    = ap (λ f. f.has_globals) c.after_help.ensures ∙ ap (λ f. f.has_globals) c.override_usage.ensures
    ∙ ap (λ f. f.has_globals) c.about.ensures ∙ c.new.ensures.local in
    let one = c.in_ok-arg-4.ensures.globals ∙ ap₂ either (c.in_ok-arg-3.ensures.globals
    ∙ ap₂ either (c.in_ok-arg-2.ensures.globals ∙ ap₂ either (c.in_ok-arg.ensures.globals
    ∙ ap₂ either plain c.needed.ensures.local) c.option.ensures.local) c.option-2.ensures.local)
    c.option-3.ensures.local in
    c.in_ok-check.ensures.globals
    ∙ ap₂ either (c.in_ok-arg-7.ensures.globals ∙ ap₂ either (c.in_ok-arg-6.ensures.globals
    ∙ ap₂ either (c.in_ok-arg-5.ensures.globals ∙ ap₂ either one c.option-4.ensures.local)
    c.option-5.ensures.local) c.flag.ensures.local) c.readers.ensures.local
