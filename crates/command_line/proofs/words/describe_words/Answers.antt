use Rattle.std.proofs.Common.{ap, ap₂, codes, false, ◌≡◌, ◌∙◌}
use Rattle.std.proofs.lemmas.Result.{IfOk-weaker}
use Rattle.clap.specs.Words.{app_of, new_app, with_rule}
use Rattle.clap.specs.Simple.{app_of_fields}
use Rattle.clap.specs.declared.builder.Command.TheViews.{out-Command as fields_of}
use Rattle.command_line.specs.CommandLine.{and_files}
use Rattle.command_line.proofs.CommandLines.{either}
use Rattle.command_line.proofs.words.describe_words.Goals as goal

-- the subcommand as it is made is that of the definition
pub returns : goal.returns
returns c =
    let made : app_of c.after_help.result ≡ new_app (codes "describe")
    = ap app_of_fields c.after_help.ensures ∙ ap app_of_fields c.about.ensures ∙ c.new.ensures.app in
    let options = c.in_ok-describe.ensures.shape c.readers.ensures.local
    ∙ ap₂ with_rule (c.in_ok-arg.ensures.shape c.needed.ensures.local
    ∙ ap₂ with_rule made c.needed.ensures.rule) c.readers.ensures.rule in
    record {
      app = IfOk-weaker c.with_files.result _ _ (λ r h. h ∙ ap and_files options) c.with_files.ensures.app;
      local = c.with_files.ensures.local;
    }

-- no argument of its own is one of subcommands
pub with_files-requires : goal.with_files-requires
with_files-requires c =
    let plain : (fields_of c.after_help.result).has_globals ≡ false
    = ap (λ f. f.has_globals) c.after_help.ensures ∙ ap (λ f. f.has_globals) c.about.ensures ∙ c.new.ensures.local in
    c.in_ok-describe.ensures.globals
    ∙ ap₂ either (c.in_ok-arg.ensures.globals ∙ ap₂ either plain c.needed.ensures.local) c.readers.ensures.local
