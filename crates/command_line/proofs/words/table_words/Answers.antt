use Rattle.std.proofs.Common.{ap, ap₂, codes, false, ◌≡◌, ◌∙◌}
use Rattle.std.proofs.lemmas.Result.{IfOk-weaker}
use Rattle.clap.specs.Words.{app_of, new_app, with_rule}
use Rattle.clap.specs.Simple.{app_of_fields}
use Rattle.clap.specs.declared.builder.Command.TheViews.{out-Command as fields_of}
use Rattle.command_line.proofs.CommandLines.{either}
use Rattle.command_line.proofs.words.table_words.Goals as goal

-- the subcommand as it is made is that of the definition
pub returns : goal.returns
returns c =
    let made : app_of c.after_help.result ≡ new_app (codes "table")
    = ap app_of_fields c.after_help.ensures ∙ ap app_of_fields c.about.ensures ∙ c.new.ensures.app in
    let plain : (fields_of c.after_help.result).has_globals ≡ false
    = ap (λ f. f.has_globals) c.after_help.ensures ∙ ap (λ f. f.has_globals) c.about.ensures ∙ c.new.ensures.local in
    let options = c.in_ok-arg.ensures.shape c.option.ensures.local ∙ ap₂ with_rule made c.option.ensures.rule in
    let without = c.in_ok-arg.ensures.globals ∙ ap₂ either plain c.option.ensures.local in
    record {
      app = IfOk-weaker c.arg-2.result _ _
          (λ r h. h.shape c.many.ensures.local ∙ ap₂ with_rule options c.many.ensures.rule) c.arg-2.ensures;
      local = IfOk-weaker c.arg-2.result _ _
          (λ r h. h.globals ∙ ap₂ either without c.many.ensures.local) c.arg-2.ensures;
    }
