use Rattle.std.proofs.Common.{ap, ap₂, false, ◌≡◌, ◌∙◌, codes}
use Rattle.std.proofs.lemmas.Result.{IfOk-weaker}
use Rattle.clap.specs.Words.{app_of, rule_of, with_rule}
use Rattle.command_line.specs.CommandLine.{flag_of, short_by, is_global}
use Rattle.command_line.proofs.CommandLines.{either}
use Rattle.command_line.proofs.words.with_files.Goals as goal

-- the arguments as they are added are those of the definition
pub returns : goal.returns
returns c =
    let null_is : rule_of c.short.result ≡ short_by 48 (flag_of (codes "null"))
    = ap rule_of c.short.ensures ∙ ap (short_by 48) c.flag.ensures.rule in
    let null_local : is_global c.short.result ≡ false = ap is_global c.short.ensures ∙ c.flag.ensures.local in
    let options = c.in_ok-arg-2.ensures.shape null_local
    ∙ ap₂ with_rule (c.in_ok-arg.ensures.shape c.option.ensures.local
    ∙ ap (with_rule (app_of c.args.command)) c.option.ensures.rule) null_is in
    let without = c.in_ok-arg-2.ensures.globals ∙ ap₂ either (c.in_ok-arg.ensures.globals
    ∙ ap₂ either c.requires c.option.ensures.local) null_local in
    let shown = c.in_ok-arg-3.ensures.shape c.flag-2.ensures.local ∙ ap₂ with_rule options c.flag-2.ensures.rule in
    let shown_local = c.in_ok-arg-3.ensures.globals ∙ ap₂ either without c.flag-2.ensures.local in
    record {
      app = IfOk-weaker c.arg-4.result _ _
          (λ r h. h.shape c.many.ensures.local ∙ ap₂ with_rule shown c.many.ensures.rule) c.arg-4.ensures;
      local = IfOk-weaker c.arg-4.result _ _
          (λ r h. h.globals ∙ ap₂ either shown_local c.many.ensures.local) c.arg-4.ensures;
    }
