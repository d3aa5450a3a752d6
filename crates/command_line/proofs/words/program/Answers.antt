use Rattle.std.proofs.Common.{ap, ap₂, codes, false, true, ◌≡◌, ◌∙◌}
use Rattle.std.proofs.lemmas.Result.{IfOk-weaker}
use Rattle.clap.specs.Words.{App, app_of, new_app, with_subcommand}
use Rattle.clap.specs.Simple.{app_of_fields}
use Rattle.clap.specs.declared.builder.Command.TheViews.{out-Command as fields_of}
use Rattle.command_line.proofs.CommandLines.{either}
use Rattle.command_line.proofs.words.program.Goals as goal

-- an app that needs a subcommand
abbrev needing : App → App
needing a = record a { top = record a.top { subcommand_required = true } }

-- one without the subcommand `help`
abbrev helpless : App → App
helpless a = record a { top = record a.top { disable_help_subcommand = true } }

-- one with a version
abbrev versioned : App → App
versioned a = record a { top = record a.top { has_version = true } }

-- the command line as it is made is the one of the definition
pub returns : goal.returns
returns c =
    let made : app_of c.disable_help_subcommand.result ≡ helpless (needing (versioned (new_app (codes "extremes"))))
    = ap app_of_fields c.disable_help_subcommand.ensures ∙ ap helpless (ap app_of_fields c.subcommand_required.ensures
    ∙ ap needing (ap app_of_fields c.after_help.ensures ∙ ap app_of_fields c.override_usage.ensures
    ∙ ap app_of_fields c.version.ensures ∙ ap versioned (ap app_of_fields c.about.ensures ∙ c.new.ensures.app))) in
    let plain : (fields_of c.disable_help_subcommand.result).has_globals ≡ false
    = ap (λ f. f.has_globals) c.disable_help_subcommand.ensures ∙ ap (λ f. f.has_globals) c.subcommand_required.ensures
    ∙ ap (λ f. f.has_globals) c.after_help.ensures ∙ ap (λ f. f.has_globals) c.override_usage.ensures
    ∙ ap (λ f. f.has_globals) c.version.ensures ∙ ap (λ f. f.has_globals) c.about.ensures ∙ c.new.ensures.local in
    let rank_local = c.in_ok-rank_words.ensures.local in
    let merge_local = c.in_ok-merge_words.ensures.local in
    let check_local = c.in_ok-check_words.ensures.local in
    let describe_local = c.in_ok-describe_words.ensures.local in
    let table_local = c.in_ok-table_words.ensures.local in
    let describes = c.in_ok-subcommand-4.ensures.shape describe_local
    ∙ ap₂ with_subcommand (c.in_ok-subcommand-3.ensures.shape check_local
    ∙ ap₂ with_subcommand (c.in_ok-subcommand-2.ensures.shape merge_local
    ∙ ap₂ with_subcommand (c.in_ok-subcommand.ensures.shape rank_local
    ∙ ap₂ with_subcommand made (ap (λ (a : App). a.top) c.in_ok-rank_words.ensures.app))
    (ap (λ (a : App). a.top) c.in_ok-merge_words.ensures.app))
    (ap (λ (a : App). a.top) c.in_ok-check_words.ensures.app))
    (ap (λ (a : App). a.top) c.in_ok-describe_words.ensures.app) in
    let without = c.in_ok-subcommand-4.ensures.globals ∙ ap₂ either (c.in_ok-subcommand-3.ensures.globals ∙ ap₂ either (c.in_ok-subcommand-2.ensures.globals
    ∙ ap₂ either (c.in_ok-subcommand.ensures.globals ∙ ap₂ either plain rank_local) merge_local) check_local) describe_local in
    record {
      app = IfOk-weaker c.subcommand-5.result _ _
          (λ r h. h.shape table_local
          ∙ ap₂ with_subcommand describes (ap (λ (a : App). a.top) c.in_ok-table_words.ensures.app))
          c.subcommand-5.ensures;
      local = IfOk-weaker c.subcommand-5.result _ _
          (λ r h. h.globals ∙ ap₂ either without table_local) c.subcommand-5.ensures;
    }
