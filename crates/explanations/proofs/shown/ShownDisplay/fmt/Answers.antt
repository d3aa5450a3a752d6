use Rattle.std.proofs.Common.{ℕ, ◌++◌, take, rules, refl, ap, ◌∙◌, arith}
use Rattle.std.proofs.Output.{has_written_append, has_written_of_eq}
use Rattle.std.specs.Prelude.{encode_utf8}
use Rattle.explanations.specs.Shown.{shown}
use Rattle.explanations.proofs.Showing.{shown_more}
use Rattle.explanations.proofs.shown.ShownDisplay.fmt.Goals as goal

-- one more byte is shown after those before it
pub loop-byte-preserved : goal.loop-byte-preserved
loop-byte-preserved g c = λ plain.
    let bytes = c.args.self.now.0.now in
    let place = c.loop-byte.byte-index in
    has_written_of_eq _ _ _ _ _
    (ap (λ (ch : ℕ). shown (take place bytes) ++ encode_utf8 ch) c.shown_char.ensures
    ∙ shown_more bytes place _ (omega arith) refl)
    (has_written_append _ _ _ _ _ _ (c.loop-byte.invariant plain) (search rules))
