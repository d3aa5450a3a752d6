use Rattle.std.proofs.Common.{List, true, inl, refl, subst}
use Rattle.command_line.specs.declared.asked.Part.{Part}
use Rattle.extremes.specs.Commands.{merge_uses}
use Rattle.extremes.specs.Messages.{ArePrintedLines}
use Rattle.extremes.proofs.Comparing.{ends-at-out}
use Rattle.extremes.proofs.commands.run_merging.Goals as goal

-- the certificate's file is in use
pub returns-then-is_paper_or_output : goal.returns-then-is_paper_or_output
returns-then-is_paper_or_output g c =
    let uses = merge_uses (g.T.Target.one_file c.args.target.now) (g.T.Target.other_text c.args.target.now) in
    let used : uses c.deref.result.now c.in-Some.path.now true =
    subst (uses c.deref.result.now c.in-Some.path.now) c.if-is_paper_or_output.true
    c.is_paper_or_output.ensures in
    inl (
      refl,
      ends-at-out (uses c.args.asked.now.parts.items)
          (ArePrintedLines g.M.Messages.prints c.args.messages.now c.not_written.new.messages)
          _ _ _ _ _ c.in-Some.is c.path_of-certificate.ensures
          (subst (λ (parts : List Part). uses parts c.in-Some.path.now true) c.deref.ensures.value used)
          c.not_written.ensures.line c.not_written.ensures.ending,
    )
