use Rattle.std.proofs.Common.{◌∙◌, inl, inr, refl}
use Rattle.extremes.specs.Commands.{ranking_uses}
use Rattle.extremes.specs.Messages.{ArePrintedLines, streams}
use Rattle.extremes.specs.NamedRuns.{list_of}
use Rattle.extremes.proofs.Comparing.{ends-at-out, none-unused, some-unused, used-as}
use Rattle.extremes.proofs.PrintedLines.{printed-as}
use Rattle.extremes.proofs.commands.rank_named.Goals.{in-Some+else-is_in_use, in_default}
use Rattle.extremes.proofs.commands.rank_named.Goals as goal

-- the certificate's file is in use
pub returns-then-is_in_use : goal.returns-then-is_in_use
returns-then-is_in_use g c =
    let shares = g.T.Target.one_file c.args.target.now in
    let holds = g.T.Target.other_text c.args.target.now in
    let used = used-as (shares c.in-Some.path.now) (holds c.in-Some.path.now) _ _ _ _ _ _ _ _ c.deref.ensures
    c.path_of-list.ensures c.deref-in-Some.ensures.value c.if-is_in_use.true c.is_in_use.ensures in
    inl (
      refl,
      ends-at-out (ranking_uses shares holds c.args.ranking.now (list_of c.args.named.now))
          (ArePrintedLines g.M.Messages.prints c.args.messages.now c.not_written.new.messages) _ _ _ _ _ c.in-Some.is
          c.path_of-certificate.ensures used c.not_written.ensures.line c.not_written.ensures.ending,
    )

-- it isn't, and the ranking is printed
pub returns-in-Ok : goal.returns-in-Ok
returns-in-Ok g c =
    let shares = g.T.Target.one_file c.args.target.now in
    let holds = g.T.Target.other_text c.args.target.now in
    let uses = ranking_uses shares holds c.args.ranking.now (list_of c.args.named.now) in
    inr (inr (
      elim c.match-certificate.branch [
        | in-Some+else-is_in_use w ↦ some-unused uses _ _ c.path_of-certificate.ensures _ w.in-Some.is
            (used-as (shares w.in-Some.path.now) (holds w.in-Some.path.now) _ _ _ _ _ _ _ _ w.deref.ensures
            w.path_of-list.ensures w.deref-in-Some.ensures.value w.if-is_in_use.false w.is_in_use.ensures)
        | in_default w ↦ none-unused uses _ _ c.path_of-certificate.ensures w.in_default.not-Some
      ],
      record {
        answer = c.in-Ok.ranked.answer;
        warnings = c.in-Ok.ranked.warnings;
        ranked = c.in-Ok.ensures.ranks;
        printed = printed-as _
            (streams (ArePrintedLines g.M.Messages.prints c.args.messages.now c.print_ranked-ending.new.messages)
            (g.W.Write.contents c.args.out.now) (g.W.Write.contents c.print_ranked-ending.new.out))
            c.daily_paths-files.result.paths.now c.args.ranking.now.files.items c.daily_paths-files.result.arguments.now
            c.args.named.now.paths.items c.print_ranked-ending.result
            (c.daily_paths-files.ensures.paths ∙ c.deref-in-Ok.ensures.value) c.daily_paths-files.ensures.arguments
            c.in-Ok.ranked.answer c.in-Ok.ranked.warnings _ _ _ c.path_of-certificate.ensures c.print_ranked-ending.ensures;
      },
    ))
