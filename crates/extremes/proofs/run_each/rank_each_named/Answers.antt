use Rattle.std.proofs.Common.{ℕ, true, List, [], ◌∷◌, inl, inr, refl, ap, ◌∙◌, sym, subst}
use Rattle.rank_input.specs.Feeding.{AreAllOf, IsTried, StopsAt}
use Rattle.rank_input.specs.Named.{list_path}
use Rattle.rank_input.proofs.Openings.{stops-first}
use Rattle.extremes.specs.Environments.{environment}
use Rattle.extremes.specs.FaultTexts.{fault_line, merging_line}
use Rattle.extremes.specs.EachRuns.{RunsListed, queries_path}
use Rattle.extremes.specs.Messages.{ArePrintedLines, streams}
use Rattle.extremes.specs.Targets.{ArePut, IsPut}
use Rattle.extremes.proofs.run_each.rank_each_named.Goals as goal

-- the list is read, and the run goes on with it
pub returns-in-Ok : goal.returns-in-Ok
returns-in-Ok g c =
    let bytes_of = g.A.Archive.bytes_of c.args.archive.now in
    let opens = g.A.Archive.opens c.args.archive.now in
    let path = c.list_path-list.ensures ∙ ap (λ (p : List ℕ). list_path p) c.deref.ensures in
    inr (record {
      text = c.in-Ok.text.items;
      opened = subst (λ (p : List ℕ). opens p true) path c.in-Ok.ensures.opened;
      whole = subst (λ (p : List ℕ). AreAllOf (bytes_of p) c.in-Ok.text.items) path c.in-Ok.ensures.whole;
      runs = subst (λ (t : List ℕ). RunsListed (environment (g.A.Archive.bytes_of c.args.archive.now)
          (g.A.Archive.opens c.args.archive.now) (g.A.Archive.names_of c.args.archive.now)
          (g.T.Target.one_file c.args.target.now) (g.T.Target.other_text c.args.target.now)
          (IsPut g.T.Target.opens g.T.Target.abandons g.T.Write.contents c.args.target.now c.rank_each_listed.new.target)
          (g.T.Target.exists c.args.target.now)
          (ArePut g.T.Target.creates g.T.Target.abandons g.T.Write.contents c.args.target.now c.rank_each_listed.new.target)
          fault_line merging_line
          (streams (ArePrintedLines g.M.Messages.prints c.args.messages.now c.rank_each_listed.new.messages)
          (g.W.Write.contents c.args.out.now) (g.W.Write.contents c.rank_each_listed.new.out)))
          c.args.ranking.now c.args.named.now t c.rank_each_listed.result) c.deref-in-Ok.ensures.value
          c.rank_each_listed.ensures;
    })

-- or it can't be read
pub returns-in-Err : goal.returns-in-Err
returns-in-Err g c =
    let opens = g.A.Archive.opens c.args.archive.now in
    let path = c.list_path-list.ensures ∙ ap (λ (p : List ℕ). list_path p) c.deref.ensures in
    inl (
      refl,
      record {
        path = c.list_path-list.result.now;
        stops = subst (λ (p : List ℕ). StopsAt opens (queries_path c.args.ranking.now ∷ []) p) (sym path)
            (stops-first opens (queries_path c.args.ranking.now) []
            (subst (λ (p : List ℕ). IsTried opens p) path c.read_whole.ensures.tried));
        ends = c.not_read.ensures.ending;
        unprinted = refl;
        said = c.not_read.ensures.line;
      },
    )
