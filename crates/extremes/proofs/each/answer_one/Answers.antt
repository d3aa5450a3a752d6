use Rattle.std.proofs.Common.{◌≡◌, ℕ, List, [], ◌∷◌, ◌++◌, refl, subst}
use Rattle.std.specs.Prelude.{option_map}
use Rattle.std.proofs.lemmas.Result.{err_from_is_err_and}
use Rattle.rank_input.specs.declared.fault.Fault.TheVariants.{Memory}
use Rattle.extremes.specs.declared.papers_folder.Stop.TheVariants.{Input}
use Rattle.extremes.specs.Each.{IsRankedOver}
use Rattle.extremes.specs.PapersFolder.{new_files}
use Rattle.extremes.specs.Targets.{ArePut}
use Rattle.extremes.proofs.EachRanked.{stops-after, stops-before}
use Rattle.extremes.proofs.Puttings.{until-all}
use Rattle.extremes.proofs.each.answer_one.Goals as goal

-- the report of what is ranked is added, and its files are put
pub returns-clause-ok : goal.returns-clause-ok
returns-clause-ok g c = record {
  papers = c.in_ok-papers.papers;
  ranked = record {
    right = c.in_ok-papers.ensures.ok;
    bounds = c.in_ok-papers.ensures.crew.0;
    crew = c.in_ok-papers.ensures.crew.1;
  };
  added = subst (λ (t : List ℕ). c.append.new.text.items ≡ c.args.reports.now.items ++ t) c.deref.ensures.value
      c.in_ok-append.ensures;
  stored = c.in_ok-put_papers.ensures.ok;
}

-- memory runs out before the query is ranked
pub returns-in_err-papers-clause-stopped : goal.returns-in_err-papers-clause-stopped
returns-in_err-papers-clause-stopped g c =
    let p = err_from_is_err_and c.from_residual.result c.from_residual.ensures.1 in
    rw (p.1, p.2) (stops-before (IsRankedOver c.args.workers c.args.dataset.now) c.args.query.now
    (option_map (λ f. f.now) c.args.folder) c.args.number
    (ArePut g.T.Target.creates g.T.Target.abandons g.T.Write.contents c.args.target.now c.args.target.now)
    (Input c.in_err-papers.field-0.0) c.in_err-papers.field-0.0 refl c.in_err-papers.ensures.err refl)

-- or its files aren't put
pub returns-in_err-put_papers-clause-stopped : goal.returns-in_err-put_papers-clause-stopped
returns-in_err-put_papers-clause-stopped g c =
    let p = err_from_is_err_and c.from_residual-in_err-put_papers.result c.from_residual-in_err-put_papers.ensures.1 in
    rw (p.1, p.2) (stops-after (IsRankedOver c.args.workers c.args.dataset.now) c.args.query.now
    (option_map (λ f. f.now) c.args.folder) c.args.number
    (ArePut g.T.Target.creates g.T.Target.abandons g.T.Write.contents c.args.target.now c.put_papers.new.target)
    c.in_ok-papers.papers c.in_err-put_papers.field-0.0 (record {
      right = c.in_ok-papers.ensures.ok;
      bounds = c.in_ok-papers.ensures.crew.0;
      crew = c.in_ok-papers.ensures.crew.1;
    }) c.in_err-put_papers.ensures.stopped)

-- or memory runs out for its report
pub returns-in_err-append-clause-stopped : goal.returns-in_err-append-clause-stopped
returns-in_err-append-clause-stopped g c =
    let p = err_from_is_err_and c.from_residual-in_err-append.result c.from_residual-in_err-append.ensures.1 in
    let folder = option_map (λ f. f.now) c.args.folder in
    rw (p.1, p.2) (stops-after (IsRankedOver c.args.workers c.args.dataset.now) c.args.query.now folder c.args.number
    (ArePut g.T.Target.creates g.T.Target.abandons g.T.Write.contents c.args.target.now c.put_papers.new.target)
    c.in_ok-papers.papers (Input (Memory c.in_err-append.field-0.0)) (record {
      right = c.in_ok-papers.ensures.ok;
      bounds = c.in_ok-papers.ensures.crew.0;
      crew = c.in_ok-papers.ensures.crew.1;
    }) (
      refl,
      until-all g.T.Target.creates g.T.Target.abandons g.T.Write.contents c.args.target.now
          c.put_papers.new.target (new_files folder c.args.number (c.in_ok-papers.papers ∷ [])) c.in_ok-put_papers.ensures.ok,
    ))
