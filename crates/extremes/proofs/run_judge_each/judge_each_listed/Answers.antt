use Rattle.std.proofs.Common.{ℕ, List, inl, inr, refl, ap, ◌∙◌, sym, subst}
use Rattle.std.specs.List.{AllZip}
use Rattle.rank_query.specs.Meaning.Asked.{Query}
use Rattle.rank_query.specs.Meaning.Asks.{Asks}
use Rattle.rank_input.specs.Named.{list_path}
use Rattle.rank_input.specs.Queries.{query_lines}
use Rattle.extremes.specs.EachPrinted.{list_lines}
use Rattle.extremes.specs.FaultTexts.{fault_line}
use Rattle.extremes.specs.Messages.{ArePrintedLines}
use Rattle.extremes.proofs.run_judge_each.judge_each_listed.Goals as goal

-- each line of the list is a query, and the run is over these
pub returns-in-Ok : goal.returns-in-Ok
returns-in-Ok g c =
    let lines : List (List ℕ) = query_lines c.args.text.now in
    inr (
      record { queries = c.in-Ok.queries.items; asked = c.in-Ok.ensures.ok },
      c.judge_each_tried.ensures lines (subst (λ (qs : List Query). AllZip Asks lines qs)
          (sym c.deref.ensures.value) c.in-Ok.ensures.ok),
    )

-- or a line isn't
pub returns-in-Err : goal.returns-in-Err
returns-in-Err g c =
    let path = c.list_path-list.ensures ∙ ap (λ (p : List ℕ). list_path p) c.deref-in-Err.ensures in
    inl (record {
      why = c.in-Err.fault;
      first = c.in-Err.ensures.err;
      ends = c.refused_list.ensures.ending;
      unprinted = refl;
      said = subst (λ (p : List ℕ). ArePrintedLines g.M.Messages.prints c.args.messages.now c.refused_list.new.messages
          (list_lines fault_line p c.in-Err.fault)) path c.refused_list.ensures.lines;
    })
