use Rattle.std.proofs.Common.{ℕ, List, inl, inr, refl, ap, ◌∙◌, sym, subst}
use Rattle.std.specs.List.{AllZip}
use Rattle.rank_query.specs.Meaning.Asked.{Query}
use Rattle.rank_query.specs.Meaning.Asks.{Asks}
use Rattle.rank_input.specs.Named.{list_path}
use Rattle.rank_input.specs.Queries.{query_lines}
use Rattle.extremes.specs.EachPrinted.{list_lines}
use Rattle.extremes.specs.FaultTexts.{fault_line}
use Rattle.extremes.specs.Messages.{ArePrintedLines}
use Rattle.extremes.proofs.run_each.rank_each_listed.Goals as goal

-- each line of the list is a query, and the run is over these
pub returns-in-Ok-read_queries : goal.returns-in-Ok-read_queries
returns-in-Ok-read_queries g c =
    let lines : List (List ℕ) = query_lines c.args.text.now in
    inr (
      c.in-Ok.ensures.workers,
      inr (
        record { queries = c.in-Ok-read_queries.queries.items; asked = c.in-Ok-read_queries.ensures.ok },
        c.rank_each_into.ensures lines (subst (λ (qs : List Query). AllZip Asks lines qs)
            (sym c.deref-in-Ok-read_queries.ensures.value) c.in-Ok-read_queries.ensures.ok),
      ),
    )

-- or a line isn't
pub returns-in-Err-read_queries : goal.returns-in-Err-read_queries
returns-in-Err-read_queries g c =
    let path = c.list_path-list.ensures ∙ ap (λ (p : List ℕ). list_path p) c.deref.ensures in
    inr (
      c.in-Ok.ensures.workers,
      inl (
        refl,
        record {
          why = c.in-Err-read_queries.fault;
          first = c.in-Err-read_queries.ensures.err;
          ends = c.refused_list.ensures.ending;
          unprinted = refl;
          said = subst (λ (p : List ℕ). ArePrintedLines g.M.Messages.prints c.args.messages.now
              c.refused_list.new.messages (list_lines fault_line p c.in-Err-read_queries.fault)) path
              c.refused_list.ensures.lines;
        },
      ),
    )

-- or that many workers may not run
pub returns-in-Err : goal.returns-in-Err
returns-in-Err g c = inl (
  refl,
  record {
    fault = c.in-Err.fault;
    is = c.in-Err.ensures.err;
    refused = record { ends = c.refused.ensures.ending; unprinted = refl; said = c.refused.ensures.line };
  },
)
