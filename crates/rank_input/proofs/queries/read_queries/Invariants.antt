use Rattle.std.proofs.Common.{length}
use Rattle.ghcn_fields.specs.Meaning.Lines.{lines}
use Rattle.rank_input.proofs.QueryLists.{HaveAsked}
use Rattle.rank_input.proofs.queries.read_queries.Given as goal

-- the lines so far ask the queries that are held
abbrev pub invariant-loop-number : goal.invariant-loop-number
invariant-loop-number l = record {
  can : (goal.iterator-loop-number).can_next l.number-iterator;
  finite : (goal.iterator-loop-number).is_finite l.number-iterator;
  asked : HaveAsked (lines l.fn.text) (length l.yielded) l.queries.items;
}
