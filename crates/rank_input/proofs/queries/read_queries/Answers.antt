use Rattle.std.proofs.Common.{◌≡◌, ℕ, ◌<◌, List, length, ◌∙◌, arith}
use Rattle.std.proofs.lemmas.Bool.Decides.{nat_tests}
use Rattle.std.proofs.lemmas.Iterator.Consumers.{YieldsList-from_first, YieldsList-turn, YieldsList-end}
use Rattle.std.proofs.lemmas.List.{length_push}
use Rattle.std.proofs.lemmas.Result.{err_from_is_err_and}
use Rattle.ghcn_fields.specs.Meaning.Lines.{lines}
use Rattle.ghcn_fields.specs.Lines.{numbered_lines}
use Rattle.rank_input.proofs.QueryLists.{line_at, one_more, bad_line, all_asked, blank_alone, blank_asked, blank_bad}
use Rattle.rank_input.proofs.queries.read_queries.Goals as goal
use Rattle.rank_input.proofs.queries.read_queries.Goals.{else-is_empty}
use Rattle.rank_input.proofs.queries.read_queries.Goals.{then-is_empty+in_ok-query_of_line-2+in_ok-push-2}

-- a line is a query
pub loop-number-preserved : goal.loop-number-preserved
loop-number-preserved c =
    let text = c.args.text.now in
    let given = YieldsList-from_first (λ item. (item.0, item.1.now)) (λ rest. rest) (numbered_lines text)
    (c.into_iter-number-iterator.ensures.into_iter_gives ∙ c.lines-number-items.ensures) in
    let turn =
    YieldsList-turn given c.loop-number.yielded _ c.loop-number.yielded_by _ _ _ c.in-Some.is c.next.ensures.steps in
    let item : ℕ × List ℕ = (c.in-Some.number, c.in-Some.line.now) in
    record {
      can = tt;
      finite = tt;
      asked = rw (length_push c.loop-number.yielded (c.in-Some.number, c.in-Some.line), c.in_ok-push.ensures.items)
          (one_more (lines text) (length c.loop-number.yielded) c.loop-number.queries.items item
          c.in_ok-query_of_line.field-0 (line_at text (length c.loop-number.yielded) item turn.0 turn.1)
          c.loop-number.invariant.asked c.in_ok-query_of_line.ensures.ok);
    }

-- a line isn't a query
pub returns-in_err-query_of_line-clause-err : goal.returns-in_err-query_of_line-clause-err
returns-in_err-query_of_line-clause-err c =
    let text = c.args.text.now in
    let given = YieldsList-from_first (λ item. (item.0, item.1.now)) (λ rest. rest) (numbered_lines text)
    (c.into_iter-number-iterator.ensures.into_iter_gives ∙ c.lines-number-items.ensures) in
    let turn =
    YieldsList-turn given c.loop-number.yielded _ c.loop-number.yielded_by _ _ _ c.in-Some.is c.next.ensures.steps in
    let item : ℕ × List ℕ = (c.in-Some.number, c.in-Some.line.now) in
    let p = err_from_is_err_and c.from_residual.result c.from_residual.ensures.1 in
    rw (p.1, p.2) (bad_line text (length c.loop-number.yielded) c.loop-number.queries.items item
    c.in_err-query_of_line.field-0.0 (line_at text (length c.loop-number.yielded) item turn.0 turn.1)
    c.loop-number.invariant.asked c.in_err-query_of_line.ensures.err)

-- there is no line
pub returns-in_err-query_of_line-2-clause-err : goal.returns-in_err-query_of_line-2-clause-err
returns-in_err-query_of_line-2-clause-err c =
    let text = c.args.text.now in
    let whole : length c.loop-number.yielded ≡ length (numbered_lines text) =
    (YieldsList-end (YieldsList-from_first (λ item. (item.0, item.1.now)) (λ rest. rest) (numbered_lines text)
    (c.into_iter-number-iterator.ensures.into_iter_gives ∙ c.lines-number-items.ensures))
    c.loop-number.yielded _ c.loop-number.yielded_by _ _ c.in-None.is c.next.ensures.steps).1 in
    let none : length c.loop-number.queries.items ≡ 0 =
    grind (arith, nat_tests, c.if-is_empty.true, c.is_empty.ensures, c.loop-number.queries.ok) in
    let blank = blank_alone text (length c.loop-number.yielded) c.loop-number.queries.items whole
    c.loop-number.invariant.asked none in
    let p = err_from_is_err_and c.from_residual-in_err-query_of_line-2.result
    c.from_residual-in_err-query_of_line-2.ensures.1 in
    rw (p.1, p.2) (blank_bad text c.in_err-query_of_line-2.field-0.0 blank c.in_err-query_of_line-2.ensures.err)

-- all lines are queries
pub returns-clause-ok : goal.returns-clause-ok
returns-clause-ok c =
    let text = c.args.text.now in
    let held = c.loop-number.queries.items in
    let whole : length c.loop-number.yielded ≡ length (numbered_lines text) =
    (YieldsList-end (YieldsList-from_first (λ item. (item.0, item.1.now)) (λ rest. rest) (numbered_lines text)
    (c.into_iter-number-iterator.ensures.into_iter_gives ∙ c.lines-number-items.ensures))
    c.loop-number.yielded _ c.loop-number.yielded_by _ _ c.in-None.is c.next.ensures.steps).1 in
    elim c.if-is_empty.branch [
      | then-is_empty+in_ok-query_of_line-2+in_ok-push-2 w ↦
          let none : length held ≡ 0 =
          grind (arith, nat_tests, w.if-is_empty.true, c.is_empty.ensures, c.loop-number.queries.ok) in
          rw (w.queries-is, w.in_ok-push-2.ensures.items) (blank_asked text held w.in_ok-query_of_line-2.field-0
          (blank_alone text (length c.loop-number.yielded) held whole c.loop-number.invariant.asked none) none
          w.in_ok-query_of_line-2.ensures.ok)
      | else-is_empty w ↦
          let some : 0 < length held =
          grind (arith, nat_tests, w.if-is_empty.false, c.is_empty.ensures, c.loop-number.queries.ok) in
          rw w.queries-is (all_asked text (length c.loop-number.yielded) held whole c.loop-number.invariant.asked some)
    ]
