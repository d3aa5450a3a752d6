use Rattle.std.proofs.Common.{◌≡◌, ◌++◌, List, map, ap, ◌∙◌, subst, IfOk, Ok, Err}
use Rattle.std.specs.List.Sorted.{IsPermutation}
use Rattle.rank_scores.specs.declared.candidate.Candidate.{Candidate}
use Rattle.rank_check.specs.Marks.{AreUnmet, unmet}
use Rattle.rank_check.proofs.Marks.{marks-unmet}
use Rattle.rank_check.proofs.tally.marks_of.Goals as goal

-- sorted candidates have their marks in order, and the rows are among them
pub returns : goal.returns
returns c = elim c.unmet.result as (λ r. IfOk r (λ made. made.items ≡ map unmet c.as_slice.result.now)
    → IfOk r (λ made. AreUnmet c.args.rows.now made.items)) [
      | Ok made ↦ λ e. marks-unmet c.args.rows.now c.sort.new.self.items made.items
          (subst (λ (l : List Candidate). IsPermutation l c.sort.new.self.items)
          (c.in_ok-extend_from_slice.ensures.items
          ∙ ap (λ (l : List Candidate). l ++ c.args.rows.now) c.new-ordered.ensures.items)
          c.sort.ensures.permutation)
          c.in_ok-sort.ensures.sorted (e ∙ ap (map unmet) c.as_slice.ensures.value)
      | Err e ↦ λ _. tt
    ] c.unmet.ensures
