use Rattle.std.proofs.Common.{List, sym, ◌∙◌, subst}
use Rattle.rank_check.specs.declared.tally.Mark.{Mark}
use Rattle.rank_check.specs.Marks.{Meets, counted_at}
use Rattle.rank_check.proofs.Marks.{meet-apart, meet-own}
use Rattle.rank_check.proofs.tally.meet_marks.Goals as goal
use Rattle.rank_check.proofs.tally.meet_marks.Goals.{then-may_be_marked, else-may_be_marked}

-- it is counted at its place, and taken into account if a mark may be its own
pub returns : goal.returns
returns c =
    let marks : List Mark = c.args.marks.now in
    let d = c.args.candidate.now in
    let p = c.place_of-place.result in
    let bound = c.place_of-place.ensures.bound in
    let here = c.place_of-place.ensures.place in
    subst (Meets d marks) (sym c.count_at.ensures) (elim c.if-may_be_marked.branch [
      | then-may_be_marked w ↦
          subst (λ (l : List Mark). Meets d marks (counted_at p l)) (sym (w.marks-is ∙ w.show_all.ensures))
          (meet-own marks c.requires d p bound here)
      | else-may_be_marked w ↦
          subst (λ (l : List Mark). Meets d marks (counted_at p l)) (sym w.marks-is)
          (meet-apart marks c.requires d p bound here (sym c.may_be_marked.ensures ∙ w.if-may_be_marked.false))
    ])
