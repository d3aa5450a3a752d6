use Rattle.std.proofs.Common.{◌≡◌, to_z, of_z, w64, FitsSigned, sym, ap₂, ◌∙◌, subst, rules}
use Rattle.std.specs.Prelude.{Option}
use Rattle.std.specs.Int.{int_min}
use Rattle.std.proofs.lemmas.Int.{to_z-of_z}
use Rattle.rank_scores.specs.declared.candidate.Candidate.{Candidate}
use Rattle.rank_check.specs.Survey.{Tally, IsFloor, IsLast}
use Rattle.rank_check.proofs.Surveying.{floor-some, floor-none}
use Rattle.rank_check.proofs.tally.TallyFloorSink.floor.Goals as goal

-- no row scores less than the last one, nor than what is less still
pub returns-in-Some-clause-floor : goal.returns-in-Some-clause-floor
returns-in-Some-clause-floor c =
    let own : FitsSigned w64 c.min.result = search rules in
    let top : FitsSigned w64 c.in_ok-highest.highest = search rules in
    let score : FitsSigned w64 c.in-Some.last.score = search rules in
    let floor : to_z w64 (of_z w64 c.min.result) ≡ int_min c.in_ok-highest.highest c.in-Some.last.score =
    to_z-of_z w64 c.min.result own ∙ c.min.ensures.value
    ∙ ap₂ int_min (to_z-of_z w64 c.in_ok-highest.highest top) (to_z-of_z w64 c.in-Some.last.score score) in
    let behind = subst (λ (o : Option Candidate). IsLast o c.self.inside.rows.items) c.in-Some.is
    c.self.invariant.behind in
    subst (λ (t : Tally). IsFloor t (to_z w64 (of_z w64 c.min.result))) c.self.view_is
    (floor-some c.in-Some.last c.self.inside.marks.items c.self.inside.rows.items c.self.inside.count
    c.self.inside.highest c.in_ok-highest.highest _ behind c.in_ok-highest.was floor)

-- there is no row
pub returns-in-None-clause-floor : goal.returns-in-None-clause-floor
returns-in-None-clause-floor c =
    let top : FitsSigned w64 c.in_ok-highest.highest = search rules in
    let behind = subst (λ (o : Option Candidate). IsLast o c.self.inside.rows.items) c.in-None.is
    c.self.invariant.behind in
    subst (λ (t : Tally). IsFloor t (to_z w64 (of_z w64 c.in_ok-highest.highest))) c.self.view_is
    (subst (IsFloor _) (sym (to_z-of_z w64 c.in_ok-highest.highest top))
    (floor-none c.self.inside.marks.items c.self.inside.rows.items c.self.inside.count c.self.inside.highest
    c.in_ok-highest.highest behind c.in_ok-highest.was))
