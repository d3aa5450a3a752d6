use Rattle.std.proofs.Common.{◌≡◌, [], ℤ, pos, ◌-ℤ◌, ◌<ℤ◌, w32, w64, to_z, of_z, FitsSigned, rules, sym, ap, ◌∙◌, subst}
use Rattle.std.specs.List.{AllByRecursion}
use Rattle.std.proofs.lemmas.Bool.{not-false}
use Rattle.std.proofs.lemmas.Int.{to_z-of_z}
use Rattle.rank_scores.proofs.LowDays.{highest-low, lowest-low}
use Rattle.rank_scores.proofs.extreme.Extreme.may_reach.Goals as goal
use Rattle.rank_scores.proofs.extreme.Extreme.may_reach.Goals.{in-Highest, in-Lowest+in-Some}

-- no day is left that scores as much
pub returns : goal.returns
returns c none =
    let empty : c.match-self.reaching ≡ [] = c.is_empty.ensures.0 (not-false c.is_empty.result none) in
    let own : FitsSigned w32 c.in-Ok.floor = search rules in
    let wide : FitsSigned w64 c.args.floor = search rules in
    let same : to_z w32 (of_z w32 c.in-Ok.floor) ≡ c.args.floor =
    to_z-of_z w32 c.in-Ok.floor own ∙ c.in-Ok.ensures.1 ∙ to_z-of_z w64 c.args.floor wide in
    elim c.match-self.branch [
      | in-Highest w ↦
          let all = rw c.again-reaching.ensures at (sym w.keep_from.ensures ∙ sym w.reaching-is ∙ empty) in
          rw w.in-Highest.is (subst (λ (f : ℤ). AllByRecursion (λ x. x.1 <ℤ f) c.args.days.now) same
          (highest-low _ c.args.days.now all))
      | in-Lowest+in-Some w ↦
          let all = rw c.again-reaching.ensures at (sym w.keep_below.ensures ∙ sym w.reaching-is ∙ empty) in
          let near : FitsSigned w32 w.in-Some.limit = search rules in
          let limit : to_z w32 (of_z w32 w.in-Some.limit) ≡ pos 1 -ℤ c.args.floor =
          to_z-of_z w32 w.in-Some.limit near ∙ w.in-Some.ensures.1 ∙ ap (λ (z : ℤ). pos 1 -ℤ z) same in
          rw w.in-Lowest.is (lowest-low c.args.floor _ c.args.days.now limit all)
    ]
