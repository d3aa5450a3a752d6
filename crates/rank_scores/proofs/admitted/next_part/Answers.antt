use Rattle.std.proofs.Common.{◌≡◌, ◌++◌, List, true, false, sym, ap, ◌∙◌, subst, ◌≤ℤ◌, rules, w32, FitsSigned}
use Rattle.std.proofs.Common.{to_z-of_z, arith}
use Rattle.std.specs.List.{AllByRecursion}
use Rattle.ghcn_series.specs.Meaning.Series.{DayValue}
use Rattle.rank_query.specs.Meaning.Asked.{Query}
use Rattle.rank_scores.specs.Stretches.{admitted_among, IsStretch}
use Rattle.rank_scores.proofs.StretchDays.{stretch-behind, stretch-part, stretch-on, no-first}
use Rattle.rank_scores.proofs.admitted.next_part.Goals as goal
use Rattle.std.proofs.lemmas.Int.{ints}

-- an admitted part is the first of the admitted days
pub returns-then-stretch-clause-some : goal.returns-then-stretch-clause-some
returns-then-stretch-clause-some c =
    let q : Query = c.args.query.now in
    let late : FitsSigned w32 c.go_on.new.self.last = search rules in
    let parts : c.loop-day.days ≡ c.take_to-part.result ++ c.take_to-part.new.self =
    sym c.in-Some.ensures.same ∙ c.take_to-part.ensures.parts in
    let here : IsStretch q (c.take_to-part.result ++ c.take_to-part.new.self) c.go_on.new.self =
    subst (λ (days : List DayValue). IsStretch q days c.go_on.new.self) parts
    (stretch-on q c.loop-day.days _ _ _ c.in-Some.ensures.first c.loop-day.invariant.stretch c.go_on.ensures.alike) in
    let within : AllByRecursion (λ (x : DayValue). x.0 ≤ℤ c.go_on.new.self.last) c.take_to-part.result =
    rw (to_z-of_z late) at c.take_to-part.ensures.taken in
    sym c.loop-day.invariant.left ∙ ap (admitted_among q) parts
    ∙ stretch-part true q c.take_to-part.result c.take_to-part.new.self c.go_on.new.self here within c.if-stretch.true

-- and the stretch is one of the days after it
pub returns-then-stretch-clause-stretch : goal.returns-then-stretch-clause-stretch
returns-then-stretch-clause-stretch c =
    let q : Query = c.args.query.now in
    let parts : c.loop-day.days ≡ c.take_to-part.result ++ c.take_to-part.new.self =
    sym c.in-Some.ensures.same ∙ c.take_to-part.ensures.parts in
    stretch-behind q c.take_to-part.result c.take_to-part.new.self c.go_on.new.self
    (subst (λ (days : List DayValue). IsStretch q days c.go_on.new.self) parts
    (stretch-on q c.loop-day.days _ _ _ c.in-Some.ensures.first c.loop-day.invariant.stretch c.go_on.ensures.alike))

-- another part is skipped
pub loop-day-preserved : goal.loop-day-preserved
loop-day-preserved c =
    let q : Query = c.args.query.now in
    let late : FitsSigned w32 c.go_on.new.self.last = search rules in
    let parts : c.loop-day.days ≡ c.take_to-part.result ++ c.take_to-part.new.self =
    sym c.in-Some.ensures.same ∙ c.take_to-part.ensures.parts in
    let here : IsStretch q (c.take_to-part.result ++ c.take_to-part.new.self) c.go_on.new.self =
    subst (λ (days : List DayValue). IsStretch q days c.go_on.new.self) parts
    (stretch-on q c.loop-day.days _ _ _ c.in-Some.ensures.first c.loop-day.invariant.stretch c.go_on.ensures.alike) in
    let within : AllByRecursion (λ (x : DayValue). x.0 ≤ℤ c.go_on.new.self.last) c.take_to-part.result =
    rw (to_z-of_z late) at c.take_to-part.ensures.taken in
    record {
      left = sym (stretch-part false q c.take_to-part.result c.take_to-part.new.self c.go_on.new.self here within
          c.if-stretch.false) ∙ sym (ap (admitted_among q) parts) ∙ c.loop-day.invariant.left;
      stretch = stretch-behind q c.take_to-part.result c.take_to-part.new.self c.go_on.new.self here;
    }

-- after the last day there is none
pub returns-clause-none : goal.returns-clause-none
returns-clause-none c = grind (arith, ints, no-first c.loop-day.days c.in_default.ensures.first)

-- nor are there days to come
pub returns-clause-end : goal.returns-clause-end
returns-clause-end c = grind (arith, ints, no-first c.loop-day.days c.in_default.ensures.first)
