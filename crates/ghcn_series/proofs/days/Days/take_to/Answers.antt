use Rattle.ghcn_series.proofs.Cited.{◌≡◌, refl, ◌<◌, ◌++◌, List, sym, subst, length, rules, w32, false≢true, to_z-of_z}
use Rattle.ghcn_series.proofs.Cited.{DayValue, BeginsBy}
use Rattle.ghcn_series.proofs.PartDays.{begun-next, begins-taken, some-day}
use Rattle.ghcn_series.proofs.days.Days.take_to.Goals as goal
use Rattle.ghcn_series.proofs.days.Days.take_to.Goals.{then-is_empty+in-Some, else-is_empty}

-- they come no later than the last one
pub returns-clause-taken : goal.returns-clause-taken
returns-clause-taken c = rw (to_z-of_z w32 c.args.last (search rules)) at c.take_to.ensures.taken

-- and there is one if the first comes no later
pub returns-clause-some : goal.returns-clause-some
returns-clause-some c begins =
    let cur : List DayValue = c.if-is_empty.self-inside.current in
    let rest : List DayValue = c.if-is_empty.self-inside.behind in
    let both : (c.args.self.now ≡ cur ++ rest) × (0 < length cur) = elim c.if-is_empty.branch [
      | then-is_empty+in-Some w ↦ rw w.self-inside-is (
        begun-next c.args.self.now c.self.inside.current c.self.inside.behind w.in-Some.block w.next.new.self
            c.self.view_is (w.if-is_empty.ensures.0 refl) w.in-Some.ensures.some,
        w.in-Some.ensures.day,
      )
      | else-is_empty w ↦ rw w.self-inside-is
          (sym c.self.view_is, some-day _ (λ none. false≢true (w.if-is_empty.ensures.1 none)))
    ] in
    begins-taken c.args.last cur rest c.take_to.result c.take_to.new.self both.1
    (subst (BeginsBy c.args.last) both.0 begins) c.take_to.ensures.parts
    (rw (to_z-of_z w32 c.args.last (search rules)) at c.take_to.ensures.left)
