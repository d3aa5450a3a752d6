use Rattle.ghcn_series.proofs.Cited.{◌≡◌, refl, ◌<◌, ◌++◌, List, sym, length, false≢true, DayValue}
use Rattle.ghcn_series.proofs.PartDays.{begun-next, first-of_parts, some-day}
use Rattle.ghcn_series.proofs.days.Days.first.Goals as goal
use Rattle.ghcn_series.proofs.days.Days.first.Goals.{then-is_empty+in_ok-self-inside, else-is_empty}

-- the first day is that of the block at hand, which has one
pub returns-clause-first : goal.returns-clause-first
returns-clause-first c =
    let cur : List DayValue = c.if-is_empty.self-inside.current in
    let rest : List DayValue = c.if-is_empty.self-inside.behind in
    let both : (c.args.self.now ≡ cur ++ rest) × (0 < length cur) = elim c.if-is_empty.branch [
      | then-is_empty+in_ok-self-inside w ↦ rw w.self-inside-is (
        begun-next c.args.self.now c.self.inside.current c.self.inside.behind w.in_ok-self-inside.field-0
            w.next.new.self c.self.view_is (w.if-is_empty.ensures.0 refl) w.in_ok-self-inside.ensures.some,
        w.in_ok-self-inside.ensures.day,
      )
      | else-is_empty w ↦ rw w.self-inside-is
          (sym c.self.view_is, some-day _ (λ none. false≢true (w.if-is_empty.ensures.1 none)))
    ] in
    rw (both.0, first-of_parts cur rest both.1) c.first.ensures
