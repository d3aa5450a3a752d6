use Rattle.std.proofs.Common.{◌≡◌, sym, ap, subst, ◌∙◌, refl, FitsSigned, w32, to_z-of_z, arith, rules, List, ℕ, ℤ, pos}
use Rattle.std.proofs.Common.{◌+ℤ◌, ◌++◌, ◌-◌, ◌+◌, get_or, length, drop}
use Rattle.std.specs.List.{fold}
use Rattle.std.proofs.lemmas.Bool.Decides.{Decides-int_eq}
use Rattle.std.proofs.lemmas.Int.{ints, to_z_pos}
use Rattle.std.proofs.lemmas.List.{append_assoc}
use Rattle.std.proofs.lemmas.List.Sums.{fold-append}
use Rattle.ghcn_series.specs.Packed.{days_in_a_row}
use Rattle.ghcn_series.specs.Meaning.Series.{DayValue}
use Rattle.rank_scores.specs.declared.window.Window.{Window}
use Rattle.rank_scores.specs.Meaning.Candidates.{admitted}
use Rattle.rank_scores.specs.Windows.{without_first}
use Rattle.rank_scores.proofs.WindowSums.{IsAt, Comes, comes, Leaves, leaves, at_first, fits, none_left, from_place}
use Rattle.rank_scores.proofs.WindowSums.{windows, all-drop, IsNotNegative}
use Rattle.rank_scores.proofs.LowWindows.{admitted-not_negative, row-shorter, row-end, row-fits, passes-row}
use Rattle.rank_scores.proofs.LowWindows.{next_is, takes-place, place-is_day, day-fits}
use Rattle.rank_scores.proofs.window.scan_windows.Goals.{After-go_on, After-take_in}
use Rattle.rank_scores.proofs.window.scan_windows.Goals.{then-window-whole, else-window-whole}
use Rattle.rank_scores.proofs.window.scan_windows.Goals.{then-is_row_passed_over, else-is_row_passed_over}
use Rattle.rank_scores.proofs.window.scan_windows.Goals as goal

-- at first nothing is summed
pub loop-part-init : goal.loop-part-init
loop-part-init g c =
    let series = c.of-admitted.ensures.series in
    rw c.empty-window.ensures record {
      days = admitted c.args.query.now c.args.series.now;
      at = at_first c.args.query.now c.args.series.now _ _ series refl c.of-admitted.ensures.days;
      few = c.requires.some;
      so_far = refl;
      ok = λ rises. admitted-not_negative c.args.query.now c.args.series.now series (grind (arith, ints));
    }

-- the window, once the row comes
row_came : (g : _) (c : After-go_on g) → Comes c.args.id c.args.n c.loop-row.ring c.go_on.new.self
    c.loop-row.invariant.days c.in-Some-next_row.row.0 c.in-Some-next_row.row.1.now
    (c.next_row.new.self ++ c.next_part.new.self)
row_came g c =
    let row = c.in-Some-next_row.ensures.row in
    comes c.args.id c.in-Some-next_row.row.1.now (c.next_row.new.self ++ c.next_part.new.self)
    c.loop-row.invariant.at c.loop-row.invariant.few row.some
    (ap (λ (days : List DayValue). days ++ c.next_part.new.self) row.parts ∙ append_assoc
    (days_in_a_row c.in-Some-next_row.row.0 c.in-Some-next_row.row.1.now) c.next_row.new.self c.next_part.new.self)
    (Decides-int_eq _ _) c.go_on.ensures

-- its sum with the row's fits
pub is_row_passed_over-requires-clause-total : goal.is_row_passed_over-requires-clause-total
is_row_passed_over-requires-clause-total g c =
    let came = row_came g (goal.at.is_row_passed_over-requires-clause-total g c).After-go_on in
    row-fits c.in-Some-next_row.row.1.now _ came.at (omega (arith, came.few, c.requires.few))
    c.in-Some-next_row.ensures.row.few

-- then from its first day on, or from that of its last n - 1 days, if the windows that end in it are passed over
pub loop-place-init : goal.loop-place-init
loop-place-init g c =
    let came = row_came g (goal.at.loop-place-init g c).After-go_on in
    let told = c.is_row_passed_over.ensures in
    let d : ℤ = c.in-Some-next_row.row.0 in
    let vs : List ℤ = c.in-Some-next_row.row.1.now in
    let rest = c.next_row.new.self ++ c.next_part.new.self in
    elim c.if-is_row_passed_over.branch [
      | then-is_row_passed_over w ↦
          let yes = w.if-is_row_passed_over.true in
          let ok = came.kept (c.loop-row.invariant.ok (told.rises yes)) in
          let passes = passes-row c.args.id vs rest came.at c.requires.some (told.long yes) ok in
          let over : ℕ = c.go_on.new.self.len + length vs + 1 - c.args.n in
          let left = windows c.args.id c.args.n (drop over came.now) in
          let taken = told.passed yes passes.low.first passes.low.low
          (omega (arith, passes.low.many, told.long yes)) in
          rw (w.from-is, w.window-is, w.empty-window-then-is_row_passed_over.ensures) record {
            days = drop over came.now;
            at = passes.at;
            few = c.requires.some;
            so_far = ap (λ (s : _). fold g.S.Sink.taken s left) taken
                ∙ sym (fold-append g.S.Sink.taken c.loop-row.sink passes.low.first left)
                ∙ ap (fold g.S.Sink.taken c.loop-row.sink) (sym passes.low.parts ∙ came.same)
                ∙ c.loop-row.invariant.so_far;
            ok = λ rises. all-drop IsNotNegative over came.now ok;
            within = omega (arith, c.requires.some);
          }
      | else-is_row_passed_over w ↦
          let first : d +ℤ pos 0 ≡ d = omega (arith, ints) in
          rw (w.from-is, w.window-is) record {
            days = came.now;
            at = rw first came.at;
            few = came.few;
            so_far = rw (told.kept w.if-is_row_passed_over.false)
                (ap (fold g.S.Sink.taken c.loop-row.sink) came.same ∙ c.loop-row.invariant.so_far);
            ok = λ rises. came.kept (c.loop-row.invariant.ok rises);
            within = omega arith;
          }
    ]

-- a row has a day
pub loop-row-smaller : goal.loop-row-smaller
loop-row-smaller g c = let row = c.in-Some-next_row.ensures.row in row-shorter row

-- at the end of a row the day after it goes on with the window
pub loop-row-preserved : goal.loop-row-preserved
loop-row-preserved g c =
    let vs : List ℤ = c.in-Some-next_row.row.1.now in
    let end : c.loop-place.place ≡ length vs =
    omega (arith, c.loop-place-test.false, c.loop-place.invariant.within) in
    record {
      days = c.loop-place.invariant.days;
      at = row-end c.in-Some-next_row.row.0 vs c.loop-place.place _ c.loop-place.invariant.at end
          (next_is c.in-Some-next_row.row.0 (length vs) c.number.ensures.value c.number.ensures.range
          c.in-Some-next_row.ensures.row.few);
      few = c.loop-place.invariant.few;
      so_far = c.loop-place.invariant.so_far;
      ok = c.loop-place.invariant.ok;
    }

-- the sum with one day more fits
pub take_in-requires-clause-total : goal.take_in-requires-clause-total
take_in-requires-clause-total g c =
    let v : ℤ = get_or c.in-Some-next_row.row.1.now c.loop-place.place (pos 0) in
    let small : FitsSigned w32 v = search rules in
    let now = takes-place c.in-Some-next_row.row.0 c.in-Some-next_row.row.1.now c.loop-place.place _
    c.loop-place.invariant.at c.loop-place-test.true
    (omega (arith, c.loop-place.invariant.few, c.requires.few)) in
    rw (to_z-of_z small) (fits now (omega (arith, c.loop-place.invariant.few, c.requires.few)))

-- the window, once it is taken in
place_came : (g : _) (c : After-take_in g) → IsAt c.take_in.new.ring
    c.take_in.new.self c.loop-place.invariant.days (c.in-Some-next_row.row.0 +ℤ pos (c.loop-place.place + 1))
    (from_place c.in-Some-next_row.row.0 c.in-Some-next_row.row.1.now (c.loop-place.place + 1)
    (c.next_row.new.self ++ c.next_part.new.self))
place_came g c =
    let v : ℤ = get_or c.in-Some-next_row.row.1.now c.loop-place.place (pos 0) in
    let small : FitsSigned w32 v = search rules in
    rw (c.take_in.ensures.window, c.take_in.ensures.ring, to_z-of_z small)
    (takes-place c.in-Some-next_row.row.0 c.in-Some-next_row.row.1.now c.loop-place.place _
    c.loop-place.invariant.at c.loop-place-test.true
    (omega (arith, c.loop-place.invariant.few, c.requires.few)))

-- if it is whole, it is offered, and its first day taken off
whole : (g : _) (c : After-take_in g) → c.take_in.new.self.len ≡ c.args.n
    → Leaves c.args.id c.args.n c.loop-place.invariant.days c.take_in.new.ring
    c.take_in.new.self (c.in-Some-next_row.row.0 +ℤ pos c.loop-place.place)
    (from_place c.in-Some-next_row.row.0 c.in-Some-next_row.row.1.now (c.loop-place.place + 1)
    (c.next_row.new.self ++ c.next_part.new.self))
whole g c is =
    let d : ℤ = c.in-Some-next_row.row.0 in
    let rest = from_place d c.in-Some-next_row.row.1.now (c.loop-place.place + 1)
    (c.next_row.new.self ++ c.next_part.new.self) in
    let same : d +ℤ pos (c.loop-place.place + 1) ≡ (d +ℤ pos c.loop-place.place) +ℤ pos 1 = omega (arith, ints) in
    leaves c.args.id (d +ℤ pos c.loop-place.place)
    (subst (λ (e : ℤ). IsAt c.take_in.new.ring c.take_in.new.self
    c.loop-place.invariant.days e rest) same (place_came g c)) c.requires.some c.requires.few is

-- the number of its last day fits
pub overflow_add-number : goal.overflow_add-number
overflow_add-number g c =
    let day = place-is_day c.in-Some-next_row.row.0 c.in-Some-next_row.row.1.now c.loop-place.place _
    c.loop-place.invariant.at c.loop-place-test.true in
    let small : FitsSigned w32 c.number-then-window-whole.result = search rules in
    let short = c.in-Some-next_row.ensures.row.few in
    rw (
      to_z-of_z small,
      c.number-then-window-whole.ensures.value,
      to_z_pos w32 c.loop-place.place (omega (arith, c.loop-place-test.true, short)),
    ) (day-fits _ day)

-- and is that of a day
pub numbered-last-requires : goal.numbered-last-requires
numbered-last-requires g c =
    let short = c.in-Some-next_row.ensures.row.few in
    rw (next_is c.in-Some-next_row.row.0 c.loop-place.place c.number-then-window-whole.ensures.value
    c.number-then-window-whole.ensures.range (omega (arith, c.loop-place-test.true, short)))
    (place-is_day c.in-Some-next_row.row.0 c.in-Some-next_row.row.1.now c.loop-place.place _
    c.loop-place.invariant.at c.loop-place-test.true)

-- a whole window begins on a day
pub first_of-requires : goal.first_of-requires
first_of-requires g c =
    let left = whole g (goal.at.first_of-requires g c).After-take_in c.if-window-whole.true in
    let short = c.in-Some-next_row.ensures.row.few in
    let last = c.numbered-last.ensures ∙ next_is c.in-Some-next_row.row.0 c.loop-place.place
    c.number-then-window-whole.ensures.value c.number-then-window-whole.ensures.range
    (omega (arith, c.loop-place-test.true, short)) in
    rw last left.begins

-- its first day leaves a sum that fits
pub leave-requires-clause-total : goal.leave-requires-clause-total
leave-requires-clause-total g c =
    (whole g (goal.at.leave-requires-clause-total g c).After-take_in c.if-window-whole.true).fits

-- the day is taken in, and a whole window is offered and loses its first day
pub loop-place-preserved : goal.loop-place-preserved
loop-place-preserved g c =
    let after = (goal.at.loop-place-preserved g c).After-take_in in
    let d : ℤ = c.in-Some-next_row.row.0 in
    let i : ℕ = c.loop-place.place in
    let held = c.loop-place.invariant in
    let longer = ap (λ (w : Window). w.len) c.take_in.ensures.window in
    elim c.if-window-whole.branch [
      | then-window-whole w ↦
          let left = whole g after w.if-window-whole.true in
          let next : (d +ℤ pos i) +ℤ pos 1 ≡ d +ℤ pos (i + 1) = omega (arith, ints) in
          let short = c.in-Some-next_row.ensures.row.few in
          let last = w.numbered-last.ensures ∙ next_is d i w.number-then-window-whole.ensures.value
          w.number-then-window-whole.ensures.range (omega (arith, c.loop-place-test.true, short)) in
          rw (w.window-is, w.sink-is, w.leave.ensures) record {
            days = left.now;
            at = subst (λ (e : ℤ). IsAt c.take_in.new.ring
                (without_first c.take_in.new.ring c.take_in.new.self) left.now e
                (from_place d c.in-Some-next_row.row.1.now (i + 1) (c.next_row.new.self ++ c.next_part.new.self)))
                next left.at;
            few = omega (arith, w.if-window-whole.true, c.requires.some);
            so_far = rw (w.offer.ensures, w.first_of.ensures, last, to_z-of_z left.wide)
                (ap (fold g.S.Sink.taken c.loop-place.sink) (sym left.offered) ∙ held.so_far);
            ok = λ rises. left.kept (held.ok rises);
            within = omega (arith, c.loop-place-test.true);
          }
      | else-window-whole w ↦ rw (w.window-is, w.sink-is) record {
        days = held.days;
        at = place_came g after;
        few = omega (arith, longer, held.few, w.if-window-whole.false);
        so_far = held.so_far;
        ok = held.ok;
        within = omega (arith, c.loop-place-test.true);
      }
    ]

-- no day is left
pub returns : goal.returns
returns g c =
    sym (ap (fold g.S.Sink.taken c.loop-part.sink) (none_left c.args.id c.args.n c.loop-part.invariant.at
    c.in_default.ensures.none c.loop-part.invariant.few)) ∙ c.loop-part.invariant.so_far
