use Rattle.ghcn_series.proofs.Cited.{◌<◌, ◌≤◌, [], length, map, get_or, sym, ap, ◌∙◌, arith, nat_lt, nat_tests}
use Rattle.ghcn_series.proofs.Cited.{find, slice_get, option_and_then, option_copied, length-map, is_of_element}
use Rattle.std.proofs.lemmas.List.{get_or_past, get_or-map}
use Rattle.ghcn_series.proofs.SeriesPlaces.{list-numbered}
use Rattle.ghcn_series.proofs.by_place.SeriesByPlace.at.Goals as goal

-- a number past those of the lists has no list
pub returns-in_err-series : goal.returns-in_err-series
returns-in_err-series c =
    let of = find (is_of_element c.args.element) in
    let lists = map (λ v. v.items) c.self.inside.lists.items in
    let i = c.in_ok-checked_sub.field-0 in
    let there = ap (λ vs. nat_lt c.args.place (length vs)) (sym c.deref.ensures.value)
    ∙ sym c.in_ok-number.ensures.lookup.0 in
    let is = c.in_ok-number.ensures.lookup.1
    ∙ ap (λ vs. get_or vs c.args.place c.in_ok-number.number.now) c.deref.ensures.value in
    let past : length lists ≤ i =
    grind (
      arith,
      nat_tests,
      length-map c.self.inside.lists.items (λ v. v.items),
      c.in_err-series.ensures.lookup.0,
      ap length c.deref-2.ensures.value,
    ) in
    ap option_copied c.from_residual-in_err-series.ensures ∙ ap of (sym (get_or_past lists i [] past))
    ∙ ap (option_and_then of)
    (list-numbered lists c.self.inside.numbers.items c.args.place c.in_ok-number.number.now i there is (omega arith))
    ∙ ap (λ all. option_and_then of (slice_get all c.args.place)) c.self.view_is

-- another number has its list
pub returns : goal.returns
returns c =
    let of = find (is_of_element c.args.element) in
    let vs = c.self.inside.lists.items in
    let lists = map (λ v. v.items) vs in
    let i = c.in_ok-checked_sub.field-0 in
    let series = c.in_ok-series.series.now in
    let there = ap (λ vs. nat_lt c.args.place (length vs)) (sym c.deref.ensures.value)
    ∙ sym c.in_ok-number.ensures.lookup.0 in
    let is = c.in_ok-number.ensures.lookup.1
    ∙ ap (λ vs. get_or vs c.args.place c.in_ok-number.number.now) c.deref.ensures.value in
    let within : i < length vs = grind (arith, nat_tests, c.in_ok-series.ensures.lookup.0, ap length c.deref-2.ensures.value) in
    let list = c.in_ok-series.ensures.lookup.1 ∙ ap (λ vs. get_or vs i series) c.deref-2.ensures.value in
    c.of_element.ensures ∙ ap of c.deref-3.ensures.value
    ∙ ap of (ap (λ v. v.items) list ∙ sym (get_or-map (λ v. v.items) vs i series [] within))
    ∙ ap (option_and_then of)
    (list-numbered lists c.self.inside.numbers.items c.args.place c.in_ok-number.number.now i there is (omega arith))
    ∙ ap (λ all. option_and_then of (slice_get all c.args.place)) c.self.view_is
