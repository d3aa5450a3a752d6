use Rattle.std.proofs.Common.{◌≡◌, ◌≤◌, ◌+◌, ◌++◌, ◌∷◌, [], List, Option, map, option_map, option_to_list, refl, sym, ap}
use Rattle.std.proofs.Common.{◌∙◌, arith}
use Rattle.std.proofs.lemmas.List.{append-nil, map-append}
use Rattle.rank_sched.specs.Plan.{Morsel, found_among}
use Rattle.rank_crew.specs.Places.{elements_between}
use Rattle.rank_crew.proofs.Parts.{found-more}
use Rattle.rank_crew.proofs.places.measure_alone.Goals as goal
use Rattle.rank_crew.proofs.places.measure_alone.Goals.{in-Some+in_ok-push, in_default}

-- one place more may give a morsel
pub loop-place-preserved : goal.loop-place-preserved
loop-place-preserved g c =
    let seen = g.P.Places.seen in
    let all = g.P.Places.morsels c.args.places.now in
    let place = c.loop-place.place in
    let before = map seen c.loop-place.found.items in
    let low : c.args.from ≤ place = omega arith in
    let with : Option _ → List Morsel = λ o. before ++ option_to_list (option_map seen o) in
    let more : with c.in_ok-morsel.field-0 ≡ found_among (elements_between c.args.from (place + 1) all) =
    found-more all c.args.from place (place + 1) (option_map seen c.in_ok-morsel.field-0) before refl low
    c.in_ok-morsel.ensures c.loop-place.invariant.so_far in
    let is : map seen c.match-branch-2.found.items ≡ with c.in_ok-morsel.field-0 =
    elim c.match-branch-2.branch [
      | in-Some+in_ok-push w ↦
          ap (λ v. map seen v.items) w.found-is ∙ ap (map seen) w.in_ok-push.ensures.items
          ∙ map-append seen c.loop-place.found.items (w.in-Some.morsel ∷ []) ∙ ap with (sym w.in-Some.is)
      | in_default w ↦
          ap (λ v. map seen v.items) w.found-is ∙ sym (append-nil before) ∙ ap with (sym w.in_default.is)
    ] in
    record { so_far = is ∙ more }
