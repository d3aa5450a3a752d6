use Rattle.rank_sched.proofs.Cited.{◌≡◌, ◌≤◌, ◌+◌, ◌++◌, ◌∷◌, [], suc, ℕ, List, Option, map, take, length, sym, ap, ◌∙◌, arith}
use Rattle.rank_sched.proofs.Cited.{append-nil, option_to_list, option_map, filter_map, map-append, planned_morsel}
use Rattle.std.proofs.lemmas.List.{take_all}
use Rattle.rank_sched.specs.declared.plan.Morsel as code
use Rattle.rank_sched.specs.Plan as plan
use Rattle.rank_sched.proofs.OneStation.{measured_of}
use Rattle.rank_sched.proofs.PlanMade.{kept-more}
use Rattle.rank_sched.proofs.Measures.{found_of_stations}
use Rattle.rank_sched.proofs.plan.morsels_of.Goals as goal
use Rattle.rank_sched.proofs.plan.morsels_of.Goals.{in-Some+in_ok-push, in_default}

-- one station more may give a morsel
pub loop-place-preserved : goal.loop-place-preserved
loop-place-preserved c =
    let made = plan.measured_at c.args.query.now c.args.dataset.now in
    let stations = c.args.dataset.now.stations in
    let place = c.loop-place.place in
    let next : suc place ≡ place + 1 = omega arith in
    let found = c.in_ok-morsel.field-0 in
    let with : Option code.Morsel → List plan.Morsel =
    λ o. filter_map made (take place stations) ++ option_to_list (option_map planned_morsel o) in
    let at : with found ≡ filter_map made (take (place + 1) stations) =
    sym (kept-more made stations place (option_map planned_morsel found)
    (measured_of c.args.query.now c.args.dataset.now place (option_map planned_morsel found) c.in_ok-morsel.ensures))
    ∙ ap (λ (n : ℕ). filter_map made (take n stations)) next in
    elim c.match-branch-2.branch [
      | in-Some+in_ok-push w ↦
          ap (λ v. map planned_morsel v.items) w.morsels-is ∙ ap (map planned_morsel) w.in_ok-push.ensures.items
          ∙ map-append planned_morsel c.loop-place.morsels.items (w.in-Some.morsel ∷ [])
          ∙ ap (λ (l : List plan.Morsel). l ++ planned_morsel w.in-Some.morsel ∷ []) c.loop-place.invariant
          ∙ ap with (sym w.in-Some.is) ∙ at
      | in_default w ↦
          ap (λ v. map planned_morsel v.items) w.morsels-is ∙ c.loop-place.invariant ∙ sym (append-nil _)
          ∙ ap with (sym w.in_default.is) ∙ at
    ]

-- all stations have given theirs
pub returns : goal.returns
returns c =
    let made = plan.measured_at c.args.query.now c.args.dataset.now in
    let stations = c.args.dataset.now.stations in
    let all : length stations ≤ c.loop-place.place =
    omega (arith, c.len-place-end.ensures.number, ap length c.stations.ensures.stations, c.loop-place-test.false) in
    c.loop-place.invariant ∙ ap (filter_map made) (take_all c.loop-place.place stations all)
    ∙ sym (found_of_stations c.args.query.now c.args.dataset.now stations)
