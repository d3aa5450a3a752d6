use Rattle.std.proofs.Common.{◌≡◌, ◌+◌, ◌++◌, ◌∷◌, [], ℕ, List, Option, map, take, length, suc, sym, ap, ◌∙◌, ◌≤◌}
use Rattle.std.proofs.Common.{arith, append-nil, option_to_list}
use Rattle.std.specs.List.{filter_map}
use Rattle.std.specs.Option.{option_copied}
use Rattle.std.proofs.lemmas.List.{map-append, take_all}
use Rattle.ghcn_series.specs.Meaning.Series.{Series}
use Rattle.rank_scores.specs.Morsels.{morsel_at}
use Rattle.rank_scores.proofs.QueryMorsels.{by_station}
use Rattle.rank_check.proofs.Each.{kept-more}
use Rattle.rank_check.proofs.survey.morsels_of.Goals as goal
use Rattle.rank_check.proofs.survey.morsels_of.Goals.{in-Some+in_ok-push, in_default}

-- one station more may have a morsel
pub loop-place-preserved : goal.loop-place-preserved
loop-place-preserved c =
    let made = morsel_at c.args.query.now c.args.dataset.now in
    let stations = c.args.dataset.now.stations in
    let place = c.loop-place.place in
    let with : Option Series → List Series = λ o. filter_map made (take place stations) ++ option_to_list o in
    let next : suc place ≡ place + 1 = omega arith in
    let there : with (option_copied c.morsel_at.result) ≡ filter_map made (take (place + 1) stations) =
    ap with c.morsel_at.ensures.morsel ∙ sym (kept-more made stations place)
    ∙ ap (λ (n : ℕ). filter_map made (take n stations)) next in
    elim c.match-morsel_at.branch [
      | in-Some+in_ok-push w ↦
          ap (λ v. map (λ s. s.now) v.items) w.all-is ∙ ap (map (λ s. s.now)) w.in_ok-push.ensures.items
          ∙ map-append (λ s. s.now) c.loop-place.all.items (w.in-Some.series ∷ [])
          ∙ ap (λ (l : List Series). l ++ w.in-Some.series.now ∷ []) c.loop-place.invariant
          ∙ ap (λ o. with (option_copied o)) (sym w.in-Some.is) ∙ there
      | in_default w ↦
          ap (λ v. map (λ s. s.now) v.items) w.all-is ∙ c.loop-place.invariant ∙ sym (append-nil _)
          ∙ ap (λ o. with (option_copied o)) (sym w.in_default.is) ∙ there
    ]

-- all stations were looked at
pub returns-clause-morsels : goal.returns-clause-morsels
returns-clause-morsels c =
    let made = morsel_at c.args.query.now c.args.dataset.now in
    let stations = c.args.dataset.now.stations in
    let end : length stations ≤ c.loop-place.place = omega (
      arith,
      c.len-place-end.ensures.number,
      ap length c.stations.ensures.stations,
      c.loop-place-test.false,
    ) in
    c.loop-place.invariant ∙ ap (filter_map made) (take_all c.loop-place.place stations end)
    ∙ by_station c.args.query.now c.args.dataset.now stations
