-- The names that the proofs cite, passed on from one place.
pub use Rattle.std.proofs.Common.{All, Bool, Contains, Err, IfOk, IfSome, IsErr, IsErrAnd, List, None, Ok, Option}
pub use Rattle.std.proofs.Common.{Result, Some, [], ap, append-nil, append_assoc, arith, cond, false, filter, get_or}
pub use Rattle.std.proofs.Common.{inl, inr, length, length-append, map, neg_ℤ, not, option_to_list, pos, refl}
pub use Rattle.std.proofs.Common.{replicate, rules, set, subst, suc, sym, take, true, zero, ℕ, ℤ, ⊎_elim, ◌*◌, ◌++◌}
pub use Rattle.std.proofs.Common.{◌+ℤ◌, ◌+◌, ◌-ℤ◌, ◌-◌, ◌<◌, ◌∙◌, ◌∷◌, ◌≡◌, ◌≢◌, ◌≤ℤ◌, ◌≤◌}
pub use Rattle.std.proofs.Math.Seq.{take-nil}
pub use Rattle.std.proofs.lemmas.Bool.{and_parts, cases_eq, eq-eqb, eqb-true, ne_eqb}
pub use Rattle.std.proofs.lemmas.Bool.Decides.{nat_tests}
pub use Rattle.std.proofs.lemmas.Cmp.{nat_list_cmp_total}
pub use Rattle.std.proofs.lemmas.Grind.{common_steps, flat_map-append}
pub use Rattle.std.proofs.lemmas.Int.{ints}
pub use Rattle.std.proofs.lemmas.List.{drop_at, get_or-set_other, get_or-set_same, get_or_read, length-map}
pub use Rattle.std.proofs.lemmas.List.{length-replicate, length-set, map-append, nil_from_length, take_all, take_at}
pub use Rattle.std.proofs.lemmas.List.Elements.{All-append, All-cons, All-contains, All-contains_itself, All-drop}
pub use Rattle.std.proofs.lemmas.List.Elements.{All-from_recursion, All-head, All-nil, All-same, All-tail, All-take}
pub use Rattle.std.proofs.lemmas.List.Elements.{All-weaker, Contains-push, filter_passes, recursion_from_All}
pub use Rattle.std.proofs.lemmas.List.Folds.{flat_map-map, list_all-append}
pub use Rattle.std.proofs.lemmas.List.Sorted.{All-permutation, IsPermutation-map, IsPermutation-sym}
pub use Rattle.std.proofs.lemmas.List.Sorted.{IsPermutation-trans, answers_always, length_permutation}
pub use Rattle.std.proofs.lemmas.List.Sums.{AllPass-from_list_all, sum_by-append, sum_by-cons}
pub use Rattle.std.proofs.lemmas.Map.Keys.{IsDistinct-IsPermutation}
pub use Rattle.std.proofs.lemmas.Map.Text.{is_eq-slice_cmp}
pub use Rattle.std.proofs.lemmas.Option.{get_or_from_slice_get, slice_get-map, slice_get_cases, slice_get_read}
pub use Rattle.std.proofs.lemmas.Option.{slice_get_within}
pub use Rattle.std.proofs.lemmas.Result.{IfOk-weaker}
pub use Rattle.std.proofs.lemmas.Slice.Zip.{AllZip-long}
pub use Rattle.std.specs.Cmp.{IsStrictWeakOrder, IsTotalOrder}
pub use Rattle.std.specs.List.{AllByRecursion, cons_option, count_by, enumerate_from, filter_map, find, flat_map}
pub use Rattle.std.specs.List.{list_all, range_with_len}
unfoldable pub use Rattle.std.specs.List.{IsDistinct}
pub use Rattle.std.specs.List.Sorted.{IsPermutation, IsSortedBy}
pub use Rattle.std.specs.Option.{option_and_then, option_map, option_map_or}
pub use Rattle.std.specs.Ordering.{is_eq, is_le, ordering_then}
pub use Rattle.std.specs.Prelude.{IsSomeAnd, codes, fold, if◌then◌else◌, int_lt, nat_le, nat_lt, slice_get, slice_set}
pub use Rattle.std.specs.Prelude.{sum_by, zip, ◌&&◌, ◌==◌, ◌||◌, ◌↔◌, ◌⊎◌}
pub use Rattle.std.specs.Vec.Iter.{into_iter_items}
pub use Rattle.std.specs.declared.cmp.Ordering.{Ordering}
pub use Rattle.std.specs.declared.cmp.Ordering.TheVariants.{Equal}
pub use Rattle.ghcn_fields.proofs.CountingLaws.{all_below, has_each, length-each_below, one_if_equal-equal}
pub use Rattle.ghcn_fields.proofs.CountingLaws.{times-append, times-none_below, times_below-suc, times_below-yes}
pub use Rattle.ghcn_fields.proofs.CountingLaws.{total-each_below}
pub use Rattle.ghcn_fields.specs.Counting.{HasEachBelow, one_if_equal, sum_below, times, times_below}
pub use Rattle.ghcn_fields.specs.Floor.{IsAtLeast, IsFloorOf, IsGuessOrRaised, IsScore}
pub use Rattle.ghcn_fields.specs.Meaning.Days.{is_within}
pub use Rattle.ghcn_fields.specs.Sorting.{placed, sorted_by}
pub use Rattle.ghcn_files.proofs.ById.{found-at_place, none-without_place}
pub use Rattle.ghcn_files.proofs.IdLaws.{same_id-is, same_id-turned}
pub use Rattle.ghcn_files.proofs.IdOrder.{one_sort, strictly, strictly_ranks}
pub use Rattle.ghcn_files.proofs.Ordered.{distinct-map, distinct-mapped, each-map, each-mapped, sorted-permutation}
pub use Rattle.ghcn_files.specs.Listed.{place_of}
pub use Rattle.ghcn_files.specs.Meaning.Ids.{same_id}
pub use Rattle.ghcn_files.specs.Meaning.Listed.{is_station_of}
pub use Rattle.ghcn_files.specs.StationLines.{station_of}
pub use Rattle.ghcn_files.specs.declared.element.Element.TheVariants.{Tmax}
pub use Rattle.ghcn_files.specs.declared.station.Station.{Station}
pub use Rattle.ghcn_files.specs.declared.station.StationId.{StationId}
pub use Rattle.ghcn_series.proofs.ListFacts.{all-filter, from_all}
pub use Rattle.ghcn_series.specs.Held.{IsContents}
pub use Rattle.ghcn_series.specs.Meaning.Series.{DayValue, Series, value_on}
pub use Rattle.ghcn_series.specs.Series.{Data, IsSeries, series_of}
pub use Rattle.rank_query.specs.Asked.{top}
pub use Rattle.rank_query.specs.Meaning.Admits.{region_holds}
pub use Rattle.rank_query.specs.Meaning.Asked.{Query, IsAsked, is_score, score_element}
pub use Rattle.rank_query.specs.declared.region.Region.{Region}
pub use Rattle.rank_query.specs.declared.region.Region.TheVariants.{Only}
pub use Rattle.rank_query.specs.declared.score.Score.{Score}
pub use Rattle.rank_query.specs.declared.score.Score.TheVariants.{Cold, Dry, Highest, Hot, Lowest, Sum, Wet}
pub use Rattle.rank_scores.proofs.QueryCandidates.{all_apart, morsels_apart, series_among}
pub use Rattle.rank_scores.proofs.QueryMorsels.{asked_alone, morsels_asked}
pub use Rattle.rank_scores.proofs.Rising.{all-made, each, from_both}
pub use Rattle.rank_scores.proofs.Totals.{IsSmall, admitted-small}
pub use Rattle.rank_scores.specs.Candidates.{begun, candidate, candidates, contenders, contenders_among, plus, test_of}
pub use Rattle.rank_scores.specs.Candidates.{window_total}
pub use Rattle.rank_scores.specs.Meaning.Candidates.{Shape, Spells, Windows, admitted, shape}
pub use Rattle.rank_scores.specs.Morsels.{IsAskedOf, admitted_series, all_candidates, best_of_query, has_admitted}
pub use Rattle.rank_scores.specs.Morsels.{morsel_at, morsels, passing}
pub use Rattle.rank_scores.specs.Order.{AreApart, begin_alike, best, bound_is_below, kth_score}
pub use Rattle.rank_scores.specs.Runs.{run_len}
unfoldable pub use Rattle.rank_scores.specs.Runs.{run_from}
pub use Rattle.rank_scores.specs.declared.candidate.Candidate.{Candidate}
pub use Rattle.rank_blocks.proofs.BoundsMet.{bound-above}
pub use Rattle.rank_blocks.proofs.Computed.{computed-IsBound}
pub use Rattle.rank_blocks.specs.Bounds.{bound}
pub use Rattle.rank_pool.proofs.Counts.{above-append, below_kth, none_above}
pub use Rattle.rank_pool.proofs.Kept.{Alike, alike-first, alike-left, alike-middle, alike-right, first-low}
pub use Rattle.rank_pool.proofs.Offers.{last_is_kth as last_of_pool}
pub use Rattle.rank_pool.proofs.Places.{first-first_left, holds-fold, in_order-append_comm, size-fold}
pub use Rattle.rank_pool.proofs.Ranked.{best-first, in_order-permutation, kth_score-kth}
pub use Rattle.rank_pool.specs.First.{above, first, in_order, kth}
pub use Rattle.rank_pool.specs.Pools.{HoldsFirst, Pool, empty_pool, last_score, taken}
pub use Rattle.rank_sched.specs.Answers.{AreBestOfQuery, AreRecordsAlone, IsAnswer, IsAnswerOfCrew, best_of_plan}
pub use Rattle.rank_sched.specs.Answers.{line_of, lines_of, records_in}
pub use Rattle.rank_sched.specs.Exchanges.{Exchange, IsRightSkip, SeeUpward, best_pool, exchange, exchanges, morsels_of}
pub use Rattle.rank_sched.specs.Exchanges.{pool_of, raised_in, scanned, scanned_for, seen_in}
pub use Rattle.rank_sched.specs.Finish.{AreMarks, AreWithin, HasBackBelow, mark, marked_line, marked_lines, unmarked}
pub use Rattle.rank_sched.specs.Hauls.{AreHaulsFrom, AreHaulsOf, AreSound, AreSoundRecords, AreUnderFloor, HaveRecords}
pub use Rattle.rank_sched.specs.Hauls.{IsHaulOf, all_records, exchanges_in, records_by, records_of, turns_by, turns_of}
pub use Rattle.rank_sched.specs.Laws.{BestAreThere, EndsAreSound, EventsAreCounted, FailedStaysFailed}
pub use Rattle.rank_sched.specs.Laws.{FewerWorkersAreSound, HaulsGrow, HaulsJoin, HaulsOfRecordsAreSound, IsLowGuess}
pub use Rattle.rank_sched.specs.Laws.{IsReached, NoHauls, NoneIsTakenBack, OneWorkerEndsOneWay, OneWorkerHasNoChoice}
pub use Rattle.rank_sched.specs.Laws.{PlanHasTheBest, PlanIsTheOne, PlansAreFair, PoolDecides, RaisedIsReached}
pub use Rattle.rank_sched.specs.Laws.{RecordsAloneAreOne, RecordsAreSound, RunsAreSound, ScansHaveOneCause}
pub use Rattle.rank_sched.specs.Laws.{SeenIsAtMost, SkipsAreRight, SkipsStayOnwards, StepsAreComputed, StopsJoin}
pub use Rattle.rank_sched.specs.Laws.{TurnsGrow, TurnsJoin, UpwardGrows, WantOfMemoryFails, WorkersJoin, is_claim}
pub use Rattle.rank_sched.specs.Laws.{is_look, is_settle}
pub use Rattle.rank_sched.specs.Machine.{Does, IsClaim, IsLook, IsSettle, IsStep, Leads, State, Worker, after}
pub use Rattle.rank_sched.specs.Machine.{all_stopped, drawn, floor_after, greater_floor, has_stopped, is_awaited, moved}
pub use Rattle.rank_sched.specs.Machine.{new_worker, record_of, refusal, replayed, started, worker_of}
pub use Rattle.rank_sched.specs.Plan.{AreDrawnInTurn, IsPlan, Morsel, Plan, drawn_cmp, found_among, is_drawn_first}
pub use Rattle.rank_sched.specs.Plan.{measured, measured_at, measures, planned, planned_morsel}
pub use Rattle.rank_sched.specs.Run.{HasSettled, IsAnswered, IsEmptyHaul, IsReplayed, IsRunning, IsSameHaul, Refuses}
pub use Rattle.rank_sched.specs.Run.{Running, Steps, is_stopped, new_run, state_of, worker_with}
pub use Rattle.rank_sched.specs.SoundRun.{AreSoundFrom, IsSoundEnd, IsSoundState, IsSoundWorker, IsTurnOf, NumbersRise}
pub use Rattle.rank_sched.specs.SoundRun.{all_exchanges, claims_in, exchanges_of, open_exchange, unsettled}
pub use Rattle.rank_sched.specs.TakingBack.{back_below, is_justified, is_taken_back, known_before, stays, taken_back}
pub use Rattle.rank_sched.specs.TakingBack.{was_skipped}
pub use Rattle.rank_sched.specs.Task.{IsFair, Task, all_of_task, task_of}
pub use Rattle.rank_sched.specs.declared.answer.Answer.{Answer}
pub use Rattle.rank_sched.specs.declared.event.Event.{Event}
pub use Rattle.rank_sched.specs.declared.event.Event.TheVariants.{Claim, Look, Settle}
pub use Rattle.rank_sched.specs.declared.event.StepFault.{StepFault}
pub use Rattle.rank_sched.specs.declared.event.StepFault.TheVariants.{NoWorker, NotNow}
pub use Rattle.rank_sched.specs.declared.haul.Haul.{Haul}
pub use Rattle.rank_sched.specs.declared.line.Line.{Line}
pub use Rattle.rank_sched.specs.declared.record.Record.{Record}
pub use Rattle.rank_sched.specs.declared.turn.Turn.{Turn}
pub use Rattle.rank_sched.specs.declared.turn.Turn.TheVariants.{Claimed, Idle, Looked}
