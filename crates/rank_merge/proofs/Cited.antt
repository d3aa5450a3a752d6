-- The names that the proofs cite, passed on from one place.
pub use Rattle.std.proofs.Common.{Bool, Err, FitsSigned, IfOk, IfSome, List, None, Ok, Option, Result, Some, [], ap}
pub use Rattle.std.proofs.Common.{append-nil, append_assoc, ap₂, arith, codes, cond, count_by, decimal, drop, false}
pub use Rattle.std.proofs.Common.{filter, find, flat_map, get_or, inl, inr, int_lt, le-leb, leb-true, length, map}
pub use Rattle.std.proofs.Common.{nat_le, not, option_map, refl, rules, slice_get, subst, suc, sym, take, tests, true}
pub use Rattle.std.proofs.Common.{w64, zero, zip, ℕ, ℤ, ◌&&◌, ◌++◌, ◌+◌, ◌-◌, ◌<◌, ◌||◌, ◌↔◌, ◌∙◌, ◌∷◌, ◌≡◌, ◌≤ℤ◌, ◌≤◌}
pub use Rattle.std.proofs.Common.{◌⊎◌}
pub use Rattle.std.proofs.lemmas.Bool.{false_from_ne_true, true_from_ne_false}
pub use Rattle.std.proofs.lemmas.Int.{ints}
pub use Rattle.std.proofs.lemmas.List.{drop_more, flat_map_more, length-map, length-take, map-append, map-id, map_more}
pub use Rattle.std.proofs.lemmas.List.{take-append-drop, take-map, take-take}
pub use Rattle.std.proofs.lemmas.List.Sorted.{All-permutation, IsPermutation-map, IsPermutation-sym, answers_always}
pub use Rattle.std.proofs.lemmas.List.Sorted.{length_permutation, sum_by-IsPermutation}
pub use Rattle.std.proofs.lemmas.List.Sums.{count_by-le-length, sum_by-append, sum_by-cons}
pub use Rattle.std.proofs.lemmas.Result.{IfErr-weaker, IfOk-weaker, on_ok_weaker}
pub use Rattle.std.specs.Cmp.{IsStrictWeakOrder, IsTotalOrder}
pub use Rattle.std.specs.List.{AllByRecursion, AllZip, cons_option, list_any}
pub use Rattle.std.specs.List.Sorted.{IsPermutation, IsSortedBy, IsStableBy, ties}
pub use Rattle.std.specs.Ordering.{is_eq, is_le, nat_cmp, ordering_reverse}
pub use Rattle.std.specs.declared.cmp.Ordering.{Ordering}
pub use Rattle.ghcn_fields.specs.Refusals.{IsRefusal, OrMemory}
pub use Rattle.ghcn_fields.specs.Sorting.{placed, sorted_by}
pub use Rattle.ghcn_files.proofs.IdLaws.{same_id-is, same_id-laws, same_id-turned}
pub use Rattle.ghcn_files.proofs.Ordered.{Descend, sorted-map, sorted-permutation}
pub use Rattle.ghcn_files.specs.Meaning.Ids.{same_id}
pub use Rattle.ghcn_files.specs.declared.station.Station.{Station}
pub use Rattle.ghcn_files.specs.declared.station.StationId.{StationId}
pub use Rattle.ghcn_series.proofs.ListFacts.{each-append, from_all, zip-weaker}
pub use Rattle.ghcn_series.specs.Held.{IsContents}
pub use Rattle.ghcn_series.specs.Meaning.Series.{Series}
pub use Rattle.ghcn_series.specs.Series.{Data}
pub use Rattle.rank_query.specs.Meaning.Asked.{Query, IsAsked}
pub use Rattle.rank_scores.proofs.QueryCandidates.{all_apart, candidates-own, morsels_rise}
pub use Rattle.rank_scores.specs.Cut.{CutByFiles, Filed, IsDataOf, IsSameFor, MorselsOfParts, morsel_ids, series_first}
pub use Rattle.rank_scores.specs.Meaning.Order.{precedes}
pub use Rattle.rank_scores.specs.Morsels.{admitted_series, all_candidates, best_of_query, has_admitted, id_comes_first}
pub use Rattle.rank_scores.specs.Morsels.{kth_of_query, morsels}
pub use Rattle.rank_scores.specs.Order.{bound_is_below, full_cmp}
pub use Rattle.rank_scores.specs.declared.candidate.Candidate.{Candidate}
pub use Rattle.rank_pool.proofs.Counts.{NoneAbove, ScoresFall, above-append, below_kth, in_order-falls, one_if}
pub use Rattle.rank_pool.proofs.Counts.{score_at}
pub use Rattle.rank_pool.proofs.Orders.{sorted-all, sorted-fixed, take-all}
pub use Rattle.rank_pool.proofs.Ranked.{best-first, in_order-descends, kth_score-kth}
pub use Rattle.rank_pool.specs.First.{above, comes_first, first, in_order, kth}
pub use Rattle.rank_papers.proofs.PlanLines.{sorted-zip}
pub use Rattle.rank_papers.proofs.PlanPapers.{kth-best, some_asked}
pub use Rattle.rank_papers.specs.Certificate.{Certified, Line, IsFoundCertificate, IsCertificateOf, IsCount, IsEntry}
pub use Rattle.rank_papers.specs.Certificate.{IsRightEntry, SaysRightCertificate, certificate_text, count_of, counts_of}
pub use Rattle.rank_papers.specs.Certificate.{kth_of_best}
pub use Rattle.rank_papers.specs.CertificateLines.{read_certificate}
pub use Rattle.rank_papers.specs.Meaning.Report.{report_text}
pub use Rattle.rank_papers.specs.Papers.{of_both, of_rows}
pub use Rattle.rank_papers.specs.Report.{IsFoundReport, Named, with_stations}
pub use Rattle.rank_papers.specs.ReportLines.{IsReportOf, IsRow, Reported, SaysRightReport, name_of, named_in}
pub use Rattle.rank_papers.specs.declared.paper.Row.{Row}
pub use Rattle.rank_head.proofs.FirstPlaces.{behind_first}
pub use Rattle.rank_head.specs.RightHead.{HeadsAreRight, IsRightHead}
pub use Rattle.rank_merge.specs.Found.{AreOfParts, IsCut, IsCutBehind, IsFloor, papers_in, part_in, texts_in}
pub use Rattle.rank_merge.specs.Laws.{AreAllParts, IsMeasuredPart, IsOutcomeWhereRight, IsRightOutcome}
pub use Rattle.rank_merge.specs.Laws.{MergedAreMeasured, MergedAreRight, RightAreMerged, all_files, all_texts}
pub use Rattle.rank_merge.specs.Merged.{Part, by_id, entries_of_parts, first_rows, merged_certificate, merged_entries}
pub use Rattle.rank_merge.specs.Merged.{merged_report, merged_rows, rows_in_order, rows_of}
pub use Rattle.rank_merge.specs.Merging.{Texts, and_parts, is_memory, merge, papers_of, papers_unless, part_of}
pub use Rattle.rank_merge.specs.Merging.{parts_from, said, twice, unless_fault, with_right_head}
pub use Rattle.rank_merge.specs.declared.fault.MergeFault.{MergeFault}
