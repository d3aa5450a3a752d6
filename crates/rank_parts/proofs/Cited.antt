-- The names that the proofs cite, passed on from one place.
pub use Rattle.std.proofs.Common.{Bool, Equal, Err, Greater, Less, List, None, Ok, Option, Result, Some, [], ap, ap₂}
pub use Rattle.std.proofs.Common.{arith, cond, drop, false, filter, get_or, inl, inr, int_le, int_lt, is_ok, length}
pub use Rattle.std.proofs.Common.{map, nat_cmp, nat_le, nat_lt, not, refl, rules, slice_get, subst, suc, sym, take}
pub use Rattle.std.proofs.Common.{true, zero, ℕ, ℤ, ◌&&◌, ◌+◌, ◌-◌, ◌<◌, ◌==◌, ◌||◌, ◌↔◌, ◌∙◌, ◌∷◌, ◌≡◌, ◌≤ℤ◌, ◌≤◌}
pub use Rattle.std.proofs.Math.Path.{fun_ext}
pub use Rattle.std.proofs.lemmas.Bool.{and_from, and_parts, and_right, both_ways, cond_both, false_from_ne_true}
pub use Rattle.std.proofs.lemmas.Bool.{false≢true, leb-true, ltb-false, ltb-true, true_from_ne_false}
pub use Rattle.std.proofs.lemmas.Cmp.{tied_itself}
pub use Rattle.std.proofs.lemmas.Fn.{always_returns_same}
pub use Rattle.std.proofs.lemmas.Int.{ints}
pub use Rattle.std.proofs.lemmas.List.{length-map, nil_from_length, take_all}
pub use Rattle.std.proofs.lemmas.List.Concat.{length-flat_map}
pub use Rattle.std.proofs.lemmas.List.Folds.{flat_map-map, list_all_at, list_all_more, list_any_at, list_any_none}
pub use Rattle.std.proofs.lemmas.List.Recursion.{is_count_by}
pub use Rattle.std.proofs.lemmas.List.Sorted.{IsPermutation-sym, length_permutation}
pub use Rattle.std.proofs.lemmas.List.Sums.{count_by-le-length, length-filter, sum-map, sum_by_more}
pub use Rattle.std.proofs.lemmas.Option.{get_or_from_slice_get, slice_get-map, slice_get_within}
pub use Rattle.std.proofs.lemmas.Slice.Zip.{AllZip-long, AllZip-map}
pub use Rattle.std.specs.Cmp.{IsStrictWeakOrder}
pub use Rattle.std.specs.Cmp.Lexicographic.{slice_cmp}
pub use Rattle.std.specs.List.{AllByRecursion, AllZip, cons_option, count_by, filter_map, find, flat_map, list_all, sum}
pub use Rattle.std.specs.List.Sorted.{IsBinarySearchResult, IsPartitionPoint, IsSearchInRange}
pub use Rattle.std.specs.Option.{option_and_then, option_copied, option_map, option_map_or, option_or}
pub use Rattle.ghcn_fields.specs.Faults.{first_failing}
pub use Rattle.ghcn_fields.specs.Meaning.Bytes.{same_bytes}
pub use Rattle.ghcn_fields.specs.Sorting.{sorted_by}
pub use Rattle.ghcn_files.proofs.IdLaws.{same_id-is, same_id-laws}
pub use Rattle.ghcn_files.proofs.IdOrder.{strictly_ranks}
pub use Rattle.ghcn_files.proofs.KeptElements.{is_kept-only}
pub use Rattle.ghcn_files.proofs.Ordered.{sorted-permutation}
pub use Rattle.ghcn_files.specs.Elements.{is_kept, only, same_element}
pub use Rattle.ghcn_files.specs.Meaning.Ids.{same_id}
pub use Rattle.ghcn_files.specs.Meaning.Listed.{is_station_of}
pub use Rattle.ghcn_files.specs.declared.element.Element.{Element}
pub use Rattle.ghcn_files.specs.declared.station.Station.{Station}
pub use Rattle.ghcn_files.specs.declared.station.StationId.{StationId}
pub use Rattle.ghcn_series.proofs.ListFacts.{zip-weaker}
pub use Rattle.ghcn_series.proofs.Members.{In, all_in, any_in, contains-in, for_each, found_in, in-contains, in_all}
pub use Rattle.ghcn_series.proofs.Members.{in_any, in_kept, in_map, kept_in, map_in, of_one}
pub use Rattle.ghcn_series.specs.Held.{IsContents}
pub use Rattle.ghcn_series.specs.Laws.{DataAreRight}
pub use Rattle.ghcn_series.specs.Meaning.Series.{Series}
pub use Rattle.ghcn_series.specs.Says.{data_of}
pub use Rattle.ghcn_series.specs.Series.{Data, is_series_of, series_of}
pub use Rattle.rank_query.specs.Admits.{admits_station}
pub use Rattle.rank_query.specs.Meaning.Asked.{Query, IsAsked, score_element}
pub use Rattle.rank_scores.proofs.Leaders.{filter-all}
pub use Rattle.rank_scores.proofs.QueryCandidates.{morsels_rise}
pub use Rattle.rank_scores.proofs.QueryMorsels.{by_station}
pub use Rattle.rank_scores.proofs.Ranks.{Descends}
pub use Rattle.rank_scores.proofs.Rising.{find-filter}
pub use Rattle.rank_scores.specs.Candidates.{candidates}
pub use Rattle.rank_scores.specs.Cut.{CutByFiles, Filed, IsCut, IsDataOf, IsSameFor, series_first}
pub use Rattle.rank_scores.specs.Morsels.{IsAbove, admitted_series, all_candidates, best_of_query, has_admitted}
pub use Rattle.rank_scores.specs.Morsels.{id_comes_first, kth_of_query, morsel_at, morsels, passing}
pub use Rattle.rank_scores.specs.OneElement.{MorselsStay, data_for}
pub use Rattle.rank_scores.specs.Order.{AreApart, bound_is_below}
pub use Rattle.rank_scores.specs.QueryCandidates.{CandidatesAreApart}
pub use Rattle.rank_scores.specs.declared.candidate.Candidate.{Candidate}
pub use Rattle.rank_papers.proofs.NamedRows.{descends_order}
pub use Rattle.rank_papers.proofs.ReadBoth.{papers_read}
pub use Rattle.rank_papers.specs.Certificate.{Certified, Line, IsFoundCertificate, IsCertificateOf, IsCertified}
pub use Rattle.rank_papers.specs.Certificate.{IsCount, IsEntry, IsRightEntry, SaysRightCertificate, count_of, counts_of}
pub use Rattle.rank_papers.specs.Certificate.{kth_of_best}
pub use Rattle.rank_papers.specs.CertificateLines.{certified_in, read_certificate}
pub use Rattle.rank_papers.specs.Laws.{CertificatesAreRead, ReportsAreRead, RightCertificatesSayRight}
pub use Rattle.rank_papers.specs.Laws.{RightReportsSayRight}
pub use Rattle.rank_papers.specs.Meaning.Report.{trimmed}
pub use Rattle.rank_papers.specs.Papers.{AreInOrder, candidates_of, of_rows, read_papers}
pub use Rattle.rank_papers.specs.Report.{IsFoundReport, Named}
pub use Rattle.rank_papers.specs.ReportLines.{IsReportOf, IsReported, Reported, SaysRightReport, name_of, named_in}
pub use Rattle.rank_papers.specs.ReportLines.{read_report, reported_in}
pub use Rattle.rank_papers.specs.declared.fault.Paper.{Paper}
pub use Rattle.rank_papers.specs.declared.fault.Paper.TheVariants.{Certificate}
pub use Rattle.rank_papers.specs.declared.paper.Row.{Row}
pub use Rattle.rank_head.proofs.Scanned.{by_bytes, bytes_total, same_by, scanned_at, searchable}
pub use Rattle.rank_head.specs.HeadTests.{IdsRise, head_fault, is_scanned, stands_before}
pub use Rattle.rank_head.specs.RightHead.{HeadsAreRight, IsRightHead}
pub use Rattle.rank_head.specs.declared.fault.HeadFault.{HeadFault}
pub use Rattle.rank_check.proofs.KthScores.{kth-best, last_taken}
pub use Rattle.rank_check.proofs.Members.{zip_in}
pub use Rattle.rank_check.proofs.Piecing.{all_passes, each_passes, or_made, or_rest, right_piece}
pub use Rattle.rank_check.proofs.QueryMembers.{candidate_id, candidate_in, in_candidates, is_morsel_of, listed_found}
pub use Rattle.rank_check.proofs.QueryMembers.{morsel_of, one_morsel, own_id, permuted_in, station_of}
pub use Rattle.rank_check.proofs.RowsWithin.{first_within, kept_descends, order_descends, same_rows, within_front}
pub use Rattle.rank_check.proofs.RowsWithin.{within_score}
pub use Rattle.rank_check.proofs.SortedCandidates.{best_first, in_order, ordered-descends, ordered-permutation}
pub use Rattle.rank_check.specs.Laws.{AcceptedWhereRight}
pub use Rattle.rank_check.specs.Pieces.{AreRowsWithin, IsRightPiece, is_morsel, is_within_worst, piece_tests, score_of}
pub use Rattle.rank_check.specs.Tests.{is_one_of, refusal}
pub use Rattle.rank_check.specs.declared.refusal.Refusal.{Refusal}
pub use Rattle.rank_check.specs.declared.verdict.Why.{Why}
pub use Rattle.rank_check.specs.declared.verdict.Why.TheVariants.{NoBound, NotACandidate, NotBelow, NotBest, NotCounted}
pub use Rattle.rank_check.specs.declared.verdict.Why.TheVariants.{OtherSeries}
pub use Rattle.rank_parts.specs.InPieces.{AcceptedInPieces, AreRightPieces, IsAbsent, IsAccepted, RightInPieces}
pub use Rattle.rank_parts.specs.InPieces.{own_series, rows_with, worst_of}
pub use Rattle.rank_parts.specs.Laws.{AllAccept, AreDataOf, FilesMakeTheWhole, PartVerdictStays, PartsMakeTheWhole}
pub use Rattle.rank_parts.specs.Parts.{first_refused, has_line, have_lines, is_own, part_judged, refusal_of, refused}
pub use Rattle.rank_parts.specs.Parts.{why_at, why_of_line}
pub use Rattle.rank_parts.specs.Seen.{AreSeen, IsSeen}
pub use Rattle.rank_parts.specs.declared.verdict.PartVerdict.TheVariants.{Accepted, Refused}
