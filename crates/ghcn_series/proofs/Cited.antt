-- The names that the proofs cite, passed on from one place.
pub use Rattle.std.proofs.Common.{Bool, Bor, Err, FitsSigned, IfSome, IsSome, List, None, Ok, Option, Result, SFits}
pub use Rattle.std.proofs.Common.{Some, [], add-zero, ap, append_assoc, ap₂, arith, below_more, cond, drop, false}
pub use Rattle.std.proofs.Common.{filter, get_or, inl, inr}
pub use Rattle.std.proofs.Common.{length, length-append, length-drop, length-take, map, min, not, of_z, pos, refl}
pub use Rattle.std.proofs.Common.{rules, subst, subst₂, suc, sym, take, to_z, true, w32, zero, zero-add, ℕ, ℤ, ◌%◌, ◌*◌}
pub use Rattle.std.proofs.Common.{◌++◌, ◌+ℤ◌, ◌+◌, ◌-◌, ◌/◌, ◌<ℤ◌, ◌<◌, ◌^◌, ◌∙◌, ◌∷◌, ◌≡◌, ◌≢◌, ◌≤ℤ◌, ◌≤◌, ◌⊎◌}
pub use Rattle.std.proofs.Math.Bool.{and-false, and-true, or-false}
pub use Rattle.std.proofs.Math.ListN.{set}
pub use Rattle.std.proofs.Math.Nat.{pow-succ'}
pub use Rattle.std.proofs.Math.Path.{fun_ext}
pub use Rattle.std.proofs.lemmas.Bool.{OnTrue_at, OnTrue_from, agree_below_at, and_from, and_left, and_parts, and_right}
pub use Rattle.std.proofs.lemmas.Bool.{both_ways, cases_Bool, cases_eq, cases_lt, cond_both, eq-eqb, eqb-false}
pub use Rattle.std.proofs.lemmas.Bool.{eqb-true, false≢true, le-leb, le-ltb, lt-ltb, ltb-true, ne_eqb, not-false}
pub use Rattle.std.proofs.lemmas.Bool.{not-true, or_cases, or_left, or_parts, or_right}
pub use Rattle.std.proofs.lemmas.Bool.Decides.{Decides-int_eq, nat_tests}
pub use Rattle.std.proofs.lemmas.Cmp.{int_cmp_total, int_eq_equiv, int_ranked, nat_eq_equiv, nat_list_eq_equiv}
pub use Rattle.std.proofs.lemmas.Grind.{common_steps, flat_map-append}
pub use Rattle.std.proofs.lemmas.Int.{by_lt_z, ints, to_z-of_z}
pub use Rattle.std.proofs.lemmas.List.{append-nil, drop_all, get_or-append_right, get_or-drop, get_or-map}
pub use Rattle.std.proofs.lemmas.List.{get_or-set_other, get_or-set_same, get_or-take, get_or_append_left}
pub use Rattle.std.proofs.lemmas.List.{get_or_default, get_or_push, length-map, length-replicate, length-set}
pub use Rattle.std.proofs.lemmas.List.{length-take-le, length_push, map-append, map-set, nil_from_length}
pub use Rattle.std.proofs.lemmas.List.{take-append-drop, take_all, take_more}
pub use Rattle.std.proofs.lemmas.List.Elements.{filter-append, filter_map-append}
pub use Rattle.std.proofs.lemmas.List.Folds.{find-append, flat_map-map, list_all-append, list_any-append}
pub use Rattle.std.proofs.lemmas.List.Sorted.{All-permutation, Contains-permutation, IsPermutation-sym}
pub use Rattle.std.proofs.lemmas.List.Sums.{sum_by-append, sum_by-cons, sum_by_push}
pub use Rattle.std.proofs.lemmas.Nat.Bits.{bit_at-lt, bit_at-suc, bit_at-trailing_zeros, bit_at-zero, bit_at_above}
pub use Rattle.std.proofs.lemmas.Nat.Bits.{bit_at_and, bit_at_lowest, bit_at_not, bit_at_ones, bit_at_or, shr_and_one}
pub use Rattle.std.proofs.lemmas.Option.{cond_some, get_or_from_slice_get, none-some, same_Some, slice_get-get_or}
pub use Rattle.std.proofs.lemmas.Option.{slice_get-map, slice_get_past, slice_get_within}
pub use Rattle.std.proofs.lemmas.Result.{IfErr-weaker, IfOk-weaker, err_from_is_err_and, on_ok_weaker}
pub use Rattle.std.proofs.lemmas.Simd.{map-map}
pub use Rattle.std.proofs.lemmas.Slice.Zip.{AllZip-long, length-zip}
pub use Rattle.std.specs.Char.{is_ascii_uppercase}
pub use Rattle.std.specs.Cmp.{IsTotalOrder}
pub use Rattle.std.specs.Int.{bit_at, trailing_zeros}
unfoldable pub use Rattle.std.specs.Int.RustNames.{count_ones}
pub use Rattle.std.specs.List.{AllByRecursion, AllZip, Contains, cons_option, count_by, enumerate_from}
unfoldable pub use Rattle.std.specs.List.{IsDistinct}
pub use Rattle.std.specs.List.{filter_map, find, flat_map, list_all, list_any, position_or_len, range_with_len}
pub use Rattle.std.specs.List.{slice_get, zip}
pub use Rattle.std.specs.List.Sorted.{IsPermutation}
unfoldable pub use Rattle.std.specs.List.Sorted.{IsStrictlySortedBy}
pub use Rattle.std.specs.Map.{keys_of, lookup}
pub use Rattle.std.specs.Option.{is_some, option_and_then, option_copied, option_map, option_or}
pub use Rattle.std.specs.Ordering.{int_cmp, int_eq, is_le, is_lt, nat_cmp}
pub use Rattle.std.specs.Prelude.{IfErr, OnOk, bit_and, bit_or, if◌then◌else◌, int_le, int_lt, is_none, nat_le, nat_lt}
pub use Rattle.std.specs.Prelude.{neg_ℤ, replicate, unsigned_abs, ◌&&◌, ◌==◌, ◌||◌, ◌↔◌}
pub use Rattle.std.specs.Result.{result_err}
pub use Rattle.std.specs.Str.Lines.{strip_carriage_return}
pub use Rattle.std.specs.Vec.Iter.{into_iter_items}
pub use Rattle.std.specs.declared.cmp.Ordering.{Ordering}
pub use Rattle.std.specs.declared.cmp.Ordering.TheVariants.{Equal, Less}
pub use Rattle.ghcn_fields.proofs.DayNumbers.{is_day-from_civil}
pub use Rattle.ghcn_fields.proofs.FieldNumbers.{scaled_field-number}
pub use Rattle.ghcn_fields.specs.Days.{IsBlock, block_of, day_number}
pub use Rattle.ghcn_fields.specs.Faults.{HaveNoFault, first_fault}
pub use Rattle.ghcn_fields.specs.Lines.{EndsLine, HasNoLineFeed}
pub use Rattle.ghcn_fields.specs.Meaning.Bytes.{is_blank, same_bytes}
pub use Rattle.ghcn_fields.specs.Meaning.Days.{is_day}
pub use Rattle.ghcn_fields.specs.Meaning.Lines.{columns, lines}
pub use Rattle.ghcn_fields.specs.Numbers.{int_field, is_bad}
pub use Rattle.ghcn_fields.specs.Refusals.{IsRefusal}
pub use Rattle.ghcn_fields.specs.Sorting.{sorted_by}
pub use Rattle.ghcn_fields.specs.declared.field.Field.{Field}
pub use Rattle.ghcn_fields.specs.declared.field.Field.TheVariants.{Number}
pub use Rattle.ghcn_files.proofs.FaultLaws.{no_fault-more}
pub use Rattle.ghcn_files.proofs.IdLaws.{no_place, same_id-is, same_id-turned}
pub use Rattle.ghcn_files.proofs.LineLaws.{enumerate_from-append, lines-append}
pub use Rattle.ghcn_files.proofs.Ordered.{each-mapped, sorted-permutation}
pub use Rattle.ghcn_files.specs.Elements.{element_index, element_of, everything, is_kept, same_element}
pub use Rattle.ghcn_files.specs.Ids.{is_id}
pub use Rattle.ghcn_files.specs.Listed.{AreListed, Numbered, is_repeated, listed, place_of, station_fault}
pub use Rattle.ghcn_files.specs.Listed.{station_lines, stations_of}
pub use Rattle.ghcn_files.specs.Meaning.Elements.{code_of, elements, may_be_negative}
pub use Rattle.ghcn_files.specs.Meaning.Ids.{same_id}
pub use Rattle.ghcn_files.specs.Meaning.Listed.{is_station_of}
pub use Rattle.ghcn_files.specs.Months.{IsMonth, month_if, month_of, month_why, read_month, reading}
unfoldable pub use Rattle.ghcn_files.specs.Months.{days_of_group}
pub use Rattle.ghcn_files.specs.Months.{unless}
pub use Rattle.ghcn_files.specs.Rows.{IsRowOf}
pub use Rattle.ghcn_files.specs.StationLines.{id_of, is_number_within, line_why, number_of, station_of, unless_missing}
pub use Rattle.ghcn_files.specs.declared.element.Element.{Element}
pub use Rattle.ghcn_files.specs.declared.element.Element.TheVariants.{Prcp, Snow, Snwd, Tmax, Tmin}
pub use Rattle.ghcn_files.specs.declared.element.Keep.{Keep}
pub use Rattle.ghcn_files.specs.declared.fault.LineWhy.{LineWhy}
pub use Rattle.ghcn_files.specs.declared.fault.LineWhy.TheVariants.{Short}
pub use Rattle.ghcn_files.specs.declared.month.Month.{Month}
pub use Rattle.ghcn_files.specs.declared.month.Reading.{Reading}
pub use Rattle.ghcn_files.specs.declared.row.MonthRow.{MonthRow}
pub use Rattle.ghcn_files.specs.declared.station.Station.{Station}
pub use Rattle.ghcn_files.specs.declared.station.StationId.{StationId}
pub use Rattle.ghcn_series.specs.Alike.{AreAlike, BeginAlike}
pub use Rattle.ghcn_series.specs.ByPlace.{ArePlaced, GatheredByPlace, by_place, numbered, place_numbered}
pub use Rattle.ghcn_series.specs.Counted.{CutsForeign, HaveCounted, JoinsCounts, JoinsForeign, JoinsOdd, placed_after}
pub use Rattle.ghcn_series.specs.Cut.{EndsFile, HasCounted, HasFed, HasFedSome, HasLineFault, HasReadFed, IsCutFile}
pub use Rattle.ghcn_series.specs.Cut.{LooksAtLines, lines_to}
pub use Rattle.ghcn_series.specs.DailyFaults.{FileLine, daily_fault, daily_lines, daily_why, file_line, file_lines}
pub use Rattle.ghcn_series.specs.DailyFaults.{is_listed, is_memory, month_if_ok, month_on, not_blank, repeats}
pub use Rattle.ghcn_series.specs.DailyFaults.{same_month}
pub use Rattle.ghcn_series.specs.Extremes.{AreExtremes, AreExtremesOf, AreHeldColumns, HasUsableAlone, HasZeros}
pub use Rattle.ghcn_series.specs.Extremes.{HaveDays, IsGreatest, IsHeldBlock, IsScoreAmong, IsUsableScore, StandsFor}
pub use Rattle.ghcn_series.specs.Fed.{Fed, Files, and_current, ended_files, files_of, followed_by, going_on, more}
pub use Rattle.ghcn_series.specs.Fed.{nothing_fed, with_end, with_files}
pub use Rattle.ghcn_series.specs.Gathered.{AreByElement, AreFiveOf, HasRead, HasReadFor, IsGathering, IsGatheringOf}
pub use Rattle.ghcn_series.specs.Gathered.{IsLineRefusal, IsReady, IsStationOf, counted_day, gathered_days}
pub use Rattle.ghcn_series.specs.Gathered.{gathered_series, has_month_of, kept_days, month_count, months_of, same_time}
pub use Rattle.ghcn_series.specs.Gathered.{series_by_place, station_series, usable_day, usable_days}
pub use Rattle.ghcn_series.specs.Held.{IsContents, all_of, is_of_element, same_series}
pub use Rattle.ghcn_series.specs.JoinedFiles.{HaveData, facts_in, files_together}
pub use Rattle.ghcn_series.specs.Kept.{kept}
pub use Rattle.ghcn_series.specs.LineKinds.{all_lines, cuts_foreign, foreign_of, foreign_places, has_element, is_code}
pub use Rattle.ghcn_series.specs.LineKinds.{is_foreign, is_odd, line_kind, may_follow, odd_among}
pub use Rattle.ghcn_series.specs.LinesRead.{HasReadSome, JoinsLines, ReadOneStation, line_texts}
pub use Rattle.ghcn_series.specs.Meaning.Said.{IsMadeOf, IsSaid, SaysStations, is_unlisted}
pub use Rattle.ghcn_series.specs.Meaning.Says.{Fact}
pub use Rattle.ghcn_series.specs.Meaning.Series.{DayValue, Series, value_on}
pub use Rattle.ghcn_series.specs.Packed.{AreBlocks, AreCalendarDays, AreColumns, AreInARow, AreRising, BeginsBy, Block}
pub use Rattle.ghcn_series.specs.Packed.{IsNextBlock, IsPacked, Rise, TakesToLastRun, block_days, block_start}
pub use Rattle.ghcn_series.specs.Packed.{blocks_of, day_at, days_of_blocks, if_so, next_block, run_count}
unfoldable pub use Rattle.ghcn_series.specs.Packed.{days_from}
pub use Rattle.ghcn_series.specs.Packed.{value_at}
pub use Rattle.ghcn_series.specs.Parts.{AreDisjoint, AreEmpty, AreJoined, AreNew, AreParts, IsNewPart, IsRow}
pub use Rattle.ghcn_series.specs.Parts.{IsValueFrom, JoinsAt, JoinsPart, JoinsValues, KeepsOrder, day_of, days_held}
pub use Rattle.ghcn_series.specs.Parts.{row_days}
pub use Rattle.ghcn_series.specs.SaidLists.{facts_said, month_said, months_said, stations_said, unlisted_said}
pub use Rattle.ghcn_series.specs.Says.{all_series, contents, contents_unless, data_of, days_of, fact_if, fact_of}
pub use Rattle.ghcn_series.specs.Says.{facts_of, in_64_bits, is_usable, usable_of}
pub use Rattle.ghcn_series.specs.SeenMonths.{NotesMonth, has_month}
pub use Rattle.ghcn_series.specs.Series.{Data, IsSeries, by_day, is_by_day, is_series_of, series_of}
pub use Rattle.ghcn_series.specs.Steps.{AddsAt, FiveGather, FiveOfNothing, Gathers, GathersNothing, IsRowFor}
pub use Rattle.ghcn_series.specs.Steps.{JoinStations, JoinsStation, KeepsStation, OneHasBoth, ReadsMonth, TurnsTo}
pub use Rattle.ghcn_series.specs.declared.counts.Foreign.{Foreign}
pub use Rattle.ghcn_series.specs.declared.counts.LineCounts.{LineCounts}
pub use Rattle.ghcn_series.specs.declared.counts.LineKind.TheVariants.{Blank, Odd, OfElement, Other}
pub use Rattle.ghcn_series.specs.declared.counts.LinePlace.{LinePlace}
pub use Rattle.ghcn_series.specs.declared.cutter.Cutter.{Cutter}
pub use Rattle.ghcn_series.specs.declared.extremes.Extremes.{Extremes}
pub use Rattle.ghcn_series.specs.declared.fault.DailyWhy.TheVariants.{DuplicateMonth, Line}
pub use Rattle.ghcn_series.specs.declared.fault.DataFault.{DataFault}
pub use Rattle.ghcn_series.specs.declared.fault.DataFault.TheVariants.{DailyLine, Memory, TooManyFiles}
pub use Rattle.ghcn_series.specs.declared.form.TheConstants.{BYTES}
pub use Rattle.ghcn_series.specs.declared.gathering.Gathering.{Gathering}
pub use Rattle.ghcn_series.specs.declared.reader.Reader.{Reader}
pub use Rattle.ghcn_series.specs.declared.station.StationGathering.{StationGathering}
pub use Rattle.jiff_core.proofs.CalendarLemmas.{days_in_month_bounds}
pub use Rattle.jiff_core.specs.Calendar.{days_in_month}
unfoldable pub use Rattle.jiff_core.specs.Calendar.{days_from_civil}
