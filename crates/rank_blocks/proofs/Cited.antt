-- The names that the proofs cite, passed on from one place.
pub use Rattle.std.proofs.Common.{All, Bool, Contains, IfSome, Less, List, None, Option, SFits, Some, [], ap}
pub use Rattle.std.proofs.Common.{append-nil, ap₂, arith, below_more, bit_and, bit_or, codes, cond, drop, false, filter}
pub use Rattle.std.proofs.Common.{filter_map, flat_map, fold, get_or, inl, inr, int_cmp, int_eq, int_le, length, map}
pub use Rattle.std.proofs.Common.{max, min, neg_ℤ, negsuc, not, of_z, option_map, pos, refl, rules, set, subst, suc}
pub use Rattle.std.proofs.Common.{sym, take, to_z, true, unwrap_or, w32, w64, zero, ℕ, ℤ, ◌%◌, ◌&&◌, ◌*ℤ◌, ◌*◌, ◌++◌}
pub use Rattle.std.proofs.Common.{◌+ℤ◌, ◌+◌, ◌-ℤ◌, ◌-◌, ◌/◌, ◌<ℤ◌, ◌<◌, ◌==◌, ◌^◌, ◌∙◌, ◌∷◌, ◌≡◌, ◌≢◌, ◌≤ℤ◌, ◌≤◌, ◌⊎◌}
pub use Rattle.std.proofs.Math.Nat.{le-max_left, le-max_right, max-eq_left, max-eq_right, pow-succ'}
pub use Rattle.std.proofs.lemmas.Bool.{and_from, and_parts, both_ways, cases_Bool, cases_lt, cond_both}
pub use Rattle.std.proofs.lemmas.Bool.{false_from_ne_true}
pub use Rattle.std.proofs.lemmas.Bool.Decides.{Decides-int_eq}
pub use Rattle.std.proofs.lemmas.Int.{by_lt_z, clamps, fold-int_max_bounds, fold-int_max_reached, ints, to_z-of_z}
pub use Rattle.std.proofs.lemmas.List.{drop_all, drop_more, get_or-set_other, length-drop, length-set, map-append}
pub use Rattle.std.proofs.lemmas.List.{take_all}
pub use Rattle.std.proofs.lemmas.List.Elements.{All-contains, All-contains_itself, All-from_get_or, All-from_recursion}
pub use Rattle.std.proofs.lemmas.List.Elements.{All-get_or, All-more, All-weaker, Contains-append_left}
pub use Rattle.std.proofs.lemmas.List.Elements.{Contains-append_right, Contains-get_or, Contains-push, filter_more}
pub use Rattle.std.proofs.lemmas.List.Elements.{recursion_from_All}
pub use Rattle.std.proofs.lemmas.Nat.Bits.{bit_at-lt, bit_at-trailing_ones, bit_at-trailing_zeros, bit_at-zero}
pub use Rattle.std.proofs.lemmas.Nat.Bits.{bit_at_above, bit_at_and, bit_at_cat_high, bit_at_cat_low, bit_at_not}
pub use Rattle.std.proofs.lemmas.Nat.Bits.{bit_at_ones, bit_at_or, bit_at_set_other, bit_at_set_same, shr_and_one}
pub use Rattle.std.specs.Int.{bit_at, bit_not, from_bool, int_max, int_min, leading_ones, trailing_ones, trailing_zeros}
pub use Rattle.std.specs.List.{AllByRecursion, list_any, range_with_len}
unfoldable pub use Rattle.std.specs.List.Sorted.{IsStrictlySortedBy}
pub use Rattle.std.specs.Option.{option_map_or}
pub use Rattle.ghcn_fields.specs.Meaning.Days.{first_day, is_day, last_day}
pub use Rattle.ghcn_fields.specs.Days.{IsBlock, block_of}
pub use Rattle.ghcn_fields.specs.Sorting.{greatest}
pub use Rattle.ghcn_files.specs.declared.element.Element.{Element}
pub use Rattle.ghcn_series.proofs.ListFacts.{each-append}
pub use Rattle.ghcn_series.proofs.Lookups.{block-holds, block-of_place, int_eq-no, int_eq-yes}
pub use Rattle.ghcn_series.specs.Extremes.{HasZeros, IsUsableScore}
pub use Rattle.ghcn_series.specs.Meaning.Series.{DayValue, Series, value_on}
pub use Rattle.ghcn_series.specs.Packed.{AreRising, HasNone, IsBlockOf, block_days, day_from, next_block}
unfoldable pub use Rattle.ghcn_series.specs.Packed.{days_from}
pub use Rattle.ghcn_series.specs.Series.{IsSeries, is_value}
pub use Rattle.rank_query.specs.Meaning.Admits.{admits_day}
pub use Rattle.rank_query.specs.Meaning.Asked.{Query, IsAsked, score_element}
pub use Rattle.rank_query.specs.declared.score.Score.{Score}
pub use Rattle.rank_query.specs.declared.score.Score.TheVariants.{Cold, Dry, Highest, Hot, Lowest, Sum, Wet}
pub use Rattle.rank_scores.proofs.Rising.{admitted-rise, from_both, from_each, rise-filter, rise-from_by_day, values_stand}
pub use Rattle.rank_scores.proofs.Runs.{counted}
pub use Rattle.rank_scores.proofs.Totals.{total-days}
pub use Rattle.rank_scores.specs.Candidates.{begun, candidate, contenders_among, test_of, window_total}
pub use Rattle.rank_scores.specs.Meaning.Candidates.{Days, Spells, Windows, admitted, is_such, shape, sum_of_values}
pub use Rattle.rank_scores.specs.Morsels.{IsAskedOf}
pub use Rattle.rank_scores.specs.Runs.{calendar_len, longest_run, run_len}
unfoldable pub use Rattle.rank_scores.specs.Runs.{run_from}
pub use Rattle.rank_scores.specs.declared.spell.Spell.{Spell}
pub use Rattle.rank_blocks.specs.Blocks.{block_start, blocks_total, days_in, days_reached, is_among_blocks, is_reached, total}
pub use Rattle.rank_blocks.specs.Bounds.{blocks_bound, blocks_of_window, bound, bound_for, first_blocks}
pub use Rattle.rank_blocks.specs.Bounds.{greatest_by, greatest_total, holds_such, spell_bound}
pub use Rattle.rank_blocks.specs.DayRuns.{AllFrom, AllPass, AreBitsOf, AreRuns, ComeFirst, ComeLast, Continues}
pub use Rattle.rank_blocks.specs.DayRuns.{FollowAtMost, IsLongest, NoneBetween, has_bit, runs_before}
pub use Rattle.rank_blocks.specs.Greatest.{IsBlocksBound, IsBlocksTotal, IsBound, IsBoundFor, IsGreatest, IsRunLength}
pub use Rattle.rank_blocks.specs.Greatest.{IsDayScore, IsSumBound}
pub use Rattle.rank_blocks.specs.Reached.{IsNear, IsRangeOf, IsTotalFrom, counts, days_in_range, in_range, summaries_in}
pub use Rattle.rank_blocks.specs.Reached.{summaries_total}
pub use Rattle.rank_blocks.specs.Summaries.{AreOfBlocks, ArePossible, AreSummaries, AreSummariesTo, AreSummariesUpTo}
pub use Rattle.rank_blocks.specs.Summaries.{HasDay, HasDays, HasSum, IsPossible, IsSummary, numbers_left}
pub use Rattle.rank_blocks.specs.Values.{IsPlacesOf, IsWordOf}
pub use Rattle.rank_blocks.specs.declared.range.BlockRange.{BlockRange}
pub use Rattle.rank_blocks.specs.declared.runs.Runs.{Runs}
pub use Rattle.rank_blocks.specs.declared.summary.Summary.{Summary}
