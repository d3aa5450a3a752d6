-- The names that the proofs cite, passed on from one place.
pub use Rattle.std.proofs.Common.{All, Bool, Err, FitsSigned, IfErr, IfOk, IsOk, IsTrue, IsUtf8, List, MatchResult}
pub use Rattle.std.proofs.Common.{None, Ok, Option, Result, Some, [], ap, append-nil, append_assoc, arith, codes, cond}
pub use Rattle.std.proofs.Common.{decimal, drop, false, filter, find, get_or, inl, inr, int_le, is_some, length}
pub use Rattle.std.proofs.Common.{length-append, length-drop, map, min, nat_le, nat_lt, neg_ℤ, negsuc, not, of_z}
pub use Rattle.std.proofs.Common.{option_map, pos, position, refl, replicate, reverse, rules, subst, suc, sym, take}
pub use Rattle.std.proofs.Common.{to_z, to_z-of_z, true, unsigned_abs, unwrap_or, w32, zero, ℕ, ℤ, ◌%◌, ◌&&◌, ◌*◌, ◌++◌}
pub use Rattle.std.proofs.Common.{◌+ℤ◌, ◌+◌, ◌-ℤ◌, ◌-◌, ◌/◌, ◌<ℤ◌, ◌<◌, ◌==◌, ◌^◌, ◌∙◌, ◌∷◌, ◌≡◌, ◌≤ℤ◌, ◌≤◌, ◌⊎◌}
pub use Rattle.std.proofs.Output.{has_written_of_eq}
pub use Rattle.std.proofs.lemmas.Bool.{and_parts, cases_Bool, cases_lt, false_from_ne_true}
pub use Rattle.std.proofs.lemmas.Bool.Decides.{nat_tests}
pub use Rattle.std.proofs.lemmas.Fmt.{decimal_digit, decimal_is_IsNumeral, length-decimal-le}
pub use Rattle.std.proofs.lemmas.Grind.{common_steps, put_five}
pub use Rattle.std.proofs.lemmas.Int.{ints, to_z_pos}
pub use Rattle.std.proofs.lemmas.List.{drop_all, drop_more, length-map, length-reverse, map-append, reverse-reverse}
pub use Rattle.std.proofs.lemmas.List.{nil_from_length, take_all}
pub use Rattle.std.proofs.lemmas.List.Splits.{slice_split-cons_yes, slice_split_at, slice_split_first, slice_split_none}
pub use Rattle.std.proofs.lemmas.List.Sums.{AllPass-from_list_all, fails_before_first, passes_at_first}
pub use Rattle.std.proofs.lemmas.List.Sums.{position_or_len_is, prefix_len-le-length, split_at_first}
pub use Rattle.std.proofs.lemmas.Option.{cond_some}
pub use Rattle.std.specs.Char.{digit_value, is_ascii_digit}
pub use Rattle.std.specs.Cmp.Lexicographic.{bytes_decides}
pub use Rattle.std.specs.List.{AllByRecursion, AllZip, after_first, before_first, enumerate_from, join_with_byte}
pub use Rattle.std.specs.List.{list_all, onto_first, position_or_len, repeat, slice_split}
pub use Rattle.std.specs.Str.Parse.{AllDigits, digits_value}
pub use Rattle.ghcn_fields.specs.Dates.{read_date}
pub use Rattle.ghcn_fields.specs.Days.{day_number}
pub use Rattle.ghcn_fields.specs.Meaning.Bytes.{same_bytes}
pub use Rattle.ghcn_fields.specs.Meaning.Dates.{civil, date_text}
unfoldable pub use Rattle.ghcn_fields.specs.Meaning.Dates.{month_and_day, year_and_rest}
pub use Rattle.ghcn_fields.specs.Meaning.Days.{is_day, is_within}
pub use Rattle.ghcn_fields.specs.Meaning.Fields.{Spells, sign_text}
pub use Rattle.ghcn_fields.specs.Meaning.NumberTexts.{four_places, four_places_of, last_digits, tenths}
pub use Rattle.ghcn_fields.specs.Meaning.Numbers.{with_sign}
pub use Rattle.ghcn_fields.specs.Numbers.{after_blanks, decimal_number, joined, natural, scaled_field, signed_by}
pub use Rattle.ghcn_fields.specs.declared.field.Field.{Field}
pub use Rattle.ghcn_fields.specs.declared.field.Field.TheVariants.{Bad, Blank, Number}
pub use Rattle.ghcn_files.specs.Elements.{element_of}
pub use Rattle.ghcn_files.specs.Meaning.Elements.{code_of, elements, may_be_negative}
pub use Rattle.ghcn_files.specs.Meaning.Ids.{is_visible}
pub use Rattle.ghcn_files.specs.Meaning.StationLines.{is_printable}
pub use Rattle.ghcn_files.specs.StationLines.{is_number_within, number_of}
pub use Rattle.ghcn_files.specs.declared.element.Element.{Element}
pub use Rattle.ghcn_files.specs.declared.element.Element.TheVariants.{Prcp, Snow, Snwd, Tmax, Tmin}
pub use Rattle.jiff_core.specs.Calendar.{days_in_month}
unfoldable pub use Rattle.jiff_core.specs.Calendar.{day_count, days_from_civil, days_of_months, days_of_years}
pub use Rattle.memchr.specs.Find.{IsFirstByte, is_byte}
pub use Rattle.rank_query.specs.FaultKinds.{IsFaultAmong, edge, has_form, is_behind_box, is_behind_first_day}
pub use Rattle.rank_query.specs.FaultKinds.{is_date_word}
pub use Rattle.rank_query.specs.FaultKinds.{is_dates_word}
pub use Rattle.rank_query.specs.FaultKinds.{is_decimal, is_number, other, place_behind}
pub use Rattle.rank_query.specs.FaultPlaces.{BeginQuery, EndsTooEarly, IsFirstWrong, IsFirstWrongAt, SpellNone}
pub use Rattle.rank_query.specs.FaultPlaces.{StandsAmong, StandsIn}
pub use Rattle.rank_query.specs.Meaning.Asked.{Query, IsAsked, is_code, is_fall, is_heat, is_period, is_day_of_2000}
pub use Rattle.rank_query.specs.Meaning.Asked.{is_region, is_score, is_season}
pub use Rattle.rank_query.specs.Meaning.QueryTexts.{Count, Edge, Exactly, QueryWord, Tenths, TwoMonths, dates_text}
pub use Rattle.rank_query.specs.Meaning.QueryTexts.{per_words, period_words, query_text, query_words, region_words}
pub use Rattle.rank_query.specs.Meaning.QueryTexts.{score_words, season_words, word_text}
pub use Rattle.rank_query.specs.Meaning.Spelling.{IsNumeralOf, SpellsWord}
pub use Rattle.rank_query.specs.Meaning.Words.{words_of}
pub use Rattle.rank_query.specs.Readers.{Read, by_word, made_into, one_word, or_fault, ◌>>=◌}
unfoldable pub use Rattle.rank_query.specs.Readers.{keyword}
pub use Rattle.rank_query.specs.Reading.{all_year_at, always_at, between_at, cold_at, country_at, dates_at, dry_at}
pub use Rattle.rank_query.specs.Reading.{each_at}
pub use Rattle.rank_query.specs.Reading.{everywhere_at, highest_at, hot_at, latitude_from, longitude, lowest_at}
pub use Rattle.rank_query.specs.Reading.{months_at, nothing_more, state_at, station_at, wet_at}
unfoldable pub use Rattle.rank_query.specs.Reading.{box_at, days_at, no_score_at, per_at, period_at, read_query, read_words}
unfoldable pub use Rattle.rank_query.specs.Reading.{region_at, score_at, season_at, sum_at}
pub use Rattle.rank_query.specs.Spelling.{IsSpelling, SpellsQuery}
pub use Rattle.rank_query.specs.WordValues.{both, day_of_2000, group_of, is_month, is_point, natural_behind, tenths_in}
pub use Rattle.rank_query.specs.WordValues.{two_days, two_numbers}
unfoldable pub use Rattle.rank_query.specs.WordValues.{code, date, dates, degrees, element, group, heat, months, number}
pub use Rattle.rank_query.specs.Words.{Word, is_separator, numbered_words}
unfoldable pub use Rattle.rank_query.specs.Words.{says}
pub use Rattle.rank_query.specs.declared.fault.QueryFault.{QueryFault}
pub use Rattle.rank_query.specs.declared.fault.QueryFault.TheVariants.{BadBox, BadDate, EmptyPeriod, OutOfLimits}
pub use Rattle.rank_query.specs.declared.fault.QueryFault.TheVariants.{QueryEnds, QueryTooLong, UnexpectedWord}
pub use Rattle.rank_query.specs.declared.per.Per.{Per}
pub use Rattle.rank_query.specs.declared.per.Per.TheVariants.{Each, Station, Year}
pub use Rattle.rank_query.specs.declared.region.Region.{Region}
pub use Rattle.rank_query.specs.declared.region.Region.TheVariants.{Country, Everywhere, Inside, Only, State}
pub use Rattle.rank_query.specs.declared.score.Score.{Score}
pub use Rattle.rank_query.specs.declared.score.Score.TheVariants.{Cold, Dry, Highest, Hot, Lowest, Sum, Wet}
pub use Rattle.rank_query.specs.declared.season.Season.{Season}
pub use Rattle.rank_query.specs.declared.season.Season.TheVariants.{AllYear, Dates, Months}
