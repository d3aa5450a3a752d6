-- Worked examples of the definitions, by computation.
use Rattle.ghcn_series.proofs.Cited.{◌≡◌, ℕ, zero, suc, List, [], ◌∷◌, ◌++◌, refl, Some, None, Ok, Err, true, false}
use Rattle.ghcn_series.proofs.Cited.{arith, pos, neg_ℤ, map, take, replicate, ◌+◌, ◌-◌, ◌^◌, nat_le, count_by, flat_map}
use Rattle.ghcn_series.proofs.Cited.{enumerate_from, IsDistinct, ints, length-replicate, days_from_civil, block_of}
use Rattle.ghcn_series.proofs.Cited.{lines, Element, everything, Prcp, Snow, Tmax, Tmin, Station, station_of, listed}
use Rattle.ghcn_series.proofs.Cited.{days_of_group, Line, DuplicateMonth, DailyLine, TooManyFiles, DayValue, Series}
use Rattle.ghcn_series.proofs.Cited.{value_on, Data, series_of, file_line, file_lines, daily_lines, in_64_bits}
use Rattle.ghcn_series.proofs.Cited.{data_of, IsMadeOf, IsSaid, SaysStations, is_unlisted, facts_said, unlisted_said}
use Rattle.ghcn_series.proofs.Cited.{IsContents, kept, IsNextBlock, next_block, files_together, placed_after}
use Rattle.ghcn_series.proofs.Cited.{cuts_foreign, is_odd, foreign_of, odd_among, line_texts, Files, nothing_fed, more}
use Rattle.ghcn_series.proofs.Cited.{with_end, files_of, followed_by}
use Rattle.std.specs.Prelude.{codes}
use Rattle.std.specs.List.{repeat}
use Rattle.jiff_core.specs.Calendar.{day_count, days_of_years, days_of_months}
use Rattle.ghcn_files.specs.Elements.{nothing, with_one, only}
use Rattle.ghcn_files.specs.declared.fault.LineWhy.TheVariants as why
use Rattle.ghcn_series.proofs.Members.{of_each}
use Rattle.ghcn_series.proofs.RightData.{data-are-right}
use Rattle.ghcn_series.proofs.SaidSeries.{series_said}
use Rattle.ghcn_series.proofs.SaidStations.{stations-said}

-- ---- lines and stations

-- a station
abbrev alpha : Station
alpha = station_of (codes "ZZA00000001  10.0000   20.0000  100.0    ALPHA")

-- and another
abbrev bravo : Station
bravo = station_of (codes "ZZA00000002  11.0000   21.0000  100.0    BRAVO")

-- the list, with the second one first
abbrev both : List Station
both = bravo ∷ alpha ∷ []

-- lines, each with a line feed
abbrev text : List (List ℕ) → List ℕ
text [] = []
text (l ∷ ls) = l ++ 10 ∷ text ls

-- a missing day
abbrev gap : List ℕ
gap = codes "-9999   "

-- the line with this head and these groups, and missing days after them
abbrev line : List ℕ → List ℕ → List ℕ
line head groups = take 269 (head ++ groups ++ repeat 31 gap)

-- a line whose first day has 31.1
abbrev warm : List ℕ → List ℕ
warm head = line head (codes "  311   ")

-- the head of a line of maxima of one month of the first station
abbrev july : List ℕ
july = codes "ZZA00000001202007TMAX"

-- the series of a station and element with these days
abbrev series : Station → Element → List DayValue → Series
series s e days = record { id = s.id; element = e; days = days }

-- what files hold that have these series, and no line of an unlisted station
abbrev held : List Series → Data
held all = record { stations = both; series = all; unlisted = 0 }

-- ---- the lines of files

-- blank lines and files without a line count, but aren't lines to read; a return before a line feed is taken off
places : daily_lines ((10 ∷ codes "a" ++ 13 ∷ 10 ∷ 32 ∷ 13 ∷ 10 ∷ codes "b") ∷ [] ∷ codes "c" ∷ [])
    ≡ file_line 1 (2, codes "a") ∷ file_line 1 (4, codes "b") ∷ file_line 3 (1, codes "c") ∷ []
places = refl

-- ---- what files say

-- no files and no lines say nothing; of rain a flagged, a missing, a blank and a negative value don't count, and a
-- value of 0 does; of a temperature a negative value counts; 1900 had no February 29, and June has no day 31; the first
-- and the last day of all count
days_that_count : (data_of both [] ≡ Ok (held [])) × (data_of both ([] ∷ (10 ∷ 32 ∷ 10 ∷ []) ∷ []) ≡ Ok (held []))
    × (data_of both (line (codes "ZZA00000001202007PRCP")
    (codes "   -5   " ++ codes "    5   " ++ codes "  400 X " ++ gap ++ codes "        " ++ codes "    0   ") ∷ [])
    ≡ Ok (held (series alpha Prcp ((pos 18445, pos 5) ∷ (pos 18449, pos 0) ∷ []) ∷ [])))
    × (data_of both (line (codes "ZZA00000001202007TMIN") (codes "   -5   ") ∷ [])
    ≡ Ok (held (series alpha Tmin ((pos 18444, neg_ℤ (pos 5)) ∷ []) ∷ [])))
    × (data_of both (line (codes "ZZA00000001190002TMAX") (repeat 27 gap ++ codes "  100   " ++ codes "  500   ") ∷ [])
    ≡ Ok (held (series alpha Tmax ((neg_ℤ (pos 25509), pos 100) ∷ []) ∷ [])))
    × (data_of both (line (codes "ZZA00000001202006TMAX") (repeat 29 gap ++ codes "  300   " ++ codes "  400   ") ∷ [])
    ≡ Ok (held (series alpha Tmax ((pos 18443, pos 300) ∷ []) ∷ [])))
    × (data_of both (text (line (codes "ZZA00000001999912TMAX") (repeat 30 gap ++ codes "   90   ")
    ∷ line (codes "ZZA00000001000101TMAX") (codes "  100   ") ∷ []) ∷ [])
    ≡ Ok (held (series alpha Tmax ((neg_ℤ (pos 719_162), pos 100) ∷ (pos 2_932_896, pos 90) ∷ []) ∷ [])))
unfolding days_of_group days_from_civil day_count days_of_years days_of_months
days_that_count = (refl, refl, refl, refl, refl, refl, refl)

-- two files of which neither is in order
abbrev mixed : List (List ℕ)
mixed = text (line (codes "ZZA00000001202008TMIN") (codes "    3   ")
    ∷ line (codes "ZZA00000002202007TMAX") (codes "  311   ") ∷ [])
    ∷ text (line (codes "ZZA00000001202007TMIN") (codes "   -5   ") ∷ line july (gap ++ codes "  305   ")
    ∷ line (codes "ZZA00000001202007SNOW") gap ∷ []) ∷ []

-- series by station in the order of the list and then by element, days by day, and no series without a day
in_order : data_of both mixed ≡ Ok (held (series bravo Tmax ((pos 18444, pos 311) ∷ [])
    ∷ series alpha Tmax ((pos 18445, pos 305) ∷ [])
    ∷ series alpha Tmin ((pos 18444, neg_ℤ (pos 5)) ∷ (pos 18475, pos 3) ∷ []) ∷ []))
unfolding days_of_group days_from_civil day_count days_of_years days_of_months
in_order = refl

-- a line of a listed station and one of another
abbrev rainy : List (List ℕ)
rainy = text (line (codes "ZZA00000001202007PRCP") (codes "   -5   " ++ codes "    5   ")
    ∷ warm (codes "ZZA00000009202007TMAX") ∷ []) ∷ []

-- the facts that count of what they say, and how many lines belong to a station that isn't listed, also by columns: one
-- line names an element and no listed station; such lines are counted also for one month, and not of other elements
unlisted_lines : (facts_said both rainy ≡ record { id = alpha.id; element = Prcp; day = pos 18445; value = pos 5 } ∷ [])
    × (unlisted_said both rainy ≡ 1) × (count_by (is_unlisted both) (flat_map lines rainy) ≡ 1)
    × (data_of both (text (warm (codes "ZZA00000009202007TMAX") ∷ warm (codes "ZZA00000009202007TMAX")
    ∷ codes "ZZA00000009202007TAVG" ∷ warm july ∷ []) ∷ [])
    ≡ Ok (record { stations = both; series = series alpha Tmax ((pos 18444, pos 311) ∷ []) ∷ []; unlisted = 2 }))
unfolding days_of_group days_from_civil day_count days_of_years days_of_months
unlisted_lines = (refl, refl, refl, refl)

-- a list with a blank line, and with a line that ends after the longitude
abbrev short_list : List ℕ
short_list = text (codes "ZZA00000002  11.0000   21.0000  100.0    BRAVO" ∷ []
    ∷ codes "ZZA00000001  10.0000   20.0000" ∷ [])

-- its stations
abbrev two_stations : List Station
two_stations = bravo ∷ (record alpha { elevation = None; state = 32 ∷ 32 ∷ []; name = replicate 30 32 }) ∷ []

-- the list says these
says_stations : SaysStations short_list two_stations
says_stations = (stations-said short_list two_stations refl two_stations).1 refl

-- their number ends at the greatest one of 64 bits
many_lines : (in_64_bits 2 ≡ 2) × (in_64_bits (2 ^ 64 - 1) ≡ 2 ^ 64 - 1) × (in_64_bits (2 ^ 64) ≡ 2 ^ 64 - 1)
many_lines = (refl, refl, refl)

-- ---- the first error

-- a line cut to 265 columns: the third of the second file, after a blank one; the group of a day that the month lacks
-- is read for its form; of two errors of a line its own is reported, of two lines the first; lines of unlisted stations
-- have to be right; a month of a station and element twice: in one file, and in two, with its number written otherwise;
-- but not the same month of another element, station or year, and another month of the year
first_told : (data_of both (warm july
    ∷ (text (warm (codes "ZZA00000002202007TMAX") ∷ [] ∷ take 265 (warm (codes "ZZA00000001202008TMAX")) ∷ [])) ∷ [])
    ≡ Err (DailyLine 2 3 (Line why.Short)))
    × (data_of both (line (codes "ZZA00000001202006TMAX") (repeat 30 gap ++ codes "  4 0   ") ∷ [])
    ≡ Err (DailyLine 1 1 (Line (why.BadValue 31))))
    × (data_of both (text (warm july ∷ line july (codes "    x   ") ∷ []) ∷ [])
    ≡ Err (DailyLine 1 2 (Line (why.BadValue 1))))
    × (data_of both (text (warm july ∷ warm july ∷ codes "x" ∷ []) ∷ codes "x" ∷ [])
    ≡ Err (DailyLine 1 2 DuplicateMonth))
    × (data_of both (warm (codes "ZZA00000009202013TMAX") ∷ []) ≡ Err (DailyLine 1 1 (Line why.BadMonth)))
    × (data_of both (text (warm july ∷ warm july ∷ []) ∷ []) ≡ Err (DailyLine 1 2 DuplicateMonth))
    × (data_of both (warm july ∷ line (codes "ZZA000000012020 7TMAX") gap ∷ []) ≡ Err (DailyLine 2 1 DuplicateMonth))
    × (data_of both (text (line july gap ∷ line (codes "ZZA00000001202007TMIN") gap
    ∷ line (codes "ZZA00000002202007TMAX") gap ∷ line (codes "ZZA00000001202107TMAX") gap
    ∷ line (codes "ZZA00000001202008TMAX") gap ∷ []) ∷ []) ≡ Ok (held []))
unfolding days_of_group
first_told = (refl, refl, refl, refl, refl, refl, refl, refl)

-- files that hold nothing have no lines, from whichever number on they are counted
no_lines : (n from : ℕ) → flat_map file_lines (enumerate_from from (replicate n [])) ≡ []
no_lines zero from = refl
no_lines (suc n) from = no_lines n (from + 1)

-- so they are read as no series, if they are few enough
few_files : (n : ℕ) → nat_le n (2 ^ 20) ≡ true → data_of both (replicate n []) ≡ Ok (held [])
few_files n few = rw (length-replicate {A = List ℕ} n [], few, no_lines n 1) refl

-- and no files are read if they aren't
many_files : (n : ℕ) (file : List ℕ) → nat_le n (2 ^ 20) ≡ false → data_of both (replicate n file) ≡ Err TooManyFiles
many_files n file many = rw (length-replicate n file, many) refl

-- 2^20 files are few enough, and one more are not, whatever error they have
too_many : (data_of both (replicate (2 ^ 20) []) ≡ Ok (held []))
    × (data_of both (replicate (2 ^ 20 + 1) (codes "x")) ≡ Err TooManyFiles)
too_many = (few_files (2 ^ 20) refl, many_files (2 ^ 20 + 1) (codes "x") refl)

-- ---- what is kept

-- some data
abbrev some : Data
some = record (held (series bravo Tmax ((pos 18444, pos 311) ∷ []) ∷ series alpha Snow ((pos 18444, pos 5) ∷ [])
    ∷ series alpha Tmax ((pos 18444, pos 300) ∷ (pos 18446, pos 305) ∷ []) ∷ [])) { unlisted = 7 }

-- of one element its series, with all stations and the number of unlisted lines; of two those of both; of all their
-- series; of none none; the series of a station and element, if there is one, and the values of its days
of_some_elements : (kept (only Tmax) some ≡ record (held (series bravo Tmax ((pos 18444, pos 311) ∷ [])
    ∷ series alpha Tmax ((pos 18444, pos 300) ∷ (pos 18446, pos 305) ∷ []) ∷ [])) { unlisted = 7 })
    × (kept (only Tmin) some ≡ record some { series = [] }) × (kept (with_one (only Snow) Tmax) some ≡ some)
    × (kept everything some ≡ some) × (kept nothing some ≡ record some { series = [] })
    × (series_of some alpha.id Snow ≡ Some (series alpha Snow ((pos 18444, pos 5) ∷ [])))
    × (series_of some bravo.id Snow ≡ None)
    × (map (value_on ((pos 18444, pos 300) ∷ (pos 18446, pos 305) ∷ [])) (pos 18444 ∷ pos 18445 ∷ pos 18446 ∷ [])
    ≡ Some (pos 300) ∷ None ∷ Some (pos 305) ∷ [])
of_some_elements = (refl, refl, refl, refl, refl, refl, refl, refl)

-- ---- what is true of all data

-- the list as a text
abbrev list : List ℕ
list = text (codes "ZZA00000002  11.0000   21.0000  100.0    BRAVO" ∷ codes "   "
    ∷ codes "ZZA00000001  10.0000   20.0000  100.0    ALPHA" ∷ [])

-- so it is with what files hold that have no error; the series that is made of the facts of two lines has its days in
-- order
right_data : (listed list ≡ Ok both) × IsContents (held (series bravo Tmax ((pos 18444, pos 311) ∷ [])
    ∷ series alpha Tmax ((pos 18445, pos 305) ∷ [])
    ∷ series alpha Tmin ((pos 18444, neg_ℤ (pos 5)) ∷ (pos 18475, pos 3) ∷ []) ∷ []))
    × IsMadeOf (IsSaid mixed) (series alpha Tmin ((pos 18444, neg_ℤ (pos 5)) ∷ (pos 18475, pos 3) ∷ []))
right_data = let made = series alpha Tmin ((pos 18444, neg_ℤ (pos 5)) ∷ (pos 18475, pos 3) ∷ []) in
    (refl, data-are-right list both mixed _ refl in_order, (series_said both mixed _ in_order made refl).0 refl)

-- no data have two series of a station and element, one of an unlisted station, or one without a day, nor days that
-- don't rise, a value that rain can't have, or a station twice
not_data : (IsContents (held (series alpha Tmax ((pos 18444, pos 1) ∷ []) ∷ series alpha Tmax ((pos 18445, pos 1) ∷ [])
    ∷ [])) → ⊥)
    × (IsContents (record (held (series bravo Tmax ((pos 18444, pos 1) ∷ []) ∷ [])) { stations = alpha ∷ [] }) → ⊥)
    × (IsContents (held (series alpha Tmax [] ∷ [])) → ⊥)
    × (IsContents (held (series alpha Tmax ((pos 18445, pos 1) ∷ (pos 18445, pos 2) ∷ []) ∷ [])) → ⊥)
    × (IsContents (held (series alpha Prcp ((pos 18444, neg_ℤ (pos 1)) ∷ []) ∷ [])) → ⊥)
    × (IsContents (record (held []) { stations = alpha ∷ alpha ∷ [] }) → ⊥)
unfolding IsDistinct
not_data = (
  λ h. let e : true ≡ false = h.series.distinct.0.0 in absurd cc,
  λ h. let e : false ≡ true = h.series.listed.0 in absurd cc,
  λ h. absurd (omega (arith, h.series.right.0.nonempty)),
  λ h. let e : false ≡ true = h.series.right.0.by_day in absurd cc,
  λ h. let e : false ≡ true = h.series.right.0.values in absurd cc,
  λ h. let e : true ≡ false = h.listed.distinct.0.0 in absurd cc,
)

-- ---- the next block

-- a day of block 576, and one of block 578
abbrev two_days : List DayValue
two_days = (pos 18444, pos 311) ∷ (pos 18511, pos 300) ∷ []

-- the next block from each of these on, and after the last; a later block isn't the next one, nor one without a day,
-- and there is one if a day follows
next_blocks : (map (next_block two_days) (pos 0 ∷ pos 576 ∷ pos 577 ∷ pos 578 ∷ pos 579 ∷ [])
    ≡ Some (pos 576) ∷ Some (pos 576) ∷ Some (pos 578) ∷ Some (pos 578) ∷ None ∷ [])
    × (IsNextBlock two_days (pos 576) (Some (pos 578)) → ⊥)
    × (IsNextBlock two_days (pos 577) (Some (pos 577)) → ⊥) × (IsNextBlock two_days (pos 578) None → ⊥)
next_blocks = (
  refl,
  λ h. absurd (let e = h.least.0 (omega (arith, ints)) in omega (arith, ints, e)),
  λ h. of_each (λ x. block_of x.0 ≡ pos 577 → ⊥) two_days
      ((λ e. absurd (omega (arith, ints, e))), ((λ e. absurd (omega (arith, ints, e))), tt)) h.has.0 h.has.1 h.has.2,
  λ h. absurd (omega (arith, ints, h.1.0)),
)

-- ---- what was fed

-- nothing yet
abbrev begun : Files
begun = (nothing_fed (only Tmax) both).files

-- no file as long as no byte came and none was ended; one file by pieces; a file that was ended counts even if it is
-- empty, and what comes then belongs to the next one; of files that came after others the first goes on with the
-- current file, and those after it follow
pieces : (files_of begun ≡ []) × (files_of (more begun []) ≡ [])
    × (files_of (more (more begun (codes "ab")) (codes "c")) ≡ codes "abc" ∷ []) × (files_of (with_end begun) ≡ [] ∷ [])
    × (files_of (more (with_end (more begun (codes "ab"))) (codes "c")) ≡ codes "ab" ∷ codes "c" ∷ [])
    × (files_of (with_end (more (with_end (more begun (codes "ab"))) (codes "c"))) ≡ codes "ab" ∷ codes "c" ∷ [])
    × (files_of (with_end (with_end (more begun (codes "ab")))) ≡ codes "ab" ∷ [] ∷ [])
    × (files_of (followed_by begun begun) ≡ [])
    × (files_of (followed_by (with_end (more begun (codes "ab"))) (with_end begun)) ≡ codes "ab" ∷ [] ∷ [])
    × (followed_by (more begun (codes "ab")) (more begun (codes "c")) ≡ more begun (codes "abc"))
    × (files_of (followed_by (more begun (codes "ab")) (more (with_end (more begun (codes "c"))) (codes "d")))
    ≡ codes "abc" ∷ codes "d" ∷ [])
pieces = (refl, refl, refl, refl, refl, refl, refl, refl, refl, refl, refl)

-- lines of unlisted stations in two parts, and in both together
unlisted_in_parts :
    let other = text (warm (codes "ZZA00000009202007TMAX") ∷ warm (codes "ZZA00000008202007TMIN") ∷ []) ∷ [] in
    (map (unlisted_said both) (rainy ∷ other ∷ []) ≡ 1 ∷ 2 ∷ [])
    × (unlisted_said both (files_together (rainy ∷ other ∷ [])) ≡ 3)
unfolding days_of_group
unlisted_in_parts = (refl, refl)

-- ---- odd lines

-- a daily line of another code
abbrev other_code : List ℕ
other_code = line (codes "ZZA00000001202007WT01") []

-- it isn't odd, and blanks that follow its last column don't make it so; nor is a line of one of the five elements, or
-- a blank one; it is odd if a byte follows its last column, as the next file's first line does; a byte-order mark
-- moves a line, and no code is at its place then; a digit can't begin a code, nor can a small letter follow in one
odd : (map is_odd (other_code ∷ (other_code ++ codes "  ") ∷ warm july ∷ codes "   " ∷ [])
    ≡ false ∷ false ∷ false ∷ false ∷ [])
    × (map is_odd ((other_code ++ warm july) ∷ (239 ∷ 187 ∷ 191 ∷ warm july) ∷ codes "ZZA000000012020071MAX"
    ∷ codes "ZZA00000001202007WTa1" ∷ []) ≡ true ∷ true ∷ true ∷ true ∷ [])
odd = (refl, refl)

-- of two odd lines the first is named, by its file, from 0, and its line, from 1; the odd line of a file after two
-- others has a place that is two greater, and a later line if the file goes on after lines
odd_lines : (odd_among (daily_lines (text (codes "A" ∷ []) ∷ text (warm july ∷ codes "A" ∷ []) ∷ []))
    ≡ record { count = 2; first = Some (record { file = 0; line = 1 }) })
    × (odd_among (daily_lines (codes "x" ∷ [])) ≡ record { count = 1; first = Some (record { file = 0; line = 1 }) })
    × (odd_among (daily_lines ([] ∷ [] ∷ codes "x" ∷ []))
    ≡ record { count = 1; first = Some (placed_after 2 0 (record { file = 0; line = 1 })) })
    × (placed_after 2 7 (record { file = 0; line = 3 }) ≡ record { file = 2; line = 10 })
    × (placed_after 2 7 (record { file = 1; line = 3 }) ≡ record { file = 3; line = 3 })
odd_lines = (refl, refl, refl, refl, refl)

-- a file is cut at a part that is foreign by itself, unless only blank lines come before that part; a foreign file
-- after two others has a place that is two greater
cut_foreign : (cuts_foreign (codes "A") (codes "B" ∷ []) ≡ true) × (cuts_foreign [] (codes "B" ∷ []) ≡ false)
    × (cuts_foreign (text (warm july ∷ [])) (codes "B" ∷ []) ≡ true) × (cuts_foreign (text (warm july ∷ [])) [] ≡ false)
    × (foreign_of (codes "x" ∷ []) ≡ record { count = 1; first = Some 0 })
    × (foreign_of ([] ∷ [] ∷ codes "x" ∷ []) ≡ record { count = 1; first = Some (0 + 2) })
cut_foreign = (refl, refl, refl, refl, refl, refl)

-- lines with the same texts, whatever their numbers are
texts_alone : line_texts (daily_lines (codes "a" ∷ codes "b" ∷ []))
    ≡ line_texts (daily_lines (text (codes "a" ∷ [] ∷ codes "b" ∷ []) ∷ []))
texts_alone = refl
