-- Worked tables, by computation.
use Rattle.std.proofs.Common.{◌≡◌, ℕ, List, [], ◌∷◌, ◌++◌, refl, Ok, Err, None}
use Rattle.std.specs.Prelude.{codes, pos, neg_ℤ}
use Rattle.std.specs.Fmt.{digits}
use Rattle.jiff_core.specs.Calendar.{days_from_civil, day_count, days_of_years, days_of_months}
use Rattle.ghcn_fields.specs.Meaning.Dates.{year_and_rest, month_and_day}
use Rattle.ghcn_files.specs.declared.element.Element.TheVariants.{Tmax}
use Rattle.rank_query.specs.declared.score.Score.TheVariants.{Highest}
use Rattle.rank_query.specs.Asked.{top}
use Rattle.rank_query.specs.Words.{says}
use Rattle.rank_query.specs.Readers.{keyword}
use Rattle.rank_query.specs.WordValues.{number, element}
use Rattle.rank_query.specs.Reading.{no_score_at, score_at, region_at, season_at, period_at, per_at, read_words, read_query}
use Rattle.rank_papers.specs.ReportLines.{Reported}
use Rattle.csv.specs.Writing.{escaped, fields_text, is_blank}
use Rattle.rank_table.specs.declared.fault.TableFault.TheVariants.{BadReport}
use Rattle.rank_table.specs.Reading.{cut_lines, read_reports, reports_from, reports_of_lines}
use Rattle.rank_table.specs.Tables.{header, place_fields, row_names, table_text}

-- ---- where reports end

-- lines are cut after each that begins so
two_reports : cut_lines (codes "a" ∷ codes "end 1\n" ∷ codes "b" ∷ codes "ended\n" ∷ codes "end 0 all\n" ∷ [])
    ≡ (codes "a" ∷ codes "end 1\n" ∷ []) ∷ (codes "b" ∷ codes "ended\n" ∷ codes "end 0 all\n" ∷ []) ∷ []
two_reports = refl

-- and those after the last such line are a report too
a_report_cut_short : cut_lines (codes "end 1\n" ∷ codes "b" ∷ []) ≡ (codes "end 1\n" ∷ []) ∷ (codes "b" ∷ []) ∷ []
a_report_cut_short = refl

-- no lines are one report
no_lines : reports_of_lines [] ≡ [] ∷ []
no_lines = refl

-- an empty text goes wrong at its first line
empty_text : read_reports [] ≡ Err 1
empty_text = refl

-- so does another text
other_text : reports_from 1 (codes "extremes certificate 2\n" ∷ []) ≡ Err (BadReport 1 1)
other_text = refl

-- lines, each with a line feed
abbrev text : List (List ℕ) → List ℕ
text [] = []
text (l ∷ ls) = l ++ 10 ∷ text ls

-- a report without rows
abbrev no_record : List ℕ
no_record = text (codes "extremes report 1" ∷ codes "query top 1 highest TMAX" ∷ codes "end 0 all" ∷ [])

-- what it says
abbrev nothing : Reported
nothing = record { query = top 1 (Highest Tmax); rows = [] }

-- two of them are read, one after the other
two_are_read : read_reports (no_record ++ no_record) ≡ Ok (nothing ∷ nothing ∷ [])
unfolding digits year_and_rest month_and_day read_query read_words keyword says number element score_at no_score_at
    region_at season_at period_at per_at days_from_civil day_count days_of_years days_of_months
two_are_read = refl

-- a second one that is cut short goes wrong after its last line, and one after a blank line at this line
second_is_bad : (read_reports (no_record ++ text (codes "extremes report 1" ∷ [])) ≡ Err 5)
    × (read_reports (no_record ++ 10 ∷ no_record) ≡ Err 4)
unfolding digits year_and_rest month_and_day read_query read_words keyword says number element score_at no_score_at
    region_at season_at period_at per_at days_from_civil day_count days_of_years days_of_months
second_is_bad = (refl, refl)

-- the second file is the first bad one
second_file_is_bad : reports_from 1 (no_record ∷ [] ∷ codes "x" ∷ []) ≡ Err (BadReport 2 1)
unfolding digits year_and_rest month_and_day read_query read_words keyword says number element score_at no_score_at
    region_at season_at period_at per_at days_from_civil day_count days_of_years days_of_months
second_file_is_bad = refl

-- ---- records

-- a table without rows is its header
no_rows : table_text (row_names ∷ []) ≡ codes "query,rank,id,first,last,value,unit,name\n"
unfolding fields_text is_blank
no_rows = refl

-- a field with a quote or a comma is in quotes, and each quote in it is doubled
quotes : table_text ((codes "a" ∷ codes "\"b\", c" ∷ [] ∷ []) ∷ []) ≡ codes "a,\"\"\"b\"\", c\",\n"
unfolding fields_text is_blank escaped
quotes = refl

-- the place of a station that has no elevation
unknown_elevation : place_fields (record {
  id = record { 0 = codes "ZZA00000001" };
  latitude = neg_ℤ (pos 50);
  longitude = pos 1234567;
  elevation = None;
  state = codes "  ";
  name = [];
}) ≡ codes "-0.0050" ∷ codes "123.4567" ∷ [] ∷ []
unfolding digits
unknown_elevation = refl
