-- The right description of listed stations and daily files.
use Rattle.std.specs.Prelude.{◌≡◌, ℕ, ◌+◌, ◌<◌, ◌≤◌, ◌⊎◌, if◌then◌else◌, List, [], length, map, filter}
use Rattle.std.specs.Prelude.{Option, None, Some, ℤ, ◌≤ℤ◌}
use Rattle.std.specs.List.{filter_map, count_by, sum_by, All, AllPairs, AllZip, Contains}
use Rattle.std.specs.declared.cmp.Ordering.TheVariants.{Less}
use Rattle.std.specs.Ordering.{nat_cmp, is_lt}
use Rattle.std.specs.Cmp.Lexicographic.{slice_cmp}
use Rattle.ghcn_fields.specs.Meaning.Bytes.{same_bytes}
use Rattle.ghcn_files.specs.declared.element.Element.{Element}
use Rattle.ghcn_files.specs.declared.station.Station.{Station}
use Rattle.ghcn_files.specs.Flags.{flagged_values}
use Rattle.ghcn_files.specs.Meaning.Elements.{elements}
use Rattle.ghcn_files.specs.Elements.{same_element}
use Rattle.ghcn_series.specs.DailyFaults.{FileLine, daily_lines, month_on}
use Rattle.ghcn_series.specs.LineKinds.{all_lines, blank_lines, warnings_of}
use Rattle.ghcn_series.specs.Says.{usable_facts, all_series}
use Rattle.ghcn_description.specs.declared.counts.Description.{Description}
use Rattle.ghcn_description.specs.declared.counts.ElementCounts.{ElementCounts}
use Rattle.ghcn_description.specs.declared.counts.CodeCount.{CodeCount}
use Rattle.ghcn_description.specs.declared.counts.Span.{Span}
use Rattle.ghcn_description.specs.Lines.{is_listed_of, lines_of_element, unlisted_lines}
use Rattle.ghcn_description.specs.Lines.{lines_with, other_lines}

-- ---- an element

-- the series of an element
abbrev pub series_of_element : List Station → List FileLine → Element → ℕ
series_of_element stations ls e =
    count_by (λ s. same_element s.element e) (all_series stations (usable_facts stations ls))

-- the usable days of an element, of all listed stations
abbrev pub days_of_element : List Station → List FileLine → Element → List ℤ
days_of_element stations ls e =
    map (λ f. f.day) (filter (λ f. same_element f.element e) (usable_facts stations ls))

-- how many values of an element a quality check flagged, of all listed stations
abbrev pub flagged_of_element : List Station → List FileLine → Element → ℕ
flagged_of_element stations ls e = sum_by flagged_values (filter (is_listed_of stations e) (filter_map month_on ls))

-- the first and the last of some days, if there are any
abbrev pub IsSpan : List ℤ → Option Span → Type 0
IsSpan days None = days ≡ []
IsSpan days (Some span) =
    Contains days span.first × Contains days span.last × All (λ d. (span.first ≤ℤ d) × (d ≤ℤ span.last)) days

-- what lines say of an element is counted so, but for its series
pub record AreSums (stations : List Station) (ls : List FileLine) (c : ElementCounts) (e : Element) : Type 0 where
  pub element : c.element ≡ e
  pub lines : c.lines ≡ lines_of_element stations ls e
  pub days : c.days ≡ length (days_of_element stations ls e)
  pub flagged : c.flagged ≡ flagged_of_element stations ls e
  pub span : IsSpan (days_of_element stations ls e) c.span

-- its series are counted too
pub record AreCounts (stations : List Station) (ls : List FileLine) (c : ElementCounts) (e : Element) : Type 0 where
  pub sums : AreSums stations ls c e
  pub series : c.series ≡ series_of_element stations ls e

-- ---- other codes

-- how many codes are named
abbrev pub most_codes : ℕ
most_codes = 200

-- a code comes before another one by its bytes
abbrev pub Precedes : List ℕ → List ℕ → Type 0
Precedes a b = slice_cmp nat_cmp a b ≡ Less

-- each code comes before those after it
abbrev pub Rise : List CodeCount → Type 0
Rise counts = AllPairs (λ a b. Precedes a.code b.code) counts

-- how many of these codes come before one
abbrev pub codes_before : List CodeCount → List ℕ → ℕ
codes_before counts code = count_by (λ c. is_lt (slice_cmp nat_cmp c.code code)) counts

-- how many lines are counted for a code: none if it has no count
abbrev pub lines_for : List CodeCount → List ℕ → ℕ
lines_for counts code = sum_by (λ c. if same_bytes c.code code then c.lines else 0) counts

-- if each code has that many lines, and all codes together that many: the counts rise by their codes, and each has a
-- line; the lines of each code are counted, unless as many of these codes as are named come before it; and the lines
-- that aren't counted are further ones
pub record CountCodes (lines_of : List ℕ → ℕ) (all : ℕ) (counts : List CodeCount) (further : ℕ) : Type 0 where
  pub rising : Rise counts
  pub some : All (λ c. 0 < c.lines) counts
  pub each : (code : List ℕ) → (lines_for counts code ≡ lines_of code) ⊎ (most_codes ≤ codes_before counts code)
  pub total : sum_by (λ c. c.lines) counts + further ≡ all

-- so the smallest codes are counted, as many as are named
pub record CountSmallest (lines_of : List ℕ → ℕ) (all : ℕ) (counts : List CodeCount) (further : ℕ) : Type 0 where
  pub few : length counts ≤ most_codes
  pub codes : CountCodes lines_of all counts further

-- the smallest codes that aren't those of the five elements are counted so, and that many lines have further ones
abbrev pub AreOthers : List FileLine → List CodeCount → ℕ → Type 0
AreOthers ls counts further = CountSmallest (lines_with ls) (other_lines ls) counts further

-- ---- the files

-- these stations and files are described so
pub record IsDescription (stations : List Station) (files : List (List ℕ)) (d : Description) : Type 0 where
  pub listed : d.stations ≡ length stations
  pub given : d.files ≡ length files
  pub lines : d.lines ≡ length (all_lines files)
  pub counts : AllZip (AreCounts stations (daily_lines files)) d.elements elements
  pub others : AreOthers (daily_lines files) d.others.items d.further
  pub unlisted : d.unlisted ≡ unlisted_lines stations (daily_lines files)
  pub blank : d.blank ≡ blank_lines files
  pub warnings : d.warnings ≡ warnings_of files
