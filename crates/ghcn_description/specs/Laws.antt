-- What the numbers of a description are to each other.
use Rattle.std.specs.Prelude.{◌≡◌, ℕ, ◌+◌, List, length}
use Rattle.std.specs.List.{sum_by}
use Rattle.ghcn_fields.specs.Faults.{HaveNoFault}
use Rattle.ghcn_files.specs.declared.station.Station.{Station}
use Rattle.ghcn_files.specs.Meaning.Elements.{elements}
use Rattle.ghcn_series.specs.DailyFaults.{daily_lines, daily_fault}
use Rattle.ghcn_series.specs.LineKinds.{all_lines, blank_lines}
use Rattle.ghcn_description.specs.declared.counts.Description.{Description}
use Rattle.ghcn_description.specs.Describing.{Describes}
use Rattle.ghcn_description.specs.Lines.{lines_of_element, unlisted_lines, other_lines}

-- if no line has an error, the lines of the elements, of other codes, of unlisted stations and of blanks are all
-- lines
abbrev pub LinesAddUp : Type 0
LinesAddUp = (stations : List Station) (files : List (List ℕ))
    → HaveNoFault (daily_fault stations) (daily_lines files)
    → sum_by (lines_of_element stations (daily_lines files)) elements + other_lines (daily_lines files)
    + unlisted_lines stations (daily_lines files) + blank_lines files ≡ length (all_lines files)

-- in a description the numbers of lines of the elements, of other codes, of further ones, of unlisted stations and of
-- blanks add up to that of all lines
abbrev pub DescriptionsAddUp : Type 0
DescriptionsAddUp = (stations : List Station) (files : List (List ℕ)) (d : Description) → Describes stations files d
    → sum_by (λ c. c.lines) d.elements + sum_by (λ c. c.lines) d.others.items + d.further + d.unlisted + d.blank
    ≡ d.lines
