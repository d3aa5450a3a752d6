-- When lines and files are described so, and what each step of a describer adds.
use Rattle.std.specs.Prelude.{◌≡◌, ℕ, ◌^◌, ◌≤◌, Bool, false, ◌&&◌, List, [], ◌∷◌, ◌++◌, length, map}
use Rattle.std.specs.Bool.{OnTrue}
use Rattle.std.specs.List.{list_any, AllZip, slice_index_or, slice_set}
use Rattle.ghcn_fields.specs.Faults.{HaveNoFault}
use Rattle.ghcn_files.specs.declared.element.Element.{Element}
use Rattle.ghcn_files.specs.declared.element.Keep.{Keep}
use Rattle.ghcn_files.specs.Elements.{nothing, same_element, element_index}
use Rattle.ghcn_files.specs.declared.station.Station.{Station}
use Rattle.ghcn_files.specs.declared.station.StationId.{StationId}
use Rattle.ghcn_files.specs.declared.month.Month.{Month}
use Rattle.ghcn_files.specs.Meaning.Ids.{same_id}
use Rattle.ghcn_files.specs.Meaning.Elements.{elements}
use Rattle.ghcn_series.specs.declared.counts.LineCounts.{LineCounts}
use Rattle.ghcn_series.specs.declared.fault.DailyWhy.TheVariants.{DuplicateMonth}
use Rattle.ghcn_series.specs.declared.fault.DataFault.TheVariants.{DailyLine}
use Rattle.ghcn_series.specs.Alike.{AreAlike}
use Rattle.ghcn_series.specs.Counted.{HaveCounted}
use Rattle.ghcn_series.specs.DailyFaults.{FileLine, daily_fault, daily_lines}
use Rattle.ghcn_series.specs.Gathered.{HasReadFor, IsLineRefusal}
use Rattle.ghcn_series.specs.LinesRead.{Making}
use Rattle.ghcn_series.specs.Meaning.Says.{Fact}
use Rattle.ghcn_series.specs.Says.{usable_facts}
use Rattle.ghcn_description.specs.declared.counts.Description.{Description}
use Rattle.ghcn_description.specs.declared.counts.ElementCounts.{ElementCounts}
use Rattle.ghcn_description.specs.declared.describer.Describer.{Describer}
use Rattle.ghcn_description.specs.declared.describer.RowDescriber.{RowDescriber}
use Rattle.ghcn_description.specs.Described.{AreOthers, AreSums, IsDescription}
use Rattle.ghcn_description.specs.Lines.{unlisted_lines}
use Rattle.ghcn_description.specs.Steps.{CountsMonth, with_mark}

-- ---- lines

-- some fact is about this station and element
abbrev pub has_fact : List Fact → StationId → Element → Bool
has_fact facts id e = list_any (λ f. same_id f.id id && same_element f.element e) facts

-- of which elements a station has a fact
abbrev pub elements_with : List Fact → Station → List Bool
elements_with facts s = map (has_fact facts s.id) elements

-- a describer has read these lines for these stations, and counted what is on them
pub record HasDescribed (d : Describer) (stations : List Station) (keep : Keep) (ls : List FileLine) : Type 0 where
  pub read : HasReadFor d.reader stations nothing ls
  pub counts : AllZip (AreSums stations ls) d.elements elements
  pub with_days : d.with_days.items ≡ map (elements_with (usable_facts stations ls)) stations
  pub others : AreOthers ls d.others.counts.items d.others.further
  pub unlisted : d.unlisted ≡ unlisted_lines stations ls

-- a describer of rows has read these lines so
abbrev pub HasDescribedByRows : RowDescriber → List Station → Keep → List FileLine → Type 0
HasDescribedByRows r stations keep ls = HasDescribed r.describer stations keep ls

-- a describer counts a month of the station at this place of the list
pub record CountsAt (old new : Describer) (place : ℕ) (m : Month) : Type 0 where
  pub reader : new.reader ≡ old.reader
  pub others : new.others ≡ old.others
  pub unlisted : new.unlisted ≡ old.unlisted
  pub with_days : new.with_days.items
      ≡ slice_set old.with_days.items place (with_mark (slice_index_or old.with_days.items place []) m)
  pub before : ElementCounts
  pub after : ElementCounts
  pub there : before ≡ slice_index_or old.elements (element_index m.element) before
  pub elements : new.elements ≡ slice_set old.elements (element_index m.element) after
  pub counted : CountsMonth before after m

-- a describer adds the month of a line, or of one that is like it, unless its station is listed and has that month
pub record AddsMonth (old new : Describer) (line : List ℕ) (added : Bool) : Type 0 where
  pub read : (stations : List Station) (keep : Keep) (before : List FileLine) (l : FileLine) → AreAlike l.bytes line
      → HasDescribed old stations keep before → OnTrue added (HasDescribed new stations keep (before ++ l ∷ []))
  pub refused : (stations : List Station) (keep : Keep) (before : List FileLine) (l : FileLine) → AreAlike l.bytes line
      → HasDescribed old stations keep before → added ≡ false
      → IsLineRefusal stations (before ++ l ∷ []) (DailyLine l.file l.line DuplicateMonth)

-- this is the description of the files that a describer has read
pub record Finishes (d : Describer) (number : ℕ) (counts : LineCounts) (made : Description) : Type 0 where
  pub is : (stations : List Station) (keep : Keep) (files : List (List ℕ))
      → HasDescribed d stations keep (daily_lines files) → number ≡ length files → HaveCounted counts files []
      → IsDescription stations files made

-- ---- files

-- these files, which are few enough and have no line with an error, are described so
pub record Describes (stations : List Station) (files : List (List ℕ)) (d : Description) : Type 0 where
  pub few : length files ≤ 2 ^ 20
  pub right : HaveNoFault (daily_fault stations) (daily_lines files)
  pub is : IsDescription stations files d

-- a description is made of files, whatever values are kept
abbrev pub MakesDescription : Making Description
MakesDescription stations keep files d = Describes stations files d
