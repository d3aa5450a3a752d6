-- What each step of the counting adds to what was counted before it.
use Rattle.std.specs.Prelude.{◌≡◌, ℕ, ◌+◌, ◌≤◌, ◌<◌, false, Bool, not, ◌||◌, ◌==◌, if◌then◌else◌, List, [], ◌∷◌, ◌++◌}
use Rattle.std.specs.Prelude.{length, map, ℤ, None}
use Rattle.std.specs.List.{count_by, slice_index_or, slice_set}
use Rattle.std.specs.List.Sorted.{IsPartitionPoint}
use Rattle.std.specs.declared.cmp.Ordering.TheVariants.{Less, Greater}
use Rattle.std.specs.Ordering.{nat_cmp}
use Rattle.std.specs.Cmp.Lexicographic.{slice_cmp}
use Rattle.ghcn_fields.specs.Meaning.Bytes.{same_bytes}
use Rattle.ghcn_files.specs.declared.element.Element.{Element}
use Rattle.ghcn_files.specs.declared.month.Month.{Month}
use Rattle.ghcn_files.specs.Elements.{element_index}
use Rattle.ghcn_files.specs.Flags.{flagged_values}
use Rattle.ghcn_series.specs.Gathered.{usable_days}
use Rattle.ghcn_description.specs.declared.counts.CodeCount.{CodeCount}
use Rattle.ghcn_description.specs.declared.counts.ElementCounts.{ElementCounts}
use Rattle.ghcn_description.specs.declared.others.Others.{Others}
use Rattle.ghcn_description.specs.Described.{CountSmallest, IsSpan, most_codes}

-- ---- other codes

-- what was counted of other codes is that of some lines
abbrev pub HasCountedSome : Others → Type 0
HasCountedSome o = (lines_of : List ℕ → ℕ) × (all : ℕ) × CountSmallest lines_of all o.counts.items o.further

-- that many lines of this code are counted
pub record CountsCode (old new : Others) (code : List ℕ) (lines : ℕ) : Type 0 where
  pub holds : (lines_of : List ℕ → ℕ) (all : ℕ) → CountSmallest lines_of all old.counts.items old.further
      → CountSmallest (λ c. lines_of c + (if same_bytes code c then lines else 0)) (all + lines) new.counts.items
      new.further

-- what was counted of other codes on more lines is added
pub record JoinsCodes (old next new : Others) : Type 0 where
  pub holds : (lines_of more_of : List ℕ → ℕ) (all more : ℕ)
      → CountSmallest lines_of all old.counts.items old.further
      → CountSmallest more_of more next.counts.items next.further
      → CountSmallest (λ c. lines_of c + more_of c) (all + more) new.counts.items new.further

-- a code that isn't among these belongs at this place
pub record IsPlaceOf (code : List ℕ) (counts : List CodeCount) (place : ℕ) : Type 0 where
  pub within : place ≤ length counts
  pub parts : IsPartitionPoint (λ c. slice_cmp nat_cmp c.code code ≡ Less)
      (λ c. slice_cmp nat_cmp c.code code ≡ Greater) counts place

-- the last code is removed
pub record LosesLast (old new : Others) : Type 0 where
  pub last : CodeCount
  pub counts : old.counts.items ≡ new.counts.items ++ last ∷ []
  pub further : new.further ≡ old.further + last.lines

-- the last code is removed, if more are named than may be
pub record KeepsMost (old new : Others) : Type 0 where
  pub few : length old.counts.items ≤ most_codes → new ≡ old
  pub many : most_codes < length old.counts.items → LosesLast old new

-- ---- an element

-- nothing of this element is counted
pub record IsEmpty (c : ElementCounts) (e : Element) : Type 0 where
  pub element : c.element ≡ e
  pub lines : c.lines ≡ 0
  pub series : c.series ≡ 0
  pub days : c.days ≡ 0
  pub flagged : c.flagged ≡ 0
  pub span : c.span ≡ None

-- the days of a month that are usable
abbrev pub days_of_month : Month → List ℤ
days_of_month m = map (λ x. x.0) (usable_days m)

-- some day of a month is usable
abbrev pub has_day : Month → Bool
has_day m = not (length (days_of_month m) == 0)

-- a station has a usable day of the element at this place
abbrev pub has_mark : ℕ → List Bool → Bool
has_mark at marks = slice_index_or marks at false

-- of which elements a station has a usable day, with those of a month too
abbrev pub with_mark : List Bool → Month → List Bool
with_mark marks m = slice_set marks (element_index m.element) (has_mark (element_index m.element) marks || has_day m)

-- that many lines more are counted, with these usable days and that many flagged values
pub record AddsLines (old new : ElementCounts) (number : ℕ) (more : List ℤ) (flags : ℕ) : Type 0 where
  pub element : new.element ≡ old.element
  pub lines : new.lines ≡ old.lines + number
  pub days : new.days ≡ old.days + length more
  pub flagged : new.flagged ≡ old.flagged + flags
  pub span : (days : List ℤ) → IsSpan days old.span → IsSpan (days ++ more) new.span

-- a month of a listed station is counted
abbrev pub CountsMonth : ElementCounts → ElementCounts → Month → Type 0
CountsMonth old new m = AddsLines old new 1 (days_of_month m) (flagged_values m)

-- ---- the five elements

-- what was counted of an element on more lines is added
pub record JoinsCounts (old next new : ElementCounts) : Type 0 where
  pub holds : (more : List ℤ) → next.days ≡ length more → IsSpan more next.span
      → AddsLines old new next.lines more next.flagged

-- what was counted of each element on more lines is added
pub record JoinElements (olds nexts news : List ElementCounts) : Type 0 where
  pub long : length news ≡ length olds
  pub each : (i : ℕ) (d : ElementCounts) → i < 5
      → JoinsCounts (slice_index_or olds i d) (slice_index_or nexts i d) (slice_index_or news i d)

-- the series of each element are those of the stations that are marked
pub record CountSeries (olds : List ElementCounts) (marks : List (List Bool)) (news : List ElementCounts) : Type 0 where
  pub long : length news ≡ length olds
  pub each : (i : ℕ) (d : ElementCounts) → i < 5
      → slice_index_or news i d ≡ record (slice_index_or olds i d) { series = count_by (has_mark i) marks }
