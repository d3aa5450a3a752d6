-- What is counted on lines that are read one after another.
use Rattle.std.specs.Prelude.{◌≡◌, ℕ, ◌+◌, ◌==◌, nat_lt, Bool, false, ◌||◌, not, if◌then◌else◌}
use Rattle.std.specs.Prelude.{List, ◌++◌, length, Some}
use Rattle.std.specs.List.{list_any, count_by}
use Rattle.std.specs.Option.{option_or, option_map}
use Rattle.ghcn_fields.specs.Meaning.Bytes.{is_blank}
use Rattle.ghcn_fields.specs.Meaning.Lines.{lines}
use Rattle.ghcn_fields.specs.Lines.{EndsLine}
use Rattle.ghcn_series.specs.declared.counts.Foreign.{Foreign}
use Rattle.ghcn_series.specs.declared.counts.LinePlace.{LinePlace}
use Rattle.ghcn_series.specs.declared.counts.OddLines.{OddLines}
use Rattle.ghcn_series.specs.declared.counts.LineCounts.{LineCounts}
use Rattle.ghcn_series.specs.DailyFaults.{file_lines, daily_lines}
use Rattle.ghcn_series.specs.Fed.{Files, followed_by}
use Rattle.ghcn_series.specs.Says.{in_64_bits}
use Rattle.ghcn_series.specs.LineKinds.{all_lines, blank_lines, has_element, is_odd}
use Rattle.ghcn_series.specs.LineKinds.{cuts_foreign, foreign_of, odd_among}

-- these are the counts of the ended files and of these whole lines of the current one, which `lines` leaves out
pub record HaveCounted (c : LineCounts) (ended : List (List ℕ)) (whole : List ℕ) : Type 0 where
  pub number : c.lines ≡ length (all_lines ended)
  pub blank : c.blank ≡ blank_lines ended + count_by is_blank (lines whole)
  pub foreign : c.warnings.foreign ≡ foreign_of ended
  pub odd : c.warnings.odd ≡ odd_among (daily_lines ended ++ file_lines (length ended + 1, whole))
  pub has_line : c.has_line ≡ list_any (λ l. not (is_blank l)) (lines whole)
  pub has_element : c.has_element ≡ list_any has_element (lines whole)

-- one odd line more, at a place after the others
abbrev pub with_odd : OddLines → LinePlace → OddLines
with_odd odd place = record { count = odd.count + 1; first = option_or odd.first (Some place) }

-- a line of the current file, at a place, is counted
pub record CountsLine (old new : LineCounts) (place : LinePlace) (line : List ℕ) : Type 0 where
  pub number : new.lines ≡ old.lines
  pub blank : new.blank ≡ old.blank + (if is_blank line then 1 else 0)
  pub foreign : new.warnings.foreign ≡ old.warnings.foreign
  pub odd : new.warnings.odd ≡ (if is_odd line then with_odd old.warnings.odd place else old.warnings.odd)
  pub has_line : new.has_line ≡ (old.has_line || not (is_blank line))
  pub has_element : new.has_element ≡ (old.has_element || has_element line)

-- a foreign file is added, at a place after the others
pub record AddsForeign (old new : Foreign) (place : ℕ) : Type 0 where
  pub count : new.count ≡ in_64_bits (old.count + 1)
  pub first : new.first ≡ option_or old.first (Some place)

-- the foreign files of some files, and of others after that many files
pub record JoinsForeign (these others : Foreign) (place : ℕ) (both : Foreign) : Type 0 where
  pub count : both.count ≡ these.count + others.count
  pub first : both.first ≡ option_or these.first (option_map (λ n. n + place) others.first)

-- the place of a line in all files, if that many files were ended before its own files, and the first of these goes on
-- after that many lines
abbrev pub placed_after : ℕ → ℕ → LinePlace → LinePlace
placed_after files lines place = record {
  file = place.file + files;
  line = place.line + (if place.file == 0 then lines else 0);
}

-- the odd lines of some files, and of others after that many files and lines
pub record JoinsOdd (these others : OddLines) (files lines : ℕ) (both : OddLines) : Type 0 where
  pub count : both.count ≡ these.count + others.count
  pub first : both.first ≡ option_or these.first (option_map (placed_after files lines) others.first)

-- what was counted of two is what is counted of both together, if the first of the other files goes on after whole lines
-- of the current one, and it isn't cut at a foreign part
pub record JoinsCounts (these others both : LineCounts) (place line : ℕ) (ends : Bool) : Type 0 where
  pub holds : (files more : Files) → EndsLine files.current → cuts_foreign files.current more.ended ≡ false
      → place ≡ length files.ended → line ≡ length (lines files.current) → ends ≡ nat_lt 0 (length more.ended)
      → HaveCounted these files.ended files.current → HaveCounted others more.ended more.current
      → HaveCounted both (followed_by files more).ended (followed_by files more).current

-- whether the current file of some counts is cut at a foreign part, if the files of other counts go on with it
pub record CutsForeign (these others : LineCounts) (cuts : Bool) : Type 0 where
  pub is : (files more : Files) → HaveCounted these files.ended files.current
      → HaveCounted others more.ended more.current → cuts ≡ cuts_foreign files.current more.ended
