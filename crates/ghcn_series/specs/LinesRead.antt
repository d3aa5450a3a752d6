-- What a reader of lines has read, and what one step of its reading adds.
use Rattle.std.specs.Prelude.{◌≡◌, ℕ, ◌^◌, ◌≤◌, ◌++◌, true, List, [], ◌∷◌, length, map}
use Rattle.std.specs.List.{Contains, filter_map}
use Rattle.std.specs.Str.Lines.{strip_carriage_return}
use Rattle.ghcn_files.specs.declared.element.Keep.{Keep}
use Rattle.ghcn_files.specs.declared.station.Station.{Station}
use Rattle.ghcn_series.specs.declared.counts.LineCounts.{LineCounts}
use Rattle.ghcn_series.specs.declared.fault.DataFault.{DataFault}
use Rattle.ghcn_series.specs.Alike.{AreAlike}
use Rattle.ghcn_series.specs.Counted.{HaveCounted}
use Rattle.ghcn_series.specs.DailyFaults.{FileLine, file_line, one_line, daily_lines, month_on}
use Rattle.ghcn_series.specs.Gathered.{IsLineRefusal, has_month_of}

-- when a reader has read lines: with these stations listed, if the values of these elements are kept
abbrev pub Reading : Type 0 → Type 1
Reading L = L → List Station → Keep → List FileLine → Type 0

-- what a reader has read: some lines
abbrev pub HasReadSome : {L : Type 0} → Reading L → L → Type 0
HasReadSome has_read r =
    (stations : List Station) × ((keep : Keep) × ((ls : List FileLine) × has_read r stations keep ls))

-- when something is made of files: with these stations listed, if the values of these elements are kept
abbrev pub Making : Type 0 → Type 1
Making D = List Station → Keep → List (List ℕ) → D → Type 0

-- a reader reads more lines after those that it read
pub record Reads {L : Type 0} (has_read : Reading L) (old new : L) (more : List FileLine) : Type 0 where
  pub holds : (stations : List Station) (keep : Keep) (before : List FileLine) → has_read old stations keep before
      → has_read new stations keep (before ++ more)

-- a reader refuses more lines, for out of memory or for the first error among all its lines
pub record Refuses {L : Type 0} (has_read : Reading L) (old : L) (more : List FileLine) (fault : DataFault) : Type 0
  where
    pub first : (stations : List Station) (keep : Keep) (before : List FileLine) → has_read old stations keep before
        → IsLineRefusal stations (before ++ more) fault

-- a reader reads a line of a file, and with it each line that is like it
pub record ReadsLike {L : Type 0} (has_read : Reading L) (old new : L) (file line : ℕ) (bytes : List ℕ) : Type 0 where
  pub holds : (like : List ℕ) → AreAlike like bytes → Reads has_read old new (file_line file (line, like) ∷ [])

-- a reader refuses a line of a file, and with it each line that is like it
pub record RefusesLike {L : Type 0} (has_read : Reading L) (old : L) (file line : ℕ) (bytes : List ℕ)
    (fault : DataFault) : Type 0 where
  pub holds : (like : List ℕ) → AreAlike like bytes
      → Refuses has_read old (file_line file (line, like) ∷ []) fault

-- a reader reads a line as it is before its line feed, and each that is like it, unless they are blank
pub record ReadsText {L : Type 0} (has_read : Reading L) (old new : L) (file line : ℕ) (bytes : List ℕ) : Type 0 where
  pub holds : (text : List ℕ) → AreAlike (strip_carriage_return text) (strip_carriage_return bytes)
      → Reads has_read old new (one_line file line text)

-- a reader refuses such a line, and each that is like it
pub record RefusesText {L : Type 0} (has_read : Reading L) (old : L) (file line : ℕ) (bytes : List ℕ)
    (fault : DataFault) : Type 0 where
  pub holds : (text : List ℕ) → AreAlike (strip_carriage_return text) (strip_carriage_return bytes)
      → Refuses has_read old (one_line file line text) fault

-- whatever files a reader has read, this is made of them, if there are that many and these are their counts
pub record Finishes {L D : Type 0} (has_read : Reading L) (makes : Making D) (r : L) (number : ℕ) (counts : LineCounts)
    (done : D) : Type 0 where
  pub is : (stations : List Station) (keep : Keep) (files : List (List ℕ)) → length files ≤ 2 ^ 20
      → has_read r stations keep (daily_lines files) → number ≡ length files → HaveCounted counts files []
      → makes stations keep files done

-- two readers have read lines for the same stations, and keep the values of the same elements
pub record HaveReadAlike {L : Type 0} (has_read : Reading L) (first next : L) : Type 0 where
  pub stations : List Station
  pub keep : Keep
  pub lines : List FileLine
  pub more : List FileLine
  pub of_first : has_read first stations keep lines
  pub of_next : has_read next stations keep more

-- what is on lines, whatever their numbers are
abbrev pub line_texts : List FileLine → List (List ℕ)
line_texts ls = map (λ l. l.bytes) ls

-- a reader has read what a first one has read, and then what a next one has read, under whatever numbers
pub record JoinsLines {L : Type 0} (has_read : Reading L) (first next both : L) : Type 0 where
  pub holds : (stations : List Station) (keep : Keep) (ls more numbered : List FileLine)
      → has_read first stations keep ls → has_read next stations keep more
      → line_texts numbered ≡ line_texts more → has_read both stations keep (ls ++ numbered)

-- a listed station has months on these lines and on others
pub record HaveOneStation (stations : List Station) (ls others : List FileLine) : Type 0 where
  pub station : Station
  pub listed : Contains stations station
  pub has : has_month_of (filter_map month_on ls) station.id ≡ true
  pub has_too : has_month_of (filter_map month_on others) station.id ≡ true

-- two readers have read months of one listed station
pub record ReadOneStation {L : Type 0} (has_read : Reading L) (first next : L) : Type 0 where
  pub share : (stations : List Station) (keep : Keep) (ls more : List FileLine) → has_read first stations keep ls
      → has_read next stations keep more → HaveOneStation stations ls more
