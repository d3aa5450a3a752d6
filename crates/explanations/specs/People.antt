-- The words for people that a run gathers.
use Rattle.std.specs.Prelude.{◌≡◌, ◌⊎◌, ℕ, Bool, true, ◌==◌, ◌<◌, if◌then◌else◌, List, ◌++◌, length, codes, Option, Some}
use Rattle.std.specs.Prelude.{IfSome, None, bytes_eq, string_bytes}
use Rattle.ghcn_series.specs.declared.counts.Warnings.{Warnings}
use Rattle.rank_input.specs.declared.fault.Fault.{Fault}
use Rattle.rank_input.specs.declared.named.NotNamed.{NotNamed}
use Rattle.rank_input.specs.declared.named.NotNamed.TheVariants as naming
use Rattle.rank_input.specs.Named.{list_path}
use Rattle.explanations.specs.declared.explanation.Explanation.{Explanation}
use Rattle.explanations.specs.declared.input.Given.{Given}
use Rattle.explanations.specs.declared.people.ForPeople.{ForPeople}
use Rattle.explanations.specs.Inputs.{IsOfInput, path_of}
use Rattle.explanations.specs.Shown.{shown_text}
use Rattle.explanations.specs.Texts.{explanation_text}

-- the lines
abbrev pub lines_of : ForPeople → List ℕ
lines_of w = string_bytes w.lines

-- whether people read them
abbrev pub are_read : ForPeople → Bool
are_read w = w.is_read

-- a line after others, if there are any
abbrev pub joined : List ℕ → List ℕ → List ℕ
joined lines line = lines ++ (if length lines == 0 then line else codes "\n" ++ line)

-- the lines stay, or people read them and this one comes after them; it says nothing of a line that isn't known
pub record Adds (old new : ForPeople) (line : Option (List ℕ)) : Type 0 where
  pub read : are_read new ≡ are_read old
  pub added : IfSome line (λ text. (lines_of new ≡ lines_of old)
      ⊎ ((are_read old ≡ true) × (lines_of new ≡ joined (lines_of old) text)))

-- they stay, or the line of an explanation comes for which this holds
abbrev pub AddsOne : (Explanation → Type 0) → ForPeople → ForPeople → Type 0
AddsOne P old new = (e : Explanation) × P e × Adds old new (explanation_text e)

-- an explanation is about an error of an input, with the line that has it if that is known
abbrev pub IsAboutInput : Fault → Given → Explanation → Type 0
IsAboutInput fault given e = (line : Option (List ℕ)) × IsOfInput fault given line e

-- that a file looks compressed
abbrev pub compressed_text : List ℕ → List ℕ
compressed_text path = shown_text path ++ codes ": " ++ codes "it looks compressed, by gzip; unpack it first"

-- nothing is added, or a line about the error, or one that says that the file with it looks compressed
abbrev pub AddsInput : Fault → Given → ForPeople → ForPeople → Type 0
AddsInput fault given old new = (new ≡ old) ⊎ AddsOne (IsAboutInput fault given) old new
    ⊎ Adds old new (Some (compressed_text (path_of given fault)))

-- a file, a folder or a list, and what is wrong with it
abbrev pub file_text : List ℕ → List ℕ → List ℕ
file_text path says = shown_text path ++ codes ": " ++ says

-- nothing is added, or a line of a file and the system's reason why it can't be read
abbrev pub AddsReason : List ℕ → ForPeople → ForPeople → Type 0
AddsReason path old new = (new ≡ old) ⊎ ((reason : List ℕ) × Adds old new (Some (file_text path reason)))

-- the path that is read for a name: if it is that of the list, a list `-` is standard input
abbrev pub path_read : List ℕ → Option (List ℕ) → List ℕ
path_read name None = name
path_read name (Some list) = if bytes_eq list name then list_path name else name

-- why daily files can't be named: for the system's reason, or for another
abbrev pub AddsNaming : NotNamed → Option (List ℕ) → ForPeople → ForPeople → Type 0
AddsNaming (naming.Unreadable at) list old new = AddsReason (path_read (string_bytes at) list) old new
AddsNaming (naming.Empty at) list old new =
    Adds old new (Some (file_text (string_bytes at) (codes "a folder without .dly files, or a list without names")))
AddsNaming (naming.NotText at) list old new =
    Adds old new (Some (file_text (string_bytes at) (codes "a name in it isn't UTF-8 text")))
AddsNaming naming.Memory list old new = Adds old new (Some (codes "out of memory: the system gave no more"))

-- a line is added if there is something that it is about
abbrev pub AddsIfAny : ℕ → List ℕ → ForPeople → ForPeople → Type 0
AddsIfAny count text old new = (count ≡ 0 → new ≡ old) × (0 < count → Adds old new (Some text))

-- what each warning of a run means is added, after a line for each that comes before it
pub record AddsMeanings (warnings : Warnings) (unlisted : ℕ) (old new : ForPeople) : Type 0 where
  pub first : ForPeople
  pub second : ForPeople
  pub foreign : AddsIfAny warnings.foreign.count
      (codes "foreign: files that have lines, but none of PRCP SNOW SNWD TMAX TMIN") old first
  pub odd : AddsIfAny warnings.odd.count
      (codes "odd: lines that aren't laid out as daily lines are; daily lines may be lost with them") first second
  pub others : AddsIfAny unlisted
      (codes "unlisted: lines of stations that aren't in the station list; they were left out") second new
