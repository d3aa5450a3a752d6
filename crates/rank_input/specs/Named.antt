-- What the names that a run is given stand for.
use Rattle.std.specs.Prelude.{◌≡◌, ◌≢◌, ℕ, ◌<◌, ◌==◌, ◌&&◌, ◌⊎◌, Bool, true, false, not, if◌then◌else◌, List, [], ◌∷◌}
use Rattle.std.specs.Prelude.{◌++◌, length, map, filter, codes, Option, None, Some, ⊤, nat_eq, bytes_eq}
use Rattle.std.specs.Prelude.{IsPermutation, IsSorted}
use Rattle.std.specs.List.{slice_split, flat_map, starts_with, ends_with, AllZip}
use Rattle.std.specs.Ordering.{nat_cmp}
use Rattle.std.specs.Cmp.Lexicographic.{slice_cmp}
use Rattle.ghcn_fields.specs.Meaning.Lines.{lines}
use Rattle.rank_input.specs.declared.archive.Place.{Place}
use Rattle.rank_input.specs.declared.archive.Place.TheVariants.{Folder}
use Rattle.rank_input.specs.Feeding.{AreAllOf, Opening}

-- a text, as its bytes
abbrev pub Text : Type 0
Text = List ℕ

-- what is known of the folder of a path: nothing; that there is none; or the names in it, each ended by a NUL
abbrev pub Known : Type 0
Known = Option (Option Text)

-- a name isn't empty
abbrev pub is_name : Text → Bool
is_name name = not (length name == 0)

-- the names in a text, without empty ones: what NULs end, or its lines
abbrev pub names_in : Bool → Text → List Text
names_in true text = filter is_name (slice_split (λ b. b == 0) text)
names_in false text = filter is_name (lines text)

-- the name of a daily file: it ends with .dly, and doesn't begin with a point, which would hide it
abbrev pub is_daily : Text → Bool
is_daily name = not (starts_with nat_eq name (codes ".")) && ends_with nat_eq name (codes ".dly")

-- the names of the daily files among those of a folder
abbrev pub daily_in : Text → List Text
daily_in names = filter is_daily (slice_split (λ b. b == 0) names)

-- the path of a name in a folder, with one slash between them
abbrev pub below : Text → Text → Text
below folder name = folder ++ (if ends_with nat_eq folder (codes "/") then name else codes "/" ++ name)

-- the paths of the daily files in a folder with these names, at least one, in the order of their bytes
pub record AreDailyIn (folder names : Text) (paths : List Text) : Type 0 where
  pub same : IsPermutation (map (below folder) (daily_in names)) paths
  pub order : IsSorted (slice_cmp nat_cmp) paths
  pub some : 0 < length paths

-- a folder may have these names, as far as is known
abbrev pub AreNamesOf : Known → Text → Type 0
AreNamesOf None names = ⊤
AreNamesOf (Some None) names = ⊥
AreNamesOf (Some (Some all)) names = names ≡ all

-- a place is a folder if it is known to be one, and isn't if it is known not to be
abbrev pub IsPlaceOf : Known → Place → Type 0
IsPlaceOf None place = ⊤
IsPlaceOf (Some None) place = place ≢ Folder
IsPlaceOf (Some (Some names)) place = place ≡ Folder

-- the paths of a folder's daily files
pub record IsFolderOf (known : Known) (folder : Text) (paths : List Text) : Type 0 where
  pub names : Text
  pub there : AreNamesOf known names
  pub daily : AreDailyIn folder names paths

-- what a path stands for: a folder for its daily files, and any other path for itself
abbrev pub StandsFor : Known → Text → List Text → Type 0
StandsFor None path paths = (paths ≡ path ∷ []) ⊎ IsFolderOf None path paths
StandsFor (Some None) path paths = paths ≡ path ∷ []
StandsFor (Some (Some names)) path paths = AreDailyIn path names paths

-- what several paths stand for, one after the other
pub record AllStandFor (names_of : Text → Known) (named paths : List Text) : Type 0 where
  pub parts : List (List Text)
  pub each : AllZip (λ path part. StandsFor (names_of path) path part) named parts
  pub all : paths ≡ flat_map (λ part. part) parts

-- the path of a list: - is standard input
abbrev pub list_path : Text → Text
list_path list = if bytes_eq list (codes "-") then codes "/dev/stdin" else list

-- the names of a list that was opened, as far as its bytes are known
pub record AreListed (bytes_of : Text → Option Text) (opens : Opening) (null : Bool) (list : Text) (names : List Text)
    : Type 0 where
  pub text : Text
  pub whole : AreAllOf (bytes_of (list_path list)) text
  pub opened : opens (list_path list) true
  pub is : names ≡ names_in null text

-- the names of a list, at least one, if there is a list
abbrev pub AreNamedBy : (Text → Option Text) → Opening → Bool → Option Text → List Text → Type 0
AreNamedBy bytes_of opens null None names = names ≡ []
AreNamedBy bytes_of opens null (Some list) names = AreListed bytes_of opens null list names × (0 < length names)

-- these are the paths that words stand for, and then those that the names of a list stand for
pub record StandFor (bytes_of : Text → Option Text) (opens : Opening) (names_of : Text → Known) (null : Bool)
    (list : Option Text) (words paths : List Text) : Type 0 where
  pub names : List Text
  pub listed : AreNamedBy bytes_of opens null list names
  pub stand : AllStandFor names_of (words ++ names) paths

-- the paths that some names stand for are added to others
pub record AddsNamed (names_of : Text → Known) (named old new : List Text) : Type 0 where
  pub part : List Text
  pub stand : AllStandFor names_of named part
  pub added : new ≡ old ++ part

-- the paths that the names of a list stand for are added to others
pub record AddsListed (bytes_of : Text → Option Text) (opens : Opening) (names_of : Text → Known) (null : Bool)
    (list : Text) (old new : List Text) : Type 0 where
  pub names : List Text
  pub listed : AreNamedBy bytes_of opens null (Some list) names
  pub adds : AddsNamed names_of names old new
