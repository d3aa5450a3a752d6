-- Why names that a run is given stand for nothing.
use Rattle.std.specs.Prelude.{◌≡◌, ◌≢◌, ◌⊎◌, Bool, List, [], ◌∷◌, ◌++◌, Option, None, Some, ⊤}
use Rattle.std.specs.Prelude.{Contains, IsUtf8, string_bytes}
use Rattle.rank_input.specs.declared.named.NotNamed.{NotNamed}
use Rattle.rank_input.specs.declared.named.NotNamed.TheVariants.{Unreadable, Empty, NotText, Memory}
use Rattle.rank_input.specs.Feeding.{AreAllOf, Opening, IsTried}
use Rattle.rank_input.specs.Named.{Text, Known, daily_in, list_path, AreNamesOf, AllStandFor, AreListed}

-- why the names in a folder give no paths of daily files: there is no such name; or one isn't UTF-8
abbrev pub AreNotDaily : Text → Text → NotNamed → Type 0
AreNotDaily folder names (Unreadable at) = ⊥
AreNotDaily folder names (Empty at) = (string_bytes at ≡ folder) × (daily_in names ≡ [])
AreNotDaily folder names (NotText at) =
    (string_bytes at ≡ folder) × ((name : Text) × Contains (daily_in names) name × ¬ (IsUtf8 name))
AreNotDaily folder names Memory = ⊤

-- why the daily files of a folder can't be named: the folder can't be read; or its names give no paths; or memory runs
-- out
abbrev pub IsNoFolder : Opening → Known → Text → NotNamed → Type 0
IsNoFolder opens known folder (Unreadable at) = (string_bytes at ≡ folder) × IsTried opens folder
IsNoFolder opens known folder Memory = ⊤
IsNoFolder opens known folder why = (names : Text) × AreNamesOf known names × AreNotDaily folder names why

-- why a path stands for nothing: it may be a folder, and its daily files can't be named; or memory runs out
abbrev pub IsNothing : Opening → (Text → Known) → Text → NotNamed → Type 0
IsNothing opens names_of path Memory = ⊤
IsNothing opens names_of path why = (names_of path ≢ Some None) × IsNoFolder opens (names_of path) path why

-- one of these names stands for nothing, and those before it stand for some files
pub record StopsAmong (opens : Opening) (names_of : Text → Known) (named : List Text) (why : NotNamed) : Type 0 where
  pub before : List Text
  pub name : Text
  pub after : List Text
  pub among : named ≡ before ++ name ∷ after
  pub paths : List Text
  pub stood : AllStandFor names_of before paths
  pub fails : IsNothing opens names_of name why

-- why a list names nothing: it can't be read; or it has no name; or it isn't UTF-8; or memory runs out
abbrev pub ListsNothing : (Text → Option Text) → Opening → Bool → Text → NotNamed → Type 0
ListsNothing bytes_of opens null list (Unreadable at) = (string_bytes at ≡ list) × IsTried opens (list_path list)
ListsNothing bytes_of opens null list (Empty at) = (string_bytes at ≡ list) × AreListed bytes_of opens null list []
ListsNothing bytes_of opens null list (NotText at) = (string_bytes at ≡ list)
    × ((text : Text) × AreAllOf (bytes_of (list_path list)) text × ¬ (IsUtf8 text))
ListsNothing bytes_of opens null list Memory = ⊤

-- one of the names of a list stands for nothing
pub record StopsInNames (bytes_of : Text → Option Text) (opens : Opening) (names_of : Text → Known) (null : Bool)
    (list : Text) (why : NotNamed) : Type 0 where
  pub names : List Text
  pub listed : AreListed bytes_of opens null list names
  pub stops : StopsAmong opens names_of names why

-- a list names nothing, or one of its names stands for nothing
abbrev pub StopsInList : (Text → Option Text) → Opening → (Text → Known) → Bool → Text → NotNamed → Type 0
StopsInList bytes_of opens names_of null list why =
    ListsNothing bytes_of opens null list why ⊎ StopsInNames bytes_of opens names_of null list why

-- there is a list, all words stand for files, and then naming stops in the list
pub record StopsAfterWords (bytes_of : Text → Option Text) (opens : Opening) (names_of : Text → Known) (null : Bool)
    (list : Option Text) (words : List Text) (why : NotNamed) : Type 0 where
  pub at : Text
  pub is : list ≡ Some at
  pub paths : List Text
  pub stood : AllStandFor names_of words paths
  pub stops : StopsInList bytes_of opens names_of null at why

-- naming stops at a word, or in the list, or when memory runs out
abbrev pub StopsNaming : (Text → Option Text) → Opening → (Text → Known) → Bool → Option Text → List Text → NotNamed
    → Type 0
StopsNaming bytes_of opens names_of null list words Memory = ⊤
StopsNaming bytes_of opens names_of null list words why =
    StopsAmong opens names_of words why ⊎ StopsAfterWords bytes_of opens names_of null list words why
