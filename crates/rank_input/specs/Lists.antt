-- A station list that was read, and the lines of a list that are read piece by piece.
use Rattle.std.specs.Prelude.{◌≡◌, ℕ, Bool, true, List, ◌++◌, Option, IfSome, Ok}
use Rattle.std.specs.Option.{option_map}
use Rattle.ghcn_fields.specs.Lines.{EndsLine}
use Rattle.ghcn_files.specs.declared.station.Station.{Station}
use Rattle.ghcn_files.specs.Listed.{AreOfLines, FollowLines, listed}
use Rattle.rank_input.specs.declared.list.ListForm.{ListForm}
use Rattle.rank_input.specs.declared.list.ListForm.TheVariants.{Stations, Text}
use Rattle.rank_input.specs.Feeding.{AreAllOf}
use Rattle.rank_input.specs.Shares.{stretch_of}

-- a list was read from this text: it is the text, or has its stations
abbrev pub IsListText : ListForm → List ℕ → Type 0
IsListText (Stations stations) text = listed text ≡ Ok stations
IsListText (Text bytes) text = text ≡ bytes.items

-- a list was read from some text
abbrev pub HasListText : ListForm → Type 0
HasListText list = (text : List ℕ) × IsListText list text

-- stations are the list of some text
abbrev pub IsSomeList : List Station → Type 0
IsSomeList stations = (text : List ℕ) × (listed text ≡ Ok stations)

-- a list was read from all bytes of a file, if those are known
pub record IsListIn (known : Option (List ℕ)) (list : ListForm) : Type 0 where
  pub text : List ℕ
  pub all : AreAllOf known text
  pub is : IsListText list text

-- stations are the list of these bytes of a file that was opened, from one on: this many, whose last ends a line, or all
pub record ListsStretch (known : Option (List ℕ)) (opened : Type 0) (from : ℕ) (count : Option ℕ)
    (stations : List Station) : Type 0 where
  pub was_opened : opened
  pub text : List ℕ
  pub all : AreAllOf (option_map (λ bytes. stretch_of from count bytes) known) text
  pub is : listed text ≡ Ok stations
  pub ends : IfSome count (λ n. EndsLine text)

-- all bytes that a source had left were read, these stations are of their lines, and it is known if they end a line
pub record TakesSource (known : Option (List ℕ)) (stations : List Station) (is_whole : Bool) : Type 0 where
  pub text : List ℕ
  pub all : AreAllOf known text
  pub lines : AreOfLines text stations
  pub ends : is_whole ≡ true → EndsLine text

-- of a text whole lines were taken, after those of which some stations are, and the rest is left
pub record TakesLines (stations : List Station) (text rest : List ℕ) (more : List Station) : Type 0 where
  pub lines : List ℕ
  pub parts : text ≡ lines ++ rest
  pub ends : EndsLine lines
  pub taken : FollowLines stations lines more
