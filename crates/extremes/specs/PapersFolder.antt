-- The files that the certificate and the report of each query of a list get in a folder.
use Rattle.std.specs.Prelude.{◌≡◌, ◌⊎◌, ℕ, zero, suc, Bool, true, false, List, [], ◌∷◌, ◌++◌, Option, None, Some, ⊤}
use Rattle.std.specs.Prelude.{codes, string_bytes}
use Rattle.std.specs.List.{AllByRecursion}
use Rattle.rank_input.specs.Input.{is_memory}
use Rattle.rank_input.specs.Named.{below}
use Rattle.extremes.specs.declared.papers.Papers.{Papers}
use Rattle.extremes.specs.declared.papers_folder.Stop.{Stop}
use Rattle.extremes.specs.declared.papers_folder.Stop.TheVariants.{Input, NotWritten}
use Rattle.extremes.specs.PaperPaths.{certificate_path, report_path}
use Rattle.extremes.specs.Targets.{NewFile, Storing}

-- whether a file may be found by a path, and whether none may be found
abbrev pub Finding : Type 1
Finding = List ℕ → Bool → Type 0

-- a file is found by one of these paths, and none by those before it
pub record IsFoundFirst (exists : Finding) (paths : List (List ℕ)) (path : List ℕ) : Type 0 where
  pub before : List (List ℕ)
  pub after : List (List ℕ)
  pub among : paths ≡ before ++ path ∷ after
  pub none : AllByRecursion (λ p. exists p false) before
  pub there : exists path true

-- the paths of the files of the query of this number, in the order in which they are written
abbrev pub paths_of : List ℕ → ℕ → List (List ℕ)
paths_of folder number = certificate_path folder number ∷ report_path folder number ∷ []

-- the paths of the files of that many queries, which are numbered from n on
abbrev pub paper_paths : List ℕ → ℕ → ℕ → List (List ℕ)
paper_paths folder n zero = []
paper_paths folder n (suc more) = paths_of folder n ++ paper_paths folder (suc n) more

-- the same, if there is a folder for them
abbrev pub new_paths : Option (List ℕ) → ℕ → List (List ℕ)
new_paths None queries = []
new_paths (Some folder) queries = paper_paths folder 1 queries

-- the files of what is ranked for the query of this number: the certificate comes before the report
abbrev pub files_of : List ℕ → ℕ → Papers → List NewFile
files_of folder number p =
    (certificate_path folder number, p.certificate.items) ∷ (report_path folder number, p.report.items) ∷ []

-- the files of what is ranked for some queries, which are numbered from n on
abbrev pub papers_from : List ℕ → ℕ → List Papers → List NewFile
papers_from folder n [] = []
papers_from folder n (p ∷ ps) = files_of folder n p ++ papers_from folder (suc n) ps

-- the files of what is ranked for some queries, if there is a folder for them
abbrev pub new_files : Option (List ℕ) → ℕ → List Papers → List NewFile
new_files None n papers = []
new_files (Some folder) n papers = papers_from folder n papers

-- whether a folder is found by a path: something is, and the folder itself is found in it
abbrev pub IsFolder : Finding → List ℕ → Bool → Type 0
IsFolder exists path true = exists path true × exists (below path (codes ".")) true
IsFolder exists path false = exists path false ⊎ exists (below path (codes ".")) false

-- a folder is found, if there is to be one
abbrev pub HasFolder : Finding → Option (List ℕ) → Type 0
HasFolder exists None = ⊤
HasFolder exists (Some path) = IsFolder exists path true

-- the path of the folder that isn't found, or that none is missing
abbrev pub IsMissing : Finding → Option (List ℕ) → Option (List ℕ) → Type 0
IsMissing exists folder None = HasFolder exists folder
IsMissing exists folder (Some path) = (folder ≡ Some path) × IsFolder exists path false

-- the first of these paths by which a file is found, or that none is found by any
abbrev pub IsFirstThere : Finding → List (List ℕ) → Option (List ℕ) → Type 0
IsFirstThere exists paths None = AllByRecursion (λ path. exists path false) paths
IsFirstThere exists paths (Some path) = IsFoundFirst exists paths path

-- the file that isn't put whole is the first of these, if there is one
abbrev pub FailsAt : Option NewFile → List NewFile → Type 0
FailsAt None rest = ⊤
FailsAt (Some failed) rest = (later : List NewFile) × (rest ≡ failed ∷ later)

-- the first of these files are put whole, in order, and then one isn't, or no other is tried
pub record PutsUntil (files : List NewFile) (stores : Storing) (failed : Option NewFile) : Type 0 where
  pub put : List NewFile
  pub rest : List NewFile
  pub among : files ≡ put ++ rest
  pub fails : FailsAt failed rest
  pub stored : stores put failed

-- so the putting of these files stops: memory runs out, or the file of a path isn't put whole
abbrev pub PuttingStops : List NewFile → Storing → Stop → Type 0
PuttingStops files stores (Input fault) = (is_memory fault ≡ true) × PutsUntil files stores None
PuttingStops files stores (NotWritten path) = (bytes : List ℕ) × PutsUntil files stores (Some (string_bytes path, bytes))
