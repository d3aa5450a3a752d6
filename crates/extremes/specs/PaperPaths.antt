-- The paths of the reports and the certificates of a list of queries in a folder.
use Rattle.std.specs.Prelude.{ℕ, zero, suc, List, [], ◌∷◌, ◌++◌, codes}
use Rattle.std.specs.Fmt.{decimal}
use Rattle.rank_input.specs.Named.{below}
use Rattle.extremes.specs.Merges.{Known, KnownPart}

-- the path of the file of this number and kind in a folder
abbrev pub paper_path : List ℕ → ℕ → List ℕ → List ℕ
paper_path folder number kind = below folder (decimal number ++ codes "." ++ kind)

-- the path of the report of the query of this number
abbrev pub report_path : List ℕ → ℕ → List ℕ
report_path folder number = paper_path folder number (codes "report")

-- and that of its certificate
abbrev pub certificate_path : List ℕ → ℕ → List ℕ
certificate_path folder number = paper_path folder number (codes "certificate")

-- the paths of the two, in the order in which they are read
abbrev pub both_paths : List ℕ → ℕ → List (List ℕ)
both_paths folder number = report_path folder number ∷ certificate_path folder number ∷ []

-- those of that many queries, which are numbered from n on
abbrev pub all_paths : List ℕ → ℕ → ℕ → List (List ℕ)
all_paths folder n zero = []
all_paths folder n (suc more) = both_paths folder n ++ all_paths folder (suc n) more

-- what is known of the bytes of the report and the certificate of the query of this number
abbrev pub known_papers : Known → List ℕ → ℕ → KnownPart
known_papers bytes_of folder number = (bytes_of (report_path folder number), bytes_of (certificate_path folder number))
