-- What fits together of what a subcommand is given.
use Rattle.std.specs.Prelude.{◌≡◌, ◌⊎◌, IsSome, IsNone, List, [], codes, Some, unwrap_or, length, ◌%◌}
use Rattle.clap.specs.Words.{Row, Text, all_of, first_of, one_of}

-- the reports and certificates that `merge` is given, in their order
abbrev pub papers_to_merge : List Row → List Text
papers_to_merge rows = unwrap_or (all_of (codes "papers") rows) []

-- there are two of each part
abbrev pub AreInPairs : List Row → Type 0
AreInPairs rows = length (papers_to_merge rows) % 2 ≡ 0

-- if `--null` is given, so is a list
abbrev pub HasListIfNull : List Row → Type 0
HasListIfNull rows = one_of (codes "null") rows ≡ Some (codes "true") → IsSome (first_of (codes "files-from") rows)

-- an option names standard input
abbrev pub IsInput : Text → List Row → Type 0
IsInput option rows = first_of option rows ≡ Some (codes "-")

-- the list of queries and the list of daily files are both standard input
abbrev pub AreBothInput : List Row → Type 0
AreBothInput rows = IsInput (codes "queries") rows × IsInput (codes "files-from") rows

-- `rank` has one query, and nothing of a list of queries
pub record RanksOne (rows : List Row) : Type 0 where
  pub query : IsSome (first_of (codes "query") rows)
  pub queries : IsNone (first_of (codes "queries") rows)
  pub papers : IsNone (first_of (codes "papers") rows)

-- `rank` has nothing of the ranking of one query: no query, no guess and no certificate
pub record HasNoneOfOneRanking (rows : List Row) : Type 0 where
  pub query : IsNone (first_of (codes "query") rows)
  pub guess : IsNone (first_of (codes "guess") rows)
  pub certificate : IsNone (first_of (codes "certificate") rows)

-- `rank` has a list of queries, and nothing of the ranking of one query; standard input is one list at most
pub record RanksEach (rows : List Row) : Type 0 where
  pub queries : IsSome (first_of (codes "queries") rows)
  pub alone : HasNoneOfOneRanking rows
  pub input : AreBothInput rows → ⊥

-- `rank` has one query or a list of queries, and `--null` comes with a list
pub record FitToRank (rows : List Row) : Type 0 where
  pub queries : RanksOne rows ⊎ RanksEach rows
  pub listed : HasListIfNull rows

-- `check` has all that the check of one query needs: the query, the report and the certificate
pub record HasAllOfOneCheck (rows : List Row) : Type 0 where
  pub query : IsSome (first_of (codes "query") rows)
  pub report : IsSome (first_of (codes "report") rows)
  pub certificate : IsSome (first_of (codes "certificate") rows)

-- `check` has nothing of that
pub record HasNoneOfOneCheck (rows : List Row) : Type 0 where
  pub query : IsNone (first_of (codes "query") rows)
  pub report : IsNone (first_of (codes "report") rows)
  pub certificate : IsNone (first_of (codes "certificate") rows)

-- `check` has one query with its report and its certificate, and nothing of a list of queries
pub record ChecksOne (rows : List Row) : Type 0 where
  pub whole : HasAllOfOneCheck rows
  pub queries : IsNone (first_of (codes "queries") rows)
  pub papers : IsNone (first_of (codes "papers") rows)

-- `check` has a list of queries and a folder, and nothing of the check of one query; standard input is one list at most
pub record ChecksEach (rows : List Row) : Type 0 where
  pub queries : IsSome (first_of (codes "queries") rows)
  pub papers : IsSome (first_of (codes "papers") rows)
  pub alone : HasNoneOfOneCheck rows
  pub input : AreBothInput rows → ⊥

-- `check` has one query or a list of queries, and `--null` comes with a list
pub record FitToCheck (rows : List Row) : Type 0 where
  pub queries : ChecksOne rows ⊎ ChecksEach rows
  pub listed : HasListIfNull rows

-- what a subcommand is given fits together: `rank` and `check` have one query or a list of them, reports and
-- certificates to merge come in pairs, and `--null` comes with a list
pub record FitTogether (name : Text) (rows : List Row) : Type 0 where
  pub rank : name ≡ codes "rank" → FitToRank rows
  pub merge : name ≡ codes "merge" → AreInPairs rows
  pub check : name ≡ codes "check" → FitToCheck rows
  pub describe : name ≡ codes "describe" → HasListIfNull rows
