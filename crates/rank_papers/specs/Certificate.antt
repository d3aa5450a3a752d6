-- The text of a certificate, and when it is right.
use Rattle.std.specs.Prelude.{◌≡◌, ◌⊎◌, ◌≤◌, ℕ, ◌-◌, ◌==◌, true, if◌then◌else◌, List, [], ◌∷◌, ◌++◌, length, map}
use Rattle.std.specs.Prelude.{Option, ℤ, FitsSigned, IfSome, IsTrue, slice_get}
use Rattle.std.specs.List.{flat_map, count_by, AllByRecursion, AllZip}
use Rattle.std.specs.Option.{option_map}
use Rattle.std.specs.Int.{w64}
use Rattle.ghcn_files.specs.Meaning.Ids.{same_id}
use Rattle.ghcn_files.specs.Ids.{is_id}
use Rattle.ghcn_series.specs.Meaning.Series.{Series}
use Rattle.ghcn_series.specs.Series.{Data}
use Rattle.rank_query.specs.Meaning.Asked.{Query, IsAsked}
use Rattle.rank_scores.specs.declared.candidate.Candidate.{Candidate}
use Rattle.rank_scores.specs.Order.{bound_is_below}
use Rattle.rank_scores.specs.Morsels.{morsels, best_of_query, kth_of_query, IsAbove}
pub use Rattle.rank_sched.specs.declared.line.Line.{Line}
use Rattle.rank_papers.specs.declared.counted.Counted.{Counted}
use Rattle.rank_papers.specs.Meaning.Report.{query_line}
use Rattle.rank_papers.specs.Meaning.Certificate.{title_line, kth_line, entry_line, end_line}

-- ---- the text

-- what a certificate says: its version, a query, a k-th score or none, an entry for each series, and in version 2 a
-- count for each entry
pub record Certified : Type 0 where
  pub version : ℕ
  pub query : Query
  pub kth : Option ℤ
  pub entries : List Line
  pub counts : List ℕ

-- entries with their counts, 0 if there are no more of these
abbrev pub counted : List Line → List ℕ → List Counted
counted [] counts = []
counted (e ∷ es) [] = record { entry = e; count = 0 } ∷ counted es []
counted (e ∷ es) (n ∷ counts) = record { entry = e; count = n } ∷ counted es counts

-- the text of a certificate
abbrev pub certificate_text : Certified → List ℕ
certificate_text v =
    title_line v.version
    ++ query_line v.query
    ++ kth_line v.kth
    ++ flat_map (entry_line v.version) (counted v.entries v.counts)
    ++ end_line (length v.entries)

-- each bound is inside 64 bits
abbrev pub AreInRange : List Line → Type 0
AreInRange es = AllByRecursion (λ e. FitsSigned w64 e.bound) es

-- ---- what a certificate can say

-- an entry that a certificate can have: its ID is eleven visible bytes, and its bound is inside 64 bits
pub record IsEntry (e : Line) : Type 0 where
  pub id : IsTrue (is_id e.id.0)
  pub bound : FitsSigned w64 e.bound

-- a count that an entry can have: of at most a thousand rows, and none if the series was skipped
pub record IsCount (e : Line) (n : ℕ) : Type 0 where
  pub few : n ≤ 1000
  pub none : e.skipped ≡ true → n ≡ 0

-- the counts of a version: none at all in version 1, and one for each entry in version 2
abbrev pub AreCounts : ℕ → List Line → List ℕ → Type 0
AreCounts version es counts =
    ((version ≡ 1) × (counts ≡ [])) ⊎ ((version ≡ 2) × AllZip IsCount es counts)

-- what a certificate can say
pub record IsCertified (v : Certified) : Type 0 where
  pub asked : IsAsked v.query
  pub kth : IfSome v.kth (FitsSigned w64)
  pub entries : AllByRecursion IsEntry v.entries
  pub counts : AreCounts v.version v.entries v.counts

-- the bytes are the text of a certificate that says this
pub record IsCertificateOf (v : Certified) (bytes : List ℕ) : Type 0 where
  pub can_be : IsCertified v
  pub text : bytes ≡ certificate_text v

-- ---- what is right

-- an entry is right for a series: it names the series, no candidate of the series has a score above the bound, and it
-- is skipped only if there is a k-th score and the bound is strictly below it
pub record IsRightEntry (q : Query) (kth : Option ℤ) (e : Line) (s : Series) : Type 0 where
  pub named : e.id ≡ s.id
  pub above : IsAbove q s e.bound
  pub fits : FitsSigned w64 e.bound
  pub passed_over : e.skipped ≡ true → bound_is_below kth e.bound ≡ true

-- a right entry for each series of the query, by increasing ID
abbrev pub AreRightEntries : Query → Data → List Line → Type 0
AreRightEntries q c es = AllZip (IsRightEntry q (kth_of_query q c)) es (morsels q c)

-- how many of these candidates belong to the station of an entry; for one that was skipped none is counted
abbrev pub count_of : List Candidate → Line → ℕ
count_of best e = if e.skipped then 0 else count_by (λ c. same_id c.id e.id) best

-- the counts that a version has of these best candidates
abbrev pub counts_of : ℕ → List Candidate → List Line → List ℕ
counts_of version best es = if version == 2 then map (count_of best) es else []

-- a right certificate of a query and data, whatever its version, its bounds and skips: it has the query, the k-th
-- score, a right entry for each series, and in version 2 how many of the best candidates belong to each
pub record IsFoundCertificate (q : Query) (c : Data) (bytes : List ℕ) : Type 0 where
  pub version : ℕ
  pub known : (version ≡ 1) ⊎ (version ≡ 2)
  pub entries : List Line
  pub right : AreRightEntries q c entries
  pub text : bytes ≡ certificate_text (record {
    version = version;
    query = q;
    kth = kth_of_query q c;
    entries = entries;
    counts = counts_of version (best_of_query q c) entries;
  })

-- what a certificate says is right: it has the query, the k-th score, a right entry for each series, and the
-- counts that its version has of the best candidates
pub record SaysRightCertificate (q : Query) (c : Data) (v : Certified) : Type 0 where
  pub asked : v.query ≡ q
  pub kth : v.kth ≡ kth_of_query q c
  pub entries : AreRightEntries q c v.entries
  pub counts : v.counts ≡ counts_of v.version (best_of_query q c) v.entries

-- ---- the certificate of some best candidates

-- the score of the k-th of these candidates, if there are k
abbrev pub kth_of_best : ℕ → List Candidate → Option ℤ
kth_of_best k best = option_map (λ c. c.score) (slice_get best (k - 1))

-- the text of the certificate of version 2 with these best candidates and entries
abbrev pub certificate_of_best : Query → List Candidate → List Line → List ℕ
certificate_of_best q best es = certificate_text (record {
  version = 2;
  query = q;
  kth = kth_of_best q.k best;
  entries = es;
  counts = counts_of 2 best es;
})
