-- The right head of a report and a certificate: what must hold of both without any data.
use Rattle.std.specs.Prelude.{◌≡◌, ◌↔◌, true, length, Option, None}
use Rattle.std.specs.List.{sum, AllByRecursion}
use Rattle.rank_query.specs.Meaning.Asked.{Query, IsAsked}
use Rattle.rank_papers.specs.Papers.{same_query, of_rows, AreInOrder}
use Rattle.rank_papers.specs.ReportLines.{Reported, IsReported}
use Rattle.rank_papers.specs.Certificate.{Certified, IsCertified, kth_of_best, counts_of}
use Rattle.rank_head.specs.declared.fault.HeadFault.{HeadFault}
use Rattle.rank_head.specs.HeadTests.{IdsRise, is_scanned, head_fault}

-- both have the query, the rows are in order, the k-th score is that of the rows, the IDs of the lines rise, each row
-- belongs to a series that was scanned, and the counts of the version are those of the rows
pub record IsRightHead (q : Query) (r : Reported) (z : Certified) : Type 0 where
  pub report : r.query ≡ q
  pub certificate : z.query ≡ q
  pub order : AreInOrder (of_rows r.rows)
  pub kth : z.kth ≡ kth_of_best q.k (of_rows r.rows)
  pub rise : IdsRise z.entries
  pub scanned : AllByRecursion (λ row. is_scanned z.entries row.0.id ≡ true) r.rows
  pub counts : z.counts ≡ counts_of z.version (of_rows r.rows) z.entries

-- there is no error if and only if the head is right, of a report and a certificate that can be
abbrev pub IsNoneWhereRight : Query → Reported → Certified → Option HeadFault → Type 0
IsNoneWhereRight q r z fault = IsReported r → IsCertified z → (fault ≡ None) ↔ IsRightHead q r z

-- no test of a head fails if and only if it is right
abbrev pub HeadsAreRight : Type 0
HeadsAreRight = (q : Query) (r : Reported) (z : Certified) → IsAsked q → IsNoneWhereRight q r z (head_fault q r z)

-- queries that can be asked are the same if their canonical texts are
abbrev pub OneQuery : Type 0
OneQuery = (a b : Query) → IsAsked a → IsAsked b → same_query a b ≡ true → a ≡ b

-- in version 2 the counts of a right head add up to the number of rows
abbrev pub CountsAddUp : Type 0
CountsAddUp = (q : Query) (r : Reported) (z : Certified) → IsRightHead q r z → z.version ≡ 2
    → sum z.counts ≡ length r.rows
