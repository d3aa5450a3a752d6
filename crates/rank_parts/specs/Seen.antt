-- What the head has shown of rows and lines, for the tests that go through the lines.
use Rattle.std.specs.Prelude.{◌≡◌, ◌≤◌, List, [], length}
use Rattle.std.specs.List.{AllByRecursion}
use Rattle.rank_query.specs.Meaning.Asked.{Query}
use Rattle.rank_papers.specs.Report.{Named}
use Rattle.rank_papers.specs.Certificate.{Line, count_of}
use Rattle.rank_papers.specs.Papers.{of_rows, AreInOrder}
use Rattle.rank_parts.specs.InPieces.{rows_with}

-- each row precedes the next, there are at most as many as were asked for, and if none of them is counted at a line,
-- none belongs to its station
pub record IsSeen (q : Query) (rows : List Named) (e : Line) : Type 0 where
  pub order : AreInOrder (of_rows rows)
  pub few : length rows ≤ q.k
  pub none : count_of (of_rows rows) e ≡ 0 → rows_with e.id rows ≡ []

-- the same is true of each line
abbrev pub AreSeen : Query → List Named → List Line → Type 0
AreSeen q rows es = AllByRecursion (IsSeen q rows) es
