-- Rows counted by the lines of their stations.
use Rattle.std.specs.Prelude.{◌≡◌, ℕ, ◌+◌, Bool, ◌&&◌, not, if◌then◌else◌, List, map}
use Rattle.ghcn_files.specs.declared.station.StationId.{StationId}
use Rattle.ghcn_files.specs.Meaning.Ids.{same_id}
use Rattle.rank_papers.specs.Certificate.{Line}

-- a line belongs to this station, and its series wasn't skipped
abbrev pub hits : StationId → Line → Bool
hits i e = not e.skipped && same_id e.id i

-- 1 if that is so, and otherwise 0
abbrev pub hit : StationId → Line → ℕ
hit i e = if hits i e then 1 else 0

-- whatever is counted for each line, one more is counted for a line of this station whose series wasn't skipped
abbrev pub IsOneMore : StationId → List Line → List ℕ → List ℕ → Type 0
IsOneMore id es old new = (count : Line → ℕ) → old ≡ map count es → new ≡ map (λ e. hit id e + count e) es
