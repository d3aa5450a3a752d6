-- What the end of a run goes through: a mark for each morsel, and the best of what was scanned so far.
use Rattle.std.specs.Prelude.{◌≡◌, ℕ, ◌<◌, Bool, false, not, ◌&&◌, List, length, map, ◌++◌, count_by, slice_index_or}
use Rattle.std.specs.List.{AllByRecursion, enumerate_from}
use Rattle.ghcn_fields.specs.Sorting.{sorted_by}
use Rattle.rank_pool.specs.Pools.{Pool}
use Rattle.rank_scores.specs.Morsels.{id_comes_first}
use Rattle.rank_sched.specs.declared.record.Record.{Record}
use Rattle.rank_sched.specs.declared.line.Line.{Line}
use Rattle.rank_sched.specs.Plan.{Morsel}
use Rattle.rank_sched.specs.Task.{Task}
use Rattle.rank_sched.specs.Exchanges.{scanned, best_pool}
use Rattle.rank_sched.specs.TakingBack.{back_below}

-- the mark of a morsel; past the last there is none
abbrev pub mark : List Bool → ℕ → Bool
mark marks m = slice_index_or marks m false

-- a mark for each of n morsels, true if and only if they pass
pub record AreMarks (test : ℕ → Bool) (n : ℕ) (marks : List Bool) : Type 0 where
  pub count : length marks ≡ n
  pub each : (m : ℕ) → m < n → mark marks m ≡ test m

-- each record belongs to one of n morsels
abbrev pub AreWithin : ℕ → List Record → Type 0
AreWithin n rs = AllByRecursion (λ r. r.morsel < n) rs

-- the pool has the best of what was scanned, or had its skip undone below n
abbrev pub HasBackBelow : Task → List Record → ℕ → Pool → Type 0
HasBackBelow t rs n pool = pool ≡ best_pool t.k (scanned t rs ++ back_below t rs n)

-- the line of a morsel with its number, by the marks of skips
abbrev pub marked_line : List Bool → ℕ × Morsel → Line
marked_line marks m = record { id = m.1.series.id; bound = m.1.bound; skipped = mark marks m.0 }

-- a line for each morsel, by increasing ID
abbrev pub marked_lines : List Bool → List Morsel → List Line
marked_lines marks ms = sorted_by (λ a b. id_comes_first a.id b.id) (map (marked_line marks) (enumerate_from 0 ms))

-- how many records of a skip have no mark in the end
abbrev pub unmarked : List Bool → List Record → ℕ
unmarked marks rs = count_by (λ r. r.skipped && not (mark marks r.morsel)) rs
