-- What a plan asks of a run: how many candidates are wanted, and the bound and the candidates of each morsel.
use Rattle.std.specs.Prelude.{ℕ, ◌<◌, ◌≤◌, ◌^◌, List, [], length, ℤ, pos, ◌≤ℤ◌, slice_get}
use Rattle.std.specs.List.{flat_map, range_with_len, AllByRecursion}
use Rattle.std.specs.Option.{option_map_or}
use Rattle.ghcn_fields.specs.Floor.{IsScore}
use Rattle.rank_scores.specs.declared.candidate.Candidate.{Candidate}
use Rattle.rank_scores.specs.Candidates.{candidates}
use Rattle.rank_scores.specs.Order.{AreApart}
use Rattle.rank_sched.specs.Plan.{Plan}

-- how many are wanted, how many morsels there are, and of each number the bound and the candidates
pub record Task : Type 0 where
  pub k : ℕ
  pub len : ℕ
  pub bound : ℕ → ℤ
  pub candidates : ℕ → List Candidate

-- what a plan asks; a number past the last morsel has no candidates
abbrev pub task_of : Plan → Task
task_of p = record {
  k = p.query.k;
  len = length p.morsels;
  bound = λ m. option_map_or (λ x. x.bound) (slice_get p.morsels m) (pos 0);
  candidates = λ m. option_map_or (λ x. candidates p.query x.series) (slice_get p.morsels m) [];
}

-- the candidates of all morsels
abbrev pub all_of_task : Task → List Candidate
all_of_task t = flat_map t.candidates (range_with_len 0 t.len)

-- what is true of what every plan asks
pub record IsFair (t : Task) : Type 0 where
  pub some : 0 < t.k
  pub limit : t.k ≤ 1000
  pub few : t.len ≤ 2 ^ 20
  -- each candidate's score can be a floor, and none is above the bound of its morsel
  pub scores : (m : ℕ) → AllByRecursion (λ c. IsScore c.score) (t.candidates m)
  pub bounded : (m : ℕ) → AllByRecursion (λ c. c.score ≤ℤ t.bound m) (t.candidates m)
  -- no bound is above that of a smaller number
  pub falling : (m n : ℕ) → m ≤ n → n < t.len → t.bound n ≤ℤ t.bound m
  pub apart : AreApart (all_of_task t)
