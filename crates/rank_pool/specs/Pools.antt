-- What a pool holds.
use Rattle.std.specs.Prelude.{◌≡◌, ℕ, ◌<◌, ◌≤◌, ◌-◌, List, [], length, take, Option, Some, ℤ, slice_get}
use Rattle.std.specs.Option.{option_map}
use Rattle.ghcn_fields.specs.Sorting.{placed}
use Rattle.rank_scores.specs.declared.candidate.Candidate.{Candidate}
use Rattle.rank_pool.specs.First.{comes_first, in_order, first}

-- how many candidates a pool has places for, and those that it holds, the best first
pub record Pool : Type 0 where
  pub size : ℕ
  pub held : List Candidate

-- a pool that was offered nothing
abbrev pub empty_pool : ℕ → Pool
empty_pool k = record { size = k; held = [] }

-- one candidate more: it takes its place in the order, and what comes after the last place falls out
abbrev pub taken : Pool → Candidate → Pool
taken p c = record { size = p.size; held = take p.size (placed comes_first c p.held) }

-- the pool holds the first k of these candidates, if it has k places
abbrev pub HoldsFirst : Pool → List Candidate → Type 0
HoldsFirst p xs = p.held ≡ first p.size xs

-- the score of the last place, if each place is taken
abbrev pub last_score : Pool → Option ℤ
last_score p = option_map (λ c. c.score) (slice_get p.held (p.size - 1))

-- what is true of every pool: it has 1 to 1000 places, holds no more candidates than that, and these are in order
pub record IsPool (p : Pool) : Type 0 where
  pub some : 0 < p.size
  pub limit : p.size ≤ 1000
  pub few : length p.held ≤ p.size
  pub order : in_order p.held ≡ p.held

-- what is held is a pool, each place of which is taken, the last by a candidate of this score
pub record IsFloor (p : Pool) (floor : ℤ) : Type 0 where
  pub pool : IsPool p
  pub last : last_score p ≡ Some floor
