-- What a worker took from the floor and gave to it, by its records.
use Rattle.std.specs.Prelude.{◌≡◌, ℕ, if◌then◌else◌, List, [], ◌∷◌, ◌++◌, map, ℤ, Option, None, option_to_list}
use Rattle.std.specs.List.{flat_map}
use Rattle.ghcn_fields.specs.Floor.{IsAtLeast}
use Rattle.rank_scores.specs.declared.candidate.Candidate.{Candidate}
use Rattle.rank_scores.specs.Order.{bound_is_below}
use Rattle.rank_pool.specs.First.{first, kth}
use Rattle.rank_pool.specs.Pools.{Pool}
use Rattle.rank_sched.specs.declared.record.Record.{Record}
use Rattle.rank_sched.specs.Task.{Task}

-- the morsels of some records
abbrev pub morsels_of : List Record → List ℕ
morsels_of rs = map (λ r. r.morsel) rs

-- the candidates that a record stands for: those of its morsel, unless it was skipped
abbrev pub scanned_for : Task → Record → List Candidate
scanned_for t r = if r.skipped then [] else t.candidates r.morsel

-- the candidates of the morsels that some records don't skip
abbrev pub scanned : Task → List Record → List Candidate
scanned t rs = flat_map (scanned_for t) rs

-- the pool that has the best k of some candidates
abbrev pub best_pool : ℕ → List Candidate → Pool
best_pool k xs = record { size = k; held = first k xs }

-- the pool of a worker with these records: the best of what it scanned
abbrev pub pool_of : Task → List Record → Pool
pool_of t rs = best_pool t.k (scanned t rs)

-- a record skips its morsel if and only if the floor that was seen is a score, and the bound is strictly below it
abbrev pub IsRightSkip : Task → Record → Type 0
IsRightSkip t r = r.skipped ≡ bound_is_below r.seen (t.bound r.morsel)

-- one turn: the floor that was seen, and the score that was raised
pub record Exchange : Type 0 where
  pub seen : Option ℤ
  pub raised : Option ℤ

-- after a morsel that isn't skipped, the k-th score of all that was scanned so far is raised, if there is one
abbrev pub exchange : Task → List Candidate → Record → Exchange
exchange t before r = record {
  seen = r.seen;
  raised = if r.skipped then None else kth t.k (before ++ t.candidates r.morsel);
}

-- the turns of a worker with these records, which had scanned some candidates before
abbrev pub exchanges : Task → List Candidate → List Record → List Exchange
exchanges t before [] = []
exchanges t before (r ∷ rs) = exchange t before r ∷ exchanges t (before ++ scanned_for t r) rs

-- the scores seen in some turns
abbrev pub seen_in : List Exchange → List ℤ
seen_in xs = flat_map (λ x. option_to_list x.seen) xs

-- the scores raised in some turns
abbrev pub raised_in : List Exchange → List ℤ
raised_in xs = flat_map (λ x. option_to_list x.raised) xs

-- each floor that was seen is at least all scores known at first, and all that were seen or raised before it
abbrev pub SeeUpward : List ℤ → List Exchange → Type 0
SeeUpward known [] = Unit {0}
SeeUpward known (x ∷ xs) = IsAtLeast x.seen known × SeeUpward
    (known ++ (option_to_list x.seen ++ option_to_list x.raised)) xs

-- the scores that a worker with these records raised
abbrev pub raised_by : Task → List Record → List ℤ
raised_by t rs = raised_in (exchanges t [] rs)
