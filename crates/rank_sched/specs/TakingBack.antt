-- Which skips of a run stay, each by itself.
use Rattle.std.specs.Prelude.{ℕ, zero, suc, Bool, ◌&&◌, ◌||◌, not, ◌==◌, nat_lt, if◌then◌else◌, List, [], ◌++◌}
use Rattle.std.specs.Prelude.{count_by}
use Rattle.std.specs.List.{flat_map, list_any}
use Rattle.rank_scores.specs.declared.candidate.Candidate.{Candidate}
use Rattle.rank_scores.specs.Order.{bound_is_below}
use Rattle.rank_pool.specs.First.{kth}
use Rattle.rank_sched.specs.declared.record.Record.{Record}
use Rattle.rank_sched.specs.Task.{Task}

-- the candidates of a record's morsel, if it was scanned in the run, or skipped and comes before m
abbrev pub known_for : Task → ℕ → Record → List Candidate
known_for t m r = if not r.skipped || nat_lt r.morsel m then t.candidates r.morsel else []

-- the candidates of all morsels scanned in the run, and of all that were skipped and come before the morsel m
abbrev pub known_before : Task → List Record → ℕ → List Candidate
known_before t rs m = flat_map (known_for t m) rs

-- these have a k-th score, and the bound of the morsel m is strictly below it
abbrev pub is_justified : Task → List Record → ℕ → Bool
is_justified t rs m = bound_is_below (kth t.k (known_before t rs m)) (t.bound m)

-- the morsel was skipped in the run
abbrev pub was_skipped : List Record → ℕ → Bool
was_skipped rs m = list_any (λ r. (r.morsel == m) && r.skipped) rs

-- the morsel was skipped, and the skip stays
abbrev pub stays : Task → List Record → ℕ → Bool
stays t rs m = was_skipped rs m && is_justified t rs m

-- the morsel was skipped, and the skip is undone
abbrev pub is_taken_back : Task → List Record → ℕ → Bool
is_taken_back t rs m = was_skipped rs m && not (is_justified t rs m)

-- how many skips are undone: records of a skip whose morsel isn't one in the end
abbrev pub taken_back : Task → List Record → ℕ
taken_back t rs = count_by (λ r. r.skipped && not (stays t rs r.morsel)) rs

-- the candidates of the morsels below n whose skips are undone, in the plan's order
abbrev pub back_below : Task → List Record → ℕ → List Candidate
back_below t rs zero = []
back_below t rs (suc n) = back_below t rs n ++ (if is_taken_back t rs n then t.candidates n else [])
