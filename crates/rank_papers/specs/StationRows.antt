-- Rows counted by station, over their IDs in order.
use Rattle.std.specs.Prelude.{ℕ, Bool, true, false, ◌-◌, ◌==◌, ◌&&◌, ◌||◌, if◌then◌else◌, List, slice_get}
use Rattle.std.specs.List.{count_by}
use Rattle.std.specs.List.Sorted.{IsSorted}
use Rattle.std.specs.Option.{option_map_or}
use Rattle.std.specs.Ordering.{nat_cmp, is_lt, is_gt}
use Rattle.std.specs.Cmp.Lexicographic.{slice_cmp}
use Rattle.ghcn_files.specs.declared.station.StationId.{StationId}
use Rattle.ghcn_files.specs.Meaning.Ids.{same_id}
use Rattle.rank_papers.specs.Certificate.{Line}

-- no ID comes after the next
abbrev pub AreIdsInOrder : List StationId → Type 0
AreIdsInOrder ids = IsSorted (λ a b. slice_cmp nat_cmp a.0 b.0) ids

-- how many of some IDs are that of an entry; of one that was skipped none is counted
abbrev pub count_in : List StationId → Line → ℕ
count_in ids e = if e.skipped then 0 else count_by (λ i. same_id i e.id) ids

-- an ID comes after the one in front of a place, if there is one
abbrev pub is_behind : List StationId → StationId → ℕ → Bool
is_behind ids id place =
    place == 0 || option_map_or (λ i. is_lt (slice_cmp nat_cmp i.0 id.0)) (slice_get ids (place - 1)) false

-- it would come at that place, and is the same as neither neighbour
abbrev pub is_gap : List StationId → StationId → ℕ → Bool
is_gap ids id place =
    option_map_or (λ i. is_gt (slice_cmp nat_cmp i.0 id.0)) (slice_get ids place) true && is_behind ids id place
