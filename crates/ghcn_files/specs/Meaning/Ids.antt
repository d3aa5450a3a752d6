-- The bytes of station IDs, and when two IDs are the same.
use Rattle.std.specs.Prelude.{ℕ, Bool, ◌&&◌, nat_le}
use Rattle.ghcn_fields.specs.Meaning.Bytes.{same_bytes}
use Rattle.ghcn_files.specs.declared.station.StationId.{StationId}

-- a byte that shows in print, from `!` to `~`
abbrev pub is_visible : ℕ → Bool
is_visible b = nat_le 33 b && nat_le b 126

-- two IDs are the same
abbrev pub same_id : StationId → StationId → Bool
same_id a b = same_bytes (a.0) (b.0)
