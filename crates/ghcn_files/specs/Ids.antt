-- Station IDs: eleven visible bytes.
use Rattle.std.specs.Prelude.{ℕ, Bool, ◌&&◌, ◌==◌, List, length}
use Rattle.std.specs.List.{list_all}
use Rattle.ghcn_files.specs.Meaning.Ids.{is_visible}

-- an ID is eleven visible bytes
abbrev pub is_id : List ℕ → Bool
is_id bytes = (length bytes == 11) && list_all is_visible bytes
