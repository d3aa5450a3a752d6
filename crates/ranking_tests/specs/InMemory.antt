-- What an archive in memory holds.
use Rattle.std.specs.Prelude.{ℕ, List, Option, option_map, bytes_eq}
use Rattle.std.specs.List.{find}
use denote.Ref.{Bor}

-- the text of a path
abbrev pub beside : List (Bor (List ℕ) × Bor (List ℕ)) → List ℕ → Option (List ℕ)
beside texts path = option_map (λ t. t.1.now) (find (λ t. bytes_eq t.0.now path) texts)
