-- Worked certificates, by computation.
use Rattle.std.proofs.Common.{◌≡◌, ℕ, List, [], ◌∷◌, ◌++◌, refl, Some, None, true, false, Bool}
use Rattle.std.specs.Prelude.{codes, ℤ, pos, negsuc}
use Rattle.std.specs.Fmt.{digits}
use Rattle.ghcn_files.specs.declared.station.StationId.{StationId}
use Rattle.ghcn_files.specs.declared.element.Element.TheVariants.{Tmax, Tmin}
use Rattle.rank_query.specs.declared.score.Score.TheVariants.{Highest, Lowest}
use Rattle.rank_query.specs.Asked.{top}
use Rattle.rank_papers.specs.Certificate.{Line, certificate_text}

-- the stations
abbrev alpha : StationId
alpha = record { 0 = codes "ZZA00000001" }

abbrev bravo : StationId
bravo = record { 0 = codes "ZZA00000002" }

abbrev charlie : StationId
charlie = record { 0 = codes "ZZA00000003" }

-- lines, each with a line feed
abbrev text : List (List ℕ) → List ℕ
text [] = []
text (l ∷ ls) = l ++ 10 ∷ text ls

-- an entry
abbrev entry : Bool → StationId → ℤ → Line
entry skipped id bound = record { id = id; bound = bound; skipped = skipped }

-- two series were scanned, and one was skipped
three : certificate_text (record {
  version = 1;
  query = top 1 (Highest Tmax);
  kth = Some (pos 311);
  entries = entry false alpha (pos 311) ∷ entry false bravo (pos 311) ∷ entry true charlie (pos 250) ∷ [];
  counts = [];
}) ≡ text (
    codes "extremes certificate 1"
    ∷ codes "query top 1 highest TMAX"
    ∷ codes "kth 311"
    ∷ codes "scan ZZA00000001 311"
    ∷ codes "scan ZZA00000002 311"
    ∷ codes "skip ZZA00000003 250"
    ∷ codes "end 3"
    ∷ [])
unfolding digits
three = refl

-- the same in version 2, if one row belongs to the first series and none to the second
counted : certificate_text (record {
  version = 2;
  query = top 1 (Highest Tmax);
  kth = Some (pos 311);
  entries = entry false alpha (pos 311) ∷ entry false bravo (pos 311) ∷ entry true charlie (pos 250) ∷ [];
  counts = 1 ∷ 0 ∷ 0 ∷ [];
}) ≡ text (
    codes "extremes certificate 2"
    ∷ codes "query top 1 highest TMAX"
    ∷ codes "kth 311"
    ∷ codes "scan ZZA00000001 311 1"
    ∷ codes "scan ZZA00000002 311 0"
    ∷ codes "skip ZZA00000003 250"
    ∷ codes "end 3"
    ∷ [])
unfolding digits
counted = refl

-- a k-th score below zero
below_zero : certificate_text (record {
  version = 1;
  query = top 2 (Lowest Tmin);
  kth = Some (negsuc 2);
  entries = entry false alpha (pos 5) ∷ [];
  counts = [];
}) ≡ text (
    codes "extremes certificate 1"
    ∷ codes "query top 2 lowest TMIN"
    ∷ codes "kth -3"
    ∷ codes "scan ZZA00000001 5"
    ∷ codes "end 1"
    ∷ [])
unfolding digits
below_zero = refl

-- no series at all
none : certificate_text (record {
  version = 2;
  query = top 1 (Highest Tmax);
  kth = None;
  entries = [];
  counts = [];
}) ≡ text (
    codes "extremes certificate 2"
    ∷ codes "query top 1 highest TMAX"
    ∷ codes "kth none"
    ∷ codes "end 0"
    ∷ [])
unfolding digits
none = refl
