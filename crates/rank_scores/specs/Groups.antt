-- The contenders that no rival precedes.
use Rattle.std.specs.Prelude.{Bool, not, ◌&&◌, List, filter}
use Rattle.std.specs.List.{list_any}
use Rattle.rank_query.specs.declared.per.Per.{Per}
use Rattle.rank_scores.specs.declared.candidate.Candidate.{Candidate}
use Rattle.rank_scores.specs.Meaning.Order.{precedes}
use Rattle.rank_scores.specs.Meaning.Groups.{are_rivals}

-- a rival precedes the contender
abbrev pub is_outdone : Per → List Candidate → Candidate → Bool
is_outdone per all c = list_any (λ d. are_rivals per d c && precedes d c) all

-- the contenders that no rival precedes
abbrev pub leaders : Per → List Candidate → List Candidate
leaders per all = filter (λ c. not (is_outdone per all c)) all
