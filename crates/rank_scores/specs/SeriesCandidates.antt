-- What is true of the candidates of every series, as statements for the contract of a public function.
use Rattle.std.specs.Prelude.{◌≡◌, ◌↔◌, true, ◌⊎◌, ℤ}
use Rattle.std.specs.List.{Contains, IsDistinct}
use Rattle.ghcn_series.specs.Meaning.Series.{Series}
use Rattle.ghcn_series.specs.Series.{IsSeries}
use Rattle.rank_query.specs.declared.per.Per.TheVariants.{Each}
use Rattle.rank_query.specs.Meaning.Asked.{Query, IsAsked}
use Rattle.rank_scores.specs.declared.candidate.Candidate.{Candidate}
use Rattle.rank_scores.specs.Candidates.{contenders, candidates, AreTheContenders, AreTheCandidates, RiseByFirstDay}
use Rattle.rank_scores.specs.Meaning.Groups.{are_rivals}
use Rattle.rank_scores.specs.Meaning.Order.{precedes}
use Rattle.rank_scores.specs.Order.{AreApart}
use Rattle.rank_scores.specs.Morsels.{IsAbove, NoneIsAbove}

-- the contenders that are listed are those with the property, and no others
abbrev pub ListsTheContenders : Type 0
ListsTheContenders = (q : Query) (s : Series) → IsAsked q → IsSeries s → AreTheContenders q s (contenders q s)

-- the candidates that are listed are those with the property, and no others
abbrev pub ListsTheCandidates : Type 0
ListsTheCandidates = (q : Query) (s : Series) → IsAsked q → IsSeries s → AreTheCandidates q s (candidates q s)

-- they are listed by increasing first day
abbrev pub ListsByFirstDay : Type 0
ListsByFirstDay = (q : Query) (s : Series) → IsSeries s → RiseByFirstDay (candidates q s)

-- no two of them begin on one day
abbrev pub ListsNoneTwice : Type 0
ListsNoneTwice = (q : Query) (s : Series) → IsSeries s → AreApart (candidates q s)

-- no listed candidate is above a number if and only if none is that has the property
abbrev pub BoundsEachCandidate : Type 0
BoundsEachCandidate =
    (q : Query) (s : Series) → IsAsked q → IsSeries s → (bound : ℤ) → IsAbove q s bound ↔ NoneIsAbove q s bound

-- without groups each contender is a candidate
abbrev pub EachStays : Type 0
EachStays = (q : Query) (s : Series) → q.per ≡ Each → candidates q s ≡ contenders q s

-- no two candidates are rivals
abbrev pub NoneAreRivals : Type 0
NoneAreRivals = (q : Query) (s : Series) → IsSeries s → IsDistinct (are_rivals q.per) (candidates q s)

-- each contender is a candidate, or a candidate that is its rival precedes it
abbrev pub EachIsLed : Type 0
EachIsLed =
    (q : Query) (s : Series) → IsSeries s → (c : Candidate) → Contains (contenders q s) c
    → Contains (candidates q s) c ⊎ ((d : Candidate) × Contains (candidates q s) d
    × (are_rivals q.per d c ≡ true) × (precedes d c ≡ true))
