-- A sink that has no floor.
use Rattle.std.specs.Prelude.{◌≡◌, ℤ, ◌<ℤ◌}
use Rattle.rank_scores.specs.declared.candidate.Candidate.{Candidate}
use Rattle.rank_scores.specs.declared.floor.Floorless.{Floorless}

-- the sink with one candidate more
abbrev pub offered_to : {S : Type 0} → (S → Candidate → S) → Floorless S → Candidate → Floorless S
offered_to taken f c = record { sink = record f.sink { now = taken f.sink.now c } }

-- each candidate that scores less than this leaves the sink as it is
abbrev pub IgnoresBelow : {S : Type 0} → (S → Candidate → S) → Floorless S → ℤ → Type 0
IgnoresBelow taken f floor = (c : Candidate) → c.score <ℤ floor → offered_to taken f c ≡ f
