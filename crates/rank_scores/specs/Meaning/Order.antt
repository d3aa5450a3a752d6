-- The order of candidates.
use Rattle.std.specs.Prelude.{Bool}
use Rattle.std.specs.declared.cmp.Ordering.{Ordering}
use Rattle.std.specs.Ordering.{is_lt, nat_cmp, int_cmp, on, flip_args, then_cmp}
use Rattle.std.specs.Cmp.Lexicographic.{slice_cmp}
use Rattle.rank_scores.specs.declared.candidate.Candidate.{Candidate}

-- the order of candidates: by greater score, then by smaller ID, then by earlier first day
abbrev pub rank_cmp : Candidate → Candidate → Ordering
rank_cmp = then_cmp (on (λ c. c.score) (flip_args int_cmp))
    (then_cmp (on (λ c. c.id.0) (slice_cmp nat_cmp)) (on (λ c. c.first) int_cmp))

-- a comes before b in this order
abbrev pub precedes : Candidate → Candidate → Bool
precedes a b = is_lt (rank_cmp a b)
