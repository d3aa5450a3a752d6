use Rattle.std.proofs.Common.{sym, ap, ◌∙◌}
use Rattle.ghcn_series.specs.Says.{in_64_bits}
use Rattle.rank_check.proofs.Marks.{passed-place}
use Rattle.rank_check.proofs.tally.known.Goals as goal

-- what was counted before its place is what it doesn't precede
pub returns : goal.returns
returns c =
    let ahead = c.counted.ensures ∙ ap in_64_bits
    (sym (passed-place c.args.marks.now c.args.candidate.now c.place_of-place.result c.place_of-place.ensures.bound
    c.place_of-place.ensures.place)) in
    λ i. record { candidate = c.args.candidate.now; present = c.is_met.ensures i; ahead = ahead i }
