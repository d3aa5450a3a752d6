use Rattle.std.proofs.Common.{◌≡◌, List, [], map, None, ap, ◌∙◌}
use Rattle.rank_scores.specs.declared.candidate.Candidate.{Candidate}
use Rattle.rank_papers.specs.Papers.{candidates_of}
use Rattle.rank_check.specs.declared.tally.Mark.{Mark}
use Rattle.rank_check.specs.Survey.{met}
use Rattle.rank_check.specs.Marks.{candidates_at, known}
use Rattle.rank_check.proofs.Marks.{rows-unmet}
use Rattle.rank_check.proofs.tally.Tally.of.Goals as goal

-- nothing is known of the rows
pub returns : goal.returns
returns c =
    let rows : List Candidate = c.in_ok-rows.rows.items in
    let marks : List Mark = c.in_ok-marks.marks.items in
    let none : map (known marks) rows ≡ map (met []) (candidates_of c.args.rows.now) =
    ap (λ (l : List Mark). map (known l) rows) c.in_ok-marks.ensures.blank ∙ rows-unmet (candidates_at marks) rows
    ∙ ap (map (met [])) c.in_ok-rows.ensures in
    λ i. record { rows = none i; count = 0; highest = None }
