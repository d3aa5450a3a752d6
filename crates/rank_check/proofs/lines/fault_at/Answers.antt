use Rattle.std.proofs.Common.{ℕ, List, ap, ◌∙◌, get_or}
use Rattle.std.proofs.lemmas.List.{get_or-map}
use Rattle.std.proofs.lemmas.Option.{slice_get-get_or}
use Rattle.rank_papers.specs.Certificate.{Line, count_of}
use Rattle.rank_check.proofs.Failing.{fault-placed}
use Rattle.rank_check.proofs.lines.fault_at.Goals as goal

-- the line at the place has the number of rows at the place
pub returns : goal.returns
returns c = λ rows wanted q s e.
    let lines : List Line = c.args.lines.now in
    let place : ℕ = c.args.place in
    let own = ap (λ (ns : List ℕ). get_or ns place 0) wanted
    ∙ get_or-map (count_of rows) lines place _ 0 c.requires.within in
    fault-placed q c.args.kth rows c.args.counts.now lines place _ c.count_at-count.result s c.line_fault.result
    (c.line_fault.ensures rows own q s e) c.count_at-count.ensures (slice_get-get_or lines place _ c.requires.within)
