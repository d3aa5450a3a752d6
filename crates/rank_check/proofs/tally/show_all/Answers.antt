use Rattle.std.proofs.Common.{length-set, ◌∙◌, arith}
use Rattle.rank_check.specs.Marks.{shown_by}
use Rattle.rank_check.proofs.Each.{mapped-more}
use Rattle.rank_check.proofs.tally.show_all.Goals as goal

-- one mark more took the candidate into account
pub loop-mark-preserved : goal.loop-mark-preserved
loop-mark-preserved c =
    let so_far = c.loop-mark.invariant in
    let more = mapped-more (shown_by c.args.candidate.now) c.loop-mark.mark-items c.args.marks.now
    c.loop-mark.mark-index c.mark-item.result c.show.new.self (omega (arith, so_far.many)) so_far.many
    so_far.shown so_far.left c.show.ensures in
    record {
      many = length-set c.loop-mark.mark-items c.loop-mark.mark-index _ ∙ so_far.many;
      shown = more.0;
      left = more.1;
    }
