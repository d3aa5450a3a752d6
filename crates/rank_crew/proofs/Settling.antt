-- A worker's turn after its claim: what it raises is what its record stands for.
use Rattle.std.proofs.Common.{◌≡◌, ℕ, cond, List, ◌++◌, ℤ, Option, Some, None, IfSome, ap, ◌∙◌, subst, option_to_list}
use Rattle.ghcn_fields.specs.Floor.{IsScore}
use Rattle.rank_pool.specs.Pools.{last_score}
use Rattle.rank_board.specs.declared.seat.Seat.{Seat}
use Rattle.rank_board.specs.declared.board.Board.{Board}
use Rattle.rank_board.specs.Seats.{raised_of, seen_of}
use Rattle.rank_board.specs.Calls.{Looks}
use Rattle.rank_sched.specs.declared.record.Record.{Record}
use Rattle.rank_sched.specs.declared.haul.Haul.{Haul}
use Rattle.rank_sched.specs.Task.{Task}
use Rattle.rank_sched.specs.Exchanges.{scanned, exchange}
use Rattle.rank_sched.specs.Machine.{record_of}
use Rattle.rank_sched.specs.Hauls.{records_of}
use Rattle.rank_sched.specs.Run.{HasSettled}
use Rattle.rank_crew.specs.Workers.{MaySettle, Settles}
use Rattle.rank_crew.proofs.Scores.{raised_then, raised_is_score}

module _ (b : Board) (t : Task) (w m : ℕ) (before looked : Seat) (old new : Haul) (floor raised : Option ℤ) (r : Record)
    (at : MaySettle b t before old) (made : r ≡ record_of t w m floor) (look : Looks b before floor looked)
    (settled : HasSettled t old r new) (is : raised ≡ cond r.skipped None (last_score new.pool)) where
  -- the morsel is settled, if the seat raised this
  pub settles : (after : Seat) → raised_of after ≡ raised_of looked ++ option_to_list raised
      → seen_of after ≡ seen_of looked → Settles b t w m before after old new
  settles after rose saw = record {
    floor = floor;
    settled = subst (λ q. HasSettled t old q new) made settled;
    raised = rose ∙ ap (λ (l : List ℤ). l ++ option_to_list raised) look.raised
        ∙ ap (λ (o : Option ℤ). raised_of before ++ option_to_list o)
        (raised_then t old new r raised at.fair at.pool settled is
        ∙ ap (λ (q : Record). (exchange t (scanned t (records_of old)) q).raised) made);
    seen = saw ∙ look.seen;
    above_guess = look.above_guess;
    above_seen = look.above_seen;
    above_raised = look.above_raised;
  }

  -- the score can be a floor
  pub score_to_raise : (s : ℤ) → raised ≡ Some s → IsScore s
  score_to_raise s e = let some : IfSome (Some s) IsScore =
      subst (λ (o : Option ℤ). IfSome o IsScore) e (raised_is_score t old new r raised at.fair at.pool settled is) in
      some
