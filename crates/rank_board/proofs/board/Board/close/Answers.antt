use Rattle.std.proofs.Common.{◌≡◌, ◌+◌, ℕ, length, ap, subst, sym, ◌∙◌}
use Rattle.ghcn_fields.specs.Floor.{IsFloorOf}
use Rattle.rank_board.proofs.WholeSeat.{ruled_at_close, claims_once, claims_count, floor_is, seen_here}
use Rattle.rank_board.proofs.board.Board.close.Goals as goal

-- what the rule says of a board whose rights have all come back to one seat
pub returns-clause-whole : goal.returns-clause-whole
returns-clause-whole c = λ whole.
    let seat = c.args.seat.inner.me.0 in
    let l = ruled_at_close _ _ _ _ _ _ _ c.close_with-words.ensures.values.2 c.word-next.ensures c.word-floor.ensures in
    let all : length seat.claims + seat.rights ≡ c.args.self.table.shared.key.rights = ap
    (λ (n : ℕ). length seat.claims + n) (sym c.requires.seat.counted) ∙ whole in
    record {
      once = claims_once _ _ _ _ _ l.1 _ _ l.2 all;
      count = claims_count _ _ _ _ _ l.1 _ _ l.2 all;
      floor = subst (IsFloorOf c.args.self.table.shared.key.guess seat.raised) (sym c.floor_of_word.ensures)
          (floor_is _ _ _ _ _ l.1 _ _ l.2 all);
      seen = seen_here _ _ _ _ _ l.1 _ _ l.2 all;
    }
