use Rattle.std.proofs.Common.{rules, ap, ◌∙◌, w64}
use Rattle.std.proofs.lemmas.Int.{to_z-of_z}
use Rattle.rank_board.specs.Word.{score_word}
use Rattle.rank_board.proofs.StepsAllowed.{raise_allowed}
use Rattle.rank_board.proofs.board.Board.raise.Goals as goal

-- a raise may be taken, since the seat has a claim and the word is that of the score
pub fetch_max-requires : goal.fetch_max-requires
fetch_max-requires c =
    let word = c.word_of_score-word.ensures ∙ ap score_word (to_z-of_z w64 c.args.score c.ranges.score) in
    (search rules, search rules, raise_allowed _ _ _ _ _ c.args.score word c.requires.score c.requires.claimed)
