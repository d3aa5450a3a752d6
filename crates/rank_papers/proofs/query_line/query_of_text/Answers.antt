use Rattle.std.proofs.Common.{sym}
use Rattle.rank_papers.proofs.WrittenLines.{printable_text}
use Rattle.rank_papers.proofs.query_line.query_of_text.Goals as goal

-- bytes that can be printed are a text
pub unreachable-requires : goal.unreachable-requires
unreachable-requires c = c.in_default.ensures.cases.0 (printable_text c.args.text.now (sym
    c.if-not-are_printable.ensures))
