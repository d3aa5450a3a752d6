use Rattle.rank_query.proofs.Printing.{visible_text, ok_from_fact}
use Rattle.rank_query.proofs.text.write_visible.Goals as goal

-- visible bytes are a text
pub unwrap-requires : goal.unwrap-requires
unwrap-requires g c =
    ok_from_fact _ _ c.from_utf8.result c.from_utf8.ensures.cases (visible_text c.args.bytes.now c.requires)
