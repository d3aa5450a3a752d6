use Rattle.rank_table.proofs.Written.{row_written}
use Rattle.rank_table.proofs.records.write.Goals as goal

-- a record was written after what there was
pub returns : goal.returns
returns c = row_written _ c.args.writer.now c.write_byte_record.new.self _ c.in-Ok.ensures.bytes
    c.in-Ok.ensures.ended c.in-Ok.ensures.clean c.in-Ok.ensures.setup
