use Rattle.std.proofs.Common.{take}
use Rattle.rank_table.specs.Reports.{placed_in, texts_in}
use Rattle.rank_table.proofs.FilesRead.{HasFound}
use Rattle.rank_table.proofs.reading.read_texts.Given as goal

-- the files so far were read
abbrev pub invariant-loop-place : goal.invariant-loop-place
invariant-loop-place l = HasFound (texts_in (take l.place l.texts)) (placed_in l.found.items)
