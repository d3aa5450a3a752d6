use Rattle.std.proofs.Common.{◌∙◌, List, sym, ap, refl}
use Rattle.std.specs.List.{count_by, enumerate_from}
use Rattle.ghcn_files.specs.declared.month.Reading.{Reading}
use Rattle.ghcn_files.specs.Flags.{is_flagged_value}
use Rattle.ghcn_files.proofs.Readings.{all_days}
use Rattle.ghcn_files.proofs.FlaggedDays.{flagged_within-none}
use Rattle.ghcn_files.proofs.flags.flagged_in.Goals as goal

-- if no day has a flag none counts
pub returns-else-has_flag : goal.returns-else-has_flag
returns-else-has_flag c =
    sym (flagged_within-none c.args.days c.args.line.now 31 (c.has_flag.ensures c.if-has_flag.false))
    ∙ ap (λ (rs : List Reading). count_by (is_flagged_value c.args.days) (enumerate_from 1 rs))
    (all_days c.args.line.now 31 refl)
