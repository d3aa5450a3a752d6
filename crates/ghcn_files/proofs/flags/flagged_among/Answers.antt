use Rattle.std.proofs.Common.{◌∙◌, ◌≡◌, List, ℕ, map, sym, ap, refl, arith}
use Rattle.std.specs.List.{count_by, enumerate_from}
use Rattle.ghcn_files.specs.declared.month.Reading.{Reading}
use Rattle.ghcn_files.specs.Flags.{is_flagged_value}
use Rattle.ghcn_files.specs.Months.{reading, days_of_group}
use Rattle.ghcn_files.proofs.Readings.{all_days}
use Rattle.ghcn_files.proofs.FlaggedDays.{flagged_within, flagged_within-same}
use Rattle.ghcn_files.proofs.WholeLines.{first-say}
use Rattle.ghcn_files.proofs.flags.flagged_among.Goals as goal

-- the first columns of a line have its days
pub returns-in-Some : goal.returns-in-Some
returns-in-Some c =
    let days : ℕ = c.args.days in
    let line : List ℕ = c.args.line.now in
    let whole : List ℕ = c.in-Some.whole.now in
    let chunk = c.in-Some.ensures.cases in
    let all : (bytes : List ℕ) → flagged_within days bytes 31
    ≡ count_by (is_flagged_value days) (enumerate_from 1 (map (reading bytes) days_of_group)) =
    λ bytes. ap (λ (rs : List Reading). count_by (is_flagged_value days) (enumerate_from 1 rs))
    (all_days bytes 31 refl) in
    c.flagged_in.ensures
    ∙ sym (all whole)
    ∙ flagged_within-same days whole line (first-say whole line chunk.enough chunk.same) 31 (omega arith)
    ∙ all line
