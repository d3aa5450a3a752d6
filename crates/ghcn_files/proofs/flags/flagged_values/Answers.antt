use Rattle.std.proofs.Common.{◌≡◌, ◌∙◌, ℕ, List, length, map, sym, ap, pos}
use Rattle.std.specs.Prelude.{nat_lt}
use Rattle.std.specs.List.{count_by, enumerate_from}
use Rattle.jiff_core.specs.Calendar.{days_in_month}
use Rattle.ghcn_fields.specs.Meaning.Lines.{columns}
use Rattle.ghcn_files.specs.declared.month.Reading.{Reading}
use Rattle.ghcn_files.specs.Elements.{element_of}
use Rattle.ghcn_files.specs.Months.{days_of_group, reading}
use Rattle.ghcn_files.specs.Flags.{is_flagged_value, flagged_values}
use Rattle.ghcn_files.proofs.FlaggedDays.{days-read}
use Rattle.ghcn_files.proofs.flags.flagged_values.Goals as goal

-- the row has the year and the month of the line's month, and the line its days
pub returns : goal.returns
returns c = λ m read.
    let line : List ℕ = c.args.line.now in
    let of = c.requires in
    let same : of.month ≡ m = let both = sym of.read ∙ read in cc in
    let days : of.month.days ≡ map (reading line) days_of_group =
    days-read line (nat_lt (length line) 21) (element_of (columns 18 21 line)) of.month of.read in
    let rs : List Reading = map (reading line) days_of_group in
    let counted : ℕ → List Reading → ℕ = λ n rs. count_by (is_flagged_value n) (enumerate_from 1 rs) in
    c.flagged_among.ensures
    ∙ ap (λ (n : ℕ). counted n rs) c.days_in_month.ensures
    ∙ ap (λ (y : ℕ). counted (days_in_month (pos y) c.args.row.now.month) rs) of.row.year
    ∙ ap (λ (k : ℕ). counted (days_in_month (pos of.month.year) k) rs) of.row.month
    ∙ ap (counted (days_in_month (pos of.month.year) of.month.month)) (sym days)
    ∙ ap flagged_values same
