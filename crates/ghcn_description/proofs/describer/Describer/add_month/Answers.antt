use Rattle.std.proofs.Common.{◌≡◌, ℕ, Bool, true, List, Some, None, inl, sym, ◌∙◌, subst}
use Rattle.ghcn_files.specs.declared.month.Month.{Month}
use Rattle.ghcn_files.specs.declared.row.MonthRow.{MonthRow}
use Rattle.ghcn_files.specs.Elements.{everything, nothing}
use Rattle.ghcn_files.specs.Rows.{IsOfLine, IsRowOf}
use Rattle.ghcn_files.proofs.KeptElements.{is_kept-everything}
use Rattle.ghcn_files.specs.Listed.{AreListed, place_of}
use Rattle.ghcn_series.specs.Steps.{ReadsMonth}
use Rattle.ghcn_series.proofs.AlikeMonths.{same_read}
use Rattle.ghcn_series.proofs.ReadLines.{read-month, refused-month}
use Rattle.ghcn_description.proofs.DescribedLines.{counted-month, counted-unlisted}
use Rattle.ghcn_description.proofs.describer.Describer.add_month.Goals as goal

-- if all elements are kept, the row of a line has the days of its month
whole_row : {line : List ℕ} {row : MonthRow} (of : IsOfLine everything line row) → IsRowOf true of.month row
whole_row {row = row} of = subst (λ (k : Bool). IsRowOf k of.month row) (is_kept-everything row.element) of.row

-- the list is one of stations
pub place-place-requires : goal.place-place-requires
place-place-requires c = c.requires.read.1.1.1.read.read.months.listed

-- the row has the month's days
pub add_month-requires-clause-right : goal.add_month-requires-clause-right
add_month-requires-clause-right c = (c.requires.row.month, (c.requires.row.right, inl (whole_row c.requires.row)))

-- an earlier line has the month
pub returns-then-not-branch : goal.returns-then-not-branch
returns-then-not-branch c =
    let m : Month = c.requires.row.month in
    let adds = c.in_ok-add_month.ensures.added m c.requires.row.right (inl (whole_row c.requires.row)) in
    record {
      read = λ stations keep before l same of. tt;
      refused = λ stations keep before l same of failed.
          refused-month c.args.self.now.reader c.add_month.new.self l m (same_read l.bytes c.args.line.now same ∙ c.requires.row.read)
          (subst (ReadsMonth c.args.self.now.reader c.add_month.new.self m) c.if-not-branch.true adds)
          stations nothing before of.read;
    }

-- the month is counted for its station and element
pub returns-in_ok-count-in-Some : goal.returns-in_ok-count-in-Some
returns-in_ok-count-in-Some c =
    let m : Month = c.requires.row.month in
    let adds = c.in_ok-add_month.ensures.added m c.requires.row.right (inl (whole_row c.requires.row)) in
    let added = subst (ReadsMonth c.args.self.now.reader c.add_month.new.self m) c.if-not-branch.false adds in
    let there : place_of c.args.self.now.reader.stations c.args.row.now.id ≡ Some c.in-Some.place =
    sym c.place-place.ensures ∙ c.in-Some.is in
    let counted = c.in_ok-count-in-Some.ensures m c.requires.row.right (whole_row c.requires.row)
    (c.flagged_values.ensures m c.requires.row.read) in
    record {
      read = λ stations keep before l same of.
          let is = same_read l.bytes c.args.line.now same ∙ c.requires.row.read in
          counted-month stations keep before l m is c.args.self.now c.count.new.self c.add_month.new.self
          c.in-Some.place
          (subst AreListed of.read.listed of.read.read.months.listed)
          (subst (λ i. place_of stations i ≡ Some c.in-Some.place) c.requires.row.row.id
          (subst (λ ss. place_of ss c.args.row.now.id ≡ Some c.in-Some.place) of.read.listed there))
          (read-month c.args.self.now.reader c.add_month.new.self l m is c.in_ok-add_month.ensures.stations
          c.in_ok-add_month.ensures.keep added stations nothing before of.read) counted of;
      refused = λ stations keep before l same of failed. absurd cc;
    }

-- its station isn't listed
pub returns-in_ok-self-in-None : goal.returns-in_ok-self-in-None
returns-in_ok-self-in-None c =
    let m : Month = c.requires.row.month in
    let adds = c.in_ok-add_month.ensures.added m c.requires.row.right (inl (whole_row c.requires.row)) in
    let added = subst (ReadsMonth c.args.self.now.reader c.add_month.new.self m) c.if-not-branch.false adds in
    let nowhere : place_of c.args.self.now.reader.stations c.args.row.now.id ≡ None =
    sym c.place-place.ensures ∙ c.in-None.is in
    record {
      read = λ stations keep before l same of.
          let is = same_read l.bytes c.args.line.now same ∙ c.requires.row.read in
          counted-unlisted stations keep before l m is c.args.self.now c.add_month.new.self c.in_ok-self-in-None.field-0
          (subst (λ i. place_of stations i ≡ None) c.requires.row.row.id
          (subst (λ ss. place_of ss c.args.row.now.id ≡ None) of.read.listed nowhere))
          (read-month c.args.self.now.reader c.add_month.new.self l m is c.in_ok-add_month.ensures.stations
          c.in_ok-add_month.ensures.keep added stations nothing before of.read) c.in_ok-self-in-None.ensures of;
      refused = λ stations keep before l same of failed. absurd cc;
    }
