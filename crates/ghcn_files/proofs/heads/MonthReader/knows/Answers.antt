use Rattle.std.proofs.Common.{sym, ◌∙◌}
use Rattle.ghcn_files.specs.Heads.{BeginsWith, head_of_row}
use Rattle.ghcn_files.proofs.KnownHeads.{ends_there, head_stands}
use Rattle.ghcn_files.proofs.heads.MonthReader.knows.Goals as goal

-- a line that begins with the columns has the row's head
pub returns-then-is_of_length : goal.returns-then-is_of_length
returns-then-is_of_length c = λ same.
    let line = c.args.line.now in
    let long = c.is_of_length.ensures.long c.if-is_of_length.true in
    let known = c.args.self.now.knows c.if-not-self.false in
    let begins : BeginsWith c.args.self.now.columns line = record {
      long = long;
      ends = ends_there line (c.is_of_length.ensures.short c.if-is_of_length.true);
      front = sym c.in-Some.ensures.cases.same ∙ sym (c.are_same.ensures same);
    } in
    let head = head_stands line (head_of_row c.args.self.now.row) (known.head line begins) in
    record { long = long; fine = head.0; head = head.1; many = known.many }
