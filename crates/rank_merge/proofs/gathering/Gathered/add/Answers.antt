use Rattle.rank_merge.proofs.Cited.{◌≡◌, ◌∙◌, map, on_ok_weaker, named_in, first_rows}
use Rattle.rank_merge.proofs.RowFloors.{gathered_rows}
use Rattle.rank_merge.proofs.gathering.Gathered.add.Goals as goal

-- the floor is one of the rows of all parts, too
pub settle-requires-clause-floor : goal.settle-requires-clause-floor
settle-requires-clause-floor c =
    (gathered_rows c.args.k c.args.self.now.floor c.args.self.now.rows.items c.args.papers.report.rows.items
    c.drop_behind.new.rows.items c.append.new.self.items c.requires.floor c.drop_behind.ensures
    c.in_ok-append.ensures.items).1

-- the rows that weren't taken aren't among the first
pub returns-clause-rows : goal.returns-clause-rows
returns-clause-rows c =
    let taken = (gathered_rows c.args.k c.args.self.now.floor c.args.self.now.rows.items
    c.args.papers.report.rows.items c.drop_behind.new.rows.items c.append.new.self.items c.requires.floor
    c.drop_behind.ensures c.in_ok-append.ensures.items).0 in
    on_ok_weaker c.settle.result (λ (e : first_rows c.args.k (map named_in c.settle.new.self.rows.items)
    ≡ first_rows c.args.k (map named_in c.append.new.self.items)). e ∙ taken) c.settle.ensures.rows
