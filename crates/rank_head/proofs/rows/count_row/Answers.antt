use Rattle.std.proofs.Common.{rules, refl, sym}
use Rattle.std.specs.Cmp.Lexicographic.{slice_cmp}
use Rattle.std.specs.Ordering.{nat_cmp}
use Rattle.std.proofs.lemmas.Fn.{always_returns_same}
use Rattle.rank_head.proofs.Scanned.{scanned_at, not_scanned, searchable}
use Rattle.rank_head.proofs.Tallies.{line-counted}
use Rattle.rank_head.proofs.rows.count_row.Goals as goal

-- if none was found no line belongs to the station
pub returns-in_default-clause-scanned : goal.returns-in_default-clause-scanned
returns-in_default-clause-scanned c =
    sym (not_scanned c.args.id.now c.args.lines.now c.in_default.field-0
    (c.in_default.ensures.position (λ e. slice_cmp nat_cmp e.id.0 c.args.id.now.0)
    (always_returns_same _ _ _ (λ a r g called. search rules))
    (searchable c.args.id.now c.args.lines.now c.requires.rise)))

-- the line that was found wasn't skipped
pub returns-then-scanned-clause-scanned : goal.returns-then-scanned-clause-scanned
returns-then-scanned-clause-scanned c =
    sym (scanned_at c.args.id.now c.args.lines.now c.in-Ok.place _ c.requires.rise c.in-Ok.ensures.bound
    (c.in-Ok.ensures.position (λ e. slice_cmp nat_cmp e.id.0 c.args.id.now.0)
    (always_returns_same _ _ _ (λ a r g called. search rules)) _))

-- and then one more is counted for it
pub returns-then-scanned-clause-counted : goal.returns-then-scanned-clause-counted
returns-then-scanned-clause-counted c = λ _.
    line-counted c.args.id.now c.args.lines.now _ _ c.in-Ok.place _ c.requires.rise c.in-Ok.ensures.bound
    (c.in-Ok.ensures.position (λ e. slice_cmp nat_cmp e.id.0 c.args.id.now.0)
    (always_returns_same _ _ _ (λ a r g called. search rules)) _)
    c.if-scanned.true refl

-- or it was
pub returns-else-scanned-clause-scanned : goal.returns-else-scanned-clause-scanned
returns-else-scanned-clause-scanned c =
    sym (scanned_at c.args.id.now c.args.lines.now c.in-Ok.place _ c.requires.rise c.in-Ok.ensures.bound
    (c.in-Ok.ensures.position (λ e. slice_cmp nat_cmp e.id.0 c.args.id.now.0)
    (always_returns_same _ _ _ (λ a r g called. search rules)) _))
