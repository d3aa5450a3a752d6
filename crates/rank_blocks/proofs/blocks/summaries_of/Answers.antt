use Rattle.rank_blocks.proofs.Cited.{◌≡◌, ◌∷◌, to_z, of_z, w32, sym, ◌∙◌, arith, ints}
use Rattle.rank_blocks.proofs.ReadBlocks.{read-first}
use Rattle.rank_blocks.proofs.blocks.summaries_of.Goals as goal

-- no block is read
pub loop-next-init : goal.loop-next-init
loop-next-init c =
    let s = c.args.series.now in
    let split : s.days ≡ c.in-Some.first ∷ c.next.new.self = sym c.days-days.ensures.days ∙ c.in-Some.ensures.steps in
    let same : c.block.result ≡ to_z w32 (of_z w32 c.block.result) = omega (arith, ints) in
    let first = read-first c.args.score s c.in-Some.first c.next.new.self c.days-days.ensures.series split in
    rw (c.in_ok-summaries.ensures.items, ← same, c.block.ensures.value) first
