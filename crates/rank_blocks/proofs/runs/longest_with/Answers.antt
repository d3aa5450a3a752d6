use Rattle.rank_blocks.proofs.Cited.{inl, refl, arith}
use Rattle.rank_blocks.proofs.WordRuns.{few-ones}
use Rattle.rank_blocks.proofs.runs.longest_with.Goals as goal

-- no more follow one another than are set
pub returns-then-word-longest : goal.returns-then-word-longest
returns-then-word-longest c = record {
  no_less = omega arith;
  somewhere = inl refl;
  nowhere_more = λ from len within pass. omega (arith, few-ones len from c.args.word pass, c.if-word-longest.true);
}
