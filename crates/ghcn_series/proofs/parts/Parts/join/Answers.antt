use Rattle.ghcn_series.proofs.Cited.{arith, ◌≡◌, ◌∙◌, ◌-◌, List, ℤ, get_or, length, [], get_or_default, JoinsValues}
use Rattle.ghcn_series.proofs.Cited.{AreBlocks}
use Rattle.ghcn_series.proofs.PartsAdded.{join-days, join-blocks, IsJoin}
use Rattle.ghcn_series.proofs.ApartParts.{join-apart}
use Rattle.ghcn_series.proofs.parts.Parts.join.Goals as goal
use Rattle.ghcn_series.proofs.parts.Parts.join.Goals.{After-index}

-- the place of the last part, as the code computes it
place : (c : After-index) → length c.args.self.now.numbers.items - 1 ≡ c.len-last.result - 1
place c = omega (arith, c.len-last.ensures, c.args.self.now.numbers.ok.0)

-- more days join the last part
joins : (c : After-index) (r : List ℤ) → JoinsValues c.index.result.now c.args.values.now r
    → IsJoin c.args.self.now.numbers.items c.args.self.now.words.items c.args.self.now.values.items
    (c.len-last.result - 1) c.args.word c.args.values.now r
joins c r row =
    let vs : List (List ℤ) = c.args.self.now.values.items in
    let bs : AreBlocks c.args.self.now.numbers.items c.args.self.now.words.items vs = c.requires.parts.blocks in
    let at : c.len-last.result ≡ length c.args.self.now.numbers.items =
    omega (arith, c.len-last.ensures, c.args.self.now.numbers.ok.0) in
    let values : c.index.result.now ≡ get_or vs (c.len-last.result - 1) [] = c.index.ensures
    ∙ get_or_default vs _ c.index.result.now [] (omega (arith, bs.enough_values, c.requires.some)) in record {
      blocks = bs;
      last = omega (arith, c.requires.some);
      one = rw (place c) at c.requires.packed;
      fresh = rw (place c) at c.requires.fresh;
      row = rw values at row;
    }

-- the word that they join is that of the last part
word : (c : After-index) → c.index_mut.result.now ≡ get_or c.args.self.now.words.items (c.len-last.result - 1) 0
word c =
    let bs : AreBlocks c.args.self.now.numbers.items c.args.self.now.words.items c.args.self.now.values.items =
    c.requires.parts.blocks in
    c.index_mut.ensures.value ∙ get_or_default c.args.self.now.words.items _ c.index_mut.result.now 0
    (omega (arith, bs.enough_words, c.requires.some, c.len-last.ensures, c.args.self.now.numbers.ok.0))

-- the parts stay as they may be
pub returns-clause-parts : goal.returns-clause-parts
returns-clause-parts c =
    let own = (goal.at.returns-clause-parts c).After-index in
    let join = joins own c.joined.result c.joined.ensures in record {
      blocks = rw (word own) (join-blocks _ _ _ _ _ _ _ join);
      apart = rw (word own) (join-apart _ _ _ _ _ _ _ join c.requires.parts.apart);
      rise = c.requires.parts.rise;
    }

-- the days of the part are joined
pub returns-clause-joined : goal.returns-clause-joined
returns-clause-joined c =
    let own = (goal.at.returns-clause-joined c).After-index in
    rw (place own, word own) (join-days _ _ _ _ _ _ _ (joins own c.joined.result c.joined.ensures))
