use Rattle.ghcn_series.proofs.Cited.{rules, ◌≡◌, length, ◌∙◌, ◌==◌}
use Rattle.ghcn_series.proofs.Nexts.{no-days}
use Rattle.ghcn_series.proofs.parts.Parts.is_empty.Goals as goal

-- there is no day if there is no block
pub returns : goal.returns
returns c =
    let none : c.is_empty.result ≡ (length c.args.self.now.numbers.items == 0) = search rules in
    none ∙ no-days c.args.self.now.numbers.items c.args.self.now.words.items c.args.self.now.values.items
    c.requires.blocks
