use Rattle.std.proofs.Common.{ℕ, List, Some, inr, subst}
use Rattle.explanations.specs.People.{Adds, compressed_text}
use Rattle.explanations.proofs.people.ForPeople.explain_input.Goals as goal

-- it says that the file of the error looks compressed
pub returns-then-looks_compressed : goal.returns-then-looks_compressed
returns-then-looks_compressed g c = inr (inr (subst
    (λ (path : List ℕ). Adds c.args.self.now c.add.new.self (Some (compressed_text path))) c.path-path.ensures c.add.ensures))
