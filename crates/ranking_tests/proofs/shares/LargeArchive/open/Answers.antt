use Rattle.std.proofs.Common.{◌∙◌, ap, sym}
use Rattle.std.specs.Prelude.{option_map}
use Rattle.ranking_tests.proofs.shares.LargeArchive.open.Goals as goal

-- the bytes are those of the path
pub returns-in-Some-clause-bytes : goal.returns-in-Some-clause-bytes
returns-in-Some-clause-bytes c = ap (option_map (λ t. t.now)) (sym c.in-Some.is) ∙ c.beside.ensures
