use Rattle.rank_crew.proofs.Groups.{gathers_if_one}
use Rattle.rank_crew.proofs.part.alone.Goals as goal

-- one worker is a group of one
pub returns-in-Ok-clause-gathers : goal.returns-in-Ok-clause-gathers
returns-in-Ok-clause-gathers g c =
    gathers_if_one (λ v. v.items) _ _ _ _ _ c.in-Ok.haul c.list_of.result c.list_of.ensures c.in-Ok.ensures.works
