use Rattle.std.proofs.Common.{◌≡◌, length}
use Rattle.std.specs.Prelude.{filter}
use Rattle.std.specs.List.{fold}
use Rattle.rank_scores.specs.Meaning.Candidates.{Spells, admitted}
use Rattle.rank_scores.specs.Candidates.{contenders_among, test_of}
use Rattle.rank_scores.specs.Spells.{offered_of_kind, spell_in}
use Rattle.rank_scores.proofs.spell.scan_spells.Given as goal

-- once what is still to be offered is, the sink is as it will be
abbrev pub invariant-loop-part : goal.invariant-loop-part
invariant-loop-part g l =
    fold g.S.Sink.taken l.sink (offered_of_kind l.id (spell_in l.run) (filter (λ x. test_of l.spell x.1) l.admitted))
    ≡ fold g.S.Sink.taken l.fn.sink (contenders_among l.id (Spells (test_of l.spell)) (admitted l.query l.series))

-- each part takes a day at least
abbrev pub decreases-loop-part : goal.decreases-loop-part
decreases-loop-part g l = length l.admitted
