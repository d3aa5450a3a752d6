use Rattle.std.proofs.Common.{ℕ, ◌++◌, get_or, map, ap, ◌∙◌, arith}
use Rattle.std.proofs.lemmas.List.{get_or_default, take_all}
use Rattle.ghcn_files.specs.KeptStations.{later}
use Rattle.ghcn_files.proofs.JoinedKeys.{later_more}
use Rattle.ghcn_files.proofs.keys.add_keys.Goals as goal

-- one key more comes after the others
pub loop-key-preserved : goal.loop-key-preserved
loop-key-preserved c =
    let next = c.args.next.now in
    let e : ℕ × ℕ × ℕ = (0, 0, 0) in
    let key : ℕ × ℕ × ℕ = get_or next c.loop-key.key-index e in
    later_more c.args.keys.now.items c.loop-key.keys.items c.push.new.self.items next c.args.count c.loop-key.key-index
    key c.loop-key-test.true (get_or_default next c.loop-key.key-index key e c.loop-key-test.true)
    c.loop-key.invariant c.in_ok-push.ensures.items

-- all of them do
pub returns : goal.returns
returns c =
    c.loop-key.invariant
    ∙ ap (λ (ks : _). c.args.keys.now.items ++ map (later c.args.count) ks)
    (take_all c.loop-key.key-index c.args.next.now (omega (arith, c.loop-key-test.false)))
