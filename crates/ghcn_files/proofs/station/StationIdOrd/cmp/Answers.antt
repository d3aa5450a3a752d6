use Rattle.std.proofs.Common.{◌∙◌, ℕ, ap}
use Rattle.std.specs.Ordering.{nat_cmp, ordering_then}
use Rattle.ghcn_files.specs.KeptStations.{key_cmp, key_of}
use Rattle.ghcn_files.proofs.KeyOrder.{key_order}
use Rattle.ghcn_files.proofs.station.StationIdOrd.cmp.Goals as goal

-- IDs are in the order of their keys
pub returns : goal.returns
returns c =
    let a = c.args.self.now.0 in
    let b = c.args.other.now.0 in
    let x = c.key-front in
    let y = c.key-other_front in
    c.then.ensures
    ∙ ap (λ o. ordering_then o c.cmp-2.result) c.cmp.ensures
    ∙ ap (ordering_then (nat_cmp x.result.0 y.result.0)) c.cmp-2.ensures
    ∙ ap (λ (k : ℕ × ℕ). key_cmp k y.result) x.ensures.key
    ∙ ap (key_cmp (key_of a)) y.ensures.key
    ∙ key_order a b x.ensures.bytes y.ensures.bytes
