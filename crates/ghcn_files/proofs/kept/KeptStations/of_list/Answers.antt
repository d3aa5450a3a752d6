use Rattle.std.proofs.Common.{◌++◌, ap, ◌∙◌}
use Rattle.std.proofs.lemmas.List.{append-nil}
use Rattle.ghcn_files.specs.KeptStations.{keys_from}
use Rattle.ghcn_files.proofs.JoinedKeys.{ordered_alone}
use Rattle.ghcn_files.proofs.kept.KeptStations.of_list.Goals as goal

-- the keys of the stations are in order
pub invariant_of-result : goal.invariant_of-result
invariant_of-result c =
    ordered_alone c.args.list.items c.new-rest.result.items c.in_ok-keys.keys.items c.put_in_order.new.keys.items
    c.put_in_order.result c.requires c.new-rest.ensures.items
    (c.in_ok-keys.ensures ∙ ap (keys_from 0) c.deref.ensures.value) c.put_in_order.ensures.same c.put_in_order.ensures.rise
    c.put_in_order.ensures.fall

-- no others were joined to them
pub returns : goal.returns
returns c = ap (λ (ss : _). c.args.list.items ++ ss) c.new-rest.ensures.items ∙ append-nil c.args.list.items
