use Rattle.std.proofs.Common.{◌++◌, List, sym, ap, subst, ◌∙◌}
use Rattle.std.proofs.lemmas.List.{append-nil}
use Rattle.ghcn_files.specs.declared.station.Station.{Station}
use Rattle.ghcn_files.specs.KeptStations.{Differ}
use Rattle.ghcn_files.specs.Listed.{AreListed}
use Rattle.ghcn_files.proofs.Gathered.{list_lines, ordered_taken}
use Rattle.ghcn_files.proofs.JoinedKeys.{keys_apart}
use Rattle.ghcn_files.proofs.kept.KeptStations.of_reader.Goals as goal

-- stations whose keys don't rise aren't listed
pub returns-then-not-put_in_order-clause-repeated : goal.returns-then-not-put_in_order-clause-repeated
returns-then-not-put_in_order-clause-repeated c = λ are.
    c.put_in_order.ensures.fall c.if-not-put_in_order.true
    (subst Differ (sym c.reader.invariant.own)
    (keys_apart c.reader.inside.list.items (subst AreListed (sym c.reader.view_is) are)))

-- the keys of the stations are in order
pub invariant_of-result : goal.invariant_of-result
invariant_of-result c =
    ordered_taken c.reader.inside.list.items c.new-rest.result.items c.reader.inside.keys.items
    c.put_in_order.new.keys.items c.new-rest.ensures.items c.reader.invariant c.put_in_order.ensures.same
    (c.put_in_order.ensures.rise c.if-not-put_in_order.false)

-- no others were joined to them
pub returns-clause-stations : goal.returns-clause-stations
returns-clause-stations c =
    ap (λ (ss : List Station). c.reader.inside.list.items ++ ss) c.new-rest.ensures.items
    ∙ append-nil c.reader.inside.list.items ∙ c.reader.view_is

-- they are the list of each text of whose lines they are
pub returns-clause-listed : goal.returns-clause-listed
returns-clause-listed c =
    list_lines (c.reader.inside.list.items ++ c.new-rest.result.items) (invariant_of-result c).list
