use Rattle.std.proofs.Common.{◌≡◌, Result, Ok, List, sym, ◌∙◌, subst}
use Rattle.ghcn_files.specs.Elements.{everything}
use Rattle.ghcn_files.specs.declared.station.Station.{Station}
use Rattle.ghcn_series.specs.Cut.{HasFed}
use Rattle.ghcn_series.specs.Fed.{Files, Fed}
use Rattle.ghcn_series.specs.Gathered.{HasReadByRows}
use Rattle.reading_tests.proofs.series.joins.joined.Goals as goal

-- two values that are returned alike are the same
ok_same : {A E : Type 0} {a b : A} → ◌≡◌ {A = Result A E} (Ok a) (Ok b) → a ≡ b
ok_same e = cc

-- files of some stations
abbrev of : List Station → Files → Fed
of stations files = record { keep = everything; stations = stations; files = files }

-- both readers were fed for the listed stations
pub join-requires : goal.join-requires
join-requires c =
    let same : c.in_ok-stations-2.field-0 ≡ c.in_ok-stations.field-0 =
    ok_same (sym c.in_ok-stations-2.ensures ∙ c.in_ok-stations.ensures) in
    record {
      fed = of c.in_ok-stations.field-0 c.in_ok-first.ensures.0;
      files = c.in_ok-next.ensures.0;
      of_first = c.in_ok-first.ensures.1;
      of_next = subst (λ (ss : List Station). HasFed HasReadByRows c.in_ok-next.next (of ss c.in_ok-next.ensures.0)) same
          c.in_ok-next.ensures.1;
    }
