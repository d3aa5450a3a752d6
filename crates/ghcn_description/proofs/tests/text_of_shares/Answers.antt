use Rattle.std.proofs.Common.{◌≡◌, Result, Ok, ℕ, List, [], sym, ◌∙◌, subst}
use Rattle.ghcn_files.specs.declared.element.Keep.{Keep}
use Rattle.ghcn_files.specs.declared.station.Station.{Station}
use Rattle.ghcn_series.specs.Cut.{HasFed}
use Rattle.ghcn_series.specs.Fed.{Fed, Files, ended_files, more, nothing_fed, with_end}
use Rattle.ghcn_description.specs.Describing.{HasDescribedByRows}
use Rattle.ghcn_description.proofs.tests.text_of_shares.Goals as goal

-- two values that are returned alike are the same
ok_same : {A E : Type 0} {a b : A} → ◌≡◌ {A = Result A E} (Ok a) (Ok b) → a ≡ b
ok_same e = cc

-- one file of some stations
abbrev of : Keep → List Station → List ℕ → Fed
of keep stations bytes = record { keep = keep; stations = stations; files = with_end (more (ended_files []) bytes) }

-- both describers were fed for the same stations
pub join-requires : goal.join-requires
join-requires c =
    let stations : List Station = c.in-Ok.stations in
    let same : c.in-Ok-read.again ≡ c.in-Ok.stations =
    ok_same (sym c.in-Ok-read.ensures.ok ∙ c.in-Ok.ensures.ok) in
    let kept : c.nothing-2.result ≡ c.nothing.result = c.nothing-2.ensures ∙ sym c.nothing.ensures in
    let fed : Files = with_end (more (ended_files []) c.args.other.now) in
    let one = c.end_of_file.ensures.fed.holds _
    (c.piece.ensures.fed.holds (nothing_fed c.nothing.result stations) c.in_ok-first.ensures.fed) in
    let other = c.end_of_file-2.ensures.fed.holds _
    (c.piece-2.ensures.fed.holds (nothing_fed c.nothing-2.result c.in-Ok-read.again) c.in_ok-next.ensures.fed) in
    record {
      fed = of c.nothing.result stations c.args.file.now;
      files = fed;
      of_first = one;
      of_next = subst (λ (k : Keep). HasFed HasDescribedByRows c.end_of_file-2.new.self
          (of k stations c.args.other.now)) kept
          (subst (λ (ss : List Station). HasFed HasDescribedByRows c.end_of_file-2.new.self
          (of c.nothing-2.result ss c.args.other.now)) same other);
    }
