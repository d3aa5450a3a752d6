use Rattle.ghcn_series.specs.Fed.{files_of}
use Rattle.ghcn_series.proofs.cutter.Cutter.finish.Goals as goal

-- it is made of the files that were fed
pub returns-in-Ok-clause-ok : goal.returns-in-Ok-clause-ok
returns-in-Ok-clause-ok g c = record {
  is = λ fed is. let all = c.in_ok-all.ensures.ok.is fed is in
      c.in-Ok.ensures.is fed.stations fed.keep (files_of fed.files) all.few all.read all.number all.counted;
}
