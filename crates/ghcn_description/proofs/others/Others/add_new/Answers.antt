use Rattle.std.proofs.Common.{Ok, Err, refl}
use Rattle.std.specs.Prelude.{OnOk}
use Rattle.ghcn_description.specs.declared.counts.CodeCount.{CodeCount}
use Rattle.ghcn_description.specs.declared.others.Others.{Others}
use Rattle.ghcn_description.specs.Steps.{CountsCode, KeepsMost}
use Rattle.ghcn_description.proofs.OtherCodes.{placed}
use Rattle.ghcn_description.proofs.others.Others.add_new.Goals as goal

-- the code is at its place, and the last one leaves if there is no room
pub returns : goal.returns
returns c =
    let mid : Others = record { counts = c.insert.new.self; further = c.args.self.now.further } in
    let one : CodeCount = record { code = c.args.code; lines = c.args.lines } in
    let step : KeepsMost mid c.trim.new.self → CountsCode c.args.self.now c.trim.new.self c.args.code c.args.lines =
    λ keeps. record {
      holds = λ f all is.
          placed f all c.args.self.now mid c.trim.new.self c.args.place one c.requires.some c.requires.place
          c.in_ok-insert.ensures.items refl keeps is;
    } in
    elim c.trim.result as
    (λ r. OnOk r (KeepsMost mid c.trim.new.self)
    → OnOk r (CountsCode c.args.self.now c.trim.new.self c.args.code c.args.lines)) [
      | Ok u ↦ step
      | Err e ↦ λ h. tt
    ] c.trim.ensures
