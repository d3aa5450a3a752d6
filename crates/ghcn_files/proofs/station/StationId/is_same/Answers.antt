use Rattle.std.proofs.Common.{◌≡◌, ◌∙◌, ◌&&◌, Bool, true, false, sym, ap, arith}
use Rattle.std.specs.Prelude.{◌==◌}
use Rattle.std.proofs.lemmas.Bool.Decides.{nat_tests}
use Rattle.ghcn_files.proofs.ById.{equal_keys}
use Rattle.ghcn_files.proofs.station.StationId.is_same.Goals as goal

-- if the first parts of the keys are equal, the last ones decide
pub returns-then-front-other_front : goal.returns-then-front-other_front
returns-then-front-other_front c =
    let x = c.key-front.result in
    let y = c.key-other_front.result in
    let equal = c.if-front-other_front.true in
    let fronts : (x.0 == y.0) ≡ true = grind (arith, nat_tests) in
    sym (ap (λ (b : Bool). b && x.1 == y.1) fronts)
    ∙ equal_keys c.args.self.now c.args.other.now x y c.key-front.ensures.key c.key-other_front.ensures.key
    c.key-front.ensures.bytes c.key-other_front.ensures.bytes

-- if they aren't, nor are the IDs
pub returns-else-front-other_front : goal.returns-else-front-other_front
returns-else-front-other_front c =
    let x = c.key-front.result in
    let y = c.key-other_front.result in
    let differ = c.if-front-other_front.false in
    let fronts : (x.0 == y.0) ≡ false = grind (arith, nat_tests) in
    fronts ∙ sym (ap (λ (b : Bool). b && x.1 == y.1) fronts)
    ∙ equal_keys c.args.self.now c.args.other.now x y c.key-front.ensures.key c.key-other_front.ensures.key
    c.key-front.ensures.bytes c.key-other_front.ensures.bytes
