use Rattle.std.proofs.Common.{◌∙◌, Some, ap, refl, sym}
use Rattle.std.specs.Cmp.Lexicographic.{lists_agrees}
use Rattle.ghcn_files.proofs.station.StationIdPartialOrd.partial_cmp.Goals as goal

-- bytes are in the order that each two of them are in
pub returns : goal.returns
returns c = ap Some c.cmp.ensures ∙ sym (lists_agrees (λ a b. refl) c.args.self.now.0 c.args.other.now.0)
