use Rattle.std.proofs.Common.{◌≡◌, map, take, string_bytes}
use Rattle.command_line.proofs.given.copies.Given as goal

-- each text so far is copied
abbrev pub invariant-loop-text : goal.invariant-loop-text
invariant-loop-text l = map (λ s. string_bytes s) l.copies.items ≡ map (λ s. s.now) (take l.text-index l.texts)
