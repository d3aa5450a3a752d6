use Rattle.std.proofs.Common.{◌≡◌, map, take}
use Rattle.command_line.specs.CommandLine.{all_words}
use Rattle.command_line.proofs.words.with_name.Given as goal

-- each argument so far is in its place, after the name
abbrev pub invariant-loop-word : goal.invariant-loop-word
invariant-loop-word l = map (λ s. s.now) l.all.items ≡ all_words (take l.word-index l.words)
