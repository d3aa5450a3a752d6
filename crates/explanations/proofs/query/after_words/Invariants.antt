use Rattle.std.proofs.Common.{◌≤◌, length}
use Rattle.explanations.proofs.query.after_words.Given as goal

-- the last word that was passed ends within the query
abbrev pub invariant-loop : goal.invariant-loop
invariant-loop l = l.end ≤ length l.query
