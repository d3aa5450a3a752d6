use Rattle.std.proofs.Common.{take}
use Rattle.rank_input.specs.Taken.{given, HasTaken, HasTakenSome}
use Rattle.rank_input.proofs.Texts.{texts}
use Rattle.rank_input.proofs.question.Question.of_files.Given as goal

-- the files so far were given
abbrev pub invariant-loop-file : goal.invariant-loop-file
invariant-loop-file l = record {
  taken : HasTaken l.question (given l.fn.query l.fn.stations (take l.file-index (texts l.files)));
  going : HasTakenSome l.question;
}
