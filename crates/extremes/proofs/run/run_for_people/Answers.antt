use Rattle.std.proofs.Common.{inl, inr, refl}
use Rattle.extremes.proofs.run.run_for_people.Goals as goal

-- nobody reads words
pub returns-then-not-is_read : goal.returns-then-not-is_read
returns-then-not-is_read g c = record {
  between = c.run_command-ending.new.messages;
  due = c.run_command-ending.ensures;
  more = inl refl;
}

-- people read them
pub returns : goal.returns
returns g c = record {
  between = c.run_command-ending.new.messages;
  due = c.run_command-ending.ensures;
  more = inr (c.if-not-is_read.false, c.print_words.ensures);
}
