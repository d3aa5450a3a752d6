use Rattle.std.proofs.Common.{ℕ, List, Some, codes, subst}
use Rattle.explanations.specs.People.{Adds, file_text}
use Rattle.explanations.proofs.people.ForPeople.explain_names.Goals as goal

-- it says that there are no names
pub returns-in-Empty : goal.returns-in-Empty
returns-in-Empty g c = rw (c.in-Empty.is) (subst
    (λ (path : List ℕ). Adds c.args.self.now c.explain_file.new.self
    (Some (file_text path (codes "a folder without .dly files, or a list without names"))))
    c.as_str-in-Empty.ensures.value c.explain_file.ensures)

-- it says that a name isn't text
pub returns-in-NotText : goal.returns-in-NotText
returns-in-NotText g c = rw (c.in-NotText.is) (subst
    (λ (path : List ℕ). Adds c.args.self.now c.explain_file-in-NotText.new.self
    (Some (file_text path (codes "a name in it isn't UTF-8 text"))))
    c.as_str-in-NotText.ensures.value c.explain_file-in-NotText.ensures)

-- it says that memory ran out
pub returns-in-Memory : goal.returns-in-Memory
returns-in-Memory g c = rw (c.in-Memory.is) c.add.ensures
