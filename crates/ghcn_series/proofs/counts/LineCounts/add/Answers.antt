use Rattle.std.proofs.Common.{sym, ◌∙◌, rules, refl}
use Rattle.std.proofs.Math.Bool.{or-false, or-true}
use Rattle.ghcn_series.proofs.Cited.{Blank, OfElement, Other, Odd}
use Rattle.ghcn_series.proofs.CountedLines.{line_of_kind}
use Rattle.ghcn_series.proofs.counts.LineCounts.add.Goals as goal

-- a blank line has no element
pub returns-in_ok-self-in-Blank : goal.returns-in_ok-self-in-Blank
returns-in_ok-self-in-Blank c = λ line is.
    let blank = line_of_kind line Blank (sym c.in-Blank.is ∙ is) in record {
      number = refl;
      blank = rw blank.0 (search rules);
      foreign = refl;
      odd = rw blank.1.1 refl;
      has_line = rw blank.0 (sym (or-false _));
      has_element = rw blank.1.0 (sym (or-false _));
    }

-- a line of an element isn't blank
pub returns-in-OfElement : goal.returns-in-OfElement
returns-in-OfElement c = λ line is.
    let element = line_of_kind line OfElement (sym c.in-OfElement.is ∙ is) in record {
      number = refl;
      blank = rw element.0 (search rules);
      foreign = refl;
      odd = rw element.1.1 refl;
      has_line = rw element.0 (sym (or-true _));
      has_element = rw element.1.0 (sym (or-true _));
    }

-- nor is one of another code
pub returns-in-Other : goal.returns-in-Other
returns-in-Other c = λ line is.
    let other = line_of_kind line Other (sym c.in-Other.is ∙ is) in record {
      number = refl;
      blank = rw other.0 (search rules);
      foreign = refl;
      odd = rw other.1.1 refl;
      has_line = rw other.0 (sym (or-true _));
      has_element = rw other.1.0 (sym (or-false _));
    }

-- nor is an odd one, which is counted
pub returns-in_ok-add-in-Odd : goal.returns-in_ok-add-in-Odd
returns-in_ok-add-in-Odd c = λ line is.
    let odd = line_of_kind line Odd (sym c.in-Odd.is ∙ is) in record {
      number = refl;
      blank = rw odd.0 (search rules);
      foreign = refl;
      odd = rw odd.1.1 c.in_ok-add-in-Odd.ensures;
      has_line = rw odd.0 (sym (or-true _));
      has_element = rw odd.1.0 (sym (or-false _));
    }
