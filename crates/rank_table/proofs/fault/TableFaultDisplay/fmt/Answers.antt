use Rattle.std.proofs.Common.{◌≡◌, ℕ, List, ◌++◌, codes, sym, ap, ◌∙◌, append_assoc}
use Rattle.std.proofs.Output.{has_written_of_eq}
use Rattle.std.specs.Fmt.{decimal}
use Rattle.rank_table.specs.declared.fault.TableFault.{TableFault}
use Rattle.rank_table.specs.FaultTexts.{table_fault_text}
use Rattle.rank_table.proofs.fault.TableFaultDisplay.fmt.Goals as goal

-- the text of an error at a line of a file, from its end
at-line : (why : List ℕ) (file line : ℕ)
    → codes "refused file " ++ (decimal file ++ (codes " line " ++ (decimal line ++ why)))
    ≡ codes "refused file " ++ decimal file ++ codes " line " ++ decimal line ++ why
at-line why file line = sym (append_assoc (codes "refused file " ++ decimal file ++ codes " line ") (decimal line) why
    ∙ append_assoc (codes "refused file " ++ decimal file) (codes " line ") (decimal line ++ why)
    ∙ append_assoc (codes "refused file ") (decimal file) (codes " line " ++ (decimal line ++ why)))

-- a text of the error that was matched is that of the value
of-value : (self fault : TableFault) (text : List ℕ) → self ≡ fault → text ≡ table_fault_text fault
    → text ≡ table_fault_text self
of-value self fault text is same = same ∙ sym (ap table_fault_text is)

pub returns-in-BadReport-clause-writes : goal.returns-in-BadReport-clause-writes
returns-in-BadReport-clause-writes g c = λ plain ok. has_written_of_eq _ _ _ _ _
    (of-value _ _ _ c.in-BadReport.is (at-line (codes " BadReport") c.in-BadReport.file c.in-BadReport.line))
    (c.write.ensures.writes plain ok)

pub returns-in-NotListed-clause-writes : goal.returns-in-NotListed-clause-writes
returns-in-NotListed-clause-writes g c = λ plain ok. has_written_of_eq _ _ _ _ _
    (of-value _ _ _ c.in-NotListed.is (at-line (codes " NotListed") c.in-NotListed.file c.in-NotListed.line))
    (c.write-in-NotListed.ensures.writes plain ok)
