use Rattle.rank_merge.proofs.Cited.{◌≡◌, ℕ, List, ◌++◌, codes, sym, append_assoc, decimal}
use Rattle.std.proofs.Output.{has_written_of_eq}
use Rattle.rank_merge.proofs.fault.MergeFaultDisplay.fmt.Goals as goal

-- the text of an error at a line of a part may be joined from its end
at-line : (paper why : List ℕ) (part line : ℕ)
    → codes "refused part " ++ (decimal part ++ (paper ++ (decimal line ++ why)))
    ≡ codes "refused part " ++ decimal part ++ paper ++ decimal line ++ why
at-line paper why part line = simp append_assoc

pub returns-in-BadReport-clause-writes : goal.returns-in-BadReport-clause-writes
returns-in-BadReport-clause-writes g c = λ plain ok. rw c.in-BadReport.is (has_written_of_eq _ _ _ _ _
    (at-line (codes " report line ") (codes " BadReport") c.in-BadReport.part c.in-BadReport.line)
    (c.write.ensures.writes plain ok))

pub returns-in-BadCertificate-clause-writes : goal.returns-in-BadCertificate-clause-writes
returns-in-BadCertificate-clause-writes g c = λ plain ok. rw c.in-BadCertificate.is (has_written_of_eq _ _ _ _ _
    (at-line (codes " certificate line ") (codes " BadCertificate") c.in-BadCertificate.part c.in-BadCertificate.line)
    (c.write-in-BadCertificate.ensures.writes plain ok))

pub returns-in-OtherQuery-clause-writes : goal.returns-in-OtherQuery-clause-writes
returns-in-OtherQuery-clause-writes g c = λ plain ok. rw c.in-OtherQuery.is (has_written_of_eq _ _ _ _ _
    (sym (append_assoc (codes "refused part ") (decimal c.in-OtherQuery.part) (codes " OtherQuery")))
    (c.write-in-OtherQuery.ensures.writes plain ok))

pub returns-in-OutOfOrder-clause-writes : goal.returns-in-OutOfOrder-clause-writes
returns-in-OutOfOrder-clause-writes g c = λ plain ok. rw c.in-OutOfOrder.is (has_written_of_eq _ _ _ _ _
    (at-line (codes " report line ") (codes " OutOfOrder") c.in-OutOfOrder.part c.in-OutOfOrder.line)
    (c.write-in-OutOfOrder.ensures.writes plain ok))

pub returns-in-NotRising-clause-writes : goal.returns-in-NotRising-clause-writes
returns-in-NotRising-clause-writes g c = λ plain ok. rw c.in-NotRising.is (has_written_of_eq _ _ _ _ _
    (at-line (codes " certificate line ") (codes " NotRising") c.in-NotRising.part c.in-NotRising.line)
    (c.write-in-NotRising.ensures.writes plain ok))

pub returns-in-NotScanned-clause-writes : goal.returns-in-NotScanned-clause-writes
returns-in-NotScanned-clause-writes g c = λ plain ok. rw c.in-NotScanned.is (has_written_of_eq _ _ _ _ _
    (at-line (codes " report line ") (codes " NotScanned") c.in-NotScanned.part c.in-NotScanned.line)
    (c.write-in-NotScanned.ensures.writes plain ok))

pub returns-in-NotCounted-clause-writes : goal.returns-in-NotCounted-clause-writes
returns-in-NotCounted-clause-writes g c = λ plain ok. rw c.in-NotCounted.is (has_written_of_eq _ _ _ _ _
    (at-line (codes " certificate line ") (codes " NotCounted") c.in-NotCounted.part c.in-NotCounted.line)
    (c.write-in-NotCounted.ensures.writes plain ok))
