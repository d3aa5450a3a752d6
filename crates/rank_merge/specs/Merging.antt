-- The report and the certificate of all files from the texts of the parts, or why these are refused.
use Rattle.std.specs.Prelude.{ℕ, suc, Bool, true, false, if◌then◌else◌, List, [], ◌∷◌, Option, None, Some, Result, Ok}
use Rattle.std.specs.Prelude.{Err}
use Rattle.std.specs.List.{list_any}
use Rattle.ghcn_files.specs.declared.station.StationId.{StationId}
use Rattle.ghcn_files.specs.Meaning.Ids.{same_id}
use Rattle.rank_query.specs.Meaning.Asked.{Query}
use Rattle.rank_papers.specs.Meaning.Report.{report_text}
use Rattle.rank_papers.specs.declared.fault.Paper.{Paper}
use Rattle.rank_papers.specs.declared.fault.Paper.TheVariants.{Report, Certificate}
use Rattle.rank_papers.specs.Papers.{read_papers}
use Rattle.rank_papers.specs.ReportLines.{Reported}
use Rattle.rank_papers.specs.Certificate.{Line, Certified, certificate_text}
use Rattle.rank_head.specs.declared.fault.HeadFault.{HeadFault}
use Rattle.rank_head.specs.declared.fault.HeadFault.TheVariants as head
use Rattle.rank_head.specs.HeadTests.{head_fault}
use Rattle.rank_merge.specs.declared.fault.MergeFault.{MergeFault}
use Rattle.rank_merge.specs.declared.fault.MergeFault.TheVariants.{BadReport, BadCertificate, OtherQuery, OutOfOrder}
use Rattle.rank_merge.specs.declared.fault.MergeFault.TheVariants.{OtherFloor, NotRising, NotScanned, NotCounted, Twice}
use Rattle.rank_merge.specs.declared.fault.MergeFault.TheVariants.{Memory}
use Rattle.rank_merge.specs.Merged.{Part, merged_rows, merged_entries, merged_certificate}

-- ---- one part

-- the texts of a report and a certificate
abbrev pub Texts : Type 0
Texts = List ℕ × List ℕ

-- what the report and the certificate of the part of this number say, if each has its format
abbrev pub said : ℕ → Result (Reported × Certified) (Paper × ℕ) → Result Part MergeFault
said part (Err (Report, line)) = Err (BadReport part line)
said part (Err (Certificate, line)) = Err (BadCertificate part line)
said part (Ok both) = Ok (record { report = both.0; certificate = both.1 })

-- the refusal of the part of this number whose head has this error
abbrev pub of_head : ℕ → HeadFault → MergeFault
of_head part head.OtherReportQuery = OtherQuery part
of_head part head.OtherCertificateQuery = OtherQuery part
of_head part (head.OutOfOrder line) = OutOfOrder part line
of_head part head.OtherFloor = OtherFloor part
of_head part (head.NotRising line) = NotRising part line
of_head part (head.NotScanned line) = NotScanned part line
of_head part (head.NotCounted line) = NotCounted part line

-- the part of this number itself, unless its head has an error
abbrev pub unless_fault : ℕ → Option HeadFault → Part → Result Part MergeFault
unless_fault part None p = Ok p
unless_fault part (Some fault) p = Err (of_head part fault)

-- what the report and the certificate of the part of this number say, unless its head is refused
abbrev pub with_right_head : Query → ℕ → Result Part MergeFault → Result Part MergeFault
with_right_head q part (Err why) = Err why
with_right_head q part (Ok p) = unless_fault part (head_fault q p.report p.certificate) p

-- the part of this number, from 1, with these texts, or why it is refused
abbrev pub part_of : Query → ℕ → Texts → Result Part MergeFault
part_of q part t = with_right_head q part (said part (read_papers t.0 t.1))

-- ---- all parts

-- a part and those after it, or the first refusal
abbrev pub and_parts : Result Part MergeFault → Result (List Part) MergeFault → Result (List Part) MergeFault
and_parts (Err why) ps = Err why
and_parts (Ok p) (Err why) = Err why
and_parts (Ok p) (Ok ps) = Ok (p ∷ ps)

-- the parts with these texts, the first of which has this number, or the refusal of the first that is refused
abbrev pub parts_from : Query → ℕ → List Texts → Result (List Part) MergeFault
parts_from q part [] = Ok []
parts_from q part (t ∷ ts) = and_parts (part_of q part t) (parts_from q (suc part) ts)

-- the first ID of some lines that a later line has too
abbrev pub twice : List Line → Option StationId
twice [] = None
twice (e ∷ es) = if list_any (λ f. same_id e.id f.id) es then Some e.id else twice es

-- the report and the certificate of all, unless two lines have one ID
abbrev pub papers_unless : Option StationId → Query → List Part → Result Texts MergeFault
papers_unless (Some id) q ps = Err (Twice id)
papers_unless None q ps =
    Ok (report_text q (merged_rows q.k ps), certificate_text (merged_certificate q ps))

-- the report and the certificate of all parts, or the refusal of a part, or of the smallest ID that two lines have
abbrev pub papers_of : Query → Result (List Part) MergeFault → Result Texts MergeFault
papers_of q (Err why) = Err why
papers_of q (Ok ps) = papers_unless (twice (merged_entries ps)) q ps

-- the report and the certificate of all files from the texts of the parts, or why these are refused
abbrev pub merge : Query → List Texts → Result Texts MergeFault
merge q ts = papers_of q (parts_from q 1 ts)

-- ---- what is returned

-- memory ran out
abbrev pub is_memory : MergeFault → Bool
is_memory (Memory m) = true
is_memory why = false
