-- The texts of errors.
use Rattle.std.specs.Prelude.{ℕ, List, ◌++◌, codes}
use Rattle.std.specs.Fmt.{decimal}
use Rattle.ghcn_fields.specs.FaultTexts.{memory_text}
use Rattle.rank_merge.specs.declared.fault.MergeFault.{MergeFault}
use Rattle.rank_merge.specs.declared.fault.MergeFault.TheVariants.{BadReport, BadCertificate, OtherQuery, OutOfOrder}
use Rattle.rank_merge.specs.declared.fault.MergeFault.TheVariants.{OtherFloor, NotRising, NotScanned, NotCounted}
use Rattle.rank_merge.specs.declared.fault.MergeFault.TheVariants.{Twice, Memory}

-- the line of an error of parts
abbrev pub merge_fault_text : MergeFault → List ℕ
merge_fault_text (BadReport part line) =
    codes "refused part " ++ decimal part ++ codes " report line " ++ decimal line ++ codes " BadReport"
merge_fault_text (BadCertificate part line) =
    codes "refused part " ++ decimal part ++ codes " certificate line " ++ decimal line ++ codes " BadCertificate"
merge_fault_text (OtherQuery part) = codes "refused part " ++ decimal part ++ codes " OtherQuery"
merge_fault_text (OutOfOrder part line) =
    codes "refused part " ++ decimal part ++ codes " report line " ++ decimal line ++ codes " OutOfOrder"
merge_fault_text (OtherFloor part) = codes "refused part " ++ decimal part ++ codes " OtherFloor"
merge_fault_text (NotRising part line) =
    codes "refused part " ++ decimal part ++ codes " certificate line " ++ decimal line ++ codes " NotRising"
merge_fault_text (NotScanned part line) =
    codes "refused part " ++ decimal part ++ codes " report line " ++ decimal line ++ codes " NotScanned"
merge_fault_text (NotCounted part line) =
    codes "refused part " ++ decimal part ++ codes " certificate line " ++ decimal line ++ codes " NotCounted"
merge_fault_text (Twice id) = codes "refused twice " ++ id.0
merge_fault_text (Memory memory) = memory_text
