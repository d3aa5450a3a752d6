-- What is said about an error of reports and certificates to merge.
use Rattle.std.specs.Prelude.{ℕ, ◌-◌, List, [], ◌++◌, codes, string_bytes}
use Rattle.std.specs.List.{slice_get}
use Rattle.std.specs.Option.{option_map_or}
use Rattle.command_line.specs.declared.asked.Part.{Part}
use Rattle.rank_merge.specs.declared.fault.MergeFault.{MergeFault}
use Rattle.rank_merge.specs.declared.fault.MergeFault.TheVariants.{BadReport, BadCertificate, OtherQuery, OutOfOrder}
use Rattle.rank_merge.specs.declared.fault.MergeFault.TheVariants.{OtherFloor, NotRising, NotScanned, NotCounted}
use Rattle.rank_merge.specs.declared.fault.MergeFault.TheVariants.{Twice, Memory}
use Rattle.explanations.specs.Shown.{shown, shown_text}
use Rattle.explanations.specs.Texts.{place_text}

-- the path of the report of this part, from 1
abbrev pub report_path : List Part → ℕ → List ℕ
report_path parts part = option_map_or (λ (p : Part). string_bytes p.report) (slice_get parts (part - 1)) []

-- the path of its certificate
abbrev pub certificate_path : List Part → ℕ → List ℕ
certificate_path parts part = option_map_or (λ (p : Part). string_bytes p.certificate) (slice_get parts (part - 1)) []

-- what is said about an error of parts
abbrev pub merge_text : MergeFault → List Part → List ℕ
merge_text (BadReport part line) ps =
    place_text (report_path ps part) line ++ codes "no report has such a line there"
merge_text (BadCertificate part line) ps =
    place_text (certificate_path ps part) line ++ codes "no certificate has such a line there"
merge_text (OtherQuery part) ps =
    shown_text (report_path ps part) ++ codes ": " ++ codes "it or its certificate has another query than --query"
merge_text (OutOfOrder part line) ps =
    place_text (report_path ps part) line ++ codes "the row before it doesn't precede it"
merge_text (OtherFloor part) ps =
    shown_text (certificate_path ps part) ++ codes ": " ++ codes "its k-th score isn't that of its report's rows"
merge_text (NotRising part line) ps =
    place_text (certificate_path ps part) line ++ codes "its ID isn't above that of the line before"
merge_text (NotScanned part line) ps =
    place_text (report_path ps part) line ++ codes "the certificate has no scan line of its station"
merge_text (NotCounted part line) ps =
    place_text (certificate_path ps part) line ++ codes "its last number isn't that of its station's rows"
merge_text (Twice id) ps =
    shown id.0 ++ codes ": " ++ codes "certificates of two parts have this station; it may be in one part"
merge_text (Memory m) ps = codes "out of memory: the system gave no more"
