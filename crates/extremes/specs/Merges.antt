-- What merging returns for texts of reports and certificates, and for the files of these that are named.
use Rattle.std.specs.Prelude.{◌≡◌, ℕ, Bool, false, List, [], ◌∷◌, map, Option, Result, Ok, Err, string_bytes, ⊤}
use Rattle.std.specs.List.{AllZip, flat_map}
use Rattle.command_line.specs.declared.asked.Part.{Part}
use Rattle.ghcn_fields.specs.Refusals.{IsRefusal, OrMemory}
use Rattle.rank_query.specs.declared.fault.QueryFault.{QueryFault}
use Rattle.rank_query.specs.Meaning.Asked.{Query}
use Rattle.rank_query.specs.Reading.{read_query}
use Rattle.rank_input.specs.Feeding.{AreAllOf, AreOpenedFor, Opening}
use Rattle.rank_merge.specs.declared.fault.MergeFault.{MergeFault}
use Rattle.rank_merge.specs.Merging as merging
use Rattle.rank_merge.specs.Merging.{Texts, merge}
use Rattle.rank_merge.specs.Laws.{AreRightForAll, AreMeasuredForAll, IsOutcomeWhereRight}
use Rattle.extremes.specs.declared.papers.Papers.{Papers}
use Rattle.extremes.specs.declared.merge.PartTexts.{PartTexts}
use Rattle.extremes.specs.declared.merge.MergingFault.{MergingFault}
use Rattle.extremes.specs.declared.merge.MergingFault.TheVariants as faults
use Rattle.extremes.specs.declared.merge.MergingFault.TheVariants.{Parts}

-- the texts of parts, those of a part side by side
abbrev pub texts_of : List PartTexts → List Texts
texts_of parts = map (λ p. (p.report.items, p.certificate.items)) parts

-- what is merged, or the first error of the parts
abbrev pub of_parts : Result Texts MergeFault → Result Texts MergingFault
of_parts (Ok papers) = Ok papers
of_parts (Err why) = Err (Parts why)

-- what is merged for a query that was read, or the query's error
abbrev pub merged_for : Result Query QueryFault → List Texts → Result Texts MergingFault
merged_for (Ok asked) texts = of_parts (merge asked texts)
merged_for (Err cause) texts = Err (faults.Query cause)

-- what is merged for the query of a text, or the first error: the query's, or that of the parts
abbrev pub merged_of : List ℕ → List Texts → Result Texts MergingFault
merged_of query texts = merged_for (read_query query) texts

-- memory ran out
abbrev pub is_memory : MergingFault → Bool
is_memory (faults.Query cause) = false
is_memory (Parts why) = merging.is_memory why

-- a report and a certificate are those that are merged of these texts for the query of a text; if each part's are right
-- for its files, they are right for all files, with the bounds of the series if no station has series in two parts, and
-- no station has morsels in two; no line is counted as one of an unlisted station
pub record AreMerged (query : List ℕ) (texts : List Texts) (papers : Papers) : Type 0 where
  pub asked : Query
  pub read : read_query query ≡ Ok asked
  pub merged : merge asked texts ≡ Ok (papers.report.items, papers.certificate.items)
  pub right : AreRightForAll asked texts (papers.report.items, papers.certificate.items)
  pub measured : AreMeasuredForAll asked texts (papers.report.items, papers.certificate.items)
  pub apart : IsOutcomeWhereRight asked texts (Ok (papers.report.items, papers.certificate.items))
  pub unlisted : papers.unlisted ≡ 0

-- reports and certificates that are right for the parts' files are refused only if a station has morsels in two parts,
-- by an ID that is on two lines
abbrev pub IsRefusedWhereRight : List ℕ → List Texts → MergingFault → Type 0
IsRefusedWhereRight query texts (faults.Query cause) = ⊤
IsRefusedWhereRight query texts (Parts why) = (asked : Query) → read_query query ≡ Ok asked
    → OrMemory merging.is_memory (λ fault. IsOutcomeWhereRight asked texts (Err fault)) why

-- the report and the certificate that are merged of these texts, or the first error
abbrev pub IsMergeOf : List ℕ → List Texts → Result Papers MergingFault → Type 0
IsMergeOf query texts (Ok papers) = AreMerged query texts papers
IsMergeOf query texts (Err fault) =
    IsRefusal is_memory fault (merged_of query texts) × IsRefusedWhereRight query texts fault

-- the bytes of files by their paths, if they are known
abbrev pub Known : Type 0
Known = List ℕ → Option (List ℕ)

-- what is known of the bytes of a part's report and certificate
abbrev pub KnownPart : Type 0
KnownPart = Option (List ℕ) × Option (List ℕ)

-- that of the report and the certificate that a command names for a part, by the bytes of files by their paths
abbrev pub known_part : Known → Part → KnownPart
known_part bytes_of part = (bytes_of (string_bytes part.report), bytes_of (string_bytes part.certificate))

-- the paths of the report and the certificate of a part, in the order in which they are read
abbrev pub part_paths : Part → List (List ℕ)
part_paths part = string_bytes part.report ∷ string_bytes part.certificate ∷ []

-- those of all parts
abbrev pub parts_paths : List Part → List (List ℕ)
parts_paths parts = flat_map part_paths parts

-- these are all the bytes of the report and the certificate, if those are known
abbrev pub AreBothOf : KnownPart → Texts → Type 0
AreBothOf known texts = AreAllOf known.0 texts.0 × AreAllOf known.1 texts.1

-- the merge of all bytes of the report and the certificate of each part, in order
pub record MergesFiles (bytes_of : Known) (opens : Opening) (query : List ℕ) (parts : List Part)
    (answer : Result Papers MergingFault) : Type 0 where
  pub opened : AreOpenedFor is_memory opens (parts_paths parts) answer
  pub texts : List Texts
  pub all : AllZip AreBothOf (map (known_part bytes_of) parts) texts
  pub merged : IsMergeOf query texts answer
