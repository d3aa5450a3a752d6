-- Reading a certificate line by line: what its text says, or the number of its first bad line.
use Rattle.std.specs.Prelude.{◌≡◌, ⊤, ℕ, ◌+◌, ◌-◌, ◌==◌, Bool, if◌then◌else◌, List, [], ◌∷◌, length, take, drop, map, codes, slice_range, Option, None, Some, Result, Ok, Err, ℤ}
use Rattle.std.specs.Option.{option_map, option_map_or}
use Rattle.ghcn_fields.specs.Meaning.Bytes.{same_bytes}
use Rattle.ghcn_fields.specs.Numbers.{natural, up_to}
use Rattle.ghcn_files.specs.Ids.{is_id}
use Rattle.rank_query.specs.Meaning.Asked.{Query}
use Rattle.rank_papers.specs.declared.fault.PaperFault.{PaperFault}
use Rattle.rank_papers.specs.declared.fault.PaperFault.TheVariants.{BadReport, BadCertificate, Memory}
use Rattle.rank_papers.specs.declared.paper.Certificate.{Certificate}
use Rattle.rank_papers.specs.declared.counted.Counted.{Counted}
use Rattle.rank_papers.specs.ReportLines.{first_word}
use Rattle.rank_papers.specs.Meaning.Certificate.{title_line, kth_line, has_count, entry_line, end_line}
use Rattle.rank_papers.specs.Certificate.{Line, Certified}
use Rattle.rank_papers.specs.Lines.{paper_lines, ends_by, up_to_end, exactly, number_in, query_in}

-- a k-th score or none, by its word
abbrev pub kth_word : List ℕ → Option (Option ℤ)
kth_word field = if same_bytes field (codes "none") then Some None else option_map (λ z. Some z) (number_in field)

-- the k-th score or none whose line this is
abbrev pub kth_in : List ℕ → Option (Option ℤ)
kth_in line = exactly kth_line line (kth_word (slice_range line 4 (length line - 1)))

-- the entry of a morsel with this ID, if it is eleven visible bytes
abbrev pub entry_with : List ℕ → List ℕ → ℤ → Option Line
entry_with word id bound = if is_id id then Some (record {
  id = record { 0 = id };
  bound = bound;
  skipped =
      same_bytes word (codes "skip");
}) else None

-- what comes after the ID in a line
abbrev pub behind_id : List ℕ → List ℕ
behind_id line = slice_range line 17 (length line - 1)

-- the entry in the columns of a line, whose bound ends at the next blank
abbrev pub entry_in_columns : List ℕ → Option Line
entry_in_columns line =
    option_map_or (entry_with (take 4 line) (slice_range line 5 16)) (number_in (first_word (behind_id line))) None

-- what comes after the first blank
abbrev pub behind_word : List ℕ → List ℕ
behind_word field = drop (length (first_word field) + 1) field

-- the count that a field writes, at most a thousand; 0 if a line has none
abbrev pub count_field : Bool → List ℕ → Option ℕ
count_field has field = if has then up_to 1000 (natural field) else Some 0

-- an entry with the count that a field writes, if its line has one
abbrev pub with_count : ℕ → List ℕ → Line → Option Counted
with_count version field e =
    option_map (λ n. record { entry = e; count = n }) (count_field (has_count version e) field)

-- the entry and the count in the columns of a line
abbrev pub counted_in_columns : ℕ → List ℕ → Option Counted
counted_in_columns version line =
    option_map_or (with_count version (behind_word (behind_id line))) (entry_in_columns line) None

-- the entry and the count whose line this is
abbrev pub entry_in : ℕ → List ℕ → Option Counted
entry_in version line = exactly (entry_line version) line (counted_in_columns version line)

-- the end line of that many entries, and what comes after it
abbrev pub ending : ℕ → List ℕ → List ℕ → Result (List Counted) ℕ
ending n line behind = ends_by (n + 4) (same_bytes line (end_line n)) (paper_lines behind)

-- the entries of these lines, which come after that many other entries, up to an end line with the number of all
abbrev pub entries_in : ℕ → ℕ → List (List ℕ) → Result (List Counted) ℕ
entries_in version n ls = up_to_end 4 (λ m. entry_in version) end_line n ls

-- the entries alone
abbrev pub entries_of : List Counted → List Line
entries_of ls = map (λ l. l.entry) ls

-- their counts, in a version that has them
abbrev pub counts_in : ℕ → List Counted → List ℕ
counts_in version ls = if version == 2 then map (λ l. l.count) ls else []

-- a certificate with these entries and counts
abbrev pub with_entries : ℕ → Query → Option ℤ → Result (List Counted) ℕ → Result Certified ℕ
with_entries version q s (Ok ls) = Ok (record {
  version = version;
  query = q;
  kth = s;
  entries = entries_of ls;
  counts = counts_in version ls;
})
with_entries version q s (Err n) = Err n

-- a k-th score, and entries
abbrev pub behind_query : ℕ → Query → List (List ℕ) → Result Certified ℕ
behind_query version q [] = Err 3
behind_query version q (l ∷ ls) =
    option_map_or (λ s. with_entries version q s (entries_in version 0 ls)) (kth_in l) (Err 3)

-- a query, and what follows it
abbrev pub behind_title : ℕ → List (List ℕ) → Result Certified ℕ
behind_title version [] = Err 2
behind_title version (l ∷ ls) = option_map_or (λ q. behind_query version q ls) (query_in l) (Err 2)

-- the version whose first line this is
abbrev pub version_in : List ℕ → Option ℕ
version_in line =
    if same_bytes line (title_line 1) then Some 1 else if same_bytes line (title_line 2) then Some 2 else None

-- a title, and what follows it
abbrev pub certified_lines : List (List ℕ) → Result Certified ℕ
certified_lines [] = Err 1
certified_lines (l ∷ ls) = option_map_or (λ version. behind_title version ls) (version_in l) (Err 1)

-- what a certificate says, or the number of its first line that doesn't match the format there
abbrev pub read_certificate : List ℕ → Result Certified ℕ
read_certificate bytes = certified_lines (paper_lines bytes)

-- what a certificate that was read says
abbrev pub certified_in : Certificate → Certified
certified_in c = record {
  version = c.version;
  query = c.query;
  kth = c.kth;
  entries = c.lines.items;
  counts = c.counts.items;
}

-- an error is out of memory, or the number of the line at which reading a certificate ends
abbrev pub IsBadCertificate : {A : Type 0} → Result A ℕ → PaperFault → Type 0
IsBadCertificate read (BadReport n) = ⊥
IsBadCertificate read (BadCertificate n) = read ≡ Err n
IsBadCertificate read (Memory m) = ⊤
