-- The text of each line of a certificate.
use Rattle.std.specs.Prelude.{ℕ, ◌==◌, Bool, ◌&&◌, not, if◌then◌else◌, List, [], ◌∷◌, ◌++◌, codes, Option, ℤ}
use Rattle.std.specs.Option.{option_map_or}
use Rattle.std.specs.Fmt.{decimal}
use Rattle.std.specs.Fmt.{signed_decimal}
use Rattle.rank_sched.specs.declared.line.Line.{Line}
use Rattle.rank_papers.specs.declared.counted.Counted.{Counted}
use Rattle.rank_papers.specs.Meaning.Report.{text_line}

-- the first line of a certificate, which names the version of its format, 1 or 2
abbrev pub title_line : ℕ → List ℕ
title_line version =
    text_line ((if version == 1 then codes "extremes certificate 1" else codes "extremes certificate 2") ∷ [])

-- the line of a k-th score, or of none
abbrev pub kth_line : Option ℤ → List ℕ
kth_line kth = text_line (codes "kth" ∷ option_map_or signed_decimal kth (codes "none") ∷ [])

-- the line of an entry ends by a count: only in version 2, and only if the series wasn't skipped
abbrev pub has_count : ℕ → Line → Bool
has_count version e = version == 2 && not e.skipped

-- the line of an entry, with its count after a blank if it has one
abbrev pub entry_line : ℕ → Counted → List ℕ
entry_line version l = text_line (
    (if l.entry.skipped then codes "skip" else codes "scan")
    ∷ l.entry.id.0
    ∷ (signed_decimal l.entry.bound ++ (if has_count version l.entry then 32 ∷ decimal l.count else []))
    ∷ [])

-- the last line of a certificate with that many entries
abbrev pub end_line : ℕ → List ℕ
end_line n = text_line (codes "end" ∷ decimal n ∷ [])
