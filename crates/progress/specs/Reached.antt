-- How far a run has come, in words.
use Rattle.std.specs.Prelude.{ℕ, zero, suc, ◌/◌, ◌%◌, ◌*◌, List, ◌++◌, codes, if◌then◌else◌, leb}
use Rattle.std.specs.Fmt.{decimal}
use Rattle.progress.specs.declared.reached.Reached.{Reached}

-- that many megabytes, as gigabytes with one decimal
abbrev pub gigabytes : ℕ → List ℕ
gigabytes megabytes =
    decimal (megabytes / 1000) ++ codes "." ++ decimal (megabytes % 1000 / 100) ++ codes " GB"

-- how many of a hundred parts were read
abbrev pub percent : ℕ → ℕ → ℕ
percent read total = if leb total read then 100 else read * 100 / total

-- how much was read, in megabytes: as a share of all, if that is known and at least one, and otherwise by itself
abbrev pub share_text : ℕ → ℕ → List ℕ
share_text read zero = gigabytes read
share_text read (suc n) = decimal (percent read (suc n)) ++ codes " % of " ++ gigabytes (suc n)

-- how far a run has come: how much was read, and which of the files it reads
abbrev pub reached_text : Reached → List ℕ
reached_text r = share_text r.read r.total ++ codes ", file " ++ decimal r.file ++ codes " of " ++ decimal r.files
