-- Readers read and refuse lines as they are before their line feeds, and with them each line that is alike.
use Rattle.ghcn_series.proofs.Cited.{◌≡◌, ℕ, true, false, List, ◌∙◌, strip_carriage_return, append-nil, is_blank}
use Rattle.ghcn_series.proofs.Cited.{DataFault}
use Rattle.ghcn_series.specs.LinesRead.{Reading, ReadsLike, RefusesLike, ReadsText, RefusesText}
use Rattle.ghcn_series.proofs.AlikeLines.{same_blank}

module _ {L : Type 0} {has_read : Reading L} where
  -- a blank line is read by what has read the lines before it
  pub blank-read : (r : L) (file line : ℕ) (bytes : List ℕ) → is_blank (strip_carriage_return bytes) ≡ true
      → ReadsText has_read r r file line bytes
  blank-read r file line bytes blank = record {
    holds = λ text alike. record { holds = λ _ _ ls read. rw (same_blank _ _ alike ∙ blank, append-nil ls) read };
  }

  -- a line without its end is read as it is before its line feed
  pub text-read : (old new : L) (file line : ℕ) (bytes : List ℕ) → is_blank (strip_carriage_return bytes) ≡ false
      → ReadsLike has_read old new file line (strip_carriage_return bytes) → ReadsText has_read old new file line bytes
  text-read old new file line bytes some reads =
      record { holds = λ text alike. rw (same_blank _ _ alike ∙ some) (reads.holds _ alike) }

  -- and refused so
  pub text-refused : (old : L) (file line : ℕ) (bytes : List ℕ) (fault : DataFault)
      → is_blank (strip_carriage_return bytes) ≡ false
      → RefusesLike has_read old file line (strip_carriage_return bytes) fault
      → RefusesText has_read old file line bytes fault
  text-refused old file line bytes fault some refuses =
      record { holds = λ text alike. rw (same_blank _ _ alike ∙ some) (refuses.holds _ alike) }
