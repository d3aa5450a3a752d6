-- How reports and certificates are written.
use Rattle.std.specs.Prelude.{◌≡◌, ℕ, ◌<◌, Bool, true, false, List, ◌++◌, length, Option}
use Rattle.std.specs.Io.KnownBytes.{Appends}
use Rattle.extremes.specs.declared.papers.Papers.{Papers}
use Rattle.extremes.specs.declared.delivery.Delivery.{Delivery}
use Rattle.extremes.specs.declared.delivery.Delivery.TheVariants.{Done, CertificateFailed, ReportFailed}

-- a writer was given a beginning of a report or a certificate
pub record HasBeginning (paper : List ℕ) (before after : Option (List ℕ)) : Type 0 where
  pub part : List ℕ
  pub rest : List ℕ
  pub of_paper : paper ≡ part ++ rest
  pub given : Appends before after part

-- a writer was given a beginning of a text, and not all of it
pub record IsCutOff (text : List ℕ) (before after : Option (List ℕ)) : Type 0 where
  pub part : List ℕ
  pub rest : List ℕ
  pub of_text : text ≡ part ++ rest
  pub left : 0 < length rest
  pub given : Appends before after part

-- a writer was given a text to its end, or was cut off
abbrev pub IsWrittenToEnd : List ℕ → Option (List ℕ) → Option (List ℕ) → Bool → Type 0
IsWrittenToEnd text before after true = Appends before after text
IsWrittenToEnd text before after false = IsCutOff text before after

-- a writer was given a report or a certificate whole, or otherwise a beginning of it
abbrev pub IsWritten : List ℕ → Option (List ℕ) → Option (List ℕ) → Bool → Type 0
IsWritten paper before after true = Appends before after paper
IsWritten paper before after false = HasBeginning paper before after

-- a writer was given a report or a certificate whole if that is wanted, and nothing if it isn't
abbrev pub IsGiven : Bool → List ℕ → Option (List ℕ) → Option (List ℕ) → Type 0
IsGiven true paper before after = Appends before after paper
IsGiven false paper before after = after ≡ before

-- what the writers of the certificate and of the report were given, by how the writing ended
abbrev pub IsDelivered : Papers → Bool → Option (List ℕ) → Option (List ℕ) → Option (List ℕ) → Option (List ℕ)
    → Delivery → Type 0
IsDelivered papers wanted c c' r r' Done =
    IsGiven wanted papers.certificate.items c c' × Appends r r' papers.report.items
IsDelivered papers wanted c c' r r' CertificateFailed =
    (wanted ≡ true) × HasBeginning papers.certificate.items c c' × (r' ≡ r)
IsDelivered papers wanted c c' r r' ReportFailed =
    IsGiven wanted papers.certificate.items c c' × HasBeginning papers.report.items r r'
