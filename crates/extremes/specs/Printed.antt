-- How an answer is printed.
use Rattle.std.specs.Prelude.{◌≡◌, ◌⊎◌, ℕ, true, false, List, [], ◌∷◌, ◌++◌, codes, Option, unwrap_or, Result, Ok, Err}
use Rattle.std.specs.Io.KnownBytes.{Appends}
use Rattle.extremes.specs.declared.papers.Papers.{Papers}
use Rattle.extremes.specs.declared.describe.DescriptionText.{DescriptionText}
use Rattle.ghcn_series.specs.declared.counts.Warnings.{Warnings}
use Rattle.rank_input.specs.declared.fault.Fault.{Fault}
use Rattle.extremes.specs.declared.ending.Ending.{Ending}
use Rattle.extremes.specs.declared.ending.Ending.TheVariants.{Done, Refused, Words, File}
use Rattle.extremes.specs.declared.delivery.Delivery.{Delivery}
use Rattle.extremes.specs.declared.delivery.Delivery.TheVariants as delivery
use Rattle.rank_check.specs.Texts.{verdict_text}
use Rattle.rank_parts.specs.Texts as parts
use Rattle.extremes.specs.declared.judgement.Judgement.{Judgement}
use Rattle.extremes.specs.declared.judgement.Judgement.TheVariants.{Whole, Part}
use Rattle.extremes.specs.Delivered.{HasBeginning, IsCutOff}
use Rattle.extremes.specs.Ending.{ending_of}
use Rattle.extremes.specs.Targets.{Putting, PutsNothing}
use Rattle.extremes.specs.declared.table.TableText.{TableText}
use Rattle.extremes.specs.declared.table.TablingFault.{TablingFault}
use Rattle.extremes.specs.Messages.{Line, Streams, after_lines, input_lines, not_written_line, only_line, unlisted_warning}
use Rattle.extremes.specs.Messages.{warning_lines}

-- what a judgement says of a report and a certificate, without a line feed
abbrev pub text_of : Judgement → List ℕ
text_of (Whole v) = verdict_text v
text_of (Part v) = parts.verdict_text v

-- the line of it
abbrev pub judgement_line : Judgement → List ℕ
judgement_line j = text_of j ++ codes "\n"

-- what the certificate's file and the report's writer were given: certificate and report whole; a certificate that
-- isn't whole and no report; or the certificate whole and a beginning of the report
abbrev pub IsReported : Papers → Option (List ℕ) → Putting → Option (List ℕ) → Option (List ℕ) → Delivery → Type 0
IsReported papers path puts before after delivery.Done =
    puts path papers.certificate.items true × Appends before after papers.report.items
IsReported papers path puts before after delivery.CertificateFailed =
    puts path papers.certificate.items false × (after ≡ before)
IsReported papers path puts before after delivery.ReportFailed =
    puts path papers.certificate.items true × HasBeginning papers.report.items before after

-- a text ends done if it was written whole, and no line is printed on standard error; or as a file that couldn't be
-- written with a beginning of it, as a line says
abbrev pub IsShown : Streams → List ℕ → Ending → Type 0
IsShown s text Done = Appends s.before s.after text × s.says []
IsShown s text Refused = ⊥
IsShown s text Words = ⊥
IsShown s text File = HasBeginning text s.before s.after × s.says (not_written_line (codes "-") ∷ [])

-- report and certificate end done if both are whole, and no line is printed on standard error; or as a file that
-- couldn't be written, as a line says: a certificate that isn't whole and no report, or the certificate whole and a
-- beginning of the report
abbrev pub ArePrinted : Streams → Papers → Option (List ℕ) → Putting → Ending → Type 0
ArePrinted s papers path puts Done = IsReported papers path puts s.before s.after delivery.Done × s.says []
ArePrinted s papers path puts Refused = ⊥
ArePrinted s papers path puts Words = ⊥
ArePrinted s papers path puts File =
    (IsReported papers path puts s.before s.after delivery.CertificateFailed
    × s.says (not_written_line (unwrap_or path (codes "-")) ∷ []))
    ⊎ (IsReported papers path puts s.before s.after delivery.ReportFailed
    × s.says (not_written_line (codes "-") ∷ []))

-- an error prints its lines on standard error and nothing on standard output, and the run ends as refused
pub record IsRefused {F : Type 0} (lines : F → List Line) (s : Streams) (fault : F) (ending : Ending) : Type 0 where
  pub ends : ending ≡ Refused
  pub unprinted : s.after ≡ s.before
  pub said : s.says (lines fault)

-- after the warnings and the line on unlisted stations a report is printed, with its certificate in the file of a path
-- if there is one; an error prints its lines alone, and writes nothing
abbrev pub IsPrinted : {F : Type 0} → (F → List Line) → Streams → Result Papers F → List Line → Option (List ℕ)
    → Putting → Ending → Type 0
IsPrinted lines s (Ok papers) warnings path puts ending =
    ArePrinted (after_lines (warnings ++ unlisted_warning papers.unlisted) s) papers path puts ending
IsPrinted lines s (Err fault) warnings path puts ending = IsRefused lines s fault ending × PutsNothing puts

-- after the warnings on files of these paths, which these arguments name, the text of their description is shown; an
-- error prints its lines alone
abbrev pub IsTextShown : (Fault → Line) → Streams → Result DescriptionText Fault → List (List ℕ) → List (List ℕ)
    → Ending → Type 0
IsTextShown line s (Ok text) arguments paths ending =
    IsShown (after_lines (warning_lines paths text.warnings) s) text.bytes.items ending
IsTextShown line s (Err fault) arguments paths ending = IsRefused (input_lines line arguments paths) s fault ending

-- the text of a table is shown; an error prints its line alone
abbrev pub IsTableShown : (TablingFault → Line) → Streams → Result TableText TablingFault → Ending → Type 0
IsTableShown line s (Ok table) ending = IsShown s table.bytes.items ending
IsTableShown line s (Err fault) ending = IsRefused (only_line line) s fault ending

-- a judgement is printed as its line and ends the run as it says; or its line is cut off, and the run ends as a file
-- that couldn't be written, as a line on standard error says
abbrev pub IsLineTold : Streams → Judgement → Ending → Type 0
IsLineTold s judgement ending =
    ((ending ≡ ending_of judgement) × Appends s.before s.after (judgement_line judgement) × s.says [])
    ⊎ ((ending ≡ File) × IsCutOff (judgement_line judgement) s.before s.after
    × s.says (not_written_line (codes "-") ∷ []))

-- after the warnings on files of these paths, which these arguments name, it is printed; an error prints its lines
-- alone
abbrev pub IsTold : (Fault → Line) → Streams → Result (Judgement × Warnings) Fault → List (List ℕ) → List (List ℕ)
    → Ending → Type 0
IsTold line s (Ok judged) arguments paths ending =
    IsLineTold (after_lines (warning_lines paths judged.1) s) judged.0 ending
IsTold line s (Err fault) arguments paths ending = IsRefused (input_lines line arguments paths) s fault ending
