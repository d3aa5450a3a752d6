-- Where a text that doesn't have the form of a report, or of a certificate, goes wrong, whatever reads it.
use Rattle.std.specs.Prelude.{◌≡◌, ◌⊎◌, ℕ, ◌+◌, List, [], ◌∷◌, ◌++◌, length}
use Rattle.rank_papers.specs.ReportLines.{Reported, IsReportOf}
use Rattle.rank_papers.specs.Certificate.{Certified, IsCertificateOf}
use Rattle.rank_papers.specs.Lines.{paper_lines}

-- a text in the format of a certificate: it is the text of one that says something
abbrev pub IsCertificateText : List ℕ → Type 0
IsCertificateText bytes = (v : Certified) × IsCertificateOf v bytes

-- a text in the format of a report: it is the text of one that says something
abbrev pub IsReportText : List ℕ → Type 0
IsReportText bytes = (v : Reported) × IsReportOf v bytes

-- lines begin a text of the form: with some lines after them they are all of its lines
pub record Begin (IsText : List ℕ → Type 0) (ls : List (List ℕ)) : Type 0 where
  pub text : List ℕ
  pub has_form : IsText text
  pub more : List (List ℕ)
  pub lines : paper_lines text ≡ ls ++ more

-- the line after these lines of a text is one with which no text of the form goes on
pub record IsWrongLine (IsText : List ℕ → Type 0) (bytes : List ℕ) (before : List (List ℕ)) : Type 0 where
  pub line : List ℕ
  pub behind : List (List ℕ)
  pub lines : paper_lines bytes ≡ before ++ line ∷ behind
  pub ended : Begin IsText (before ++ line ∷ []) → ⊥

-- the text stops too early: these are all its lines, and it doesn't have the form
pub record StopsEarly (IsText : List ℕ → Type 0) (bytes : List ℕ) (before : List (List ℕ)) : Type 0 where
  pub lines : paper_lines bytes ≡ before
  pub no_paper : IsText bytes → ⊥

-- the number of the first line with which no text of the form goes on, or that of the line after the last if the text
-- stops too early: the lines before it begin one
pub record IsFirstBadLine (IsText : List ℕ → Type 0) (bytes : List ℕ) (n : ℕ) : Type 0 where
  pub before : List (List ℕ)
  pub begun : Begin IsText before
  pub number : n ≡ length before + 1
  pub wrong : IsWrongLine IsText bytes before ⊎ StopsEarly IsText bytes before
