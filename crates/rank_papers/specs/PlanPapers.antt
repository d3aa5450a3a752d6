-- The report and the certificate of a plan: right ones, whatever the data of which it is the plan.
use Rattle.std.specs.Prelude.{◌≡◌, ℕ, List, map}
use Rattle.ghcn_series.specs.Series.{Data}
use Rattle.ghcn_series.specs.Held.{IsContents}
use Rattle.rank_query.specs.Meaning.Asked.{Query, IsAsked}
use Rattle.rank_scores.specs.Morsels.{morsels}
use Rattle.rank_blocks.specs.Bounds.{bound}
use Rattle.rank_sched.specs.Plan.{Plan, planned}
use Rattle.rank_papers.specs.Report.{IsFoundReport}
use Rattle.rank_papers.specs.Certificate.{IsFoundCertificate}

-- the bytes are the right report of all data of which this is the plan
abbrev pub IsReportOfPlan : Plan → List ℕ → Type 0
IsReportOfPlan p bytes =
    (q : Query) (c : Data) → IsAsked q → IsContents c → p ≡ planned q c → IsFoundReport q c bytes

-- a right certificate of a query and data, of version 2, in which each bound is the bound of its series
pub record IsMeasuredCertificate (q : Query) (c : Data) (bytes : List ℕ) : Type 0 where
  pub certificate : IsFoundCertificate q c bytes
  pub version : certificate.version ≡ 2
  pub bounds : map (λ e. e.bound) certificate.entries ≡ map (bound q) (morsels q c)

-- the bytes are such a certificate of all data of which this is the plan
abbrev pub IsCertificateOfPlan : Plan → List ℕ → Type 0
IsCertificateOfPlan p bytes =
    (q : Query) (c : Data) → IsAsked q → IsContents c → p ≡ planned q c → IsMeasuredCertificate q c bytes
