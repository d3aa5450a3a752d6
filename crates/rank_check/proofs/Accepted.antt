-- A verdict accepts if and only if the report and the certificate were both read and every test passes.
use Rattle.std.proofs.Common.{◌≡◌, ℕ, true, Some, None, Option, Result, Ok, Err, refl, ap, ◌∙◌}
use Rattle.std.specs.List.{AllByRecursion}
use Rattle.ghcn_series.specs.Series.{Data}
use Rattle.rank_query.specs.Meaning.Asked.{Query}
use Rattle.rank_papers.specs.declared.fault.Paper.{Paper}
use Rattle.rank_papers.specs.ReportLines.{Reported}
use Rattle.rank_papers.specs.Certificate.{Certified}
use Rattle.rank_papers.proofs.FirstFailing.{none_fails, all_pass}
use Rattle.rank_check.specs.declared.verdict.Verdict.TheVariants.{Accepted}
use Rattle.rank_check.specs.declared.refusal.Refusal.{Refusal}
use Rattle.rank_check.specs.Tests.{Test, all_tests, refused, verdict_of}

-- a test passes
abbrev pub Passes : Test → Type 0
Passes t = t.0 ≡ true

-- a verdict accepts only if nothing is refused
nothing_refused : (fault : Option Refusal) → verdict_of fault ≡ Accepted → fault ≡ None
nothing_refused None e = refl
nothing_refused (Some r) e = absurd cc

-- the report and the certificate were both read, and every test of what they say passes
pub record AllPass (q : Query) (c : Data) (p : Result (Reported × Certified) (Paper × ℕ)) : Type 0 where
  pub report : Reported
  pub certificate : Certified
  pub read : p ≡ Ok (report, certificate)
  pub tests : AllByRecursion Passes (all_tests q c report certificate)

-- so a report and a certificate that are accepted pass all tests
pub accepted-pass : (q : Query) (c : Data) (p : Result (Reported × Certified) (Paper × ℕ))
    → verdict_of (refused q c p) ≡ Accepted → AllPass q c p
accepted-pass q c (Err bad) e = absurd cc
accepted-pass q c (Ok (r, z)) e = record {
  report = r;
  certificate = z;
  read = refl;
  tests = none_fails (all_tests q c r z) (nothing_refused (refused q c (Ok (r, z))) e);
}

-- and a report and a certificate that pass all tests are accepted
pub pass-accepted : (q : Query) (c : Data) (p : Result (Reported × Certified) (Paper × ℕ)) → AllPass q c p
    → verdict_of (refused q c p) ≡ Accepted
pass-accepted q c p h =
    ap (λ (x : Result (Reported × Certified) (Paper × ℕ)). verdict_of (refused q c x)) h.read
    ∙ ap verdict_of (all_pass (all_tests q c h.report h.certificate) h.tests)
