use Rattle.std.proofs.Common.{◌≡◌, ◌++◌, Option, true, sym, ap, ◌∙◌, map, refl}
use Rattle.std.proofs.lemmas.Result.{IfOk-weaker}
use Rattle.rank_papers.specs.ReportLines.{Reported, named_in, reported_in}
use Rattle.rank_papers.specs.Certificate.{Certified}
use Rattle.rank_papers.specs.CertificateLines.{certified_in}
use Rattle.rank_papers.specs.Papers.{same_query}
use Rattle.rank_papers.proofs.FirstFailing.{not_some}
use Rattle.ghcn_fields.specs.Faults.{first_failing}
use Rattle.rank_head.specs.declared.fault.HeadFault.{HeadFault}
use Rattle.rank_head.specs.HeadTests.{scanned_tests, count_tests, head_fault}
use Rattle.rank_head.proofs.Decided.{places_decide, counts_decide}
use Rattle.rank_head.proofs.head.head_fault.Goals as goal

-- a test of places fails
pub returns-then-is_some : goal.returns-then-is_some
returns-then-is_some c =
    let q = c.args.query.now in
    let r : Reported = reported_in c.args.report.now in
    let z : Certified = certified_in c.args.certificate.now in
    let one : same_query r.query q ≡ true = sym c.in_ok-is_same_query.ensures ∙ c.if-not-branch.false in
    let two : same_query z.query q ≡ true = sym c.in_ok-is_same_query-2.ensures ∙ c.if-not-branch-2.false in
    places_decide q r z one two c.as_slice-rows.result.now c.as_slice-lines.result.now z.counts
    (ap (map named_in) c.as_slice-rows.ensures.value) c.as_slice-lines.ensures.value refl
    c.place_fault-seen.result c.place_fault-seen.ensures.first (sym c.is_some.ensures ∙ c.if-is_some.true)

-- if none fails the lines rise
pub count_fault-requires : goal.count_fault-requires
count_fault-requires c =
    c.place_fault-seen.ensures.rise
    (not_some c.place_fault-seen.result (sym c.is_some.ensures ∙ c.if-is_some.false))

-- the series of rows and the counts decide
pub returns : goal.returns
returns c =
    let q = c.args.query.now in
    let r : Reported = reported_in c.args.report.now in
    let z : Certified = certified_in c.args.certificate.now in
    let one : same_query r.query q ≡ true = sym c.in_ok-is_same_query.ensures ∙ c.if-not-branch.false in
    let two : same_query z.query q ≡ true = sym c.in_ok-is_same_query-2.ensures ∙ c.if-not-branch-2.false in
    IfOk-weaker c.count_fault.result
    (λ (fault : Option HeadFault). fault ≡ first_failing
    (scanned_tests c.as_slice-lines.result.now (map named_in c.as_slice-rows.result.now)
    ++ count_tests (map named_in c.as_slice-rows.result.now) c.as_slice-lines.result.now c.as_slice.result.now))
    (λ (fault : Option HeadFault). fault ≡ head_fault q r z)
    (λ fault e. e ∙ counts_decide q r z one two c.as_slice-rows.result.now c.as_slice-lines.result.now
    c.as_slice.result.now (ap (map named_in) c.as_slice-rows.ensures.value) c.as_slice-lines.ensures.value
    c.as_slice.ensures.value c.place_fault-seen.result c.place_fault-seen.ensures.first
    (sym c.is_some.ensures ∙ c.if-is_some.false))
    c.count_fault.ensures
