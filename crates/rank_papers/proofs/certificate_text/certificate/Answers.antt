use Rattle.std.proofs.Common.{List, subst, ◌∙◌, ap}
use Rattle.rank_query.specs.Meaning.Asked.{Query}
use Rattle.rank_scores.specs.declared.candidate.Candidate.{Candidate}
use Rattle.rank_papers.specs.Certificate.{AreInRange, certificate_of_best}
use Rattle.rank_papers.proofs.PlanPapers.{certificate-of_plan}
use Rattle.rank_papers.proofs.Answered.{if_ok, if_both}
use Rattle.rank_papers.proofs.certificate_text.certificate.Goals as goal

-- the certificate of these candidates and lines is that of the answer's
pub returns-clause-text : goal.returns-clause-text
returns-clause-text c =
    if_ok _ _ c.certificate_of_best.result (λ paper text. text
    ∙ ap (λ (q : Query). certificate_of_best q c.deref.result.now c.deref-2.result.now) c.query.ensures.query
    ∙ ap (λ (b : List Candidate). certificate_of_best c.args.plan.now.query b c.deref-2.result.now)
    c.deref.ensures.value
    ∙ ap (certificate_of_best c.args.plan.now.query c.args.answer.now.best.items) c.deref-2.ensures.value)
    c.certificate_of_best.ensures.text

-- so it is a right certificate
pub returns-clause-right : goal.returns-clause-right
returns-clause-right c =
    if_both _ _ _ c.certificate_of_best.result (λ paper text fits.
    certificate-of_plan c.args.plan.now c.args.answer.now paper.items c.requires
    (subst AreInRange c.deref-2.ensures.value fits) text)
    (returns-clause-text c) c.certificate_of_best.ensures.fits
