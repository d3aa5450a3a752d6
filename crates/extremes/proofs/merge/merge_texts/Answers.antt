use Rattle.std.proofs.Common.{◌≡◌, ◌∙◌, ℕ, List, refl, sym, ap, subst}
use Rattle.std.proofs.lemmas.Result.{err_from_is_err_and}
use Rattle.std.specs.Prelude.{Result, Ok, Err}
use Rattle.ghcn_fields.specs.Refusals.{OrMemory}
use Rattle.rank_query.specs.Meaning.Asked.{Query}
use Rattle.rank_query.specs.Reading.{read_query}
use Rattle.rank_query.specs.declared.fault.QueryFault.{QueryFault}
use Rattle.rank_merge.specs.declared.fault.MergeFault.{MergeFault}
use Rattle.rank_merge.specs.Found.{texts_in}
use Rattle.rank_merge.specs.Merging as merging
use Rattle.rank_merge.specs.Merging.{Texts, merge}
use Rattle.rank_merge.specs.Laws.{AreRightForAll, AreMeasuredForAll, IsOutcomeWhereRight}
use Rattle.extremes.specs.declared.merge.MergingFault.TheVariants.{Parts}
use Rattle.extremes.specs.Merges.{IsRefusedWhereRight, texts_of}
use Rattle.extremes.proofs.merge.merge_texts.Goals as goal

-- the report and the certificate are those that are merged of the parts' texts
pub returns-clause-ok : goal.returns-clause-ok
returns-clause-ok c =
    let q = c.in_ok-query.query in
    let same : texts_in c.as_slice.result.now ≡ texts_of c.args.parts.now
    = ap texts_in c.as_slice.ensures.value ∙ c.in_ok-texts.ensures in
    let papers : Texts = (c.in_ok-merged.merged.report.items, c.in_ok-merged.merged.certificate.items) in
    record {
      asked = q;
      read = sym c.in_ok-query.ensures.read;
      merged = subst (λ (ts : List Texts). merge q ts ≡ Ok papers) same c.in_ok-merged.ensures.ok;
      right = subst (λ (ts : List Texts). AreRightForAll q ts papers) same c.in_ok-merged.ensures.right;
      measured = subst (λ (ts : List Texts). AreMeasuredForAll q ts papers) same c.in_ok-merged.ensures.measured;
      apart = subst (λ (ts : List Texts). IsOutcomeWhereRight q ts (Ok papers)) same c.in_ok-merged.ensures.apart;
      unlisted = refl;
    }

-- a query that was read, or another if there was an error
abbrev read_or : Query → Result Query QueryFault → Query
read_or other (Ok asked) = asked
read_or other (Err cause) = other

-- what is refused of the parts' texts for a query is refused for a text that denotes it
refused-for : (query : List ℕ) (q : Query) (lent texts : List Texts) (why : MergeFault) → read_query query ≡ Ok q
    → lent ≡ texts → OrMemory merging.is_memory (λ f. IsOutcomeWhereRight q lent (Err f)) why
    → IsRefusedWhereRight query texts (Parts why)
refused-for query q lent texts why read same refused asked asks =
    let same_query : q ≡ asked = ap (read_or q) (sym read ∙ asks) in
    subst (λ (a : Query). OrMemory merging.is_memory (λ f. IsOutcomeWhereRight a texts (Err f)) why) same_query
    (subst (λ (ts : List Texts). OrMemory merging.is_memory (λ f. IsOutcomeWhereRight q ts (Err f)) why) same refused)

-- so it is refused
pub returns-in_err-merged-clause-twice : goal.returns-in_err-merged-clause-twice
returns-in_err-merged-clause-twice c =
    let same : texts_in c.as_slice.result.now ≡ texts_of c.args.parts.now
    = ap texts_in c.as_slice.ensures.value ∙ c.in_ok-texts.ensures in
    let p = err_from_is_err_and c.from_residual-in_err-merged.result c.from_residual-in_err-merged.ensures.1 in
    rw (p.1, p.2) (refused-for c.args.query.now c.in_ok-query.query _ _ c.in_err-merged.field-0.0
    (sym c.in_ok-query.ensures.read) same c.in_err-merged.ensures.twice)
