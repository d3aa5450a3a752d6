use Rattle.rank_merge.proofs.Cited.{◌≡◌, Ok, IfOk, IfOk-weaker, IfErr-weaker, texts_in, papers_in, merge, arith, ints}
use Rattle.rank_merge.specs.declared.merging.Merged.{Merged}
use Rattle.rank_merge.proofs.MergedTexts.{outcome_told, refusal_told}
use Rattle.rank_merge.proofs.merging.merge.Goals.{After-merge_texts}
use Rattle.rank_merge.proofs.merging.merge.Goals as goal

-- what is known of the merged texts follows for the result
of_merged : (c : After-merge_texts) (P : Merged → Type 0)
    → ((m : Merged) → merge c.args.query.now (texts_in c.args.parts.now) ≡ Ok (papers_in m) → P m)
    → IfOk c.merge_texts.result P
of_merged c P told = grind (arith, ints, IfOk-weaker)

-- what is merged is right for all files
pub returns-clause-right : goal.returns-clause-right
returns-clause-right c = of_merged (goal.at.returns-clause-right c).After-merge_texts _
    (λ m e. c.merged_are_right.ensures.right _ _ (papers_in m) c.k-k.ensures.asked e)

-- its bounds are those of the series if the parts' are
pub returns-clause-measured : goal.returns-clause-measured
returns-clause-measured c = of_merged (goal.at.returns-clause-measured c).After-merge_texts _
    (λ m e. c.merged_are_right.ensures.measured _ _ (papers_in m) c.k-k.ensures.asked e)

-- right parts are merged only if no station has morsels in two of them
pub returns-clause-apart : goal.returns-clause-apart
returns-clause-apart c = of_merged (goal.at.returns-clause-apart c).After-merge_texts _
    (λ m e. outcome_told c.merged_are_right.ensures.merged _ _ (Ok (papers_in m)) c.k-k.ensures.asked e)

-- and refused only if one has
pub returns-clause-twice : goal.returns-clause-twice
returns-clause-twice c = grind (arith, ints, IfErr-weaker, refusal_told)
