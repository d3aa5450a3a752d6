use Rattle.std.proofs.Common.{ℕ, List, false, length, inl, inr, refl, ap, ◌∙◌, sym, subst}
use Rattle.std.specs.Prelude.{string_bytes}
use Rattle.std.specs.List.{AllByRecursion}
use Rattle.std.proofs.lemmas.Slice.Zip.{AllZip-long}
use Rattle.rank_query.specs.Meaning.Asks.{Asks}
use Rattle.extremes.specs.EachRuns.{folder_of}
use Rattle.extremes.specs.PapersFolder.{IsFoundFirst, new_paths}
use Rattle.extremes.proofs.run_each.rank_each_apart.Goals as goal

-- none of the files is there, and the run goes on
pub returns-in-Ok-None : goal.returns-in-Ok-None
returns-in-Ok-None g c = λ lines asks.
    let exists = g.T.Target.exists c.args.target.now in
    let many = AllZip-long Asks lines c.args.queries.now asks in
    inr (
      subst (λ (n : ℕ). AllByRecursion (λ path. exists path false) (new_paths (folder_of c.args.ranking.now) n)) many
          (rw c.in-Ok-None.field-0-is at c.in-Ok-None.ensures),
      c.rank_each_asked.ensures lines asks,
    )

-- or one is
pub returns-in-Ok-Some : goal.returns-in-Ok-Some
returns-in-Ok-Some g c = λ lines asks.
    let exists = g.T.Target.exists c.args.target.now in
    let many = AllZip-long Asks lines c.args.queries.now asks in
    inl (
      refl,
      inl (
        string_bytes c.in-Ok-Some.path,
        subst (λ (n : ℕ). IsFoundFirst exists (new_paths (folder_of c.args.ranking.now) n)
            (string_bytes c.in-Ok-Some.path)) many (rw c.in-Ok-Some.field-0-is at c.in-Ok-Some.ensures),
        record {
          ends = c.not_written.ensures.ending;
          unprinted = refl;
          said = rw (sym c.deref-in-Ok-Some.ensures) c.not_written.ensures.line;
        },
      ),
    )

-- or memory runs out
pub returns-in-Err : goal.returns-in-Err
returns-in-Err g c = λ lines asks. inl (
  refl,
  inr (record { ends = c.refused.ensures.ending; unprinted = refl; said = c.refused.ensures.line }),
)
