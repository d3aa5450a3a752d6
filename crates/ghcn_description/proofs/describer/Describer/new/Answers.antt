use Rattle.std.proofs.Common.{◌∷◌, [], ◌++◌, false, refl, ap, ◌∙◌, subst, arith}
use Rattle.std.specs.Prelude.{replicate}
use Rattle.std.proofs.lemmas.List.{replicate_more}
use Rattle.ghcn_series.specs.Gathered.{HasReadFor}
use Rattle.ghcn_description.proofs.DescribedLines.{described-nothing}
use Rattle.ghcn_description.proofs.describer.Describer.new.Goals as goal

-- one station more has none
pub loop-preserved : goal.loop-preserved
loop-preserved c = record {
  many = c.loop.invariant.many;
  within = omega (arith, c.loop-test.true);
  marks = c.in_ok-push.ensures.items
      ∙ ap (λ bs. bs ++ (false ∷ false ∷ false ∷ false ∷ false ∷ []) ∷ []) c.loop.invariant.marks
      ∙ replicate_more c.loop.counter (false ∷ false ∷ false ∷ false ∷ false ∷ []);
}

-- no line is read
pub returns : goal.returns
returns c = λ keep.
    described-nothing c.args.stations keep _
    (subst (λ k. HasReadFor c.in_ok-new.field-0 c.args.stations k []) c.nothing.ensures c.in_ok-new.ensures)
    c.no_counts.ensures
    (c.loop.invariant.marks ∙ ap (λ n. replicate n (false ∷ false ∷ false ∷ false ∷ false ∷ []))
    (omega (arith, c.loop.invariant.many, c.loop.invariant.within, c.loop-test.false))) c.new-2.ensures refl
