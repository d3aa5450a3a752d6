use Rattle.std.proofs.Common.{rules, ◌≡◌, ◌+◌, ◌∙◌, ℕ, List, get_or, subst, inl, inr, arith, ℤ, pos, w32, to_z, of_z}
use Rattle.std.specs.Prelude.{neg_ℤ}
use Rattle.std.proofs.lemmas.Int.{to_z-of_z}
use Rattle.ghcn_fields.specs.Groups.{AreNumbers}
use Rattle.ghcn_files.specs.Rows.{value_or_missing}
use Rattle.ghcn_files.proofs.GroupValues.{group-value, four-stand, others-stay, each-of-four}
use Rattle.ghcn_files.proofs.row.put_four.Goals as goal

-- four days have their values, and the others what was there
pub returns : goal.returns
returns c =
    let line : List ℕ = c.args.line.now in
    let day : ℕ = c.args.day in
    let vs : List ℤ = c.args.values.now in
    let found : List ℤ = c.four_numbers-four.result in
    let number = λ (k : ℕ). to_z w32 (of_z w32 (get_or found k (pos 0))) in
    let are : AreNumbers (neg_ℤ (pos 9999)) c.four_groups.result.now found = c.four_numbers-four.ensures in
    let is = group-value line day found c.told-line c.requires.fine
    (subst (λ (bytes : List ℕ). AreNumbers (neg_ℤ (pos 9999)) bytes found) c.four_groups.ensures are) in
    let few = c.requires.day in
    let stands = λ (k : ℕ). number k ≡ value_or_missing line (day + k) in
    record {
      four = four-stand line vs day number c.told-values few
          (each-of-four stands
          (to_z-of_z w32 (get_or found 0 (pos 0)) (search rules) ∙ is 0 (omega arith) (omega (arith, few)))
          (to_z-of_z w32 (get_or found 1 (pos 0)) (search rules) ∙ is 1 (omega arith) (omega (arith, few)))
          (to_z-of_z w32 (get_or found 2 (pos 0)) (search rules) ∙ is 2 (omega arith) (omega (arith, few)))
          (to_z-of_z w32 (get_or found 3 (pos 0)) (search rules) ∙ is 3 (omega arith) (omega (arith, few))));
      others = λ j lt. others-stay vs day number j (inl lt);
      behind = λ j le. others-stay vs day number j (inr le);
    }
