use Rattle.std.proofs.Common.{◌≡◌, ℕ, ◌-◌, ◌*◌, true, List, length, inl, inr, sym, ◌∙◌, arith}
use Rattle.std.proofs.lemmas.Bool.{cases_lt}
use Rattle.std.proofs.lemmas.Simd.{length-chunk}
use lib.Lanes.{chunk}
use Rattle.ghcn_fields.specs.Lines.{are_above}
use Rattle.ghcn_fields.proofs.LineFeeds.{lesser, length-lesser, both_above, part_above}
use Rattle.ghcn_fields.proofs.line.ends_after.Goals as goal

-- the last sixteen bytes before the end
pub loop-part-init : goal.loop-part-init
loop-part-init c =
    let text : List ℕ = c.args.text.now in
    let from : ℕ = c.args.columns - 16 in
    record {
      many = length-chunk from 16 text (omega arith);
      last = λ all j low high. part_above text from 16 (omega arith) all j low (omega (arith, high));
      so_far = λ all j low high. absurd (omega (arith, high));
    }

-- and sixteen more of those before
pub loop-part-preserved : goal.loop-part-preserved
loop-part-preserved c =
    let text : List ℕ = c.args.text.now in
    let from : ℕ = 16 * c.loop-part.part in
    let least : List ℕ = c.loop-part.least in
    let more : List ℕ = chunk from 16 text in
    let long : length more ≡ 16 = length-chunk from 16 text (omega arith) in
    let even : length least ≡ length more = c.loop-part.invariant.many ∙ sym long in
    let parts = λ (all : are_above (lesser least more) ≡ true). both_above least more even all in
    record {
      many = length-lesser least more even ∙ c.loop-part.invariant.many;
      last = λ all. c.loop-part.invariant.last (parts all).0;
      so_far = λ all j low high. elim (cases_lt j from) [
        | inl before ↦ c.loop-part.invariant.so_far (parts all).0 j low before
        | inr later ↦ part_above text from 16 (omega arith) (parts all).1 j later (omega (arith, high))
      ];
    }
