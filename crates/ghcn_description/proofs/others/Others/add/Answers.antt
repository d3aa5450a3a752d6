use Rattle.std.proofs.Common.{rules, ◌≡◌, ◌<◌, ℕ, ◌+◌, List, cond, length, get_or, set, sym, ap, ◌∙◌, subst, arith}
use Rattle.std.specs.Cmp.Lexicographic.{slice_cmp}
use Rattle.std.specs.List.Sorted.{IsPartitionPoint, IsNonDecreasingBy}
use Rattle.std.specs.Ordering.{nat_cmp, ordering_index}
use Rattle.std.specs.declared.cmp.Ordering.TheVariants.{Less, Equal, Greater}
use Rattle.std.proofs.lemmas.Fn.{always_returns_same}
use Rattle.std.proofs.lemmas.List.{get_or_default}
use Rattle.ghcn_fields.specs.Meaning.Bytes.{same_bytes}
use Rattle.ghcn_description.specs.declared.counts.CodeCount.{CodeCount}
use Rattle.ghcn_description.specs.Described.{CountSmallest}
use Rattle.ghcn_description.proofs.OtherCodes.{found, searchable, ties-are}
use Rattle.ghcn_description.proofs.others.Others.add.Goals as goal

-- the code belongs at the place at which the search ends
pub add_new-requires-clause-place : goal.add_new-requires-clause-place
add_new-requires-clause-place c =
    let cs : List CodeCount = c.args.self.now.counts.items in
    let value = c.deref.ensures.value in
    let parted = c.in-Err.ensures.position (λ e. slice_cmp nat_cmp e.code c.args.code)
    (always_returns_same _ _ _ (λ a r g called. search rules))
    (subst (λ (ds : List CodeCount). IsNonDecreasingBy (λ e. ordering_index (slice_cmp nat_cmp e.code c.args.code)) ds)
    (sym value) (searchable c.args.code cs c.requires.counted.2.codes.rising)) in
    record {
      within = omega (arith, c.in-Err.ensures.bound, ap length value);
      parts = subst (λ ds. IsPartitionPoint (λ (e : CodeCount). slice_cmp nat_cmp e.code c.args.code ≡ Less)
          (λ (e : CodeCount). slice_cmp nat_cmp e.code c.args.code ≡ Greater) ds c.in-Err.place) value parted;
    }

-- the lines are counted at the place at which the code was found
pub returns-in_ok-self-in-Ok : goal.returns-in_ok-self-in-Ok
returns-in_ok-self-in-Ok c =
    let cs : List CodeCount = c.args.self.now.counts.items in
    let place : ℕ = c.in-Ok.place in
    let there : CodeCount = c.index_mut.result.now in
    let value = c.deref.ensures.value in
    let at = c.index_mut.ensures.value in
    let lt : place < length cs = omega (arith, c.in-Ok.ensures.bound, ap length value) in
    let ties = c.in-Ok.ensures.position (λ e. slice_cmp nat_cmp e.code c.args.code)
    (always_returns_same _ _ _ (λ a r g called. search rules)) there in
    let tie = subst (λ (ds : List CodeCount). slice_cmp nat_cmp (get_or ds place there).code c.args.code ≡ Equal)
    value ties in
    let is = ties-are there.code c.args.code (ap (λ (e : CodeCount). slice_cmp nat_cmp e.code c.args.code) at ∙ tie) in
    let lines : ℕ = c.in_ok-self-in-Ok.field-0 in
    let sum : lines ≡ there.lines + c.args.lines =
    c.in_ok-self-in-Ok.ensures
    ∙ ap (λ (e : CodeCount). e.lines + c.args.lines)
    (c.index.ensures ∙ get_or_default cs place c.index.result.now there lt ∙ sym at) in
    record {
      holds = λ f all of.
          subst (λ code. CountSmallest (λ k. f k + cond (same_bytes code k) c.args.lines 0) (all + c.args.lines)
          (set cs place (record { code = there.code; lines = lines })) c.args.self.now.further) is
          (found f all cs c.args.self.now.further place c.args.lines lines there c.requires.some lt at sum of);
    }
