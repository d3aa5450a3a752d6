use Rattle.std.proofs.Common.{rules, ◌≡◌, ℕ, ◌^◌, Bool, get_or, Option, refl, sym, ap, subst, ◌∙◌, arith, ℤ, pos, w32, to_z, of_z}
use Rattle.std.specs.List.{range_with_len}
use Rattle.std.specs.Prelude.{if◌then◌else◌, int_le, ◌&&◌, nat_lt}
use Rattle.std.proofs.lemmas.Int.{to_z-of_z}
use Rattle.std.proofs.lemmas.List.{get_or-set_other}
use Rattle.std.proofs.lemmas.List.FromFn.{get_or-range_with_len}
use Rattle.ghcn_files.specs.Rows.{AreDays, value_from, if_so}
use Rattle.ghcn_files.proofs.Rows.{first-none, first-step, all-are, no_32nd, within_31}
use Rattle.ghcn_files.proofs.row.keep_from.Goals as goal

-- no day is in the row yet
pub loop-place-init : goal.loop-place-init
loop-place-init c =
    let least : ℤ = to_z w32 (of_z w32 c.args.least) in
    record {
      row = first-none (value_from least c.min-days.result c.args.values.now) c.args.values.now c.told-values;
      rest = λ j le. refl;
    }

-- one day more is
pub loop-place-preserved : goal.loop-place-preserved
loop-place-preserved c =
    let place : ℕ = c.loop-place.place in
    let found : ℤ = get_or c.loop-place.values place (pos 0) in
    let value : ℤ = to_z w32 (of_z w32 found) in
    let least : ℤ = to_z w32 (of_z w32 c.args.least) in
    let days : ℕ = c.min-days.result in
    let some : ℕ → Option ℤ = value_from least days c.args.values.now in
    let number : ℕ = get_or (range_with_len 0 32) place 0 in
    let counts : Bool = int_le least value && nat_lt number days in
    let same : number ≡ place = get_or-range_with_len 0 32 place 0 c.loop-place-test.true ∙ omega arith in
    let there : value ≡ get_or c.args.values.now place (pos 0) =
    to_z-of_z w32 found (search rules) ∙ c.loop-place.invariant.rest place (omega arith) in
    let is : some place ≡ if_so counts value =
    sym (ap (λ (z : ℤ). if_so (int_le least z && nat_lt place days) z) there)
    ∙ sym (ap (λ (n : ℕ). if_so (int_le least value && nat_lt n days) value) same) in
    let bit : c.bit_if-word.result ≡ (if counts then 2 ^ place else 0) = c.bit_if-word.ensures in
    let kept : to_z w32 (of_z w32 c.value_if.result) ≡ (if counts then value else pos 0) =
    to_z-of_z w32 c.value_if.result (search rules) ∙ c.value_if.ensures in
    record {
      row = rw (bit, kept)
          (first-step some place _ c.loop-place.word c.loop-place.values counts value c.loop-place.invariant.row is
          c.loop-place-test.true (omega arith));
      rest = λ j le.
          get_or-set_other c.loop-place.values _ j _ (pos 0) (omega (arith, le))
          ∙ c.loop-place.invariant.rest j (omega (arith, le));
    }

-- all days are, and the place after them has none
pub returns : goal.returns
returns c =
    let least : ℤ = to_z w32 (of_z w32 c.args.least) in
    let near : least ≡ c.args.least = to_z-of_z w32 c.args.least (search rules) in
    let values = c.args.values.now in
    let days : ℕ = c.min-days.result in
    subst (λ (z : ℤ). AreDays (value_from z c.args.count values) c.loop-place.word c.loop-place.values) near
    (all-are (value_from least c.args.count values) (value_from least days values) c.loop-place.place c.loop-place.word
    c.loop-place.values (omega arith) (no_32nd least days values (omega arith))
    (within_31 least c.args.count days values (omega arith)) c.loop-place.invariant.row)
