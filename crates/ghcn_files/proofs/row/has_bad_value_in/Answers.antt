use Rattle.std.proofs.Common.{◌≡◌, ℕ, ◌+◌, ◌-◌, ◌*◌, List, true, refl, sym, ap, ◌∙◌, arith}
use Rattle.std.specs.Prelude.{bit_or}
use Rattle.std.specs.Simd.Lanes.{zip2}
use Rattle.std.proofs.lemmas.Simd.{length-zip2}
use Rattle.ghcn_fields.specs.FieldForms.{are_clear}
use Rattle.ghcn_fields.specs.Meaning.Lines.{columns}
use Rattle.ghcn_fields.specs.Numbers.{int_field, is_bad}
use Rattle.ghcn_files.proofs.Readings.{all_tests, no_test, passes-fine, two-fine, neither, tests_from}
use Rattle.ghcn_files.proofs.Readings.{both_clear, unless_true, is_so}
use Rattle.ghcn_files.proofs.row.has_bad_value_in.Goals as goal

-- the tests of two days more are passed if their lanes are 0
pub loop-pair-preserved : goal.loop-pair-preserved
loop-pair-preserved c =
    let line : List ℕ = c.args.line.now in
    let pair : ℕ = c.loop-pair.pair in
    let bad : List ℕ = c.loop-pair.bad in
    let more : List ℕ = c.bad_columns-bad.result in
    let long = c.loop-pair.invariant.many ∙ sym c.bad_columns-bad.ensures.many in
    record {
      many = length-zip2 bit_or bad more long ∙ c.loop-pair.invariant.many;
      passed = λ clear.
          let parts = both_clear bad more long clear in
          let one : 2 * pair + 1 ≡ 1 + 2 * pair = omega arith in
          let two : 2 * pair + 2 ≡ 1 + 2 * pair + 1 = omega arith in
          let next : 1 + 2 * pair + 2 ≡ 1 + 2 * (pair + 1) = omega arith in
          c.loop-pair.invariant.passed parts.0
          ∙ two-fine line (1 + 2 * pair) (31 - 2 * pair) (31 - 2 * (pair + 1)) _ _ (omega arith)
          (c.two_groups.ensures.first ∙ ap (λ (d : ℕ). columns (14 + 8 * d) (18 + 8 * d) line) one)
          (c.two_groups.ensures.second ∙ ap (λ (d : ℕ). columns (14 + 8 * d) (18 + 8 * d) line) two)
          (unless_true _ (sym c.bad_columns-bad.ensures.bad ∙ parts.1))
          ∙ ap (λ (d : ℕ). tests_from line d (31 - 2 * (pair + 1))) next;
    }

-- the last two days have as many lanes as those before
pub are_clear-requires : goal.are_clear-requires
are_clear-requires c =
    length-zip2 bit_or c.loop-pair.bad c.bad_columns.result
    (c.loop-pair.invariant.many ∙ sym c.bad_columns.ensures.many) ∙ c.loop-pair.invariant.many

-- with those of the last day, all are passed
pub returns : goal.returns
returns c = λ none.
    let line : List ℕ = c.args.line.now in
    let pair : ℕ = c.loop-pair.pair in
    let bad : List ℕ = c.loop-pair.bad in
    let more : List ℕ = c.bad_columns.result in
    let long = c.loop-pair.invariant.many ∙ sym c.bad_columns.ensures.many in
    let all : are_clear (zip2 bit_or bad more) ≡ true = sym c.are_clear.ensures ∙ is_so c.are_clear.result none in
    let begin : 1 + 2 * pair ≡ 31 = omega arith in
    let left : 31 - 2 * pair ≡ 1 = omega arith in
    let parts = both_clear bad more long all in
    let last = neither _ _ (unless_true _ (sym c.bad_columns.ensures.bad ∙ parts.1)) in
    all_tests line ∙ c.loop-pair.invariant.passed parts.0
    ∙ ap (λ (d : ℕ). tests_from line d (31 - 2 * pair)) begin ∙ ap (tests_from line 31) left
    ∙ passes-fine line 31 1 0 refl
    (sym (ap (λ (bytes : List ℕ). is_bad (int_field bytes)) c.two_groups-last_two.ensures.second) ∙ last.1)
    ∙ no_test line 32 0 refl
