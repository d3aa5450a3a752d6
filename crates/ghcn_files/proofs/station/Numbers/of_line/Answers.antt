use Rattle.std.proofs.Common.{◌≡◌, ℤ, pos, neg_ℤ, ℕ, List, ◌∷◌, Option, true, false, refl, sym, ap, ◌∙◌, rules}
use Rattle.std.proofs.Common.{FitsSigned, to_z-of_z, w32}
use Rattle.ghcn_fields.specs.Meaning.Lines.{columns}
use Rattle.ghcn_fields.specs.Numbers.{scaled_field}
use Rattle.ghcn_files.specs.StationLines.{is_bad, number_within, unless_missing, latitude, longitude}
use Rattle.ghcn_files.proofs.Months.{test_held, test_failed}
use Rattle.ghcn_files.proofs.StationTests.{Tested, line_why-tested, numbers_of-parts}
use Rattle.ghcn_files.proofs.station.Numbers.of_line.Goals as goal

-- what is found in the columns of a latitude, after a blank
north : (line shown field : List ℕ) (found : Option ℤ)
    → found ≡ number_within (neg_ℤ (pos 900_000)) (pos 900_000) (scaled_field 4 field) → field ≡ 32 ∷ shown
    → shown ≡ columns 13 20 line
    → found ≡ number_within (neg_ℤ (pos 900_000)) (pos 900_000) (latitude line)
north line shown field found is after e =
    is ∙ ap (λ (xs : List ℕ). number_within (neg_ℤ (pos 900_000)) (pos 900_000) (scaled_field 4 xs))
    (after ∙ ap (λ (xs : List ℕ). 32 ∷ xs) e)

-- and in those of a longitude
east : (line field : List ℕ) (found : Option ℤ)
    → found ≡ number_within (neg_ℤ (pos 1_800_000)) (pos 1_800_000) (scaled_field 4 field) → field ≡ columns 22 30 line
    → found ≡ number_within (neg_ℤ (pos 1_800_000)) (pos 1_800_000) (longitude line)
east line field found is e =
    is ∙ ap (λ (xs : List ℕ). number_within (neg_ℤ (pos 1_800_000)) (pos 1_800_000) (scaled_field 4 xs)) e

-- a latitude out of range
pub returns-in_default-degrees-clause-err : goal.returns-in_default-degrees-clause-err
returns-in_default-degrees-clause-err c =
    let found = north c.args.line.now _ _ _ c.degrees.ensures c.after_blank.ensures c.columns.ensures in
    let tested : Tested c.args.line.now true false _ _ = record {
      long = c.if-line-lt-LEAST_COLUMNS.false;
      id_is = (test_held _ _ _ c.of_line.ensures c.in-Some.is).0;
      north_is = test_failed _ _ found c.in_default-degrees.is;
      east_is = refl;
      bad_is = refl;
    } in
    line_why-tested tested

-- a longitude out of range
pub returns-in_default-degrees-2-clause-err : goal.returns-in_default-degrees-2-clause-err
returns-in_default-degrees-2-clause-err c =
    let first = north c.args.line.now _ _ _ c.degrees.ensures c.after_blank.ensures c.columns.ensures in
    let second = east c.args.line.now _ _ c.degrees-2.ensures c.columns-2.ensures in
    let tested : Tested c.args.line.now true true false _ = record {
      long = c.if-line-lt-LEAST_COLUMNS.false;
      id_is = (test_held _ _ _ c.of_line.ensures c.in-Some.is).0;
      north_is = (test_held _ _ _ first c.in-Some-degrees.is).0;
      east_is = test_failed _ _ second c.in_default-degrees-2.is;
      bad_is = refl;
    } in
    line_why-tested tested

-- an elevation that isn't a number
pub returns-then-is_bad-clause-err : goal.returns-then-is_bad-clause-err
returns-then-is_bad-clause-err c =
    let first = north c.args.line.now _ _ _ c.degrees.ensures c.after_blank.ensures c.columns.ensures in
    let second = east c.args.line.now _ _ c.degrees-2.ensures c.columns-2.ensures in
    let tested : Tested c.args.line.now true true true true = record {
      long = c.if-line-lt-LEAST_COLUMNS.false;
      id_is = (test_held _ _ _ c.of_line.ensures c.in-Some.is).0;
      north_is = (test_held _ _ _ first c.in-Some-degrees.is).0;
      east_is = (test_held _ _ _ second c.in-Some-degrees-2.is).0;
      bad_is = ap is_bad (ap (scaled_field 1) (sym c.columns-3.ensures) ∙ sym c.tenths_field-elevation.ensures.value)
          ∙ sym c.is_bad.ensures ∙ c.if-is_bad.true;
    } in
    line_why-tested tested

-- a line that passes every test has no error
pub returns-clause-ok : goal.returns-clause-ok
returns-clause-ok c =
    let first = north c.args.line.now _ _ _ c.degrees.ensures c.after_blank.ensures c.columns.ensures in
    let second = east c.args.line.now _ _ c.degrees-2.ensures c.columns-2.ensures in
    let tested : Tested c.args.line.now true true true false = record {
      long = c.if-line-lt-LEAST_COLUMNS.false;
      id_is = (test_held _ _ _ c.of_line.ensures c.in-Some.is).0;
      north_is = (test_held _ _ _ first c.in-Some-degrees.is).0;
      east_is = (test_held _ _ _ second c.in-Some-degrees-2.is).0;
      bad_is = ap is_bad (ap (scaled_field 1) (sym c.columns-3.ensures) ∙ sym c.tenths_field-elevation.ensures.value)
          ∙ sym c.is_bad.ensures ∙ c.if-is_bad.false;
    } in
    line_why-tested tested

-- its numbers are the definition's
pub returns-clause-right : goal.returns-clause-right
returns-clause-right c =
    let line = c.args.line.now in
    let first = test_held _ _ _ (north line _ _ _ c.degrees.ensures c.after_blank.ensures c.columns.ensures)
    c.in-Some-degrees.is in
    let second = test_held _ _ _ (east line _ _ c.degrees-2.ensures c.columns-2.ensures) c.in-Some-degrees-2.is in
    let north_fits : FitsSigned w32 c.in-Some-degrees.latitude = search rules in
    let east_fits : FitsSigned w32 c.in-Some-degrees-2.longitude = search rules in
    numbers_of-parts line _ _ _ (to_z-of_z north_fits ∙ first.1) (to_z-of_z east_fits ∙ second.1)
    (c.unless_missing.ensures ∙ ap unless_missing
    (c.tenths_field-elevation.ensures.value ∙ ap (scaled_field 1) c.columns-3.ensures))
