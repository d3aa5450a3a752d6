use Rattle.std.proofs.Common.{◌≡◌, ◌+◌, ◌-◌, ◌++◌, ◌∷◌, [], List, sym, ap, ◌∙◌, arith, map, Ok, Option, length-set}
use Rattle.std.specs.List.{range_with_len}
use Rattle.std.proofs.lemmas.List.{take_more_set, take_all}
use Rattle.std.proofs.lemmas.List.FromFn.{map-range_with_len_more}
use Rattle.ghcn_files.specs.declared.month.Reading.{Reading}
use Rattle.ghcn_files.specs.declared.fault.LineWhy.{LineWhy}
use Rattle.ghcn_files.specs.Months.{reading, unless, days_of_group}
use Rattle.ghcn_files.proofs.Readings.{all_tests, no_test, all_days, passes, fails, tests_from}
use Rattle.ghcn_files.proofs.month.readings.Goals as goal

-- the first day that can't be read decides
pub returns-in-None : goal.returns-in-None
returns-in-None c =
    let line = c.args.line.now in
    let day = c.loop-day.day in
    let failed = fails line (day + 1) (31 - day) (30 - day) (omega arith) (sym c.reading_of.ensures ∙ c.in-None.is) in
    let first = all_tests line ∙ c.loop-day.invariant.passed ∙ ap (λ n. tests_from line n (31 - day)) (omega arith)
    ∙ failed in
    sym (ap (λ (o : Option LineWhy). unless o (map (reading line) days_of_group)) first)

-- one day more is read
pub loop-day-preserved : goal.loop-day-preserved
loop-day-preserved c =
    let day = c.loop-day.day in
    let line = c.args.line.now in
    let so_far = c.loop-day.invariant in
    let passed = passes line (day + 1) (31 - day) (31 - (day + 1)) c.in-Some.reading (omega arith)
    (sym c.reading_of.ensures ∙ c.in-Some.is) in
    record {
      many = length-set c.loop-day.days day c.in-Some.reading ∙ so_far.many;
      read =
          take_more_set c.loop-day.days day c.in-Some.reading (omega arith)
          ∙ ap (λ (rs : List Reading). rs ++ c.in-Some.reading ∷ []) so_far.read
          ∙ ap (λ (r : Reading). map (reading line) (range_with_len 1 day) ++ r ∷ []) passed.0
          ∙ sym (map-range_with_len_more (reading line) 1 day (day + 1) (omega arith));
      passed = so_far.passed ∙ ap (λ n. tests_from line n (31 - day)) (omega arith) ∙ passed.1
          ∙ ap (λ n. tests_from line n (31 - (day + 1))) (omega arith);
    }

-- all days are read
pub returns : goal.returns
returns c =
    let line = c.args.line.now in
    let day = c.loop-day.day in
    let so_far = c.loop-day.invariant in
    let none = all_tests line ∙ so_far.passed ∙ no_test line (1 + day) (31 - day) (omega arith) in
    let all : c.loop-day.days ≡ map (reading line) days_of_group =
    sym (take_all day c.loop-day.days (omega (arith, so_far.many))) ∙ so_far.read
    ∙ all_days line day (omega arith) in
    ap (λ (days : List Reading). Ok days) all ∙ sym
    (ap (λ (o : Option LineWhy). unless o (map (reading line) days_of_group)) none)
