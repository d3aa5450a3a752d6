-- What is said of an element on lines and more lines together.
use Rattle.std.proofs.Common.{◌≡◌, ℕ, ◌+◌, Bool, cond, List, [], ◌++◌, length, map, filter, refl, sym, ap, ap₂, subst}
use Rattle.std.proofs.Common.{◌∙◌, arith, ℤ, length-append}
use Rattle.std.specs.List.{filter_map, flat_map, count_by, sum_by}
use Rattle.std.proofs.lemmas.Grind.{flat_map-append}
use Rattle.std.proofs.lemmas.List.{append-nil, map-append}
use Rattle.std.proofs.lemmas.List.Elements.{filter-append, filter_map-append}
use Rattle.std.proofs.lemmas.List.Sums.{sum_by-append}
use Rattle.ghcn_files.specs.declared.station.Station.{Station}
use Rattle.ghcn_files.specs.declared.element.Element.{Element}
use Rattle.ghcn_files.specs.declared.month.Month.{Month}
use Rattle.ghcn_files.specs.Elements.{same_element}
use Rattle.ghcn_files.specs.Flags.{flagged_values}
use Rattle.ghcn_series.specs.DailyFaults.{FileLine, month_on}
use Rattle.ghcn_series.specs.Meaning.Says.{Fact}
use Rattle.ghcn_series.specs.Says.{facts_of, is_usable, usable_facts}
use Rattle.ghcn_description.specs.declared.counts.ElementCounts.{ElementCounts}
use Rattle.ghcn_description.specs.Lines.{is_listed_of, lines_of_element}
use Rattle.ghcn_description.specs.Described.{AreSums, IsSpan, days_of_element, flagged_of_element}
use Rattle.ghcn_description.specs.Steps.{AddsLines, JoinsCounts}

module _ (stations : List Station) (ls more : List FileLine) where
  -- the months of the first
  abbrev months : List Month
  months = filter_map month_on ls

  -- those of the first are followed by those of the others
  pub months-both : filter_map month_on (ls ++ more) ≡ months ++ filter_map month_on more
  months-both = filter_map-append month_on ls more

  -- a test of months counts those of both
  pub count-both : (p : Month → Bool)
      → count_by p (filter_map month_on (ls ++ more)) ≡ count_by p months + count_by p (filter_map month_on more)
  count-both p = ap (count_by p) months-both ∙ sum_by-append (λ m. cond (p m) 1 0) months (filter_map month_on more)

  -- the facts that count
  pub facts-both : usable_facts stations (ls ++ more) ≡ usable_facts stations ls ++ usable_facts stations more
  facts-both =
      ap (λ ms. filter (is_usable stations) (flat_map facts_of ms)) months-both
      ∙ ap (filter (is_usable stations)) (flat_map-append facts_of months (filter_map month_on more))
      ∙ filter-append (is_usable stations) (flat_map facts_of months) (flat_map facts_of (filter_map month_on more))

  -- the days of an element
  days-both : (e : Element)
      → days_of_element stations (ls ++ more) e ≡ days_of_element stations ls e ++ days_of_element stations more e
  days-both e =
      let of_it : Fact → Bool = λ f. same_element f.element e in
      ap (λ fs. map (λ (f : Fact). f.day) (filter of_it fs)) facts-both
      ∙ ap (map (λ (f : Fact). f.day)) (filter-append of_it (usable_facts stations ls) (usable_facts stations more))
      ∙ map-append (λ (f : Fact). f.day) (filter of_it (usable_facts stations ls))
      (filter of_it (usable_facts stations more))

  -- its flagged values
  flagged-both : (e : Element)
      → flagged_of_element stations (ls ++ more) e
      ≡ flagged_of_element stations ls e + flagged_of_element stations more e
  flagged-both e =
      let of_it : Month → Bool = is_listed_of stations e in
      ap (λ ms. sum_by flagged_values (filter of_it ms)) months-both
      ∙ ap (sum_by flagged_values) (filter-append of_it months (filter_map month_on more))
      ∙ sum_by-append flagged_values (filter of_it months) (filter of_it (filter_map month_on more))

  -- what more lines say of an element is added to what lines say of it
  pub sums-both : (c new : ElementCounts) (e : Element) (number : ℕ) (days : List ℤ) (flags : ℕ)
      → lines_of_element stations more e ≡ number → days_of_element stations more e ≡ days
      → flagged_of_element stations more e ≡ flags → AddsLines c new number days flags → AreSums stations ls c e
      → AreSums stations (ls ++ more) new e
  sums-both c new e number days flags all_lines all_days all_flags adds is =
      let joined : days_of_element stations (ls ++ more) e ≡ days_of_element stations ls e ++ days =
      days-both e ∙ ap (λ ds. days_of_element stations ls e ++ ds) all_days in
      record {
        element = adds.element ∙ is.element;
        lines = adds.lines ∙ ap₂ (λ (a b : ℕ). a + b) is.lines (sym all_lines)
            ∙ sym (count-both (is_listed_of stations e));
        days = adds.days ∙ ap (λ n. n + length days) is.days
            ∙ sym (ap length joined ∙ length-append (days_of_element stations ls e) days);
        flagged = adds.flagged ∙ ap₂ (λ (a b : ℕ). a + b) is.flagged (sym all_flags) ∙ sym (flagged-both e);
        span = subst (λ ds. IsSpan ds new.span) (sym joined) (adds.span (days_of_element stations ls e) is.span);
      }

  -- so what was counted on both
  pub sums-joined : (c d new : ElementCounts) (e : Element) → JoinsCounts c d new → AreSums stations ls c e
      → AreSums stations more d e → AreSums stations (ls ++ more) new e
  sums-joined c d new e joins is of =
      sums-both c new e d.lines (days_of_element stations more e) d.flagged (sym of.lines) refl (sym of.flagged)
      (joins.holds (days_of_element stations more e) of.days of.span) is

  -- lines of the same months say the same
  pub same-sums : (c : ElementCounts) (e : Element) → filter_map month_on more ≡ months → AreSums stations ls c e
      → AreSums stations more c e
  same-sums c e same of =
      let days : days_of_element stations more e ≡ days_of_element stations ls e =
      ap (λ ms. map (λ (f : Fact). f.day) (filter (λ f. same_element f.element e) (filter (is_usable stations)
      (flat_map facts_of ms)))) same in
      record {
        element = of.element;
        lines = of.lines ∙ sym (ap (count_by (is_listed_of stations e)) same);
        days = of.days ∙ sym (ap length days);
        flagged = of.flagged ∙ sym (ap (λ ms. sum_by flagged_values (filter (is_listed_of stations e) ms)) same);
        span = subst (λ ds. IsSpan ds c.span) (sym days) of.span;
      }

-- nothing is added
pub adds-nothing : (c : ElementCounts) → AddsLines c c 0 [] 0
adds-nothing c = record {
  element = refl;
  lines = omega arith;
  days = omega arith;
  flagged = omega arith;
  span = λ days is. subst (λ ds. IsSpan ds c.span) (sym (append-nil days)) is;
}
