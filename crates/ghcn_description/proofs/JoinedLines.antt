-- Lines that two describers have read, described by one.
use Rattle.std.proofs.Common.{◌≡◌, ℕ, ◌+◌, ◌<◌, ◌≤◌, Bool, cond, not, List, [], ◌∷◌, ◌++◌, length, map}
use Rattle.std.proofs.Common.{filter, get_or, set, refl, sym, ap, ap₂, ◌∙◌, arith, length-set, below_more}
use Rattle.std.specs.Prelude.{◌&&◌, ◌||◌}
use Rattle.std.specs.List.{flat_map, count_by, AllZip}
use lib.Lanes.{zip2}
use Rattle.std.proofs.lemmas.List.{get_or-set_same, get_or-set_other, same_lists}
use Rattle.std.proofs.lemmas.Simd.{length-zip2, get_or-zip2}
use Rattle.std.proofs.lemmas.List.Folds.{list_any-append}
use Rattle.std.proofs.lemmas.List.Sums.{sum_by-cons}
use Rattle.ghcn_files.specs.declared.station.Station.{Station}
use Rattle.ghcn_files.specs.declared.element.Element.{Element}
use Rattle.ghcn_files.specs.declared.element.Element.TheVariants.{Prcp, Snow, Snwd, Tmax, Tmin}
use Rattle.ghcn_files.specs.declared.month.Month.{Month}
use Rattle.ghcn_files.specs.Meaning.Elements.{elements}
use Rattle.ghcn_files.specs.Elements.{element_index, nothing, same_element}
use Rattle.ghcn_files.specs.Meaning.Ids.{same_id}
use Rattle.ghcn_series.specs.DailyFaults.{FileLine, is_listed}
use Rattle.ghcn_series.specs.Gathered.{HasReadFor}
use Rattle.ghcn_series.specs.LinesRead.{HaveReadAlike, JoinsLines, ReadOneStation}
use Rattle.ghcn_series.specs.Meaning.Says.{Fact}
use Rattle.ghcn_series.specs.Says.{facts_of, is_usable, usable_facts}
use Rattle.ghcn_series.proofs.ReadLines.{months-texts}
use Rattle.ghcn_description.specs.declared.counts.ElementCounts.{ElementCounts}
use Rattle.ghcn_description.specs.declared.describer.Describer.{Describer}
use Rattle.ghcn_description.specs.Lines.{lines_with, other_lines}
use Rattle.ghcn_description.specs.Described.{AreCounts, AreSums}
use Rattle.ghcn_description.specs.Describing.{HasDescribed, has_fact, elements_with}
use Rattle.ghcn_description.specs.Steps.{CountSeries, JoinElements, JoinsCodes, has_mark}
use Rattle.ghcn_description.proofs.DescribedLines.{are-five, at-element, at_place, five-agree, from-each}
use Rattle.ghcn_description.proofs.LinesOfCodes.{others-texts}
use Rattle.ghcn_description.proofs.FactsOfMonths.{series-are}
use Rattle.ghcn_description.proofs.LinesTogether.{count-both, facts-both, same-sums, sums-joined}

-- ---- place by place

module _ {A : Type 0} where
  -- the elements below a place are as they are to be, and the others as they were
  pub record AreDoneTo (P : ℕ → A → Type 0) (k : ℕ) (olds news : List A) : Type 0 where
    pub long : length news ≡ length olds
    pub done : (i : ℕ) → i < k → (d : A) → P i (get_or news i d)
    pub kept : (i : ℕ) → k ≤ i → (d : A) → get_or news i d ≡ get_or olds i d

  -- before the first place
  pub done-none : (P : ℕ → A → Type 0) (olds : List A) → AreDoneTo P 0 olds olds
  done-none P olds = record {
    long = refl;
    done = λ i below d. absurd (omega (arith, below));
    kept = λ i above d. refl;
  }

  -- one place more
  pub done-more : (P : ℕ → A → Type 0) (k : ℕ) (olds news : List A) (new : A) → k < length news → P k new
      → AreDoneTo P k olds news → AreDoneTo P (k + 1) olds (set news k new)
  done-more P k olds news new lt so is = record {
    long = length-set news k new ∙ is.long;
    done = below_more (λ i. (d : A) → P i (get_or (set news k new) i d)) k
        (λ i below d. rw (get_or-set_other news k i new d (omega (arith, below))) (is.done i below d))
        (λ d. rw (get_or-set_same news k new d lt) so);
    kept = λ i above d.
        get_or-set_other news k i new d (omega (arith, above)) ∙ is.kept i (omega (arith, above)) d;
  }

-- what a function makes of two lists, place by place
pub zipped : {A : Type 0} (f : A → A → A) (olds others news : List A) → length others ≡ length olds
    → length news ≡ length olds
    → ((i : ℕ) → i < length olds → (d : A) → get_or news i d ≡ f (get_or olds i d) (get_or others i d))
    → news ≡ zip2 f olds others
zipped f olds others news same long each =
    same_lists news (zip2 f olds others) (long ∙ sym (length-zip2 f olds others (sym same)))
    (λ k d lt. each k (omega (arith, lt, long)) d
    ∙ sym (get_or-zip2 f olds others k d d d (omega (arith, lt, long)) (omega (arith, lt, long, same))))

-- ---- marks

-- of which elements a station has a fact among two lists of them
marks-joined : (fs gs : List Fact) (ss : List Station)
    → zip2 (zip2 ◌||◌) (map (elements_with fs) ss) (map (elements_with gs) ss) ≡ map (elements_with (fs ++ gs)) ss
marks-joined fs gs [] = refl
marks-joined fs gs (s ∷ ss) =
    ap₂ (λ (b : List Bool) bs. b ∷ bs)
    (sym (five-agree (has_fact (fs ++ gs) s.id) (λ e. has_fact fs s.id e || has_fact gs s.id e)
    (λ e. list_any-append (λ f. same_id f.id s.id && same_element f.element e) fs gs)))
    (marks-joined fs gs ss)

-- a station is marked at an element's place if it has a fact of it
marked : (facts : List Fact) (e : Element) (s : Station)
    → has_mark (element_index e) (elements_with facts s) ≡ has_fact facts s.id e
marked facts Prcp s = refl
marked facts Snow s = refl
marked facts Snwd s = refl
marked facts Tmax s = refl
marked facts Tmin s = refl

-- as many stations are marked there as have a fact of the element
marks-counted : (facts : List Fact) (e : Element) (ss : List Station)
    → count_by (has_mark (element_index e)) (map (elements_with facts) ss) ≡ count_by (λ s. has_fact facts s.id e) ss
marks-counted facts e [] = refl
marks-counted facts e (s ∷ ss) =
    omega (
      arith,
      ap (λ b. cond {A = ℕ} b 1 0) (marked facts e s),
      marks-counted facts e ss,
      sum_by-cons (λ m. cond (has_mark (element_index e) m) 1 0) (elements_with facts s) (map (elements_with facts) ss),
      sum_by-cons (λ t. cond (has_fact facts t.id e) 1 0) s ss,
    )

-- the series of the elements are counted by the marks of stations
pub series-counted : (stations : List Station) (ls : List FileLine) (olds news : List ElementCounts)
    (marks : List (List Bool)) → marks ≡ map (elements_with (usable_facts stations ls)) stations
    → CountSeries olds marks news → AllZip (AreSums stations ls) olds elements
    → AllZip (AreCounts stations ls) news elements
series-counted stations ls olds news marks are counted of =
    from-each (AreCounts stations ls) news (counted.long ∙ are-five (AreSums stations ls) olds of)
    (λ e d.
    let sums = at-element (AreSums stations ls) olds of e d in
    rw (counted.each (element_index e) d (at_place e).0) (record {
      sums = record {
        element = sums.element;
        lines = sums.lines;
        days = sums.days;
        flagged = sums.flagged;
        span = sums.span;
      };
      series = ap (count_by (has_mark (element_index e))) are ∙ marks-counted (usable_facts stations ls) e stations
          ∙ sym (series-are (usable_facts stations ls) e stations);
    }))

-- ---- describers

-- a describer has read what two have read
pub described-joined : (first next both : Describer) → JoinsLines HasReadFor first.reader next.reader both.reader
    → both.with_days.items ≡ zip2 (zip2 ◌||◌) first.with_days.items next.with_days.items
    → JoinElements first.elements next.elements both.elements → JoinsCodes first.others next.others both.others
    → both.unlisted ≡ first.unlisted + next.unlisted → JoinsLines HasDescribed first next both
described-joined first next both reads marks counts codes unlisted = record {
  holds = λ stations keep ls more numbered is of same.
      let months = months-texts numbered more same in
      let facts : usable_facts stations numbered ≡ usable_facts stations more =
      ap (λ ms. filter (is_usable stations) (flat_map facts_of ms)) months in
      record {
        read = reads.holds stations nothing ls more numbered is.read of.read same;
        counts = from-each (AreSums stations (ls ++ numbered)) both.elements
            (counts.long ∙ are-five (AreSums stations ls) first.elements is.counts)
            (λ e d.
            sums-joined stations ls numbered (get_or first.elements (element_index e) d)
            (get_or next.elements (element_index e) d) (get_or both.elements (element_index e) d) e
            (counts.each (element_index e) d (at_place e).0)
            (at-element (AreSums stations ls) first.elements is.counts e d)
            (same-sums stations more numbered (get_or next.elements (element_index e) d) e months
            (at-element (AreSums stations more) next.elements of.counts e d)));
        with_days = marks ∙ ap₂ (zip2 (zip2 ◌||◌)) is.with_days of.with_days
            ∙ marks-joined (usable_facts stations ls) (usable_facts stations more) stations
            ∙ ap (λ fs. map (elements_with fs) stations)
            (ap (λ fs. usable_facts stations ls ++ fs) (sym facts) ∙ sym (facts-both stations ls numbered));
        others = others-texts ls more numbered both.others.counts.items both.others.further same
            (codes.holds (lines_with ls) (lines_with more) (other_lines ls) (other_lines more) is.others of.others);
        unlisted = unlisted ∙ ap₂ (λ (a b : ℕ). a + b) is.unlisted
            (of.unlisted ∙ sym (ap (count_by (λ (m : Month). not (is_listed stations m.id))) months))
            ∙ sym (count-both stations ls numbered (λ m. not (is_listed stations m.id)));
      };
}

-- or a listed station has months in both
pub described-apart : (first next : Describer) → ReadOneStation HasReadFor first.reader next.reader
    → ReadOneStation HasDescribed first next
described-apart first next apart = record {
  share = λ stations keep ls more is of. apart.share stations nothing ls more is.read of.read;
}

-- the readers of two describers have read lines for the same stations
pub read-alike : (first next : Describer) → HaveReadAlike HasDescribed first next
    → HaveReadAlike HasReadFor first.reader next.reader
read-alike first next alike = record {
  stations = alike.stations;
  keep = nothing;
  lines = alike.lines;
  more = alike.more;
  of_first = alike.of_first.read;
  of_next = alike.of_next.read;
}
