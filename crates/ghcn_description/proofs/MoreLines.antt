-- One more line, and what it adds to what is counted.
use Rattle.std.proofs.Common.{◌≡◌, ℕ, zero, suc, ◌+◌, ◌<◌, Bool, true, false, cond, not, List, [], ◌∷◌, ◌++◌, length}
use Rattle.std.proofs.Common.{map, filter, get_or, set, Some, refl, sym, ap, subst, ◌∙◌, arith}
use Rattle.std.specs.Prelude.{◌&&◌, ◌||◌, ◌==◌}
use Rattle.std.specs.List.{cons_option, filter_map, flat_map, enumerate_from, count_by, sum_by}
use Rattle.std.specs.List.{AllByRecursion, IsDistinct, position_or_len}
use Rattle.std.proofs.lemmas.List.{append-nil, length-map}
use Rattle.std.proofs.lemmas.List.Folds.{list_any-append}
use Rattle.ghcn_files.specs.declared.station.StationId.{StationId}
use Rattle.ghcn_files.specs.declared.station.Station.{Station}
use Rattle.ghcn_files.specs.declared.element.Element.{Element}
use Rattle.ghcn_files.specs.declared.element.Element.TheVariants.{Prcp, Snow, Snwd, Tmax, Tmin}
use Rattle.ghcn_files.specs.declared.month.Month.{Month}
use Rattle.ghcn_files.specs.Meaning.Ids.{same_id}
use Rattle.ghcn_files.proofs.IdLaws.{same_id-is, same_id-turned}
use Rattle.ghcn_files.specs.Meaning.Elements.{elements}
use Rattle.ghcn_files.specs.Elements.{same_element, element_index}
use Rattle.ghcn_files.specs.Flags.{flagged_values}
use Rattle.ghcn_files.specs.Meaning.Listed.{is_station_of}
use Rattle.ghcn_series.specs.Meaning.Series.{DayValue}
use Rattle.ghcn_series.specs.DailyFaults.{FileLine, month_on, is_listed}
use Rattle.ghcn_series.specs.Meaning.Says.{Fact}
use Rattle.ghcn_series.specs.Says.{facts_of, is_usable, usable_facts}
use Rattle.ghcn_series.specs.Gathered.{usable_days}
use Rattle.ghcn_series.proofs.Places.{ids}
use Rattle.ghcn_description.specs.declared.counts.ElementCounts.{ElementCounts}
use Rattle.ghcn_description.specs.Lines.{is_listed_of, lines_of_element}
use Rattle.ghcn_description.specs.Described.{AreSums, days_of_element, flagged_of_element}
use Rattle.ghcn_description.specs.Describing.{has_fact}
use Rattle.ghcn_description.specs.Steps.{CountsMonth, days_of_month, has_day}
use Rattle.ghcn_description.proofs.FactsOfMonths.{fact_on, own-facts, days-of, of-element, of-series}
use Rattle.ghcn_description.proofs.LinesTogether.{adds-nothing, count-both, facts-both, sums-both}

-- ---- one station

-- two functions of stations that differ at one ID alone make lists that differ at its place alone
pub changed-at : {A : Type 0} (f g : Station → A) (h : A → A) (d : A) (id : StationId) (ss : List Station) (k : ℕ)
    → IsDistinct same_id (ids ss) → position_or_len (is_station_of id) ss ≡ k → k < length ss
    → ((s : Station) → same_id s.id id ≡ false → g s ≡ f s) → ((s : Station) → same_id s.id id ≡ true → g s ≡ h (f s))
    → map g ss ≡ set (map f ss) k (h (get_or (map f ss) k d))
unfolding IsDistinct
changed-at f g h d id [] k apart at lt others this = absurd (omega arith)
changed-at f g h d id (s ∷ ss) k apart at lt others this = go (same_id s.id id) k refl at lt (changed-at f g h d id ss)
  where
    none-changed : (ts : List Station) → AllByRecursion (λ y. same_id s.id y ≡ false) (ids ts) → same_id s.id id ≡ true
        → map g ts ≡ map f ts
    none-changed [] all is = refl
    none-changed (t ∷ ts) all is =
        let same : s.id ≡ id = same_id-is s.id id is in
        let other : same_id t.id id ≡ false = subst (λ i. same_id t.id i
        ≡ false) same (same_id-turned t.id s.id ∙ all.0) in
        rw (others t other, none-changed ts all.1 is) refl

    -- the place is that of the first station, or of one after it
    go : (t : Bool) (k : ℕ) → same_id s.id id ≡ t
        → cond (not t) (1 + position_or_len (is_station_of id) ss) 0 ≡ k → k < length (s ∷ ss)
        → ((k : ℕ) → IsDistinct same_id (ids ss) → position_or_len (is_station_of id) ss ≡ k → k < length ss
        → ((s : Station) → same_id s.id id ≡ false → g s ≡ f s) → ((s : Station) → same_id s.id id ≡ true
        → g s ≡ h (f s))
        → map g ss ≡ set (map f ss) k (h (get_or (map f ss) k d)))
        → map g (s ∷ ss) ≡ set (map f (s ∷ ss)) k (h (get_or (map f (s ∷ ss)) k d))
    go true zero is at lt more = rw (this s is, none-changed ss apart.0 is) refl
    go true (suc k) is at lt more = absurd (omega (arith, at))
    go false zero is at lt more = absurd (omega (arith, at))
    go false (suc k) is at lt more =
        rw (others s is, more k apart.1 (omega (arith, at)) (omega arith) others this) refl

-- nothing or a test is the test
or_false : (b : Bool) → (b || false) ≡ b
or_false true = refl
or_false false = refl

-- of five tests, that of one element changes
pub bit-set : (x : Element) (h : Element → Bool) (b : Bool) → map (λ e. h e || (same_element x e && b)) elements
    ≡ set (map h elements) (element_index x) (get_or (map h elements) (element_index x) false || b)
bit-set Prcp h b = rw (or_false (h Snow), or_false (h Snwd), or_false (h Tmax), or_false (h Tmin)) refl
bit-set Snow h b = rw (or_false (h Prcp), or_false (h Snwd), or_false (h Tmax), or_false (h Tmin)) refl
bit-set Snwd h b = rw (or_false (h Prcp), or_false (h Snow), or_false (h Tmax), or_false (h Tmin)) refl
bit-set Tmax h b = rw (or_false (h Prcp), or_false (h Snow), or_false (h Snwd), or_false (h Tmin)) refl
bit-set Tmin h b = rw (or_false (h Prcp), or_false (h Snow), or_false (h Snwd), or_false (h Tmax)) refl

-- ---- one more line

module _ (stations : List Station) (ls : List FileLine) (l : FileLine) (m : Month) (is : month_on l ≡ Some m) where
  -- the lines and one more
  abbrev after : List FileLine
  after = ls ++ l ∷ []

  -- the line has this month
  own-month : filter_map month_on (l ∷ []) ≡ m ∷ []
  own-month = ap (λ o. cons_option o []) is

  -- its facts that count are those of the month's usable days, if the station is listed
  own : usable_facts stations (l ∷ []) ≡ cond (is_listed stations m.id) (map (fact_on m) (usable_days m)) []
  own =
      ap (λ ms. filter (is_usable stations) (flat_map facts_of ms)) own-month
      ∙ ap (filter (is_usable stations)) (append-nil (facts_of m)) ∙ own-facts stations m (enumerate_from 1 m.days)

  -- a test of months counts it too
  pub months-counted : (p : Month → Bool)
      → count_by p (filter_map month_on after) ≡ count_by p (filter_map month_on ls) + cond (p m) 1 0
  months-counted p =
      let one : count_by p (filter_map month_on (l ∷ [])) ≡ cond (p m) 1 0 =
      ap (count_by p) own-month ∙ omega arith in
      count-both stations ls (l ∷ []) p ∙ ap (λ n. count_by p (filter_map month_on ls) + n) one

  -- its lines of an element
  own-lines : (e : Element) → lines_of_element stations (l ∷ []) e ≡ cond (is_listed_of stations e m) 1 0
  own-lines e = ap (count_by (is_listed_of stations e)) own-month ∙ omega arith

  -- its days
  own-days : (e : Element)
      → days_of_element stations (l ∷ []) e ≡ cond (is_listed_of stations e m) (days_of_month m) []
  own-days e =
      ap (λ fs. map (λ (f : Fact). f.day) (filter (λ f. same_element f.element e) fs)) own
      ∙ go (is_listed stations m.id) (same_element m.element e) (of-element m e (usable_days m))
    where
      go : (b s : Bool) → filter (λ f. same_element f.element e) (map (fact_on m) (usable_days m))
          ≡ cond s (map (fact_on m) (usable_days m)) []
          → map (λ (f : Fact). f.day)
          (filter (λ f. same_element f.element e) (cond b (map (fact_on m) (usable_days m)) []))
          ≡ cond (b && s) (days_of_month m) []
      go true true all = ap (map (λ (f : Fact). f.day)) all ∙ days-of m (usable_days m)
      go true false none = ap (map (λ (f : Fact). f.day)) none
      go false s h = refl

  -- its flagged values
  own-flagged : (e : Element)
      → flagged_of_element stations (l ∷ []) e ≡ cond (is_listed_of stations e m) (flagged_values m) 0
  own-flagged e =
      ap (λ ms. sum_by flagged_values (filter (is_listed_of stations e) ms)) own-month ∙ go (is_listed_of stations e m)
    where
      go : (b : Bool) → sum_by flagged_values (cond b (m ∷ []) []) ≡ cond b (flagged_values m) 0
      go true = omega arith
      go false = refl

  -- what was counted of its element has the month
  pub sums-this : (c new : ElementCounts) (e : Element) → is_listed_of stations e m ≡ true → CountsMonth c new m
      → AreSums stations ls c e → AreSums stations after new e
  sums-this c new e this adds of =
      sums-both stations ls (l ∷ []) c new e 1 (days_of_month m) (flagged_values m)
      (own-lines e ∙ ap (λ b. cond b 1 0) this)
      (own-days e ∙ ap (λ b. cond b (days_of_month m) []) this)
      (own-flagged e ∙ ap (λ b. cond b (flagged_values m) 0) this) adds of

  -- what was counted of another element, or if the station isn't listed, stays
  pub sums-other : (c : ElementCounts) (e : Element) → is_listed_of stations e m ≡ false → AreSums stations ls c e
      → AreSums stations after c e
  sums-other c e other of =
      sums-both stations ls (l ∷ []) c c e 0 [] 0 (own-lines e ∙ ap (λ b. cond b 1 0) other)
      (own-days e ∙ ap (λ b. cond b (days_of_month m) []) other)
      (own-flagged e ∙ ap (λ b. cond b (flagged_values m) 0) other) (adds-nothing c) of

  -- a month of a station that isn't listed has no facts that count
  pub unlisted-facts : is_listed stations m.id ≡ false → usable_facts stations after ≡ usable_facts stations ls
  unlisted-facts out =
      facts-both stations ls (l ∷ [])
      ∙ ap (λ fs. usable_facts stations ls ++ fs) (own ∙ ap (λ b. cond b (map (fact_on m) (usable_days m)) []) out)
      ∙ append-nil (usable_facts stations ls)

  -- which series has a fact, if the station is listed
  pub facts-are : is_listed stations m.id ≡ true → (id : StationId) (e : Element)
      → has_fact (usable_facts stations after) id e
      ≡ (has_fact (usable_facts stations ls) id e || ((same_id m.id id && same_element m.element e) && has_day m))
  facts-are listed id e =
      ap (λ fs. has_fact fs id e) (facts-both stations ls (l ∷ []))
      ∙ list_any-append (λ f. same_id f.id id && same_element f.element e) (usable_facts stations ls)
      (usable_facts stations (l ∷ []))
      ∙ ap (λ b. has_fact (usable_facts stations ls) id e || b)
      (ap (λ fs. has_fact fs id e) (own ∙ ap (λ b. cond b (map (fact_on m) (usable_days m)) []) listed)
      ∙ of-series m id e (usable_days m)
      ∙ ap (λ n. (same_id m.id id && same_element m.element e) && not (n == 0))
      (sym (length-map (usable_days m) (λ (x : DayValue). x.0))))
