-- The facts of a month that count, and how many series facts have.
use Rattle.std.proofs.Common.{◌≡◌, ℕ, suc, ◌+◌, Bool, true, false, cond, not, List, [], ◌∷◌, length, map, filter}
use Rattle.std.proofs.Common.{Option, Some, None, refl, sym, ap, ◌∙◌, arith, ℤ, pos}
use Rattle.std.specs.Prelude.{◌&&◌, ◌||◌, ◌==◌, int_le}
use Rattle.std.specs.List.{cons_option, filter_map, flat_map, list_any, count_by}
use Rattle.std.specs.Option.{option_and_then}
use Rattle.std.proofs.lemmas.Bool.Decides.{nat_tests}
use Rattle.std.proofs.lemmas.List.{length-map}
use Rattle.std.proofs.lemmas.List.Elements.{filter-append}
use Rattle.std.proofs.lemmas.List.Sums.{sum_by-append, sum_by-cons}
use Rattle.ghcn_fields.specs.Days.{day_number}
use Rattle.ghcn_files.specs.declared.station.StationId.{StationId}
use Rattle.ghcn_files.specs.declared.station.Station.{Station}
use Rattle.ghcn_files.specs.declared.element.Element.{Element}
use Rattle.ghcn_files.specs.declared.element.Element.TheVariants.{Prcp, Snow, Snwd, Tmax, Tmin}
use Rattle.ghcn_files.specs.declared.month.Month.{Month}
use Rattle.ghcn_files.specs.declared.month.Reading.{Reading}
use Rattle.ghcn_files.specs.Meaning.Ids.{same_id}
use Rattle.ghcn_files.specs.Meaning.Elements.{elements, may_be_negative}
use Rattle.ghcn_files.specs.Elements.{same_element}
use Rattle.ghcn_series.specs.Meaning.Series.{DayValue, Series}
use Rattle.ghcn_series.specs.DailyFaults.{is_listed}
use Rattle.ghcn_series.specs.Meaning.Says.{Fact}
use Rattle.ghcn_series.specs.Says.{fact_if, fact_of, is_usable, days_of, usable_of, all_series}
use Rattle.ghcn_series.specs.Gathered.{counted_day, usable_day}
use Rattle.ghcn_series.proofs.ReadySeries.{length-sorted}
use Rattle.ghcn_description.specs.Describing.{has_fact}

-- ---- the facts of a month

-- a day of a month with its value, as a fact
abbrev pub fact_on : Month → DayValue → Fact
fact_on m x = record { id = m.id; element = m.element; day = x.0; value = x.1 }

-- of some days of a month, the facts that count are the usable days, if the station is listed
pub own-facts : (stations : List Station) (m : Month) (xs : List (ℕ × Reading))
    → filter (is_usable stations) (filter_map (fact_of m) xs)
    ≡ cond (is_listed stations m.id) (map (fact_on m) (filter_map (usable_day m) xs)) []
own-facts stations m [] = none (is_listed stations m.id)
  where
    none : (b : Bool) → [] ≡ cond {A = List Fact} b [] []
    none true = refl
    none false = refl
own-facts stations m (x ∷ xs) =
    go x.1.flagged (day_number m.year m.month x.0) x.1.value (own-facts stations m xs)
  where
    -- a day that counts is one more fact
    one : (d : DayValue) (fs : List Fact) (ds : List DayValue) (l c : Bool) → fs ≡ cond l (map (fact_on m) ds) []
        → cond (l && c) (fact_on m d ∷ fs) fs ≡ cond l (map (fact_on m) (cons_option (cond c (Some d) None) ds)) []
    one d fs ds true true more = ap (λ gs. fact_on m d ∷ gs) more
    one d fs ds true false more = more
    one d fs ds false c more = more

    go : (flagged : Bool) (day value : Option ℤ)
        → filter (is_usable stations) (filter_map (fact_of m) xs)
        ≡ cond (is_listed stations m.id) (map (fact_on m) (filter_map (usable_day m) xs)) []
        → filter (is_usable stations) (cons_option (fact_if m flagged day value) (filter_map (fact_of m) xs))
        ≡ cond (is_listed stations m.id) (map (fact_on m)
        (cons_option (option_and_then counted_day (fact_if m flagged day value)) (filter_map (usable_day m) xs))) []
    go true day value more = more
    go false None value more = more
    go false (Some d) None more = more
    go false (Some d) (Some v) more =
        one (d, v) (filter (is_usable stations) (filter_map (fact_of m) xs)) (filter_map (usable_day m) xs)
        (is_listed stations m.id) (may_be_negative m.element || int_le (pos 0) v) more

-- they have the days
pub days-of : (m : Month) (ds : List DayValue)
    → map (λ (f : Fact). f.day) (map (fact_on m) ds) ≡ map (λ (x : DayValue). x.0) ds
days-of m [] = refl
days-of m (d ∷ ds) = ap (λ ns. d.0 ∷ ns) (days-of m ds)

-- those of an element are all or none
pub of-element : (m : Month) (e : Element) (ds : List DayValue)
    → filter (λ f. same_element f.element e) (map (fact_on m) ds)
    ≡ cond (same_element m.element e) (map (fact_on m) ds) []
of-element m e [] = go (same_element m.element e)
  where
    go : (b : Bool) → [] ≡ cond {A = List Fact} b [] []
    go true = refl
    go false = refl
of-element m e (d ∷ ds) =
    go (same_element m.element e) (filter (λ f. same_element f.element e) (map (fact_on m) ds)) (of-element m e ds)
  where
    go : (b : Bool) (fs : List Fact) → fs ≡ cond b (map (fact_on m) ds) []
        → cond b (fact_on m d ∷ fs) fs ≡ cond b (fact_on m d ∷ map (fact_on m) ds) []
    go true fs more = ap (λ gs. fact_on m d ∷ gs) more
    go false fs more = more

-- one more isn't nothing
not_zero : (n : ℕ) → (suc n == 0) ≡ false
not_zero n = grind (arith, nat_tests)

-- one of them is about a station and element if and only if the month is and there is one
pub of-series : (m : Month) (id : StationId) (e : Element) (ds : List DayValue)
    → has_fact (map (fact_on m) ds) id e ≡ ((same_id m.id id && same_element m.element e) && not (length ds == 0))
of-series m id e [] = go (same_id m.id id && same_element m.element e)
  where
    go : (b : Bool) → false ≡ (b && false)
    go true = refl
    go false = refl
of-series m id e (d ∷ ds) = go (same_id m.id id && same_element m.element e) (of-series m id e ds)
  where
    go : (b : Bool) → has_fact (map (fact_on m) ds) id e ≡ (b && not (length ds == 0))
        → (b || has_fact (map (fact_on m) ds) id e) ≡ (b && not (suc (length ds) == 0))
    go true more = sym (ap not (not_zero (length ds)))
    go false more = more

-- ---- series

-- an element of a list passes a test, or none is left of it
any-left : {A : Type 0} (p : A → Bool) (xs : List A) → not (length (filter p xs) == 0) ≡ list_any p xs
any-left p [] = refl
any-left p (x ∷ xs) = go (p x) (any-left p xs)
  where
    go : (b : Bool) → not (length (filter p xs) == 0) ≡ list_any p xs
        → not (length (cond b (x ∷ filter p xs) (filter p xs)) == 0) ≡ (b || list_any p xs)
    go true more = ap not (not_zero (length (filter p xs)))
    go false more = more

-- a series has a day if and only if a fact is about it
has-days : (facts : List Fact) (id : StationId) (e : Element)
    → not (length (days_of facts id e) == 0) ≡ has_fact facts id e
has-days facts id e =
    let mine : List Fact = filter (λ f. same_id f.id id && same_element f.element e) facts in
    ap (λ n. not (n == 0)) (length-sorted (map (λ f. (f.day, f.value)) mine) ∙ length-map mine (λ f. (f.day, f.value)))
    ∙ any-left (λ f. same_id f.id id && same_element f.element e) facts

-- of what is kept, those that pass are those that are kept and pass
count-left : {A : Type 0} (p q : A → Bool) (xs : List A) → count_by p (filter q xs) ≡ count_by (λ x. q x && p x) xs
count-left p q [] = refl
count-left p q (x ∷ xs) = go (q x) (count-left p q xs) ∙ sym (sum_by-cons (λ y. cond (q y && p y) 1 0) x xs)
  where
    go : (b : Bool) → count_by p (filter q xs) ≡ count_by (λ y. q y && p y) xs
        → count_by p (cond b (x ∷ filter q xs) (filter q xs)) ≡ cond (b && p x) 1 0 + count_by (λ y. q y && p y) xs
    go true more = sum_by-cons (λ y. cond (p y) 1 0) x (filter q xs) ∙ ap (λ n. cond (p x) 1 0 + n) more
    go false more = omega (arith, more)

-- what fails a test
fails : (b : Bool) → (b && false) ≡ false
fails true = refl
fails false = refl

-- what passes it
passes : (b : Bool) → (b && true) ≡ b
passes true = refl
passes false = refl

-- of the five elements, one is this one
one-of-five : (e : Element) (h : Element → Bool) → count_by (λ x. h x && same_element x e) elements ≡ cond (h e) 1 0
one-of-five Prcp h = rw (passes (h Prcp), fails (h Snow), fails (h Snwd), fails (h Tmax), fails (h Tmin)) (omega arith)
one-of-five Snow h = rw (fails (h Prcp), passes (h Snow), fails (h Snwd), fails (h Tmax), fails (h Tmin)) (omega arith)
one-of-five Snwd h = rw (fails (h Prcp), fails (h Snow), passes (h Snwd), fails (h Tmax), fails (h Tmin)) (omega arith)
one-of-five Tmax h = rw (fails (h Prcp), fails (h Snow), fails (h Snwd), passes (h Tmax), fails (h Tmin)) (omega arith)
one-of-five Tmin h = rw (fails (h Prcp), fails (h Snow), fails (h Snwd), fails (h Tmax), passes (h Tmin)) (omega arith)

-- a series counts for each station that has a fact of its element
pub series-are : (facts : List Fact) (e : Element) (ss : List Station)
    → count_by (λ u. same_element u.element e) (all_series ss facts) ≡ count_by (λ s. has_fact facts s.id e) ss
series-are facts e [] = refl
series-are facts e (s ∷ ss) =
    let of_it : Series → Bool = λ u. same_element u.element e in
    let with_day : Series → Bool = λ u. not (length u.days == 0) in
    let five : List Series = map (usable_of facts s) elements in
    let others : List Series = flat_map (λ t. map (usable_of facts t) elements) ss in
    let own : count_by of_it (filter with_day five) ≡ cond (has_fact facts s.id e) 1 0 =
    count-left of_it with_day five ∙ one-of-five e (λ x. not (length (days_of facts s.id x) == 0))
    ∙ ap (λ b. cond b 1 0) (has-days facts s.id e) in
    let split : count_by of_it (all_series (s ∷ ss) facts)
    ≡ count_by of_it (filter with_day five) + count_by of_it (all_series ss facts) =
    ap (count_by of_it) (filter-append with_day five others)
    ∙ sum_by-append (λ u. cond (of_it u) 1 0) (filter with_day five) (filter with_day others) in
    omega (arith, split, own, series-are facts e ss, sum_by-cons (λ t. cond (has_fact facts t.id e) 1 0) s ss)
