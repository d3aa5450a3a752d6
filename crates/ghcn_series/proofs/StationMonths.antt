-- The months of one station, by element.
use Rattle.ghcn_series.proofs.Cited.{◌≡◌, ℕ, zero, suc, Bool, true, false, cond, not, List, [], ◌∷◌, ◌++◌, length, map}
use Rattle.ghcn_series.proofs.Cited.{get_or, ◌<◌, Some, refl, sym, ap, ◌∙◌, arith, subst, ◌==◌, ◌&&◌, ◌||◌, list_any}
use Rattle.ghcn_series.proofs.Cited.{slice_get, AllZip, AllByRecursion, IsDistinct, set, nat_list_eq_equiv, append-nil}
use Rattle.ghcn_series.proofs.Cited.{filter-append, list_any-append, and_right, or_parts, or_right, OnTrue_from}
use Rattle.ghcn_series.proofs.Cited.{OnTrue_at, StationId, Element, Keep, Month, same_id, elements, same_element}
use Rattle.ghcn_series.proofs.Cited.{element_index, is_kept, Gathering, same_month, same_time, has_month_of, months_of}
use Rattle.ghcn_series.proofs.Cited.{IsGathering, IsGatheringOf, AreFiveOf, AreByElement, same_id-turned, Gathers}
use Rattle.ghcn_series.proofs.Cited.{GathersNothing, FiveGather, FiveOfNothing}
use Rattle.std.specs.Cmp.{nat_eq_equiv}
use Rattle.std.proofs.Math.Bool.{and_assoc}
use Rattle.ghcn_series.proofs.ListFacts.{from_all, each-weaker, set_first}
use Rattle.ghcn_series.specs.Steps.{GathersSome, KeepsMonths, Opens}

-- a station without a month has none of any element
pub months_of-none : (months : List Month) (id : StationId) (e : Element) → list_any (λ m. same_id m.id id) months
    ≡ false → months_of months id e ≡ []
months_of-none [] id e none = refl
months_of-none (m ∷ ms) id e none =
    let both = or_parts (same_id m.id id) (list_any (λ m. same_id m.id id) ms) none in
    rw both.0 (months_of-none ms id e both.1)

-- gatherings of nothing fit a station without a month
empty_zip : (asked : Keep) (months : List Month) (id : StationId) (gs : List Gathering)
    → list_any (λ m. same_id m.id id) months ≡ false → AllByRecursion GathersNothing gs
    → AllZip (IsGatheringOf asked months id) gs (map (λ g. g.element) gs)
empty_zip asked months id [] none all = tt
empty_zip asked months id (g ∷ gs) none all = (
  record { element = refl; holds = rw (months_of-none months id g.element none) (all.0 (is_kept asked g.element)) },
  empty_zip asked months id gs none all.1,
)

-- five gatherings of nothing have what there was of a station without gatherings
pub opens-nothing : (five : List Gathering) → FiveOfNothing five → Opens [] five
opens-nothing five is = record {
  holds = λ asked before id none.
      subst (λ (es : List Element). AllZip (IsGatheringOf asked before id) five es) is.elements
      (empty_zip asked before id five none is.nothing);
}

-- so have a station's five gatherings
pub opens-five : (gs : List Gathering) → length gs ≡ 5 → Opens gs gs
opens-five [] five = absurd (omega arith)
opens-five (g ∷ gs) five = record { holds = λ asked before id is. is.1 }

-- two elements are the same in both directions
same_element-turned : (a b : Element) → same_element a b ≡ same_element b a
same_element-turned a b = nat_eq_equiv.symm (element_index a) (element_index b)

-- the months of a station and element, one more month of another
pub months_of-other : (before : List Month) (m : Month) (id : StationId) (e : Element)
    → (same_id m.id id && same_element m.element e) ≡ false → months_of (before ++ m ∷ []) id e ≡ months_of before id e
months_of-other before m id e other =
    rw (filter-append (λ x. same_id x.id id && same_element x.element e) before (m ∷ []), other)
    (append-nil (months_of before id e))

-- and one more of its own
pub months_of-this : (before : List Month) (m : Month) (id : StationId) (e : Element)
    → (same_id m.id id && same_element m.element e) ≡ true → months_of (before ++ m ∷ []) id e ≡ months_of before id e
    ++ m ∷ []
months_of-this before m id e this =
    rw (filter-append (λ x. same_id x.id id && same_element x.element e) before (m ∷ []), this)

-- a month of this station and element passes the test
same_here : (m : Month) (id : StationId) (e : Element) → m.id ≡ id → e ≡ m.element
    → (same_id m.id id && same_element m.element e) ≡ true
same_here m id e of at = rw (← of, at, nat_list_eq_equiv.refl m.id.0) (nat_eq_equiv.refl (element_index m.element))

module _ (asked : Keep) (before : List Month) (m : Month) (id : StationId) where
  -- a month of another station or element changes no gathering
  gathering-other : (g : Gathering) (e : Element) → (same_id m.id id && same_element m.element e) ≡ false
      → IsGatheringOf asked before id g e → IsGatheringOf asked (before ++ m ∷ []) id g e
  gathering-other g e other is =
      record { element = is.element; holds = rw (months_of-other before m id e other) is.holds }

  -- a month of another station or of other elements changes none of these gatherings
  pub other_elements : (gs : List Gathering) (es : List Element)
      → AllByRecursion (λ e. (same_id m.id id && same_element m.element e) ≡ false) es
      → AllZip (IsGatheringOf asked before id) gs es → AllZip (IsGatheringOf asked (before ++ m ∷ []) id) gs es
  other_elements [] [] other is = tt
  other_elements (g ∷ gs) (e ∷ es) other is = (gathering-other g e other.0 is.0, other_elements gs es other.1 is.1)
  other_elements _ _ other is = absurd is

  -- a gathering with one month more, among those of other elements
  put_gathering : (gs : List Gathering) (es : List Element) (k : ℕ) (g new : Gathering) → m.id ≡ id
      → IsDistinct same_element es → AllZip (IsGatheringOf asked before id) gs es → slice_get es k ≡ Some m.element
      → g ≡ get_or gs k g → new.element ≡ g.element
      → IsGathering (is_kept asked m.element) new (months_of before id m.element ++ m ∷ [])
      → AllZip (IsGatheringOf asked (before ++ m ∷ []) id) (set gs k new) es
  unfolding IsDistinct
  put_gathering [] [] k g new of apart is at here same holds = tt
  put_gathering (x ∷ xs) (e ∷ es) zero g new of apart is at here same holds =
      let this : e ≡ m.element = cc in
      let others : AllByRecursion (λ d. same_element m.element d ≡ false) es = rw (← this) apart.0 in
      let none = each-weaker _ (λ d. (same_id m.id id && same_element m.element d) ≡ false) es
      (λ d. and_right (same_id m.id id) (same_element m.element d)) others in (
        record {
          element = same ∙ ap (λ (h : Gathering). h.element) here ∙ is.0.element;
          holds = rw (months_of-this before m id e (same_here m id e of this), this) holds;
        },
        other_elements xs es none is.1,
      )
  put_gathering (x ∷ xs) (e ∷ es) (suc k) g new of apart is at here same holds =
      let other : same_element m.element e ≡ false = same_element-turned m.element e
      ∙ from_all (λ d. same_element e d ≡ false) es k m.element apart.0 at in (
        gathering-other x e (and_right (same_id m.id id) (same_element m.element e) other) is.0,
        put_gathering xs es k g new of apart.1 is.1 at here same holds,
      )
  put_gathering _ _ k g new of apart is at here same holds = absurd is

-- no two of the elements are the same
pub elements_differ : IsDistinct same_element elements
unfolding IsDistinct
elements_differ = (
  (refl, (refl, (refl, (refl, tt)))),
  ((refl, (refl, (refl, tt))), ((refl, (refl, tt)), ((refl, tt), (tt, tt)))),
)

-- each element is at its place
pub element_at : (e : Element) → slice_get elements (element_index e) ≡ Some e
element_at e = grind arith

-- the gathering of an element has its months
pub found_at : (asked : Keep) (gs : List Gathering) (es : List Element) (months : List Month)
    (id : StationId) (k : ℕ) (e : Element) (g : Gathering) → AllZip (IsGatheringOf asked months id) gs es
    → slice_get es k ≡ Some e → g ≡ get_or gs k g → IsGathering (is_kept asked e) g (months_of months id e)
found_at asked [] [] months id k e g is at here = absurd cc
found_at asked (x ∷ xs) (d ∷ ds) months id zero e g is at here = let this : d ≡ e = cc in rw (here, ← this) is.0.holds
found_at asked (x ∷ xs) (d ∷ ds) months id (suc k) e g is at here = found_at asked xs ds months id k e g is.1 at here
found_at asked _ _ months id k e g is at here = absurd is

-- the gathering of an element has some months, with their days or without
pub some_at : (asked : Keep) (kept : Bool) (five : List Gathering) (before : List Month) (id : StationId)
    (e : Element) (g : Gathering) → is_kept asked e ≡ kept → AllZip (IsGatheringOf asked before id) five elements
    → g ≡ get_or five (element_index e) g → GathersSome kept g
some_at asked kept five before id e g is all here =
    let holds = found_at asked five elements before id (element_index e) e g all (element_at e) here in
    (months_of before id e, rw (← is) holds)

-- a test of the kept ones is one of all
any_if : {X : Type 0} (p : X → Bool) (i e : Bool) (x : X) (xs : List X) → (i && e && p x || list_any p xs)
    ≡ list_any p (cond (i && e) (x ∷ xs) xs)
any_if p true true x xs = refl
any_if p true false x xs = refl
any_if p false e x xs = refl

-- a month was read before if one of its time, station and element was
pub repeats-is : (before : List Month) (m : Month) → list_any (same_month m) before
    ≡ list_any (same_time m) (months_of before m.id m.element)
repeats-is [] m = refl
repeats-is (x ∷ xs) m =
    rw (and_assoc (same_id m.id x.id && same_element m.element x.element) (m.year == x.year) (m.month == x.month))
    (rw (same_id-turned m.id x.id, same_element-turned m.element x.element, repeats-is xs m)
    (any_if (same_time m) (same_id x.id m.id) (same_element x.element m.element) x (months_of xs m.id m.element)))

-- five gatherings are gatherings by element, if there is a month
kept_by_element : (asked : Keep) (months : List Month) (id : StationId) (gs : List Gathering)
    → has_month_of months id ≡ true → AllZip (IsGatheringOf asked months id) gs elements
    → AreByElement asked months id gs
kept_by_element asked months id [] some is = absurd is
kept_by_element asked months id (g ∷ gs) some is = (some, is)

-- a station has a month of its own
has_month-own : (before : List Month) (m : Month) (id : StationId) → m.id ≡ id
    → has_month_of (before ++ m ∷ []) id ≡ true
has_month-own before m id of =
    rw (list_any-append (λ x. same_id x.id id) before (m ∷ []), of, nat_list_eq_equiv.refl id.0)
    (or_right (has_month_of before id) true refl)

-- and still has one after a month more
pub has_month-more : (before : List Month) (m : Month) (id : StationId) → has_month_of before id ≡ true
    → has_month_of (before ++ m ∷ []) id ≡ true
has_month-more before m id some = rw (list_any-append (λ x. same_id x.id id) before (m ∷ []), some) refl

-- gatherings by element, of which one has the months that it had
pub settled_at : (asked : Keep) (before : List Month) (id : StationId) (gs : List Gathering) (k : ℕ)
    (g new : Gathering) → g ≡ get_or gs k g → new.element ≡ g.element → KeepsMonths g new
    → AreByElement asked before id gs → AreByElement asked before id (set gs k new)
settled_at asked before id [] k g new here same keeps is = is
settled_at asked before id (x ∷ xs) k g new here same keeps is =
    kept_by_element asked before id (set (x ∷ xs) k new) is.0
    (set_first (IsGatheringOf asked before id) (x ∷ xs) elements k g new is.1 here (λ e of.
    record { element = same ∙ of.element; holds = keeps.holds (is_kept asked e) (months_of before id e) of.holds }))

-- an element's place is one of five
pub element_within : (e : Element) → element_index e < 5
element_within e = grind arith

-- one month more of a station, unless it was read before, if the gathering of its element adds it
pub station-more : (asked : Keep) (m : Month) (five : List Gathering) (k : ℕ) (g now : Gathering)
    (added kept : Bool) (e : Element) → k ≡ element_index e → e ≡ m.element → is_kept asked e ≡ kept
    → g ≡ get_or five k g → now.element ≡ g.element → Gathers kept g now m added
    → FiveGather asked five (set five k now) m added
station-more asked m five k g now added kept e place of kept_is here same gathers =
    let at : slice_get elements k ≡ Some m.element = rw (place, of) (element_at m.element) in
    let adds : Gathers (is_kept asked m.element) g now m added =
    subst (λ (b : Bool). Gathers b g now m added) (sym kept_is ∙ ap (is_kept asked) of) gathers in
    let own = λ (before : List Month) (all : AreFiveOf asked before m.id five).
    found_at asked five elements before m.id k m.element g all at here in record {
      is_new = λ before all.
          adds.is_new (months_of before m.id m.element) (own before all) ∙ ap not (sym (repeats-is before m));
      holds = λ before all. OnTrue_from added _ (λ yes. kept_by_element asked (before ++ m ∷ []) m.id (set five k now)
          (has_month-own before m m.id refl) (put_gathering asked before m m.id five elements k g now refl elements_differ
          all at here same (OnTrue_at yes (adds.holds (months_of before m.id m.element) (own before all)))));
    }
