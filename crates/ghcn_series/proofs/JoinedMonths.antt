-- Months that two readers have read, of which no listed station has some in both.
use Rattle.ghcn_series.proofs.Cited.{◌≡◌, ℕ, zero, suc, ◌+◌, ◌<◌, true, false, List, [], ◌∷◌, ◌++◌, length, get_or}
use Rattle.ghcn_series.proofs.Cited.{cond, not, inl, inr, refl, sym, ap, ◌∙◌, arith, subst, ◌&&◌, list_any, AllZip}
use Rattle.ghcn_series.proofs.Cited.{AllByRecursion, Contains, and-true, or-false, and_left, and_right, or_cases}
use Rattle.ghcn_series.proofs.Cited.{append-nil, filter-append, list_any-append, sum_by-append, StationId, Station}
use Rattle.ghcn_series.proofs.Cited.{Element, Keep, Month, same_id, elements, IsMonth, same_id-is, Gathering, Reader}
use Rattle.ghcn_series.proofs.Cited.{same_month, is_listed, in_64_bits, has_month_of, months_of, IsGatheringOf}
use Rattle.ghcn_series.proofs.Cited.{AreByElement, IsStationOf, HasRead, same_time, JoinsStation, JoinStations}
use Rattle.ghcn_series.proofs.Cited.{OneHasBoth}
use Rattle.ghcn_series.specs.Steps.{AreApart, HaveBoth, BothHaveMonths}
use Rattle.ghcn_series.proofs.ListFacts.{each-append, zip-weaker}
use Rattle.ghcn_series.proofs.StationMonths.{months_of-none, repeats-is}

-- ---- a station

-- gatherings have what other months say of a station, if these say the same of it
say_same : (asked : Keep) (ms others : List Month) (id : StationId) (gs : List Gathering)
    → has_month_of others id ≡ has_month_of ms id → ((e : Element) → months_of others id e ≡ months_of ms id e)
    → AreByElement asked ms id gs → AreByElement asked others id gs
say_same asked ms others id [] some same is = some ∙ is
say_same asked ms others id (g ∷ gs) some same is =
    let all = zip-weaker (IsGatheringOf asked ms id) (IsGatheringOf asked others id) (g ∷ gs) elements
    (λ h e of. record { element = of.element; holds = rw (same e) of.holds }) is.1 in (some ∙ is.0, all)

module _ (asked : Keep) (ms others : List Month) (id : StationId) (gs : List Gathering) where
  -- months of other stations add nothing to a station if they come after its own
  none_after : has_month_of others id ≡ false → AreByElement asked ms id gs → AreByElement asked (ms ++ others) id gs
  none_after none is =
      say_same asked ms (ms ++ others) id gs (rw (list_any-append, none) (or-false (has_month_of ms id)))
      (λ e. rw (filter-append, months_of-none others id e none) (append-nil (months_of ms id e))) is

  -- nor do they if they come before
  none_before : has_month_of ms id ≡ false → AreByElement asked others id gs → AreByElement asked (ms ++ others) id gs
  none_before none is = say_same asked others (ms ++ others) id gs (rw (list_any-append, none) refl)
      (λ e. rw (filter-append, months_of-none ms id e none) refl) is

-- a station without gatherings has no month
no_month : (asked : Keep) (ms : List Month) (s : Station) (gs : List Gathering) → gs ≡ [] → IsStationOf asked ms s gs
    → has_month_of ms s.id ≡ false
no_month asked ms s gs empty is = rw empty at is

-- a station with gatherings has a month
some_month : (asked : Keep) (ms : List Month) (s : Station) (gs : List Gathering) → 0 < length gs
    → IsStationOf asked ms s gs → has_month_of ms s.id ≡ true
some_month asked ms s [] some is = absurd (omega (arith, some))
some_month asked ms s (g ∷ gs) some is = is.0

-- a station keeps what it has, if others have nothing of it
pub station-kept : (old other : List Gathering) → other ≡ [] → JoinsStation old other old
station-kept old other empty = record {
  apart = λ asked ms others s is of. and_right (has_month_of ms s.id) (has_month_of others s.id)
      (no_month asked others s other empty of);
  holds = λ asked ms others s is of. none_after asked ms others s.id old (no_month asked others s other empty of) is;
}

-- or it takes over what others have of it, if it has nothing itself
pub station-taken : (old other : List Gathering) → old ≡ [] → JoinsStation old other other
station-taken old other empty = record {
  apart = λ asked ms others s is of. and_left (has_month_of ms s.id) (has_month_of others s.id)
      (no_month asked ms s old empty is);
  holds = λ asked ms others s is of. none_before asked ms others s.id other (no_month asked ms s old empty is) of;
}

-- or both have months
pub station-both : (one other : List Gathering) → 0 < length one → 0 < length other → BothHaveMonths one other
station-both one other some more = record {
  are = λ asked ms others s is of.
      record { has = some_month asked ms s one some is; has_too = some_month asked others s other more of };
}

-- ---- all stations

-- all stations have taken over what others have
pub joined-all : (olds others news : List (List Gathering)) → length news ≡ length olds
    → ((k : ℕ) → JoinsStation (get_or olds k []) (get_or others k []) (get_or news k []))
    → JoinStations olds others news
joined-all olds others news number joins = record {
  apart = λ asked ms more ss is of. (each asked ms more ss olds others news number joins is of).0;
  holds = λ asked ms more ss is of. (each asked ms more ss olds others news number joins is of).1;
}
  where
    each : (asked : Keep) (ms more : List Month) (ss : List Station) (olds others news : List (List Gathering))
        → length news ≡ length olds
        → ((k : ℕ) → JoinsStation (get_or olds k []) (get_or others k []) (get_or news k []))
        → AllZip (IsStationOf asked ms) ss olds → AllZip (IsStationOf asked more) ss others
        → AllByRecursion (AreApart ms more) ss × AllZip (IsStationOf asked (ms ++ more)) ss news
    each asked ms more [] [] others [] number joins is of = (tt, tt)
    each asked ms more [] [] others (n ∷ ns) number joins is of = absurd (omega arith)
    each asked ms more (s ∷ ss) (g ∷ gs) [] news number joins is of = absurd of
    each asked ms more (s ∷ ss) (g ∷ gs) (h ∷ hs) [] number joins is of = absurd (omega arith)
    each asked ms more (s ∷ ss) (g ∷ gs) (h ∷ hs) (n ∷ ns) number joins is of =
        let here : JoinsStation g h n = joins 0 in
        let rest = each asked ms more ss gs hs ns (omega (arith, number)) (λ k. joins (suc k)) is.1 of.1 in
        ((here.apart asked ms more s is.0 of.0, rest.0), (here.holds asked ms more s is.0 of.0, rest.1))
    each asked ms more _ _ _ _ number joins is of = absurd is

-- a station at a place has months in both of its gatherings
both_at : (asked : Keep) (ms more : List Month) (ss : List Station) (olds others : List (List Gathering)) (k : ℕ)
    → k < length olds → BothHaveMonths (get_or olds k []) (get_or others k [])
    → AllZip (IsStationOf asked ms) ss olds → AllZip (IsStationOf asked more) ss others
    → (s : Station) × Contains ss s × HaveBoth ms more s
both_at asked ms more [] [] others k lt both is of = absurd (omega (arith, lt))
both_at asked ms more (s ∷ ss) (x ∷ xs) [] k lt both is of = absurd of
both_at asked ms more (s ∷ ss) (x ∷ xs) (y ∷ ys) zero lt both is of =
    (s, (0, omega arith, refl), both.are asked ms more s is.0 of.0)
both_at asked ms more (s ∷ ss) (x ∷ xs) (y ∷ ys) (suc k) lt both is of =
    let at = both_at asked ms more ss xs ys k (omega (arith, lt)) both is.1 of.1 in
    (at.0, (suc at.1.0, omega (arith, at.1.1), at.1.2), at.2)
both_at asked ms more _ _ _ _ lt both is of = absurd is

-- so one of the stations has
pub one-has : (k : ℕ) (olds others : List (List Gathering)) → k < length olds
    → BothHaveMonths (get_or olds k []) (get_or others k []) → OneHasBoth olds others
one-has k olds others lt both =
    record { one = λ asked ms more ss is of. both_at asked ms more ss olds others k lt both is of }

-- ---- a reader

-- a listed station that has months in the second list has none in the first
none_apart : (ms others : List Month) (ss : List Station) (id : StationId) → AllByRecursion (AreApart ms others) ss
    → is_listed ss id ≡ true → has_month_of others id ≡ true → has_month_of ms id ≡ false
none_apart ms others [] id apart listed some = absurd cc
none_apart ms others (s ∷ ss) id apart listed some = elim (or_cases (same_id s.id id) (is_listed ss id) listed) [
  | inl is ↦
      let this = subst (λ (i : StationId). (has_month_of ms i && has_month_of others i) ≡ false)
      (same_id-is s.id id is) apart.0 in sym (and-true (has_month_of ms id)) ∙ (rw some at this)
  | inr more ↦ none_apart ms others ss id apart.1 more some
]

-- so none of its months is among those
pub not_among : (ms others : List Month) (ss : List Station) (m : Month) → AllByRecursion (AreApart ms others) ss
    → is_listed ss m.id ≡ true → has_month_of others m.id ≡ true → list_any (same_month m) ms ≡ false
not_among ms others ss m apart listed some = repeats-is ms m
    ∙ ap (list_any (same_time m)) (months_of-none ms m.id m.element (none_apart ms others ss m.id apart listed some))

-- the months of two readers are read by one
pub read_joined : (first next both : Reader) (ms others : List Month) → next.keep ≡ first.keep
    → next.stations ≡ first.stations → both.keep ≡ first.keep → both.stations ≡ first.stations
    → both.unlisted ≡ in_64_bits (first.unlisted + next.unlisted)
    → JoinStations first.gathered.stations next.gathered.stations both.gathered.stations → HasRead first ms
    → HasRead next others → HasRead both (ms ++ others)
read_joined first next both ms others same_keep same_list keep stations unlisted joins is of = record {
  listed = rw stations is.listed;
  right = each-append IsMonth ms others is.right of.right;
  unlisted = unlisted ∙ rw (is.unlisted, of.unlisted, same_list, stations)
      (omega (arith, sum_by-append (λ (m : Month). cond (not (is_listed first.stations m.id)) 1 0) ms others));
  gathered = rw (keep, stations)
      (joins.holds first.keep ms others first.stations is.gathered (rw (same_keep, same_list) at of.gathered));
}
