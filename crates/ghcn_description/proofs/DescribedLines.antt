-- A describer that has read one more line.
use Rattle.std.proofs.Common.{◌≡◌, ℕ, zero, suc, ◌+◌, ◌<◌, ◌≤◌, Bool, true, false, cond, not, List, [], ◌∷◌, ◌++◌}
use Rattle.std.proofs.Common.{length, map, get_or, set, Option, Some, None, Ok, Err, refl, sym, ap, subst, ◌∙◌, arith}
use Rattle.std.specs.Prelude.{◌&&◌, ◌||◌, nat_lt, filter, replicate}
use Rattle.std.specs.List.{cons_option, filter_map, flat_map, AllZip, IsDistinct, position_or_len, count_by}
use Rattle.std.specs.Option.{is_some}
use Rattle.std.proofs.lemmas.Bool.Decides.{nat_tests, Decides-eqb}
use Rattle.std.proofs.lemmas.List.{append-nil, length-set, get_or-set_same, get_or-set_other}
use Rattle.std.proofs.lemmas.List.Elements.{filter_map-append}
use Rattle.std.proofs.lemmas.Slice.Zip.{AllZip-long}
use Rattle.ghcn_fields.specs.Meaning.Lines.{columns}
use Rattle.ghcn_files.specs.declared.element.Element.{Element}
use Rattle.ghcn_files.specs.declared.element.Element.TheVariants.{Prcp, Snow, Snwd, Tmax, Tmin}
use Rattle.ghcn_files.specs.declared.element.Keep.{Keep}
use Rattle.ghcn_files.specs.Elements.{nothing, same_element, element_index, element_of}
use Rattle.ghcn_files.specs.declared.fault.LineWhy.TheVariants.{Short}
use Rattle.ghcn_files.specs.declared.station.Station.{Station}
use Rattle.ghcn_files.specs.declared.month.Month.{Month}
use Rattle.ghcn_files.specs.Meaning.Ids.{same_id}
use Rattle.ghcn_files.proofs.IdLaws.{same_id-turned, place_is}
use Rattle.ghcn_files.specs.Meaning.Elements.{elements}
use Rattle.ghcn_files.specs.Meaning.Listed.{is_station_of}
use Rattle.ghcn_files.specs.Listed.{AreListed, place_of}
use Rattle.ghcn_files.specs.Months.{read_month, month_if, month_of, month_why, unless}
use Rattle.ghcn_series.specs.declared.reader.Reader.{Reader}
use Rattle.ghcn_series.specs.DailyFaults.{FileLine, month_on, month_if_ok, is_listed}
use Rattle.ghcn_series.specs.Meaning.Says.{Fact}
use Rattle.ghcn_series.specs.Says.{usable_facts, facts_of, is_usable}
use Rattle.ghcn_series.specs.Gathered.{HasReadFor}
use Rattle.ghcn_series.proofs.AllSeries.{same_element-is}
use Rattle.ghcn_series.proofs.ListFacts.{zip-weaker}
use Rattle.ghcn_series.proofs.Places.{ids, listed-is, unlisted-is}
use Rattle.ghcn_description.specs.declared.counts.ElementCounts.{ElementCounts}
use Rattle.ghcn_description.specs.declared.describer.Describer.{Describer}
use Rattle.ghcn_description.specs.Lines.{is_other, code_on, lines_with, other_lines}
use Rattle.ghcn_description.specs.declared.others.Others.{Others}
use Rattle.ghcn_description.specs.Described.{AreSums, AreOthers, IsSpan}
use Rattle.ghcn_description.specs.Describing.{has_fact, elements_with, HasDescribed, CountsAt}
use Rattle.ghcn_description.specs.Steps.{CountsCode, IsEmpty, has_day, with_mark}
use Rattle.ghcn_description.proofs.LinesOfCodes.{no-other, others-more}
use Rattle.ghcn_description.proofs.LinesTogether.{same-sums}
use Rattle.ghcn_description.proofs.MoreLines.{bit-set, changed-at, facts-are, months-counted, sums-other, sums-this}
use Rattle.ghcn_description.proofs.MoreLines.{unlisted-facts}

-- ---- five counts

-- an element has a place among the five
pub at_place : (y : Element) → (element_index y < 5) × (get_or elements (element_index y) y ≡ y)
at_place Prcp = (omega arith, refl)
at_place Snow = (omega arith, refl)
at_place Snwd = (omega arith, refl)
at_place Tmax = (omega arith, refl)
at_place Tmin = (omega arith, refl)

-- a fact of each of two lists, place by place
zip-at : {A B : Type 0} (R : A → B → Type 0) (xs : List A) (ys : List B) (i : ℕ) (d : A) (e : B) → AllZip R xs ys
    → i < length xs → R (get_or xs i d) (get_or ys i e)
zip-at R [] ys i d e all lt = absurd (omega arith)
zip-at R (x ∷ xs) [] i d e all lt = absurd all
zip-at R (x ∷ xs) (y ∷ ys) zero d e all lt = all.0
zip-at R (x ∷ xs) (y ∷ ys) (suc i) d e all lt = zip-at R xs ys i d e all.1 (omega arith)

-- there are five counts
pub are-five : (R : ElementCounts → Element → Type 0) (cs : List ElementCounts) → AllZip R cs elements → length cs ≡ 5
are-five R cs all = sym (AllZip-long R cs elements all)

-- what is true of each count and its element is true at an element's place
pub at-element : (R : ElementCounts → Element → Type 0) (cs : List ElementCounts) → AllZip R cs elements
    → (y : Element) (d : ElementCounts) → R (get_or cs (element_index y) d) y
at-element R cs all y d =
    let place = at_place y in
    subst (R (get_or cs (element_index y) d)) place.1
    (zip-at R cs elements (element_index y) d y all (omega (arith, place.0, are-five R cs all)))

-- and so the other way round
pub from-each : (R : ElementCounts → Element → Type 0) (cs : List ElementCounts) → length cs ≡ 5
    → ((y : Element) (d : ElementCounts) → R (get_or cs (element_index y) d) y) → AllZip R cs elements
from-each R (a ∷ b ∷ c ∷ d ∷ e ∷ []) long each =
    (each Prcp a, (each Snow a, (each Snwd a, (each Tmax a, (each Tmin a, tt)))))
from-each R (a ∷ b ∷ c ∷ d ∷ e ∷ f ∷ cs) long each = absurd (omega (arith, long))
from-each R (a ∷ b ∷ c ∷ d ∷ []) long each = absurd (omega (arith, long))
from-each R (a ∷ b ∷ c ∷ []) long each = absurd (omega (arith, long))
from-each R (a ∷ b ∷ []) long each = absurd (omega (arith, long))
from-each R (a ∷ []) long each = absurd (omega (arith, long))
from-each R [] long each = absurd (omega (arith, long))

-- one of the counts is replaced: what is true of the new one, and follows for the others, is true of each
replaced : (P Q : ElementCounts → Element → Type 0) (x : Element) (cs : List ElementCounts) (new : ElementCounts)
    → AllZip P cs elements → ((c : ElementCounts) (y : Element) → same_element x y ≡ false → P c y → Q c y) → Q new x
    → AllZip Q (set cs (element_index x) new) elements
replaced P Q x cs new all other this =
    from-each Q (set cs (element_index x) new) (length-set cs (element_index x) new ∙ are-five P cs all)
    (λ y d. go y d (same_element x y) refl)
  where
    go : (y : Element) (d : ElementCounts) (b : Bool) → same_element x y ≡ b
        → Q (get_or (set cs (element_index x) new) (element_index y) d) y
    go y d true same =
        subst (λ z. Q (get_or (set cs (element_index x) new) (element_index z) d) z) (same_element-is x y same)
        (rw (get_or-set_same cs (element_index x) new d (omega (arith, at_place x, are-five P cs all))) this)
    go y d false apart =
        rw (get_or-set_other cs (element_index x) (element_index y) new d
        (λ same. let wrong = sym apart ∙ (Decides-eqb (element_index x) (element_index y)).1 (sym same) in cc))
        (other (get_or cs (element_index y) d) y apart (at-element P cs all y d))

-- tests that agree return the same for the elements
pub five-agree : (g h : Element → Bool) → ((x : Element) → g x ≡ h x) → map g elements ≡ map h elements
five-agree g h same = rw (same Prcp, same Snow, same Snwd, same Tmax, same Tmin) refl

-- ---- which line it is

-- a line of a month has no other code
month-line : (short : Bool) (e : Option Element) (line : List ℕ) (m : Month)
    → cond short (Err Short) (month_if e line) ≡ Ok (Some m) → not (is_some e) ≡ false
month-line true e line m is = absurd cc
month-line false None line m is = absurd cc
month-line false (Some x) line m is = refl

-- a line without an error that isn't a month has another code
other-line : (short : Bool) (e : Option Element) (line : List ℕ) → cond short (Err Short) (month_if e line) ≡ Ok None
    → (short ≡ false) × (not (is_some e) ≡ true)
other-line true e line is = absurd cc
other-line false None line is = (refl, refl)
other-line false (Some x) line is =
    elim (month_why line) as (λ w. unless w (Some (month_of x line)) ≡ Ok None → (false ≡ false) × (false ≡ true)) [
      | None ↦ λ is. absurd cc
      | Some why ↦ λ is. absurd cc
    ] is

module _ (stations : List Station) (keep : Keep) (ls : List FileLine) (l : FileLine) where
  -- the lines and one more
  abbrev after : List FileLine
  after = ls ++ l ∷ []

  module _ (m : Month) (read : read_month l.bytes ≡ Ok (Some m)) where
    -- the line is a month
    is-month : month_on l ≡ Some m
    is-month = ap month_if_ok read

    -- of no other code
    not-other : is_other l ≡ false
    not-other = month-line (nat_lt (length l.bytes) 21) (element_of (columns 18 21 l.bytes)) l.bytes m read

    -- a describer has counted a month of a listed station
    pub counted-month : (old new : Describer) (r : Reader) (place : ℕ) → AreListed stations
        → place_of stations m.id ≡ Some place → HasReadFor r stations nothing after
        → CountsAt (record {
          reader = r;
          with_days = old.with_days;
          elements = old.elements;
          others = old.others;
          unlisted = old.unlisted;
        }) new place m → HasDescribed old stations keep ls
        → HasDescribed new stations keep after
    counted-month old new r place right at has_read adds of =
        let facts : List Fact = usable_facts stations ls in
        let later : List Fact = usable_facts stations after in
        let apart : IsDistinct same_id (ids stations) = right.distinct in
        let here = listed-is stations m.id place at in
        let listed : is_listed stations m.id ≡ true = here.1 in
        let lt : place < length stations = here.2 in
        let stands : position_or_len (is_station_of m.id) stations ≡ place = place_is stations m.id place at in
        let index : ℕ = element_index m.element in
        let has = facts-are stations ls l m is-month listed in
        let others_stay : (s : Station) → same_id s.id m.id ≡ false → elements_with later s ≡ elements_with facts s =
        λ s away. five-agree (has_fact later s.id) (has_fact facts s.id)
        (λ x. has s.id x ∙ away-from (has_fact facts s.id x) (same_id m.id s.id) (same_element m.element x) (has_day m)
        (same_id-turned m.id s.id ∙ away)) in
        let own_changes : (s : Station) → same_id s.id m.id ≡ true
        → elements_with later s ≡ with_mark (elements_with facts s) m =
        λ s own. five-agree (has_fact later s.id) (λ x. has_fact facts s.id x ||
        (same_element m.element x && has_day m))
        (λ x. has s.id x ∙ ap (λ t. has_fact facts s.id x || ((t && same_element m.element x) && has_day m))
        (same_id-turned m.id s.id ∙ own))
        ∙ bit-set m.element (has_fact facts s.id) (has_day m) in
        record {
          read = subst (λ x. HasReadFor x stations nothing after) (sym adds.reader) has_read;
          counts = subst (λ es. AllZip (AreSums stations after) es elements) (sym adds.elements)
              (replaced (AreSums stations ls) (AreSums stations after) m.element old.elements adds.after of.counts
              (λ c y other.
              sums-other stations ls l m is-month c y (ap (λ b. b && same_element m.element y) listed ∙ other))
              (sums-this stations ls l m is-month adds.before adds.after m.element
              (ap (λ b. b && same_element m.element m.element) listed ∙ (Decides-eqb index index).1 refl) adds.counted
              (subst (λ c. AreSums stations ls c m.element) (sym adds.there)
              (at-element (AreSums stations ls) old.elements of.counts m.element adds.before))));
          with_days = adds.with_days ∙ ap (λ w. set w place (with_mark (get_or w place []) m)) of.with_days
              ∙ sym (changed-at (elements_with facts) (elements_with later) (λ w. with_mark w m) [] m.id stations place
              apart stands lt others_stay own_changes);
          others = subst (λ o. AreOthers after o.counts.items o.further) (sym adds.others)
              (no-other ls l old.others.counts.items old.others.further not-other of.others);
          unlisted = adds.unlisted ∙ of.unlisted
              ∙ sym (rw listed at (months-counted stations ls l m is-month (λ x. not (is_listed stations x.id)))
              ∙ omega arith);
        }
      where
        away-from : (f s a b : Bool) → s ≡ false → (f || ((s && a) && b)) ≡ f
        away-from true s a b is = refl
        away-from false s a b is = rw is refl

    -- a describer has counted a month of a station that isn't listed
    pub counted-unlisted : (old : Describer) (r : Reader) (n : ℕ) → place_of stations m.id ≡ None
        → HasReadFor r stations nothing after → n ≡ old.unlisted + 1 → HasDescribed old stations keep ls
        → HasDescribed (record {
          reader = r;
          with_days = old.with_days;
          elements = old.elements;
          others = old.others;
          unlisted = n;
        }) stations keep after
    counted-unlisted old r n at has_read more of =
        let out : is_listed stations m.id ≡ false = unlisted-is stations m.id at in
        let same : usable_facts stations after
        ≡ usable_facts stations ls = unlisted-facts stations ls l m is-month out in
        record {
          read = has_read;
          counts = zip-weaker (AreSums stations ls) (AreSums stations after) old.elements elements
              (λ c e h. sums-other stations ls l m is-month c e (ap (λ b. b && same_element m.element e) out) h)
              of.counts;
          with_days = of.with_days ∙ sym (ap (λ fs. map (elements_with fs) stations) same);
          others = no-other ls l old.others.counts.items old.others.further not-other of.others;
          unlisted = more ∙ ap (λ k. k + 1) of.unlisted
              ∙ sym (rw out at (months-counted stations ls l m is-month (λ x. not (is_listed stations x.id))));
        }

  module _ (read : read_month l.bytes ≡ Ok None) where
    -- the line isn't a month
    no-month : filter_map month_on after ≡ filter_map month_on ls
    no-month =
        filter_map-append month_on ls (l ∷ [])
        ∙ ap (λ o. filter_map month_on ls ++ cons_option o []) (ap month_if_ok read)
        ∙ append-nil (filter_map month_on ls)

    -- of another code
    pub is-other : is_other l ≡ true
    is-other = (other-line (nat_lt (length l.bytes) 21) (element_of (columns 18 21 l.bytes)) l.bytes read).1

    -- with the columns of its code
    pub long : 21 ≤ length l.bytes
    long =
        let none = (other-line (nat_lt (length l.bytes) 21) (element_of (columns 18 21 l.bytes)) l.bytes read).0 in
        grind (arith, nat_tests)

    -- a describer has counted a line of another code
    pub counted-other : (old : Describer) (r : Reader) (others : Others) → HasReadFor r stations nothing after
        → CountsCode old.others others (code_on l) 1 → HasDescribed old stations keep ls
        → HasDescribed (record {
          reader = r;
          with_days = old.with_days;
          elements = old.elements;
          others = others;
          unlisted = old.unlisted;
        }) stations keep after
    counted-other old r others has_read adds of = record {
      read = has_read;
      counts = zip-weaker (AreSums stations ls) (AreSums stations after) old.elements elements
          (λ c e h. same-sums stations ls after c e no-month h) of.counts;
      with_days = of.with_days
          ∙ sym (ap (λ ms. map (elements_with (filter (is_usable stations) (flat_map facts_of ms))) stations) no-month);
      others = others-more ls l others.counts.items others.further is-other
          (adds.holds (lines_with ls) (other_lines ls) of.others);
      unlisted = of.unlisted ∙ sym (ap (count_by (λ x. not (is_listed stations x.id))) no-month);
    }

-- ---- no line

-- no station has a fact of no facts
no-marks : (ss : List Station)
    → replicate (length ss) (false ∷ false ∷ false ∷ false ∷ false ∷ []) ≡ map (elements_with []) ss
no-marks [] = refl
no-marks (s ∷ ss) = ap (λ bs. (false ∷ false ∷ false ∷ false ∷ false ∷ []) ∷ bs) (no-marks ss)

-- counts of nothing are those of no line
empty-sums : (stations : List Station) (c : ElementCounts) (e : Element) → IsEmpty c e → AreSums stations [] c e
empty-sums stations c e is = record {
  element = is.element;
  lines = is.lines;
  days = is.days;
  flagged = is.flagged;
  span = subst (λ o. IsSpan [] o) (sym is.span) refl;
}

-- a describer that has read no line
pub described-nothing : (stations : List Station) (keep : Keep) (d : Describer)
    → HasReadFor d.reader stations nothing []
    → AllZip IsEmpty d.elements elements
    → d.with_days.items ≡ replicate (length stations) (false ∷ false ∷ false ∷ false ∷ false ∷ [])
    → AreOthers [] d.others.counts.items d.others.further → d.unlisted ≡ 0 → HasDescribed d stations keep []
described-nothing stations keep d read counts marks others none = record {
  read = read;
  counts = zip-weaker IsEmpty (AreSums stations []) d.elements elements (empty-sums stations) counts;
  with_days = marks ∙ no-marks stations;
  others = others;
  unlisted = none;
}
