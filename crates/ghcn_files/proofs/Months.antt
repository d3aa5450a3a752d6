-- The tests of a line of a daily file, one after the other.
use Rattle.std.proofs.Common.{◌≡◌, ℕ, ◌≤◌, Bool, true, false, cond, List, length, take, drop, map, Option, Some, None}
use Rattle.std.proofs.Common.{Result, Ok, Err, refl, sym, ap, ◌∙◌, arith}
use Rattle.std.specs.Prelude.{pos, unsigned_abs, nat_le, ◌∷◌}
use Rattle.std.specs.List.{range_with_len}
use Rattle.std.proofs.lemmas.Simd.{pick_l-range_with_len}
use lib.Lanes.{pick_l}
use Rattle.std.specs.Option.{option_or}
use Rattle.std.proofs.lemmas.Bool.{le-leb, le-ltb}
use Rattle.ghcn_fields.specs.Meaning.Bytes.{is_blank}
use Rattle.ghcn_fields.specs.Meaning.Lines.{columns}
use Rattle.ghcn_fields.specs.Numbers.{int_field}
use Rattle.ghcn_files.specs.declared.element.Element.{Element}
use Rattle.ghcn_files.specs.declared.month.Reading.{Reading}
use Rattle.ghcn_files.specs.declared.station.StationId.{StationId}
use Rattle.ghcn_files.specs.declared.fault.LineWhy.{LineWhy}
use Rattle.ghcn_files.specs.declared.fault.LineWhy.TheVariants.{Short, TooLong, BadId, BadYear, BadMonth}
use Rattle.ghcn_files.specs.Ids.{is_id}
use Rattle.ghcn_files.specs.Elements.{element_of}
use Rattle.ghcn_files.specs.StationLines.{id_of, is_number_within, number_of}
use Rattle.ghcn_files.specs.Months.{year_field, month_field, reading, days_of_group, head_why, days_why, month_why}
use Rattle.ghcn_files.specs.Months.{head_of, month_of, month_if, unless, read_month}
use Rattle.ghcn_files.proofs.ColumnSlices.{columns-slice}

-- the first test that fails, by how each test came out
abbrev pub why_by : Bool → Bool → Bool → Bool → Bool → Option LineWhy → Option LineWhy
why_by long ends id year month days =
    cond long (cond ends (cond id (cond year (cond month days (Some BadMonth)) (Some BadYear)) (Some BadId))
    (Some TooLong)) (Some Short)

-- the year of a line that is long enough, read after a blank
pub year_columns : (line : List ℕ) → 266 ≤ length line
    → int_field (32 ∷ pick_l 0 line (range_with_len 11 4)) ≡ year_field line
year_columns line long =
    ap int_field (pick_l-range_with_len 0 line 11 4 (omega arith)
    ∙ sym (columns-slice 12 15 11 15 line (omega arith) (omega arith) (omega arith) (omega arith)))

-- its month, read after three blanks
pub month_columns : (line : List ℕ) → 266 ≤ length line
    → int_field (32 ∷ 32 ∷ 32 ∷ pick_l 0 line (range_with_len 15 2)) ≡ month_field line
month_columns line long =
    ap int_field (pick_l-range_with_len 0 line 15 2 (omega arith)
    ∙ sym (columns-slice 16 17 15 17 line (omega arith) (omega arith) (omega arith) (omega arith)))

-- how the tests of a line that is long enough came out
pub record Tested (line : List ℕ) (ends id year month : Bool) : Type 0 where
  pub long : 266 ≤ length line
  pub ends_is : is_blank (drop 269 line) ≡ ends
  pub id_is : is_id (columns 1 11 line) ≡ id
  pub year_is : is_number_within (pos 1) (pos 9999) (year_field line) ≡ year
  pub month_is : is_number_within (pos 1) (pos 12) (month_field line) ≡ month

-- the first test that fails is that of how the tests came out
pub head_why-tested : {line : List ℕ} {ends id year month : Bool}
    → Tested line ends id year month → head_why line ≡ why_by true ends id year month None
head_why-tested {line} {ends} {id} {year} {month} t =
    let tests : Option LineWhy = None in
    let in_month : Bool = is_number_within (pos 1) (pos 12) (month_field line) in
    let in_year : Bool = is_number_within (pos 1) (pos 9999) (year_field line) in
    ap (λ (b : Bool). why_by b (is_blank (drop 269 line)) (is_id (columns 1 11 line)) in_year in_month tests)
    (le-leb 266 (length line) t.long)
    ∙ ap (λ (b : Bool). why_by true b (is_id (columns 1 11 line)) in_year in_month tests) t.ends_is
    ∙ ap (λ (b : Bool). why_by true ends b in_year in_month tests) t.id_is
    ∙ ap (λ (b : Bool). why_by true ends id b in_month tests) t.year_is
    ∙ ap (λ (b : Bool). why_by true ends id year b tests) t.month_is

-- tests after others count if none of those fails
why_parts : (long ends id year month : Bool) (days : Option LineWhy)
    → why_by long ends id year month days ≡ option_or (why_by long ends id year month None) days
why_parts false ends id year month days = refl
why_parts true false id year month days = refl
why_parts true true false year month days = refl
why_parts true true true false month days = refl
why_parts true true true true false days = refl
why_parts true true true true true days = refl

-- the tests of a line's days count if none before them fails
pub month_why-parts : (line : List ℕ) {why : Option LineWhy} → head_why line ≡ why
    → month_why line ≡ option_or why (days_why line)
month_why-parts line is = why_parts (nat_le 266 (length line)) (is_blank (drop 269 line)) (is_id (columns 1 11 line))
    (is_number_within (pos 1) (pos 9999) (year_field line)) (is_number_within (pos 1) (pos 12) (month_field line))
    (days_why line)
    ∙ ap (λ (o : Option LineWhy). option_or o (days_why line)) is

-- the head of a line, by its parts
pub head_of-parts : (line : List ℕ) (id : StationId) (year month : ℕ) → id ≡ id_of line
    → year ≡ unsigned_abs (number_of (year_field line)) → month ≡ unsigned_abs (number_of (month_field line))
    → record { id = id; year = year; month = month } ≡ head_of line
head_of-parts line id year month i y m = cc

-- a value that a test let through, if it was found
pub test_held : {T : Type 0} (b : Bool) (x y : T) {found : Option T} → found ≡ cond b (Some x) None → found ≡ Some y
    → (b ≡ true) × (y ≡ x)
test_held true x y is some = (refl, cc)
test_held false x y is some = absurd cc

-- a test that let none through
pub test_failed : {T : Type 0} (b : Bool) (x : T) {found : Option T} → found ≡ cond b (Some x) None → found ≡ None
    → b ≡ false
test_failed true x is none = absurd cc
test_failed false x is none = refl

-- a value that is returned, since nothing failed
pub unless_ok : {T : Type 0} (w : Option LineWhy) (x y : T) {found : Result T LineWhy} → found ≡ unless w x
    → found ≡ Ok y → (w ≡ None) × (y ≡ x)
unless_ok None x y is ok = (refl, cc)
unless_ok (Some why) x y is ok = absurd cc

-- what failed
pub unless_err : {T : Type 0} (w : Option LineWhy) (x : T) (why : LineWhy) {found : Result T LineWhy}
    → found ≡ unless w x → found ≡ Err why → w ≡ Some why
unless_err None x why is err = absurd cc
unless_err (Some v) x why is err = cc

-- what is returned unless a line of an element fails a test, by the first that it fails
pub unless_by : {T : Type 0} (line : List ℕ) (x : T) {why : Option LineWhy} → month_why line ≡ why
    → unless why x ≡ unless (month_why line) x
unless_by line x is = sym (ap (λ (o : Option LineWhy). unless o x) is)

-- the month of a line, by its parts
pub month_of-parts : (element : Element) (line : List ℕ) (id : StationId) (year month : ℕ) (days : List Reading)
    → id ≡ id_of line → year ≡ unsigned_abs (number_of (year_field line))
    → month ≡ unsigned_abs (number_of (month_field line)) → days ≡ map (reading line) days_of_group
    → record { id = id; element = element; year = year; month = month; days = days } ≡ month_of element line
month_of-parts element line id year month days i y m d = cc

-- a line of an element is read by the first test that it fails
pub read_month-by : (line : List ℕ) (element : Element) {found : Option Element} {why : Option LineWhy}
    → 21 ≤ length line → found ≡ element_of (take 4 (drop 17 line)) → found ≡ Some element → month_why line ≡ why
    → read_month line ≡ unless why (Some (month_of element line))
read_month-by line element long code is first =
    ap (λ (b : Bool). cond b (Err Short) (month_if (element_of (columns 18 21 line)) line))
    (le-ltb (length line) 21 long)
    ∙ ap (λ (o : Option Element). month_if o line)
    (ap element_of (columns-slice 18 21 17 21 line (omega arith) (omega arith) (omega arith) (omega arith))
    ∙ sym code ∙ is)
    ∙ sym (unless_by line (Some (month_of element line)) first)
