-- The flagged values of the first days of a line.
use Rattle.std.proofs.Common.{◌≡◌, ℕ, zero, suc, ◌+◌, ◌≤◌, Bool, true, false, cond, List, [], ◌∷◌, length, map}
use Rattle.std.proofs.Common.{refl, sym, ap, ap₂, ◌∙◌, arith, Option, None, Some, Ok, Err}
use Rattle.std.specs.Prelude.{◌&&◌, nat_le}
use Rattle.std.specs.Option.{is_some}
use Rattle.std.specs.List.{count_by, enumerate_from, range_with_len}
use Rattle.std.proofs.lemmas.List.FromFn.{map-range_with_len_more, length-map-range_with_len, length-enumerate_from}
use Rattle.std.proofs.Math.Nat.{zero-add}
use Rattle.std.proofs.lemmas.List.Sums.{sum_by-append, count_by-le-length}
use Rattle.ghcn_files.proofs.LineLaws.{enumerate_from-append}
use Rattle.ghcn_files.specs.declared.month.Reading.{Reading}
use Rattle.ghcn_files.specs.declared.element.Element.{Element}
use Rattle.ghcn_files.specs.declared.month.Month.{Month}
use Rattle.ghcn_files.specs.declared.fault.LineWhy.{LineWhy}
use Rattle.ghcn_files.specs.declared.fault.LineWhy.TheVariants.{Short}
use Rattle.ghcn_files.specs.Months.{reading, days_of_group, month_of, month_if, month_why, unless}
use Rattle.ghcn_files.specs.Flags.{is_flagged_value, HasNoFlag}
use Rattle.ghcn_files.proofs.WholeLines.{SaysSame, same-reading}

-- how many of the first n days of a line, in a month with that many days, have a flagged value
abbrev pub flagged_within : ℕ → List ℕ → ℕ → ℕ
flagged_within days line n =
    count_by (is_flagged_value days) (enumerate_from 1 (map (reading line) (range_with_len 1 n)))

-- one day more counts if its value is flagged
pub flagged_within-more : (days : ℕ) (line : List ℕ) (n : ℕ) → flagged_within days line (n + 1)
    ≡ flagged_within days line n + cond (is_flagged_value days (n + 1, reading line (n + 1))) 1 0
flagged_within-more days line n =
    let rs : List Reading = map (reading line) (range_with_len 1 n) in
    let r : Reading = reading line (n + 1) in
    let bit : ℕ × Reading → ℕ = λ x. cond (is_flagged_value days x) 1 0 in
    let place : 1 + length rs ≡ n + 1 = omega (arith, length-map-range_with_len (reading line) 1 n) in
    ap (λ (all : List Reading). count_by (is_flagged_value days) (enumerate_from 1 all))
    (map-range_with_len_more (reading line) 1 n (n + 1) (omega arith))
    ∙ ap (count_by (is_flagged_value days)) (enumerate_from-append 1 rs (r ∷ []))
    ∙ sum_by-append bit (enumerate_from 1 rs) (enumerate_from (1 + length rs) (r ∷ []))
    ∙ ap (λ (k : ℕ). flagged_within days line n + k) (zero-add (bit (1 + length rs, r)))
    ∙ ap (λ (k : ℕ). flagged_within days line n + cond (is_flagged_value days (k, r)) 1 0) place

-- what a day adds is at most 1
pub one_if-le : (b : Bool) (n : ℕ) → n ≡ cond b 1 0 → n ≤ 1
one_if-le true n is = omega (arith, is)
one_if-le false n is = omega (arith, is)

-- they are no more than the days
pub flagged_within-le : (days : ℕ) (line : List ℕ) (n : ℕ) → flagged_within days line n ≤ n
flagged_within-le days line n =
    let rs : List Reading = map (reading line) (range_with_len 1 n) in
    omega (
      arith,
      count_by-le-length (is_flagged_value days) (enumerate_from 1 rs),
      length-enumerate_from 1 rs,
      length-map-range_with_len (reading line) 1 n,
    )

-- a day with no flag doesn't count
unflagged : (within flagged there : Bool) → flagged ≡ false
    → ◌≡◌ {A = ℕ} (cond ((within && flagged) && there) 1 0) 0
unflagged true flagged there none = rw none refl
unflagged false flagged there none = refl

-- nor do the first days if none has a flag
pub flagged_within-none : (days : ℕ) (line : List ℕ) (n : ℕ) → HasNoFlag line n → flagged_within days line n ≡ 0
flagged_within-none days line zero none = refl
flagged_within-none days line (suc n) none =
    let more : suc n ≡ n + 1 = omega arith in
    ap (flagged_within days line) more
    ∙ flagged_within-more days line n
    ∙ ap₂ (λ (a b : ℕ). a + b)
    (flagged_within-none days line n (λ j lt. none j (omega (arith, lt))))
    (unflagged (nat_le (n + 1) days) (reading line (n + 1)).flagged (is_some (reading line (n + 1)).value)
    (none n (omega arith)))

-- a line that says of each day what another one says has as many flagged values as that one
pub flagged_within-same : (days : ℕ) (whole line : List ℕ) → SaysSame whole line → (n : ℕ) → n ≤ 31
    → flagged_within days whole n ≡ flagged_within days line n
flagged_within-same days whole line same zero le = refl
flagged_within-same days whole line same (suc n) le =
    let more : suc n ≡ n + 1 = omega arith in
    let counts : Reading → ℕ = λ r. cond (is_flagged_value days (n + 1, r)) 1 0 in
    ap (flagged_within days whole) more
    ∙ flagged_within-more days whole n
    ∙ ap₂ (λ (a b : ℕ). a + b) (flagged_within-same days whole line same n (omega (arith, le)))
    (ap counts (same-reading whole line same (n + 1) (omega arith) (omega (arith, le))))
    ∙ sym (flagged_within-more days line n)
    ∙ ap (flagged_within days line) (sym more)

-- the days of a month that was read are those of its line
pub days-read : (line : List ℕ) (short : Bool) (e : Option Element) (m : Month)
    → cond short (Err Short) (month_if e line) ≡ Ok (Some m) → m.days ≡ map (reading line) days_of_group
days-read line true e m is = absurd cc
days-read line false None m is = absurd cc
days-read line false (Some e) m is =
    elim (month_why line) as (λ (w : Option LineWhy). unless w (Some (month_of e line)) ≡ Ok (Some m)
    → m.days ≡ map (reading line) days_of_group) [
      | None ↦ λ is.
          let same : month_of e line ≡ m = cc in
          sym (ap (λ (x : Month). x.days) same)
      | Some why ↦ λ is. absurd cc
    ] is
