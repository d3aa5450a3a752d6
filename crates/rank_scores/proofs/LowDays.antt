-- Days that score less than a floor, and their candidates.
use Rattle.std.proofs.Common.{◌≡◌, Bool, false, List, [], ◌∷◌, ◌++◌, Option, Some, suc, length, refl, sym, ap, ◌∙◌, arith, inl, inr}
use Rattle.std.proofs.Common.{ℤ, pos, ◌-ℤ◌, ◌<ℤ◌}
use Rattle.std.specs.Prelude.{filter, int_le, int_lt}
use Rattle.std.specs.List.{AllByRecursion, filter_map, fold}
use Rattle.std.specs.Option.{option_map}
use Rattle.std.proofs.lemmas.List.Elements.{filter_map-append}
use Rattle.std.proofs.lemmas.List.Sums.{fold-append}
use Rattle.rank_scores.specs.declared.candidate.Candidate.{Candidate}
use Rattle.std.proofs.lemmas.Bool.{cases_Bool}
use Rattle.std.proofs.lemmas.Int.{ints}
use Rattle.ghcn_files.specs.declared.station.StationId.{StationId}
use Rattle.ghcn_series.specs.Meaning.Series.{DayValue}
use Rattle.rank_scores.specs.Meaning.Candidates.{Days}
use Rattle.rank_scores.specs.Candidates.{candidate, contenders_among}
use Rattle.rank_scores.specs.Extremes.{score_by}
use Rattle.rank_scores.specs.declared.extreme.Extreme.TheVariants.{Highest, Lowest}
use Rattle.rank_scores.proofs.Rising.{from_each}

-- if none of some days is kept, none passes
none-passes : (keep : DayValue → Bool) (days : List DayValue) → filter keep days ≡ []
    → AllByRecursion (λ x. keep x ≡ false) days
none-passes keep [] none = tt
none-passes keep (x ∷ xs) none =
    elim (cases_Bool (keep x)) [
      | inl e ↦ let some : x ∷ filter keep xs ≡ [] = rw e at none in absurd cc
      | inr e ↦ (e, none-passes keep xs (rw e at none))
    ]

-- days none of which is from a floor on score less
pub highest-low : (floor : ℤ) (days : List DayValue) → filter (λ x. int_le floor x.1) days ≡ []
    → AllByRecursion (λ x. score_by Highest x.1 <ℤ floor) days
highest-low floor days none =
    from_each (λ x. int_le floor x.1 ≡ false) (λ x. x.1 <ℤ floor) days (λ x e. grind (arith, ints))
    (none-passes (λ x. int_le floor x.1) days none)

-- so do days none of which is below what lies as far on the other side of 0
pub lowest-low : (floor limit : ℤ) (days : List DayValue) → limit ≡ pos 1 -ℤ floor
    → filter (λ x. int_lt x.1 limit) days ≡ [] → AllByRecursion (λ x. score_by Lowest x.1 <ℤ floor) days
lowest-low floor limit days is none =
    from_each (λ x. int_lt x.1 limit ≡ false) (λ x. score_by Lowest x.1 <ℤ floor) days (λ x e. grind (arith, ints))
    (none-passes (λ x. int_lt x.1 limit) days none)

-- there are as many candidates as days
pub as-many : (id : StationId) (f : ℤ → ℤ) (days : List DayValue)
    → length (contenders_among id (Days f) days) ≡ length days
as-many id f [] = refl
as-many id f (x ∷ xs) = ap suc (as-many id f xs)

-- their scores are those of the days
pub all-low : (id : StationId) (f : ℤ → ℤ) (floor : ℤ) (days : List DayValue)
    → AllByRecursion (λ x. f x.1 <ℤ floor) days
    → AllByRecursion (λ c. c.score <ℤ floor) (contenders_among id (Days f) days)
all-low id f floor [] low = tt
all-low id f floor (x ∷ xs) low = (low.0, all-low id f floor xs low.1)

-- once the candidates of a part of some days are taken, those of the rest are left
pub takes-part : {S : Type 0} (taken : S → Candidate → S) (sink after : S) (id : StationId) (f : ℤ → ℤ)
    (all part rest : List DayValue) → all ≡ part ++ rest → after ≡ fold taken sink (contenders_among id (Days f) part)
    → fold taken after (contenders_among id (Days f) rest) ≡ fold taken sink (contenders_among id (Days f) all)
takes-part taken sink after id f all part rest parts is =
    let of_day : DayValue → Option Candidate = λ x. option_map (candidate id x.0) (Some (x.0, f x.1)) in
    rw (is, parts) (sym (ap (fold taken sink) (filter_map-append of_day part rest)
    ∙ fold-append taken sink (filter_map of_day part) (filter_map of_day rest)))
