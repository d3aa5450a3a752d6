-- Spells that can be asked for, and a spell that days may still be added to.
use Rattle.std.specs.Prelude.{Bool, true, ◌&&◌, if◌then◌else◌, ℤ, pos, ◌+ℤ◌, ◌-ℤ◌, Option, None, Some, List, [], ◌∷◌}
use Rattle.std.specs.Prelude.{◌≡◌, ◌++◌}
use Rattle.std.specs.List.{fold}
use Rattle.std.specs.Ordering.{int_eq}
use Rattle.ghcn_files.specs.declared.station.StationId.{StationId}
use Rattle.ghcn_series.specs.Meaning.Series.{DayValue}
use Rattle.rank_query.specs.Meaning.Asked.{is_heat}
use Rattle.rank_scores.specs.declared.candidate.Candidate.{Candidate}
use Rattle.rank_scores.specs.declared.spell.Run.{Run}
use Rattle.rank_scores.specs.declared.spell.Spell.{Spell}
use Rattle.rank_scores.specs.declared.spell.Spell.TheVariants.{Dry, Wet, Hot, Cold}
use Rattle.rank_scores.specs.Candidates.{candidate}

-- spells that a query can ask for: the degrees of hot and cold days are within their limits
abbrev pub can_be_asked : Spell → Bool
can_be_asked Dry = true
can_be_asked Wet = true
can_be_asked (Hot t) = is_heat t
can_be_asked (Cold t) = is_heat t

-- the first and the last day of a spell, if one is open
abbrev pub open_spell : Bool → ℤ → ℤ → Option (ℤ × ℤ)
open_spell is_open first last = if is_open then Some (first, last) else None

-- the first day of a spell, if a day passes and comes after the spell's last one
abbrev pub goes_on : Option (ℤ × ℤ) → ℤ → Bool → Option ℤ
goes_on None day passes = None
goes_on (Some spell) day passes = if passes && int_eq day (spell.1 +ℤ pos 1) then Some spell.0 else None

-- the spell from a first to a last day
abbrev pub spell_from : StationId → ℤ → ℤ → Candidate
spell_from id first last = candidate id first (last, last +ℤ pos 1 -ℤ first)

-- the spell, if there is one
abbrev pub spell_list : StationId → Option (ℤ × ℤ) → List Candidate
spell_list id None = []
spell_list id (Some spell) = spell_from id spell.0 spell.1 ∷ []

-- the spell that is open in a run, if one is
abbrev pub spell_in : Run → Option (ℤ × ℤ)
spell_in run = open_spell run.is_open run.first run.last

-- the first day of the spell that a day of the kind belongs to
abbrev pub first_with : Option (ℤ × ℤ) → ℤ → ℤ
first_with run day = elim (goes_on run day true) [ Some first ↦ first | None ↦ day ]

-- the spell that ends before a day of the kind, if it doesn't go on with it
abbrev pub ended_by : StationId → Option (ℤ × ℤ) → ℤ → List Candidate
ended_by id run day = elim (goes_on run day true) [ Some first ↦ [] | None ↦ spell_list id run ]

-- what is offered while some days come, if a spell may be open before them
abbrev pub offered : StationId → (ℤ → Bool) → Option (ℤ × ℤ) → List DayValue → List Candidate
offered id test run [] = spell_list id run
offered id test run (y ∷ ys) = elim (goes_on run y.0 (test y.1)) [
  | Some first ↦ offered id test (Some (first, y.0)) ys
  | None ↦ spell_list id run ++ offered id test (if test y.1 then Some (y.0, y.0) else None) ys
]

-- what is offered while days of the kind come
abbrev pub offered_of_kind : StationId → Option (ℤ × ℤ) → List DayValue → List Candidate
offered_of_kind id run days = offered id (λ _. true) run days

-- a sink, the spell that is open, if one is, and days of the kind that are to come
abbrev pub Midway : Type 0 → Type 0
Midway S = S × (Option (ℤ × ℤ) × List DayValue)

-- whatever days of the kind come later, the sink will have taken the same in the end
pub record EndAlike {S : Type 0} (taken : S → Candidate → S) (id : StationId) (before after : Midway S) : Type 0 where
  pub same : (later : List DayValue) → fold taken after.0 (offered_of_kind id after.1.0 (after.1.1 ++ later))
      ≡ fold taken before.0 (offered_of_kind id before.1.0 (before.1.1 ++ later))
