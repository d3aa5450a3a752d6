-- What a scan holds of the group that is open: its best contender.
use Rattle.std.specs.Prelude.{ℤ, pos, int_le, if◌then◌else◌, Option, None, Some}
use Rattle.ghcn_fields.specs.Meaning.Dates.{civil}
use Rattle.ghcn_fields.specs.Meaning.Days.{last_day}
use Rattle.jiff_core.specs.Calendar.{days_from_civil}
use Rattle.rank_query.specs.declared.per.Per.{Per}
use Rattle.rank_query.specs.declared.per.Per.TheVariants.{Each, Station, Year}
use Rattle.rank_scores.specs.declared.candidate.Candidate.{Candidate}
use Rattle.rank_scores.specs.declared.leading.Leading.{Leading}
use Rattle.rank_scores.specs.declared.leading.Open.{Open}
use Rattle.rank_scores.specs.Meaning.Order.{precedes}

-- 31 December of the year of a day
abbrev pub last_of_year : ℤ → ℤ
last_of_year day = days_from_civil (pos (civil day).0) 12 31

-- the last day on which a contender of the group of a first day can begin
abbrev pub group_end : Per → ℤ → ℤ
group_end Each day = day
group_end Station day = last_day
group_end Year day = last_of_year day

-- the group of a contender, of which it is the first
abbrev pub opened : Per → Candidate → Open
opened per c = record { best = c; end = group_end per c.first }

-- the better of two
abbrev pub better : Candidate → Candidate → Candidate
better held c = if precedes c held then c else held

-- the open group, and a sink of the best of those before it
abbrev pub Held : Type 0 → Type 0
Held S = Option Open × S

-- with one contender more
abbrev pub held_with : {S : Type 0} → Per → (S → Candidate → S) → Held S → Candidate → Held S
held_with per taken h c = elim h.0 [
  | None ↦ (Some (opened per c), h.1)
  | Some o ↦
      if int_le c.first o.end then (Some (record { best = better o.best c; end = o.end }), h.1)
      else (Some (opened per c), taken h.1 o.best)
]

-- the sink, once it has taken the best of the open group
abbrev pub let_go : {S : Type 0} → (S → Candidate → S) → Held S → S
let_go taken h = elim h.0 [ None ↦ h.1 | Some o ↦ taken h.1 o.best ]

-- what is held with one contender more
abbrev pub leading_with : {S : Type 0} → (S → Candidate → S) → Leading S → Candidate → Leading S
leading_with taken l c = record l {
  group = (held_with l.per taken (l.group, l.sink.now) c).0;
  sink = record l.sink { now = (held_with l.per taken (l.group, l.sink.now) c).1 };
}
