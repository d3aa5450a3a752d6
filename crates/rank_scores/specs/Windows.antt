-- Days one after another, whose values are kept in a ring, with their sum, as days come and leave.
use Rattle.std.specs.Prelude.{◌≡◌, ◌+◌, ◌-◌, ◌%◌, ℕ, Bool, true, false, List, [], ◌∷◌, length, get_or, ℤ, pos, ◌+ℤ◌}
use Rattle.std.specs.Prelude.{◌-ℤ◌, ◌≤ℤ◌}
use Rattle.std.specs.List.{AllByRecursion, fold}
use Rattle.rank_scores.specs.declared.candidate.Candidate.{Candidate}
use Rattle.rank_scores.specs.declared.window.Window.{Window}

-- the window itself if it goes on, otherwise one without a day
abbrev pub begun_anew_unless : Bool → Window → Window
begun_anew_unless true w = w
begun_anew_unless false w = record { first = w.first; len = 0; total = pos 0 }

-- the place in the ring, which has 512, of the value that comes next
abbrev pub next_place : Window → ℕ
next_place w = (w.first + w.len) % 512

-- the window with one day more, which has this value
abbrev pub with_value : Window → ℤ → Window
with_value w v = record { first = w.first; len = w.len + 1; total = w.total +ℤ v }

-- the value of the first day
abbrev pub first_value : List ℤ → Window → ℤ
first_value ring w = get_or ring w.first (pos 0)

-- the window without its first day
abbrev pub without_first : List ℤ → Window → Window
without_first ring w = record {
  first = (w.first + 1) % 512;
  len = w.len - 1;
  total = w.total -ℤ first_value ring w;
}

-- the sum of some values
abbrev pub sum : List ℤ → ℤ
sum [] = pos 0
sum (v ∷ vs) = v +ℤ sum vs

-- a sink has taken the windows of n days that end in a row with these values, after the days of a window: whatever they
-- are, if they are as many, and none has a greater total than all these days
abbrev pub TakesLow : {S : Type 0} → (S → Candidate → S) → ℕ → Window → List ℤ → S → S → Type 0
TakesLow taken n w values before after = (windows : List Candidate)
    → AllByRecursion (λ c. c.score ≤ℤ (w.total +ℤ sum values)) windows
    → length windows + n ≡ w.len + length values + 1
    → after ≡ fold taken before windows
