-- The first error: of a line that is put to tests in an order, and of lines that are read in order.
use Rattle.std.specs.Prelude.{◌≡◌, Bool, if◌then◌else◌, List, [], ◌∷◌, ◌++◌, Option, None, Some}
use Rattle.std.specs.Option.{option_or, option_map}

-- the error of the first test that fails, of tests in their order
abbrev pub first_failing : {W : Type 0} → List (Bool × W) → Option W
first_failing [] = None
first_failing (t ∷ ts) = if t.0 then first_failing ts else Some t.1

-- the first line with an error, beside the error; what a line's error is may depend on the lines before it
abbrev pub first_fault_after : {L W : Type 0} → (List L → L → Option W) → List L → List L → Option (L × W)
first_fault_after fault earlier [] = None
first_fault_after fault earlier (l ∷ ls) =
    option_or (option_map (λ w. (l, w)) (fault earlier l)) (first_fault_after fault (earlier ++ l ∷ []) ls)

-- the first line with an error among all lines
abbrev pub first_fault : {L W : Type 0} → (List L → L → Option W) → List L → Option (L × W)
first_fault fault ls = first_fault_after fault [] ls

-- no line has an error: however the lines are split, the line at the split has none after the lines before it
pub record HaveNoFault {L W : Type 0} (fault : List L → L → Option W) (ls : List L) : Type 0 where
  pub none : (before : List L) (l : L) (behind : List L) → ls ≡ before ++ l ∷ behind → fault before l ≡ None

-- the line has this error, and no line before it has one
pub record IsFirstFault {L W : Type 0} (fault : List L → L → Option W) (ls : List L) (l : L) (w : W) : Type 0 where
  pub before : List L
  pub behind : List L
  pub place : ls ≡ before ++ l ∷ behind
  pub here : fault before l ≡ Some w
  pub none_before : HaveNoFault fault before
