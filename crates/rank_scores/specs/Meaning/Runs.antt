-- Runs of consecutive whole numbers, which number days or blocks.
use Rattle.std.specs.Prelude.{◌≡◌, ℕ, ◌<◌, Bool, true, false, ℤ, pos, ◌+ℤ◌, ◌-ℤ◌}

-- the numbers from first to last, len of them, all pass a test, and the numbers before and after them don't
pub record IsRun (such : ℤ → Bool) (first last : ℤ) (len : ℕ) : Type 0 where
  pub nonempty : 0 < len
  pub ends : last +ℤ pos 1 ≡ first +ℤ pos len
  pub inside : (i : ℕ) → i < len → such (first +ℤ pos i) ≡ true
  pub before : such (first -ℤ pos 1) ≡ false
  pub after : such (last +ℤ pos 1) ≡ false
