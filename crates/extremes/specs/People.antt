-- Words for people, which come after the lines that are due.
use Rattle.std.specs.Prelude.{◌≡◌, ◌⊎◌, Bool, true}
use Rattle.extremes.specs.Messages.{Line, LinePrinting}

-- nothing is printed, or one text
abbrev pub MayPrint : {M : Type 0} → LinePrinting M → M → M → Type 0
MayPrint prints before after = (after ≡ before) ⊎ ((words : Line) × prints before words after)

-- the lines that are due are printed; after them nothing is, or, if people read them, words for these
pub record IsForPeople {M : Type 0} (prints : LinePrinting M) (is_read : Bool) (after : M) (is_due : M → Type 0)
    : Type 0 where
  pub between : M
  pub due : is_due between
  pub more : (after ≡ between) ⊎ ((is_read ≡ true) × MayPrint prints between after)
