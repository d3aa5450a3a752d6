-- A report or a certificate that is written bit by bit.
use Rattle.std.proofs.Common.{◌≡◌, ℕ, List, ◌++◌, Option, length, ◌-◌, take, drop}
use Rattle.std.proofs.Common.{sym, ap, ◌∙◌, append_assoc, take-append-drop}
use Rattle.std.proofs.lemmas.List.{take_rest}
use Rattle.std.specs.Io.KnownBytes.{Appends}
use Rattle.std.proofs.KnownBytes.{Appends-trans}

-- of a report or a certificate all but the rest was given to a writer
pub record HasTaken (paper rest : List ℕ) (before after : Option (List ℕ)) : Type 0 where
  pub part : List ℕ
  pub split : paper ≡ part ++ rest
  pub given : Appends before after part

-- n bytes more are given
pub more-taken : (paper rest : List ℕ) (n : ℕ) (before between after : Option (List ℕ))
    → HasTaken paper rest before between → Appends between after (take n rest)
    → HasTaken paper (take (length rest - n) (drop n rest)) before after
more-taken paper rest n before between after taken more = record {
  part = taken.part ++ take n rest;
  split = taken.split ∙ ap (λ l. taken.part ++ l) (sym (take-append-drop n rest))
      ∙ sym (append_assoc taken.part (take n rest) (drop n rest))
      ∙ ap (λ l. (taken.part ++ take n rest) ++ l) (sym (take_rest rest n));
  given = Appends-trans _ _ _ _ _ taken.given more;
}
