use Rattle.std.proofs.Common.{◌≡◌, ◌≤◌, ◌^◌, take}
use Rattle.std.specs.Str.Parse.{digits_value}
use Rattle.ghcn_fields.proofs.WholeParts.{BeginsWithDigits}
use Rattle.ghcn_fields.proofs.field.whole_part.Given as goal

-- digits so far, whose number is at most the limit
abbrev pub invariant-loop-place : goal.invariant-loop-place
invariant-loop-place l = record {
  digits : BeginsWithDigits l.text l.place;
  value : l.value ≡ digits_value 10 (take l.place l.text);
  small : l.value ≤ 2 ^ 31;
}
