use Rattle.rank_query.proofs.Cited.{◌≡◌, ◌+◌, min, take, true, list_all, is_ascii_digit, digits_value}
use Rattle.rank_query.proofs.values.number_up_to.Given as goal

-- the bytes so far are digits, and their value, or one past the greatest, is read
abbrev pub invariant-loop-digit : goal.invariant-loop-digit
invariant-loop-digit l = record {
  digits : list_all is_ascii_digit (take l.digit-index l.digits) ≡ true;
  value : l.value ≡ min (l.most + 1) (digits_value 10 (take l.digit-index l.digits));
}
