use Rattle.rank_query.proofs.Cited.{has_written_of_eq}
use Rattle.rank_query.proofs.Printing.{four_places-is}
use Rattle.rank_query.proofs.text.write_four_places.Goals as goal

-- the whole part, the point and the four digits are the number with four decimals
pub returns : goal.returns
returns g c = λ plain ok. has_written_of_eq _ _ _ _ _ (four_places-is c.args.number) (c.write.ensures.writes plain ok)
