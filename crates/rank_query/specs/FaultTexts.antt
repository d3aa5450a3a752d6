-- The texts of errors.
use Rattle.std.specs.Prelude.{ℕ, List, ◌++◌, codes}
use Rattle.std.specs.Fmt.{decimal}
use Rattle.rank_query.specs.declared.fault.QueryFault.{QueryFault}
use Rattle.rank_query.specs.declared.fault.QueryFault.TheVariants.{QueryTooLong, UnexpectedWord, QueryEnds}
use Rattle.rank_query.specs.declared.fault.QueryFault.TheVariants.{OutOfLimits, BadDate, BadBox, EmptyPeriod}

-- the line of an error of a query
abbrev pub query_fault_text : QueryFault → List ℕ
query_fault_text QueryTooLong = codes "refused 7 QueryTooLong"
query_fault_text (UnexpectedWord word) = codes "refused 8 UnexpectedWord " ++ decimal word
query_fault_text QueryEnds = codes "refused 9 QueryEnds"
query_fault_text (OutOfLimits word) = codes "refused 10 OutOfLimits " ++ decimal word
query_fault_text (BadDate word) = codes "refused 11 BadDate " ++ decimal word
query_fault_text (BadBox word) = codes "refused 12 BadBox " ++ decimal word
query_fault_text EmptyPeriod = codes "refused 13 EmptyPeriod"
