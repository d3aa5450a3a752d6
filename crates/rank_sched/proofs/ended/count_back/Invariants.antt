use Rattle.rank_sched.proofs.Cited.{◌≡◌, ◌≤◌, take, unmarked}
use Rattle.rank_sched.proofs.ended.count_back.Given as goal

-- those of the records so far are counted
abbrev pub invariant-loop-record : goal.invariant-loop-record
invariant-loop-record l = record {
  counted : l.back ≡ unmarked l.skips (take l.record-index l.records);
  few : l.back ≤ l.record-index;
}
