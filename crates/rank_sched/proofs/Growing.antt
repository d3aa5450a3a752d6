-- A haul and one record more, and two groups of workers as one.
use Rattle.rank_sched.proofs.Cited.{rules, ◌+◌, [], ◌∷◌, arith, flat_map-append, list_all-append, times-append}
use Rattle.rank_sched.proofs.Cited.{HaulsGrow, TurnsGrow, UpwardGrows, WorkersJoin, HaulsJoin, StopsJoin, TurnsJoin}
use Rattle.rank_sched.proofs.Lists.{each-append, rise-push, morsels-push, scanned-push, exchanges-push, upward-push}
use Rattle.rank_sched.proofs.Ending.{best_more}

-- a haul of a worker, and one record more of a later morsel
pub haul_grows : HaulsGrow
haul_grows t w h h' r own named later right s = grind
    (arith, each-append, morsels-push, rise-push, best_more, scanned-push)

-- its turns are those before, and one more
pub turns_grow : TurnsGrow
turns_grow t h h' r s = grind (arith, exchanges-push)

-- floors seen upward, and one more that is at least all before
pub upward_grows : UpwardGrows
upward_grows known xs x h least seen raised = upward-push known xs x h least seen raised

-- sound workers, and sound workers with the next numbers
pub workers_join : WorkersJoin
workers_join t guess w n [] us e a b = search rules
workers_join t guess w n (v ∷ vs) us e a b = (a.0, workers_join t guess (w + 1) n vs us (omega arith) a.1 b)

-- their hauls
pub hauls_join : HaulsJoin
hauls_join [] us [] gs a b = b
hauls_join [] us (h ∷ hs) gs a b = absurd a
hauls_join (v ∷ vs) us [] gs a b = absurd a
hauls_join (v ∷ vs) us (h ∷ hs) gs a b = (a.0, hauls_join vs us hs gs a.1 b)

-- all of both have stopped
pub stops_join : StopsJoin
stops_join vs us a b = grind (arith, list_all-append)

-- claims, raised and seen scores of both
pub turns_join : TurnsJoin
turns_join t vs us = search (rules, flat_map-append, times-append)
