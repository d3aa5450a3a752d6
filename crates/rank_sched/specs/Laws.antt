-- What is true of plans, runs and answers. Each is a statement for the contract of a public function.
use Rattle.std.specs.Prelude.{◌≡◌, ◌↔◌, ◌⊎◌, ℕ, ◌+◌, ◌*◌, ◌<◌, ◌≤◌, Bool, true, false, List, [], ◌∷◌, ◌++◌, length}
use Rattle.std.specs.Prelude.{Option, None, Some, Result, ℤ, ◌≤ℤ◌, slice_get, int_lt, All, count_by, IfSome, IsSomeAnd}
use Rattle.std.specs.List.{AllByRecursion}
use Rattle.ghcn_fields.specs.Counting.{times, HasEachBelow}
use Rattle.ghcn_fields.specs.Floor.{IsAtLeast}
use Rattle.ghcn_series.specs.Series.{Data}
use Rattle.ghcn_series.specs.Held.{IsContents}
use Rattle.rank_query.specs.Meaning.Asked.{Query, IsAsked}
use Rattle.rank_scores.specs.declared.candidate.Candidate.{Candidate}
use Rattle.rank_scores.specs.Order.{bound_is_below}
use Rattle.rank_scores.specs.Morsels.{best_of_query, kth_of_query}
use Rattle.rank_pool.specs.First.{first, above, kth}
use Rattle.rank_sched.specs.declared.record.Record.{Record}
use Rattle.rank_sched.specs.declared.haul.Haul.{Haul}
use Rattle.rank_sched.specs.declared.event.Event.{Event}
use Rattle.rank_sched.specs.declared.event.Event.TheVariants.{Claim, Look, Settle}
use Rattle.rank_sched.specs.declared.event.StepFault.{StepFault}
use Rattle.rank_sched.specs.Plan.{Morsel, Plan, planned, IsPlanOf, IsPlan}
use Rattle.rank_sched.specs.Task.{Task, task_of, all_of_task, IsFair}
use Rattle.rank_sched.specs.Exchanges.{Exchange, morsels_of, scanned, IsRightSkip, exchange, raised_in, seen_in}
use Rattle.rank_sched.specs.Exchanges.{SeeUpward}
use Rattle.rank_sched.specs.Machine.{Worker, State, started, refusal, IsStep, Reaches, all_stopped, after}
use Rattle.rank_sched.specs.Run.{Running, IsAnswered, IsOfMemory, is_stopped, HasSettled}
use Rattle.rank_sched.specs.SoundRun.{AreSoundFrom, IsSoundState, IsSoundEnd, all_exchanges, claims_in}
use Rattle.rank_sched.specs.Hauls.{records_of, all_records, exchanges_in, turns_of, IsHaulOf, AreSound, AreUnderFloor}
use Rattle.rank_sched.specs.Hauls.{AreHaulsOf, AreSoundRecords, HaveRecords}
use Rattle.rank_sched.specs.TakingBack.{was_skipped, is_justified, stays, is_taken_back, taken_back, back_below}
use Rattle.rank_sched.specs.Answers.{best_of_plan, line_of, AreRecordsAlone}

-- ---- plans

-- a plan is the one list of its query's morsels with their bounds, each once, in which they are drawn in turn
abbrev pub PlanIsTheOne : Type 0
PlanIsTheOne = (q : Query) (c : Data) (p : Plan) → IsContents c → IsPlanOf q c p ↔ (p ≡ planned q c)

-- what a plan asks is fair
abbrev pub PlansAreFair : Type 0
PlansAreFair = (p : Plan) → IsPlan p → IsFair (task_of p)

-- the best of a plan's candidates are the best of the query, and the k-th score is the query's
abbrev pub PlanHasTheBest : Type 0
PlanHasTheBest = (q : Query) (c : Data) → IsAsked q → IsContents c →
    (best_of_plan (planned q c) ≡ best_of_query q c) ×
    (kth q.k (all_of_task (task_of (planned q c))) ≡ kth_of_query q c)

-- ---- the machine

-- an event that isn't refused leads to one state, which is computed; one that is refused leads to none
abbrev pub StepsAreComputed : Type 0
StepsAreComputed = (t : Task) (s s' : State) (e : Event)
    → IsStep t s e s' ↔ ((refusal s e ≡ None) × (s' ≡ after t s e))

-- the start is sound, and a step keeps it so
abbrev pub RunsAreSound : Type 0
RunsAreSound =
    ((t : Task) (workers : ℕ) (guess : Option ℤ) → IsSoundState t guess (started t workers guess))
    × ((t : Task) (guess : Option ℤ) (s s' : State) (e : Event) → 0 < t.k → IsSoundState t guess s → IsStep t s e s'
    → IsSoundState t guess s')

-- once all have stopped, each morsel has one record and the hauls are sound and under the floor
abbrev pub EndsAreSound : Type 0
EndsAreSound = (t : Task) (guess : Option ℤ) (s : State) (hs : List Haul) → 0 < length s.workers
    → IsSoundState t guess s → all_stopped s.workers ≡ true → AreHaulsOf s.workers hs →
    IsSoundEnd t s × AreSound t hs × AreUnderFloor t guess hs s.floor

-- the event is a claim
abbrev pub is_claim : Event → Bool
is_claim (Claim w) = true
is_claim (Look w) = false
is_claim (Settle w) = false

-- the event is a look
abbrev pub is_look : Event → Bool
is_look (Claim w) = false
is_look (Look w) = true
is_look (Settle w) = false

-- the event is a settle
abbrev pub is_settle : Event → Bool
is_settle (Claim w) = false
is_settle (Look w) = false
is_settle (Settle w) = true

-- a claim for each morsel and each worker, a look and a settle for each morsel, and no other event
pub record HasAllEvents (len workers : ℕ) (es : List Event) : Type 0 where
  pub claims : count_by is_claim es ≡ len + workers
  pub looks : count_by is_look es ≡ len
  pub settles : count_by is_settle es ≡ len
  pub all : length es ≡ 3 * len + workers

-- the events of a run that ends stopped are a claim for each morsel and each worker, and a look and a settle for each
abbrev pub EventsAreCounted : Type 0
EventsAreCounted = (t : Task) (workers : ℕ) (guess : Option ℤ) (es : List Event) (s : State) → 0 < t.k → 0 < workers
    → Reaches t workers guess es s → all_stopped s.workers ≡ true → HasAllEvents t.len workers es

-- with one worker at most one event is accepted
abbrev pub OneWorkerHasNoChoice : Type 0
OneWorkerHasNoChoice = (s : State) (e e' : Event) → length s.workers ≡ 1 → refusal s e ≡ None → refusal s e' ≡ None
    → e ≡ e'

-- so a run of one worker that ends stopped has one list of events and one end
abbrev pub OneWorkerEndsOneWay : Type 0
OneWorkerEndsOneWay = (t : Task) (guess : Option ℤ) (es es' : List Event) (s s' : State) → Reaches t 1 guess es s
    → all_stopped s.workers ≡ true → Reaches t 1 guess es' s' → all_stopped s'.workers ≡ true → (es ≡ es') × (s ≡ s')

-- so two lists of records that one worker makes under one guess are the same
abbrev pub RecordsAloneAreOne : Type 0
RecordsAloneAreOne = (t : Task) (guess : Option ℤ) (rs rs' : List Record) → AreRecordsAlone t guess rs
    → AreRecordsAlone t guess rs' → rs ≡ rs'

-- a machine that failed returns out of memory for each event, stays as it is, and isn't stopped
abbrev pub FailedStaysFailed : Type 0
FailedStaysFailed = (m m' : Running) (e : Event) (r : Result (Unit {0}) StepFault) → m.failed ≡ true
    → IsAnswered m e r m' → IsOfMemory r × (m' ≡ m) × (is_stopped m ≡ false)

-- a step that returns out of memory leaves a machine that failed
abbrev pub WantOfMemoryFails : Type 0
WantOfMemoryFails = (m m' : Running) (e : Event) (r : Result (Unit {0}) StepFault) → IsOfMemory r → IsAnswered m e r m'
    → m'.failed ≡ true

-- ---- hauls and workers that grow

-- a haul of a worker, and one record more of a later morsel that skips what it should, is a haul of the worker
abbrev pub HaulsGrow : Type 0
HaulsGrow = (t : Task) (w : ℕ) (h h' : Haul) (r : Record) → IsHaulOf t w h → r.worker ≡ w
    → AllByRecursion (λ m. m < r.morsel) (morsels_of (records_of h)) → IsRightSkip t r → HasSettled t h r h'
    → IsHaulOf t w h'

-- its turns are those before, and the record's
abbrev pub TurnsGrow : Type 0
TurnsGrow = (t : Task) (h h' : Haul) (r : Record) → HasSettled t h r h'
    → exchanges_in t h' ≡ exchanges_in t h ++ exchange t (scanned t (records_of h)) r ∷ []

-- floors seen upward, and one more that is at least all that was known, seen and raised, are seen upward
abbrev pub UpwardGrows : Type 0
UpwardGrows = (known : List ℤ) (xs : List Exchange) (x : Exchange) → SeeUpward known xs
    → IsAtLeast x.seen known → IsAtLeast x.seen (seen_in xs) → IsAtLeast x.seen (raised_in xs)
    → SeeUpward known (xs ++ x ∷ [])

-- sound workers, and those with the next numbers, are sound together
abbrev pub WorkersJoin : Type 0
WorkersJoin = (t : Task) (guess : Option ℤ) (w n : ℕ) (vs us : List Worker) → n ≡ w + length vs
    → AreSoundFrom t guess w vs → AreSoundFrom t guess n us → AreSoundFrom t guess w (vs ++ us)

-- their hauls together are the hauls of both
abbrev pub HaulsJoin : Type 0
HaulsJoin = (vs us : List Worker) (hs gs : List Haul) → AreHaulsOf vs hs → AreHaulsOf us gs
    → AreHaulsOf (vs ++ us) (hs ++ gs)

-- if all of both have stopped, all have
abbrev pub StopsJoin : Type 0
StopsJoin = (vs us : List Worker) → all_stopped vs ≡ true → all_stopped us ≡ true → all_stopped (vs ++ us) ≡ true

-- claims by number, and raised and seen scores in their order, are those of both
abbrev pub TurnsJoin : Type 0
TurnsJoin = (t : Task) (vs us : List Worker) →
    ((x : ℕ) → times x (claims_in (vs ++ us)) ≡ times x (claims_in vs) + times x (claims_in us))
    × (raised_in (all_exchanges t (vs ++ us)) ≡ raised_in (all_exchanges t vs) ++ raised_in (all_exchanges t us))
    × (seen_in (all_exchanges t (vs ++ us)) ≡ seen_in (all_exchanges t vs) ++ seen_in (all_exchanges t us))

-- ---- what is seen

-- no floor that was seen is above the floor
abbrev pub SeenIsAtMost : Type 0
SeenIsAtMost = (t : Task) (guess : Option ℤ) (s : State) → IsSoundState t guess s
    → All (λ z. IsSomeAnd s.floor (λ f. z ≤ℤ f)) (seen_in (all_exchanges t s.workers))

-- k of these candidates, or more, score above each number below z
abbrev pub IsReached : Task → List Candidate → ℤ → Type 0
IsReached t cs z = (b : ℤ) → int_lt b z ≡ true → t.k ≤ above b cs

-- a score that was raised is reached by k candidates of scanned morsels
abbrev pub RaisedIsReached : Type 0
RaisedIsReached = (t : Task) (hs : List Haul) → 0 < t.k
    → All (IsReached t (scanned t (all_records hs))) (raised_in (turns_of t hs))

-- ---- the end

-- no hauls are sound if and only if there are no morsels
abbrev pub NoHauls : Type 0
NoHauls = (t : Task) → AreSound t [] ↔ (t.len ≡ 0)

-- a skip that stays has its bound strictly below the k-th score of all candidates
abbrev pub SkipsAreRight : Type 0
SkipsAreRight = (t : Task) (hs : List Haul) (m : ℕ) → IsFair t → AreSound t hs → stays t (all_records hs) m ≡ true
    → bound_is_below (kth t.k (all_of_task t)) (t.bound m) ≡ true

-- a guess that is at most the k-th score of all candidates
abbrev pub IsLowGuess : Task → Option ℤ → Type 0
IsLowGuess t guess = IfSome guess (λ g. IsSomeAnd (kth t.k (all_of_task t)) (λ s. g ≤ℤ s))

-- without a guess, or with one that is at most the k-th score, no skip is undone
abbrev pub NoneIsTakenBack : Type 0
NoneIsTakenBack = (t : Task) (guess : Option ℤ) (hs : List Haul) (floor : Option ℤ) → IsFair t → AreSound t hs
    → AreUnderFloor t guess hs floor → IsLowGuess t guess → taken_back t (all_records hs) ≡ 0

-- what was scanned in the run, or had its skip undone after it, has the first k of all candidates
abbrev pub BestAreThere : Type 0
BestAreThere = (t : Task) (hs : List Haul) → IsFair t → AreSound t hs
    → first t.k (scanned t (all_records hs) ++ back_below t (all_records hs) t.len) ≡ first t.k (all_of_task t)

-- and the pool of what was scanned, or had its skip undone before a morsel, says whether its skip stays
abbrev pub PoolDecides : Type 0
PoolDecides = (t : Task) (hs : List Haul) (n : ℕ) → IsFair t → AreSound t hs
    → bound_is_below (kth t.k (scanned t (all_records hs) ++ back_below t (all_records hs) n)) (t.bound n)
    ≡ is_justified t (all_records hs) n

-- if a skip stays, every skip of a later number stays
abbrev pub SkipsStayOnwards : Type 0
SkipsStayOnwards = (t : Task) (rs : List Record) (m n : ℕ) → IsFair t → m ≤ n → n < t.len → stays t rs m ≡ true
    → was_skipped rs n ≡ true → stays t rs n ≡ true

-- sound hauls under a floor are sound as one list of records
abbrev pub RecordsAreSound : Type 0
RecordsAreSound = (t : Task) (guess : Option ℤ) (hs : List Haul) (floor : Option ℤ) → AreSound t hs
    → AreUnderFloor t guess hs floor → AreSoundRecords t guess (length hs) (all_records hs)

-- hauls that have the records of a sound run of that many workers are sound, under some floor
abbrev pub HaulsOfRecordsAreSound : Type 0
HaulsOfRecordsAreSound = (t : Task) (guess : Option ℤ) (rs : List Record) (hs : List Haul)
    → AreSoundRecords t guess (length hs) rs → HaveRecords t 0 rs hs
    → AreSound t hs × ((floor : Option ℤ) × AreUnderFloor t guess hs floor)

-- the records of a sound run of some workers are those of a sound run of more, of which the others have none
abbrev pub FewerWorkersAreSound : Type 0
FewerWorkersAreSound = (t : Task) (guess : Option ℤ) (fewer more : ℕ) (rs : List Record) → fewer ≤ more
    → AreSoundRecords t guess fewer rs → AreSoundRecords t guess more rs

-- a line is a scan if and only if its morsel's record isn't a skip or the skip is undone; never are both true
abbrev pub ScansHaveOneCause : Type 0
ScansHaveOneCause = (p : Plan) (rs : List Record) (i : ℕ) (r : Record) (x : Morsel)
    → HasEachBelow (length p.morsels) (morsels_of rs) → slice_get rs i ≡ Some r →
    (((line_of p rs (r.morsel, x)).skipped ≡ false)
    ↔ ((r.skipped ≡ false) ⊎ (is_taken_back (task_of p) rs r.morsel ≡ true)))
    × (¬ ((r.skipped ≡ false) × (is_taken_back (task_of p) rs r.morsel ≡ true)))
