-- What a worker raises after a morsel: the k-th score of all that it scanned, which can be a floor.
use Rattle.std.proofs.Common.{◌≡◌, ℕ, zero, suc, ◌<◌, Bool, true, false, cond, List, [], ◌∷◌, ◌++◌, ℤ, Option, None}
use Rattle.std.proofs.Common.{IfSome, refl, sym, ap, ◌∙◌, subst}
use Rattle.std.specs.Prelude.{slice_get}
use Rattle.std.specs.List.{fold, AllByRecursion}
use Rattle.std.specs.Option.{option_map}
use Rattle.ghcn_fields.specs.Floor.{IsScore}
use Rattle.ghcn_fields.specs.Sorting.{placed}
use Rattle.rank_scores.specs.declared.candidate.Candidate.{Candidate}
use Rattle.rank_pool.specs.First.{comes_first, in_order, kth}
use Rattle.rank_pool.specs.Pools.{Pool, taken, last_score}
use Rattle.rank_sched.specs.declared.record.Record.{Record}
use Rattle.rank_sched.specs.declared.haul.Haul.{Haul}
use Rattle.rank_sched.specs.Task.{Task, IsFair}
use Rattle.rank_sched.specs.Exchanges.{best_pool, pool_of, scanned_for, scanned, exchange}
use Rattle.rank_sched.specs.Hauls.{records_of}
use Rattle.rank_sched.specs.Run.{HasSettled}
use Rattle.rank_sched.proofs.Lists.{each-append, last_is_kth}
use Rattle.rank_sched.proofs.Ending.{best_more}

-- the scores of some candidates can be floors
abbrev HaveScores : List Candidate → Type 0
HaveScores xs = AllByRecursion (λ c. IsScore c.score) xs

-- one more takes its place
scores-placed : (x : Candidate) (ys : List Candidate) → IsScore x.score → HaveScores ys
    → HaveScores (placed comes_first x ys)
scores-placed x [] h a = (h, tt)
scores-placed x (y ∷ ys) h a =
    elim (comes_first x y) as (λ b. HaveScores (cond b (x ∷ y ∷ ys) (y ∷ placed comes_first x ys))) [
      | true ↦ (h, a)
      | false ↦ (a.0, scores-placed x ys h a.1)
    ]

-- the order doesn't matter
scores-in_order : (xs : List Candidate) → HaveScores xs → HaveScores (in_order xs)
scores-in_order [] a = tt
scores-in_order (x ∷ xs) a = scores-placed x (in_order xs) a.0 (scores-in_order xs a.1)

-- the score at a place
at_place : (xs : List Candidate) (j : ℕ) → HaveScores xs
    → IfSome (option_map (λ (c : Candidate). c.score) (slice_get xs j)) IsScore
at_place [] j a = tt
at_place (x ∷ xs) zero a = a.0
at_place (x ∷ xs) (suc j) a = at_place xs j a.1

-- the k-th score is one of them
kth_is_score : (k : ℕ) (xs : List Candidate) → HaveScores xs → IfSome (kth k xs) IsScore
kth_is_score zero xs a = tt
kth_is_score (suc j) xs a = at_place (in_order xs) j (scores-in_order xs a)

-- what a record stands for has scores that can be floors
scores-for : (t : Task) (r : Record) → IsFair t → HaveScores (scanned_for t r)
scores-for t r fair = elim r.skipped as (λ b. HaveScores (cond b [] (t.candidates r.morsel))) [
  | true ↦ tt
  | false ↦ fair.scores r.morsel
]

-- and so has all that was scanned
scores-scanned : (t : Task) (rs : List Record) → IsFair t → HaveScores (scanned t rs)
scores-scanned t [] fair = tt
scores-scanned t (r ∷ rs) fair =
    each-append (λ c. IsScore c.score) (scanned_for t r) (scanned t rs) (scores-for t r fair) (scores-scanned t rs fair)

-- the last score of a pool that had the best of some, and was offered others or skipped
last_then : (k : ℕ) (b : Bool) (xs ys : List Candidate) (p q : Pool) → 0 < k → p ≡ best_pool k xs
    → q ≡ fold taken p (cond b [] ys) → cond b None (last_score q) ≡ cond b None (kth k (xs ++ ys))
last_then k true xs ys p q some e f = refl
last_then k false xs ys p q some e f =
    ap (λ (x : Pool). last_score x) (f ∙ best_more k p xs ys e) ∙ last_is_kth k (xs ++ ys) some

-- a k-th score, or none if the morsel was skipped, can be a floor
raises_score : (b : Bool) (k : ℕ) (xs : List Candidate) → HaveScores xs → IfSome (cond b None (kth k xs)) IsScore
raises_score true k xs a = tt
raises_score false k xs a = kth_is_score k xs a

module _ (t : Task) (h h' : Haul) (r : Record) (raised : Option ℤ) (fair : IsFair t)
    (pool : h.pool ≡ pool_of t (records_of h)) (settled : HasSettled t h r h')
    (is : raised ≡ cond r.skipped None (last_score h'.pool)) where
  -- what is raised is what the record's exchange says
  pub raised_then : raised ≡ (exchange t (scanned t (records_of h)) r).raised
  raised_then = is ∙ last_then t.k r.skipped (scanned t (records_of h)) (t.candidates r.morsel) h.pool h'.pool fair.some
      pool settled.pool

  -- it can be a floor
  pub raised_is_score : IfSome raised IsScore
  raised_is_score = subst (λ (o : Option ℤ). IfSome o IsScore) (sym raised_then)
      (raises_score r.skipped t.k (scanned t (records_of h) ++ t.candidates r.morsel)
      (each-append (λ c. IsScore c.score) (scanned t (records_of h)) (t.candidates r.morsel)
      (scores-scanned t (records_of h) fair) (fair.scores r.morsel)))
