-- The contenders of a series, and the best of each of their groups.
use Rattle.std.proofs.Common.{◌≡◌, ap, sym, ◌∙◌, true, List, [], ◌∷◌, Option, Some, None, arith, ℤ, ◌<ℤ◌}
use Rattle.std.specs.List.{AllByRecursion, fold}
use Rattle.std.specs.List.Sorted.{IsStrictlySortedBy}
use Rattle.std.specs.Ordering.{int_cmp}
use Rattle.std.specs.declared.cmp.Ordering.TheVariants.{Less}
use Rattle.std.proofs.lemmas.Int.{ints}
use Rattle.ghcn_fields.specs.Meaning.Days.{is_day}
use Rattle.ghcn_files.proofs.Ordered.{each-mapped}
use Rattle.ghcn_series.specs.Meaning.Series.{Series}
use Rattle.ghcn_series.specs.Series.{IsSeries}
use Rattle.rank_query.specs.declared.per.Per.{Per}
use Rattle.rank_query.specs.Meaning.Asked.{Query}
use Rattle.rank_scores.specs.declared.candidate.Candidate.{Candidate}
use Rattle.rank_scores.specs.declared.leading.Open.{Open}
use Rattle.rank_scores.specs.Meaning.Candidates.{admitted, shape}
use Rattle.rank_scores.specs.Candidates.{begun, candidates, contenders, RiseByFirstDay}
use Rattle.rank_scores.specs.Leading.{held_with, let_go}
use Rattle.rank_scores.proofs.Exactly.{begun_on, made, contenders_rise}
use Rattle.rank_scores.proofs.LeadingFolds.{Later, leaders_taken}
use Rattle.rank_scores.proofs.QueryCandidates.{contenders-own}
use Rattle.rank_scores.proofs.Rising.{all-made, from_each}
use Rattle.rank_scores.proofs.Runs.{admitted-days}

-- contenders begin on days of the calendar
contenders-days : (q : Query) (s : Series) → AllByRecursion (λ c. is_day c.first ≡ true) (contenders q s)
contenders-days q s =
    all-made (λ c. is_day c.first ≡ true) (begun_on q s) (admitted q s)
    (from_each (λ x. is_day x.0 ≡ true) (λ x. (c : Candidate) → begun_on q s x ≡ Some c → is_day c.first ≡ true)
    (admitted q s)
    (λ x day c e. ap is_day (made s.id x.0 (begun (shape q.score) (admitted q s) x) c e).1 ∙ day)
    (admitted-days q s.days))

-- a number that compares so is less
less-is : (a b : ℤ) → int_cmp a b ≡ Less → a <ℤ b
less-is a b e = grind (arith, ints)

-- contenders that rise by first day each begin later than those before them
later-from_rise : (cs : List Candidate) → RiseByFirstDay cs → Later cs
unfolding IsStrictlySortedBy
later-from_rise [] h = tt
later-from_rise (c ∷ cs) h = (
  from_each (λ d. int_cmp c.first d.first ≡ Less) (λ d. c.first <ℤ d.first) cs (λ d e. less-is c.first d.first e)
      (each-mapped (λ d. d.first) (λ z. int_cmp c.first z ≡ Less) cs h.0),
  later-from_rise cs h.1,
)

-- what holds the best of the open group lets go the candidates
pub groups_led : {S : Type 0} (taken : S → Candidate → S) (q : Query) (s : Series) (sink : S) → IsSeries s
    → let_go taken (fold (held_with q.per taken) (None, sink) (contenders q s)) ≡ fold taken sink (candidates q s)
groups_led taken q s sink series = leaders_taken q.per taken s.id sink (contenders q s)
    (later-from_rise (contenders q s) (contenders_rise q s series)) (contenders-own q s) (contenders-days q s)

-- from what is held before all contenders and after them
pub offered-led : {S : Type 0} (taken : S → Candidate → S) (q : Query) (s : Series) (per : Per) (sink first after : S)
    (none group : Option Open)
    → IsSeries s → per ≡ q.per → none ≡ None → first ≡ sink
    → (group, after) ≡ fold (held_with per taken) (none, first) (contenders q s)
    → let_go taken (group, after) ≡ fold taken sink (candidates q s)
offered-led taken q s per sink first after none group series is empty same held =
    ap (let_go taken) held
    ∙ ap (λ (p : Per). let_go taken (fold (held_with p taken) (none, first) (contenders q s))) is
    ∙ ap (λ o. let_go taken (fold (held_with q.per taken) (o, first) (contenders q s))) empty
    ∙ ap (λ f. let_go taken (fold (held_with q.per taken) (None, f) (contenders q s))) same
    ∙ groups_led taken q s sink series

-- a group that is open is let go by its best, and none by nothing
pub let_go-of : {S : Type 0} (taken : S → Candidate → S) (sink : S) (group : Option Open) (o : Open) → group ≡ Some o
    → taken sink o.best ≡ let_go taken (group, sink)
let_go-of taken sink group o e = ap (λ g. let_go taken (g, sink)) (sym e)
