-- Each kind of step may be taken whatever the board holds, since it keeps the rule.
use Rattle.std.proofs.Common.{◌≡◌, ℕ, ◌+◌, ◌-◌, ◌%◌, ◌^◌, ◌<◌, ◌≤◌, max, List, [], ◌∷◌, ◌++◌, length, set, get_or, ℤ}
use Rattle.std.proofs.Common.{option_to_list, sym, refl, subst, arith}
use mathlib.Core.Option.{some, none}
use mathlib.Core.Option.{Option as Maybe}
use lib.ListN.{get_elem?}
use Rattle.atomic_table.specs.Table.{State, Me, Act, step, keeps, Valid, stepped, carried_after, Allows, Splits, Joins}
use Rattle.atomic_table.proofs.Lists.{set_again}
use Rattle.ghcn_fields.specs.Floor.{IsScore}
use Rattle.rank_board.specs.declared.rule.View.{View}
use Rattle.rank_board.specs.declared.rule.Opening.{Opening}
use Rattle.rank_board.specs.Word.{score_word, score_of_word, floor_of}
use Rattle.rank_board.specs.Rule.{view, spent_view, IsRuled, AreWordsOf, Keeps}
use Rattle.rank_board.specs.Steps.{claim_step, look_step, raise_step, rights_step, kept_view, handed_view, joined_view}
use Rattle.rank_board.proofs.Sums.{term_le}
use Rattle.rank_board.proofs.Words.{score_word-limits}
use Rattle.rank_board.proofs.RuleKept.{claims_below, seen_below, raised_below, claim_kept, look_kept, raise_kept}
use Rattle.rank_board.proofs.RuleKept.{split_kept, join_kept}

module _ {S : Type 0} (o : Opening) (slots id : ℕ) (me : Me S View) where
  -- the word becomes f of what it was; the seat has a new view that keeps the rule, of which `then` holds
  abbrev MayStep : State S View → ℕ → (ℕ → ℕ) → (ℕ → Me S View → Type 0) → Type 0
  MayStep s word f then =
      (w : View) × (a : Act S) × (Valid s.homes me.1 a)
      × Keeps o (stepped s word (f (get_or s.words word 0)) id me.1 w a)
      × then (get_or s.words word 0) (w, carried_after me.1 a)

  -- a claim while the words and the views are these
  claims_at : 0 < me.0.rights → (homes : List (Maybe S)) (views : List View) → get_elem? views id ≡ some me.0
      → (words : List ℕ) → AreWordsOf o words views
      → MayStep record { words = words; homes = homes; views = views } 0 (λ n. (n + 1) % 2 ^ 64)
      (claim_step o.rights (step slots 0 1 0 none) me)
  claims_at right homes views at [] k = absurd k
  claims_at right homes views at (n ∷ []) k = absurd k
  claims_at right homes views at (n ∷ f ∷ m ∷ ms) k = absurd k
  claims_at right homes views at (n ∷ f ∷ []) k =
      let part = term_le (λ u. u.rights) views id me.0 at in
      let few : n + me.0.rights ≤ o.rights = omega (arith, k.left) in
      let limit = k.limit in (
        view (me.0.claims ++ n ∷ []) me.0.raised me.0.seen (me.0.rights - 1),
        keeps,
        tt,
        claim_kept o.rights o.guess n f views k id me.0 at ((n + 1) % 2 ^ 64) (omega arith) right,
        (refl, claims_below o.rights o.guess n f views k id me.0 at, few, limit),
      )

  -- a claim, by a seat with a right left, on a board that was opened with that many rights
  pub claim_allowed : (all : ℕ) → o.rights ≡ all → 0 < me.0.rights
      → Allows (Keeps o) slots id me 0 (λ n. (n + 1) % 2 ^ 64) (claim_step all (step slots 0 1 0 none) me)
  claim_allowed all e right =
      subst (λ (r : ℕ). Allows (Keeps o) slots id me 0 (λ n. (n + 1) % 2 ^ 64)
      (claim_step r (step slots 0 1 0 none) me)) e
      (λ s k _ at _. claims_at right s.homes s.views at s.words k)

  -- a look while the words and the views are these
  looks_at : (homes : List (Maybe S)) (views : List View) → get_elem? views id ≡ some me.0 → (words : List ℕ)
      → AreWordsOf o words views
      → MayStep record { words = words; homes = homes; views = views } 1 (λ n. n) (look_step (step slots 1 0 0 none) me)
  looks_at homes views at [] k = absurd k
  looks_at homes views at (n ∷ []) k = absurd k
  looks_at homes views at (n ∷ f ∷ m ∷ ms) k = absurd k
  looks_at homes views at (n ∷ f ∷ []) k = (
    view me.0.claims me.0.raised (me.0.seen ++ option_to_list (floor_of f)) me.0.rights,
    keeps,
    tt,
    look_kept o.rights o.guess n f views k id me.0 at,
    (
      refl,
      k.ceiling,
      seen_below o.rights o.guess n f views k id me.0 at,
      raised_below o.rights o.guess n f views k id
          me.0 at,
    ),
  )

  -- a look
  pub look_allowed : Allows (Keeps o) slots id me 1 (λ n. n) (look_step (step slots 1 0 0 none) me)
  look_allowed s k _ at _ = looks_at s.homes s.views at s.words k

  -- a raise while the words and the views are these
  raises_at : (x : ℕ) → 2 ^ 31 ≤ x → x ≤ 2 ^ 32 + 2 ^ 31 → 0 < length me.0.claims
      → (homes : List (Maybe S)) (views : List View) → get_elem? views id ≡ some me.0 → (words : List ℕ)
      → AreWordsOf o words views
      → MayStep record { words = words; homes = homes; views = views } 1 (λ n. max n x)
      (raise_step (step slots 1 x 0 none) me)
  raises_at x low high drew homes views at [] k = absurd k
  raises_at x low high drew homes views at (n ∷ []) k = absurd k
  raises_at x low high drew homes views at (n ∷ f ∷ m ∷ ms) k = absurd k
  raises_at x low high drew homes views at (n ∷ f ∷ []) k = (
    view me.0.claims (me.0.raised ++ score_of_word x ∷ []) me.0.seen me.0.rights,
    keeps,
    tt,
    raise_kept o.rights o.guess
        n f views k id me.0 at x low high drew,
    refl,
  )

  -- a raise to a score, by a seat with a claim
  pub raise_allowed : (x : ℕ) (score : ℤ) → x ≡ score_word score → IsScore score → 0 < length me.0.claims
      → Allows (Keeps o) slots id me 1 (λ n. max n x) (raise_step (step slots 1 x 0 none) me)
  raise_allowed x score e real drew s k _ at _ = let limits = score_word-limits score real in
      raises_at x (omega (arith, limits.0)) (omega (arith, limits.1)) drew s.homes s.views at s.words k

  -- a load while the words and the views are these
  counts_at : (homes : List (Maybe S)) (views : List View) → get_elem? views id ≡ some me.0 → (words : List ℕ)
      → AreWordsOf o words views
      → MayStep record { words = words; homes = homes; views = views } 0 (λ n. n)
      (rights_step (step slots 0 0 0 none) me)
  counts_at homes views at [] k = absurd k
  counts_at homes views at (n ∷ []) k = absurd k
  counts_at homes views at (n ∷ f ∷ m ∷ ms) k = absurd k
  counts_at homes views at (n ∷ f ∷ []) k =
      let part = term_le (λ u. u.rights) views id me.0 at in
      let few : me.0.rights ≤ 2 ^ 40 = omega (arith, k.left, k.limit) in
      (me.0, keeps, tt, subst (IsRuled o.rights o.guess n f) (sym (set_again views id me.0 at)) k, (refl, few))

  -- a load that counts the seat's rights
  pub count_allowed : Allows (Keeps o) slots id me 0 (λ n. n) (rights_step (step slots 0 0 0 none) me)
  count_allowed s k _ at _ = counts_at s.homes s.views at s.words k

module _ (o : Opening) (id : ℕ) (v : View) where
  -- a split while the words and the views are these
  splits_at : (part : ℕ) → part ≤ v.rights → (views : List View) → get_elem? views id ≡ some v → (words : List ℕ)
      → AreWordsOf o words views
      → AreWordsOf o words (set views id (kept_view part v) ++ handed_view part v ∷ [])
  splits_at part enough views at [] k = absurd k
  splits_at part enough views at (n ∷ []) k = absurd k
  splits_at part enough views at (n ∷ f ∷ m ∷ ms) k = absurd k
  splits_at part enough views at (n ∷ f ∷ []) k = split_kept o.rights o.guess n f views k id v at part enough

  -- a join while the words and the views are these
  joins_at : (other : ℕ) (w : View) (views : List View) → get_elem? views id ≡ some v → ¬ (other ≡ id)
      → get_elem? (set views id (joined_view v w)) other ≡ some w
      → (words : List ℕ) → AreWordsOf o words views → AreWordsOf o words
      (set (set views id (joined_view v w)) other spent_view)
  joins_at other w views at apart there [] k = absurd k
  joins_at other w views at apart there (n ∷ []) k = absurd k
  joins_at other w views at apart there (n ∷ f ∷ m ∷ ms) k = absurd k
  joins_at other w views at apart there (n ∷ f ∷ []) k =
      join_kept o.rights o.guess n f views k id v at other w apart there

module _ {S : Type 0} (o : Opening) (id : ℕ) (v : View) where
  -- a split, by a seat that has the rights
  pub split_allowed : (part : ℕ) → part ≤ v.rights → Splits (Keeps {S = S} o) id v (kept_view part v)
      (handed_view part v)
  split_allowed part enough s k at = splits_at o id v part enough s.views at s.words k

  -- a join
  pub join_allowed : (other : ℕ) (w : View) → Joins (Keeps {S = S} o) id v other w (joined_view v w) spent_view
  join_allowed other w s k at apart there = joins_at o id v other w s.views at apart there s.words k
