-- What the rule says, at the end, of a seat to which all claims and rights have come back.
use Rattle.std.proofs.Common.{◌≡◌, ℕ, ◌+◌, ◌<◌, ◌≤◌, ◌==◌, List, [], ◌∷◌, length, ℤ, Option, Some, None, IfSome}
use Rattle.std.proofs.Common.{option_to_list, All, Contains, sum_by, sym, refl, ap, ◌∙◌, subst, inl, inr, arith}
use Rattle.std.proofs.lemmas.Bool.{cases_eq}
use Rattle.std.proofs.lemmas.List.Elements.{All-nil, All-cons}
use Rattle.std.proofs.lemmas.List.Sums.{count_by-le-length}
use mathlib.Core.Option.{some, some-injective}
use lib.ListN.{get_elem?}
use Rattle.atomic_table.specs.Table.{Final, Seen}
use Rattle.ghcn_fields.specs.Counting.{one_if_equal, times, HasEachBelow}
use Rattle.ghcn_fields.specs.Floor.{IsScore, IsGuessOrRaised, IsFloorOf}
use Rattle.ghcn_fields.proofs.CountingLaws.{one_if_equal-equal, equal_if_one, all_counted, some_counted}
use Rattle.rank_board.specs.declared.rule.View.{View}
use Rattle.rank_board.specs.declared.rule.Opening.{Opening}
use Rattle.rank_board.specs.Word.{score_word, floor_word, score_of_word, floor_of}
use Rattle.rank_board.specs.Rule.{standing, times_raised, times_known, IsRuled, AreWordsOf, Keeps}
use Rattle.rank_board.specs.Steps.{AreUnder}
use Rattle.rank_board.proofs.Sums.{term_le, sum_by-plus, sum_by-alone}
use Rattle.rank_board.proofs.Words.{score_word-limits, score_word-score_of, score_word-injective, floor_of-none}
use Rattle.rank_board.proofs.Words.{floor_of-some, floor_above}
use Rattle.rank_board.proofs.RuleKept.{raised_below}

-- a score whose word is that of the guess or of a raised score is one of these
guess_or_raised : (guess : Option ℤ) (raised : List ℤ) (s : ℤ) → 0 < score_word s
    → 0 < one_if_equal (floor_word guess) (score_word s) + standing (score_word s) raised
    → IsGuessOrRaised guess raised s
guess_or_raised guess raised s real known = elim (cases_eq (standing (score_word s) raised) 0) [
  | inl bare ↦ inl (of_guess guess (equal_if_one (floor_word guess) (score_word s) (omega arith)))
  | inr hit ↦ let t = some_counted score_word (score_word s) raised (omega arith) in inr
      (subst (Contains raised) (score_word-injective t.0 s t.2 real) t.1)
]
  where
    of_guess : (g : Option ℤ) → floor_word g ≡ score_word s → g ≡ Some s
    of_guess None e = absurd (omega arith)
    of_guess (Some x) e = ap Some (score_word-injective x s e real)

module _ (rights : ℕ) (guess : Option ℤ) (next floor : ℕ) (views : List View)
    (k : IsRuled rights guess next floor views) (id : ℕ) (v : View) (at : get_elem? views id ≡ some v) where
  -- the guess is at most the floor
  guess_under : (g : Option ℤ) → g ≡ guess → AreUnder floor (option_to_list g)
  guess_under None e = All-nil (λ s. (score_word s ≤ floor) × (0 < floor))
  guess_under (Some g) e =
      let real = score_word-limits g (subst (λ (o : Option ℤ). IfSome o IsScore) (sym e) k.start) in
      let under : score_word g ≤ floor = k.highest (score_word g)
      (omega (arith, one_if_equal-equal (floor_word guess) (score_word g) (ap floor_word (sym e)))) in
      All-cons (λ s. (score_word s ≤ floor) × (0 < floor)) g [] (under, omega arith)
      (All-nil (λ s. (score_word s ≤ floor) × (0 < floor)))

  module _ (whole : length v.claims + v.rights ≡ rights) where
    -- what no seat without claims has is all with this seat
    all_here : (h : View → ℕ) → ((j : ℕ) (u : View) → get_elem? views j ≡ some u → length u.claims ≡ 0 → h u ≡ 0)
        → sum_by h views ≡ h v
    all_here h bare = sum_by-alone (λ u. length u.claims + u.rights) h views id v at
        (omega (arith, sum_by-plus (λ u. length u.claims) (λ u. u.rights) views, k.drawn, k.left))
        (λ j u there none. bare j u there (omega arith))

    -- only this seat has raised scores
    raised_here : (n : ℕ) → times_raised n views ≡ standing n v.raised
    raised_here n =
        all_here (λ u. standing n u.raised)
        (λ j u there none. omega (arith, k.idle j u there none, count_by-le-length (λ s. score_word s == n) u.raised))

    -- a score that is known is the guess, or this seat raised it
    known_here : (s : ℤ) → 0 < score_word s → 0 < times_known guess (score_word s) views
        → IsGuessOrRaised guess v.raised s
    known_here s real known = guess_or_raised guess v.raised s real (omega (arith, raised_here (score_word s)))

    -- the floor is the guess, or this seat raised it
    floor_here : IfSome (floor_of floor) (IsGuessOrRaised guess v.raised)
    floor_here = elim (cases_eq floor 0) [
      | inl z ↦ subst (λ (o : Option ℤ). IfSome o (IsGuessOrRaised guess v.raised)) (sym (floor_of-none floor z)) tt
      | inr some_floor ↦ let e = score_word-score_of floor in
          subst (λ (o : Option ℤ). IfSome o (IsGuessOrRaised guess v.raised)) (sym (floor_of-some floor some_floor))
          (known_here (score_of_word floor) (omega arith)
          (subst (λ (n : ℕ). 0 < times_known guess n views) (sym e) k.reached))
    ]

    -- the seat claimed every number below next, each once
    pub claims_once : HasEachBelow next v.claims
    claims_once x =
        sym (all_here (λ u. times x u.claims)
        (λ j u there none. omega (arith, count_by-le-length (λ y. y == x) u.claims))) ∙ k.once x

    -- and as many as next
    pub claims_count : length v.claims ≡ next
    claims_count = sym (all_here (λ u. length u.claims) (λ j u there none. none)) ∙ k.drawn

    -- the floor is the greatest of the guess and what the seat raised
    pub floor_is : IsFloorOf guess v.raised (floor_of floor)
    floor_is = record {
      one_of_them = floor_here;
      guess_below = floor_above floor (option_to_list guess) (guess_under guess refl);
      raised_below = floor_above floor v.raised (raised_below rights guess next floor views k id v at);
    }

    -- what the seat saw is the guess, or it raised it
    pub seen_here : All (IsGuessOrRaised guess v.raised) v.seen
    seen_here = all_counted score_word (IsGuessOrRaised guess v.raised) v.seen (λ s seen.
        let part = term_le (λ u. standing (score_word s) u.seen) views id v at in
        let high = k.scores (score_word s) (omega arith) in
        known_here s (omega arith) (k.sees (score_word s) (omega arith)))

-- the two words that were read are those of the rule
ruled_words : (o : Opening) (views : List View) (n f : ℕ) (words : List ℕ) → AreWordsOf o words views
    → get_elem? words 0 ≡ some n → get_elem? words 1 ≡ some f → IsRuled o.rights o.guess n f views
ruled_words o views n f [] k a b = absurd k
ruled_words o views n f (x ∷ []) k a b = absurd k
ruled_words o views n f (x ∷ y ∷ z ∷ zs) k a b = absurd k
ruled_words o views n f (x ∷ y ∷ []) k a b =
    subst (λ (p : ℕ × ℕ). IsRuled o.rights o.guess p.0 p.1 views)
    (λ i. (some-injective x n a i, some-injective y f b i)) k

-- the rule at the close, of the two words that were read
pub ruled_at_close : {S : Type 0} (o : Opening) (id : ℕ) (v : View) (ws : List ℕ) (xs : List S) (n f : ℕ)
    → Final (Seen (Keeps {S = S} o) id v) ws xs
    → get_elem? ws 0 ≡ some n → get_elem? ws 1 ≡ some f
    → (views : List View) × IsRuled o.rights o.guess n f views × (get_elem? views id ≡ some v)
ruled_at_close o id v ws xs n f final a b = let s = final.0 in let same : s.words ≡ ws = final.2 in (
  s.views,
  ruled_words o s.views n f s.words final.1.0 (ap (λ (l : List ℕ). get_elem? l 0) same ∙ a)
      (ap (λ (l : List ℕ). get_elem? l 1) same ∙ b),
  final.1.1,
)
