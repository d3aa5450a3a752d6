-- What each step of a seat does to its view, and what it returns.
use Rattle.std.specs.Prelude.{◌≡◌, ℕ, ◌+◌, ◌-◌, ◌^◌, ◌<◌, ◌≤◌, List, [], ◌∷◌, ◌++◌, option_to_list, All, ℤ}
use Rattle.atomic_table.specs.Table.{Me, Step}
use Rattle.rank_board.specs.declared.rule.View.{View}
use Rattle.rank_board.specs.Word.{score_word, score_of_word, floor_of}
use Rattle.rank_board.specs.Rule.{view}

-- the floor with the word n is at least each of these scores
abbrev pub AreUnder : ℕ → List ℤ → Type 0
AreUnder n scores = All (λ s. (score_word s ≤ n) × (0 < n)) scores

module _ {S : Type 0} where
  -- of the board's rights one is spent on the number n, which is above all that the seat claimed before
  abbrev pub claim_step : ℕ → Step S → Me S View → ℕ → Me S View → Type 0
  claim_step all st me n me' =
      (me' ≡ (view (me.0.claims ++ n ∷ []) me.0.raised me.0.seen (me.0.rights - 1), me.1))
      × All (λ x. x < n) me.0.claims × (n + me.0.rights ≤ all) × (all ≤ 2 ^ 40)

  -- the floor with the word n is seen, at least every score that the seat saw or raised
  abbrev pub look_step : Step S → Me S View → ℕ → Me S View → Type 0
  look_step st me n me' =
      (me' ≡ (view me.0.claims me.0.raised (me.0.seen ++ option_to_list (floor_of n)) me.0.rights, me.1))
      × (n ≤ 2 ^ 32 + 2 ^ 31) × AreUnder n me.0.seen × AreUnder n me.0.raised

  -- the score whose word was passed is raised
  abbrev pub raise_step : Step S → Me S View → ℕ → Me S View → Type 0
  raise_step st me n me' = me' ≡ (
    view me.0.claims (me.0.raised ++ score_of_word st.first ∷ []) me.0.seen me.0.rights,
    me.1,
  )

  -- the seat has no more rights than a board may have
  abbrev pub rights_step : Step S → Me S View → ℕ → Me S View → Type 0
  rights_step st me n me' = (me' ≡ me) × (me.0.rights ≤ 2 ^ 40)

-- what a seat keeps that hands over this many rights
abbrev pub kept_view : ℕ → View → View
kept_view part v = view v.claims v.raised v.seen (v.rights - part)

-- what the new seat is handed: the rights, and all that the first seat saw or raised
abbrev pub handed_view : ℕ → View → View
handed_view part v = view [] [] (v.seen ++ v.raised) part

-- what two seats know together
abbrev pub joined_view : View → View → View
joined_view v w = view (v.claims ++ w.claims) (v.raised ++ w.raised) (v.seen ++ w.seen) (v.rights + w.rights)
