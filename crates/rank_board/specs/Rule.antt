-- The rule of a board: what its two words say of all that its seats know, and what these say of the words.
use Rattle.std.specs.Prelude.{◌≡◌, ℕ, ◌+◌, ◌^◌, ◌<◌, ◌≤◌, ◌==◌, List, [], ◌∷◌, length, ℤ, Option, option_to_list}
use Rattle.std.specs.Prelude.{IfSome, sum_by, count_by}
use mathlib.Core.Option.{some}
use lib.ListN.{get_elem?}
use Rattle.atomic_table.specs.Table.{State}
use Rattle.ghcn_fields.specs.Counting.{one_if_equal, times, times_below}
use Rattle.ghcn_fields.specs.Floor.{IsScore}
use Rattle.rank_board.specs.declared.rule.View.{View}
use Rattle.rank_board.specs.declared.rule.Opening.{Opening}
use Rattle.rank_board.specs.Word.{score_word, floor_word}

-- the view of a seat with these claims, scores raised, scores seen and rights left
abbrev pub view : List ℕ → List ℤ → List ℤ → ℕ → View
view claims raised seen rights = record { claims = claims; raised = raised; seen = seen; rights = rights }

-- the view of a seat that was joined into another
abbrev pub spent_view : View
spent_view = view [] [] [] 0

-- the view of the first seat: all rights, and the guess as a score seen
abbrev pub first_view : Opening → View
first_view o = view [] [] (option_to_list o.guess) o.rights

-- how often the seats claimed the number x
abbrev pub times_claimed : ℕ → List View → ℕ
times_claimed x views = sum_by (λ v. times x v.claims) views

-- how many claims the seats made
abbrev pub claims_made : List View → ℕ
claims_made views = sum_by (λ v. length v.claims) views

-- how many rights the seats have left
abbrev pub rights_left : List View → ℕ
rights_left views = sum_by (λ v. v.rights) views

-- how many of these scores have the word n
abbrev pub standing : ℕ → List ℤ → ℕ
standing n scores = count_by (λ s. score_word s == n) scores

-- how often the seats raised a score with the word n
abbrev pub times_raised : ℕ → List View → ℕ
times_raised n views = sum_by (λ v. standing n v.raised) views

-- how often the seats saw a score with the word n
abbrev pub times_seen : ℕ → List View → ℕ
times_seen n views = sum_by (λ v. standing n v.seen) views

-- how often n is the word of the guess, or of a score that a seat raised
abbrev pub times_known : Option ℤ → ℕ → List View → ℕ
times_known guess n views = one_if_equal (floor_word guess) n + times_raised n views

-- a board of these rights and this guess may have these two words while its seats know this
pub record IsRuled (rights : ℕ) (guess : Option ℤ) (next floor : ℕ) (views : List View) : Type 0 where
  -- the claims of all seats are the numbers below next, each once, and so as many as next
  pub once : (x : ℕ) → times_claimed x views ≡ times_below x next
  pub drawn : claims_made views ≡ next
  -- each right was spent on a claim or is left, and there are at most 2^40
  pub left : next + rights_left views ≡ rights
  pub limit : rights ≤ 2 ^ 40
  -- the floor is the greatest of the guess and all scores raised, 0 if there is neither
  pub highest : (n : ℕ) → 0 < times_known guess n views → n ≤ floor
  pub reached : 0 < times_known guess floor views
  -- each score that a seat saw is the guess, or was raised, and so is at most the floor
  pub sees : (n : ℕ) → 0 < times_seen n views → 0 < times_known guess n views
  -- the guess, the scores and the floor are inside the limits of a score
  pub start : IfSome guess IsScore
  pub scores : (n : ℕ) → 0 < times_raised n views + times_seen n views → 2 ^ 31 ≤ n
  pub lowest : 0 < floor → 2 ^ 31 ≤ floor
  pub ceiling : floor ≤ 2 ^ 32 + 2 ^ 31
  -- a seat without claims has raised nothing
  pub idle : (j : ℕ) (v : View) → get_elem? views j ≡ some v → length v.claims ≡ 0 → length v.raised ≡ 0

-- the first word is the next number, the second the floor
abbrev pub AreWordsOf : Opening → List ℕ → List View → Type 0
AreWordsOf o (next ∷ floor ∷ []) views = IsRuled o.rights o.guess next floor views
AreWordsOf o _ views = ⊥

-- the table of a board keeps the board's rule
abbrev pub Keeps : {S : Type 0} → Opening → State S View → Type 0
Keeps o s = AreWordsOf o s.words s.views
