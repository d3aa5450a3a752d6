-- The greater of two floors.
use Rattle.rank_sched.proofs.Cited.{rules, ◌≡◌, ⊎_elim, inl, inr, List, [], ◌++◌, Option, Some, None, refl, arith, ℤ}
use Rattle.rank_sched.proofs.Cited.{◌≤ℤ◌, option_to_list, All, Contains, IfSome, IsSomeAnd, ints, All-nil, All-head}
use Rattle.rank_sched.proofs.Cited.{All-weaker, All-contains, All-contains_itself, IsAtLeast, IsGuessOrRaised}
use Rattle.rank_sched.proofs.Cited.{IsFloorOf, greater_floor}
use Rattle.rank_sched.proofs.Lists.{All-between, All-without, one_there}

-- ---- floors

-- a score is at most a floor
abbrev pub Under : Option ℤ → ℤ → Type 0
Under floor s = IsSomeAnd floor (λ f. s ≤ℤ f)

-- a floor without another score is itself
pub greater_none : (a : Option ℤ) → greater_floor a None ≡ a
greater_none None = refl
greater_none (Some x) = refl

-- what is true of the second of two floors, and follows from what is true of the first, is true of the greater
greater_of : (P Q : ℤ → Type 0) (a b : Option ℤ) → ((x : ℤ) → P x → Q x) → IfSome a P → All Q (option_to_list b)
    → IfSome (greater_floor a b) Q
greater_of P Q None None f h k = tt
greater_of P Q None (Some y) f h k = All-head Q y [] k
greater_of P Q (Some x) None f h k = f x h
greater_of P Q (Some x) (Some y) f h k =
    let there : Q y = All-head Q y [] k in
    let here : Q x = f x h in
    grind arith

-- the greater of two floors is at least what the first is at least
greater_left : (a b : Option ℤ) (s : ℤ) → Under a s → Under (greater_floor a b) s
greater_left None b s h = absurd h
greater_left (Some x) None s h = h
greater_left (Some x) (Some y) s h = search (rules, ints)

-- and at least the second
pub greater_own : (a b : Option ℤ) → IsAtLeast (greater_floor a b) (option_to_list b)
greater_own a None = All-nil (Under (greater_floor a None))
greater_own None (Some y) = grind (arith, ints, one_there)
greater_own (Some x) (Some y) = grind (arith, ints, one_there)

-- a known score is known among more
pub known-more : (guess : Option ℤ) (F V Z B : List ℤ) (x : ℤ) → IsGuessOrRaised guess (F ++ (V ++ B)) x
    → IsGuessOrRaised guess (F ++ ((V ++ Z) ++ B)) x
known-more guess F V Z B x = ⊎_elim (λ g. inl g) (λ c. let New : List ℤ = F ++ ((V ++ Z) ++ B) in
    inr (All-contains (Contains New) (F ++ (V ++ B)) x
    (All-without (Contains New) F V Z B (All-contains_itself New)).0 c))

-- one more score is raised, or none
pub floor-more : (guess floor up : Option ℤ) (F V B : List ℤ) → IsFloorOf guess (F ++ (V ++ B)) floor
    → IsFloorOf guess (F ++ ((V ++ option_to_list up) ++ B)) (greater_floor floor up)
floor-more guess floor up F V B f =
    let New : List ℤ = F ++ ((V ++ option_to_list up) ++ B) in
    let own = (All-without (Contains New) F V (option_to_list up) B (All-contains_itself New)).1 in
    record {
      one_of_them = greater_of (IsGuessOrRaised guess (F ++ (V ++ B))) (IsGuessOrRaised guess New) floor up
          (known-more guess F V (option_to_list up) B) f.one_of_them (All-weaker (Contains New)
          (IsGuessOrRaised guess New) (λ x c. inr c) (option_to_list up) own);
      guess_below = All-weaker (Under floor) (Under (greater_floor floor up)) (greater_left floor up)
          (option_to_list guess) f.guess_below;
      raised_below = All-between (Under (greater_floor floor up)) F V (option_to_list up) B
          (All-weaker (Under floor) (Under (greater_floor floor up)) (greater_left floor up) (F ++ (V ++ B))
          f.raised_below) (greater_own floor up);
    }
