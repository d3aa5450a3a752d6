-- Each change of a seat's view keeps the rule.
use Rattle.std.proofs.Common.{◌≡◌, ℕ, ◌+◌, ◌-◌, ◌^◌, ◌<◌, ◌≤◌, ◌≢◌, max, List, [], ◌∷◌, ◌++◌, length, set, ℤ, Option}
use Rattle.std.proofs.Common.{option_to_list, All, sum_by, refl, sym, ap, subst, ⊎_elim, inl, inr, ◌∙◌, arith}
use Rattle.std.proofs.Common.{length-append}
use Rattle.std.proofs.lemmas.Bool.{cases_eq}
use Rattle.std.proofs.lemmas.List.Sums.{sum_by-append}
use mathlib.Core.Option.{some}
use mathlib.Core.Logic.{dite}
use native.Mathlib.Decide.{dec_le}
use lib.ListN.{get_elem?}
use Rattle.atomic_table.proofs.Lists.{at_set, at_snoc, set_else}
use Rattle.ghcn_fields.specs.Counting.{one_if_equal, times}
use Rattle.ghcn_fields.proofs.CountingLaws.{one_if_equal-equal, one_if_equal-apart, times_below-suc, below_if_one, all_counted}
use Rattle.rank_board.specs.declared.rule.View.{View}
use Rattle.rank_board.specs.Word.{score_word, score_of_word, floor_of}
use Rattle.rank_board.specs.Rule.{view, spent_view, standing, times_raised, times_seen, times_known, IsRuled}
use Rattle.rank_board.specs.Steps.{AreUnder, kept_view, handed_view, joined_view}
use Rattle.rank_board.proofs.Sums.{sum_by-replaced, term_le, sum_by-cut, sum_by-joined}
use Rattle.rank_board.proofs.Words.{score_word-score_of, floor_seen}

-- no view among these has raised something without a claim
abbrev AreIdle : List View → Type 0
AreIdle views = (j : ℕ) (u : View) → get_elem? views j ≡ some u → length u.claims ≡ 0 → length u.raised ≡ 0

-- so it stays if one view is replaced by such a view
idle_set : (views : List View) (id : ℕ) (w : View) → AreIdle views → (length w.claims ≡ 0 → length w.raised ≡ 0)
    → AreIdle (set views id w)
idle_set views id w others mine j u at bare = ⊎_elim
    (λ (t : (j ≡ id) × (w ≡ u)). let e = t.1 in omega
    (arith, mine (omega (arith, ap (λ (v : View). length v.claims) e)), ap (λ (v : View). length v.raised) e))
    (λ (t : (j ≢ id) × (get_elem? views j ≡ some u)). others j u t.1 bare)
    (at_set views id j w u at)

-- scores with the word n in two lists
standing-append : (n : ℕ) (xs ys : List ℤ) → standing n (xs ++ ys) ≡ standing n xs + standing n ys
standing-append n = sum_by-append (λ s. one_if_equal (score_word s) n)

-- a number in two lists
times-append : (x : ℕ) (xs ys : List ℕ) → times x (xs ++ ys) ≡ times x xs + times x ys
times-append x = sum_by-append (λ y. one_if_equal y x)

module _ (rights : ℕ) (guess : Option ℤ) (next floor : ℕ) (views : List View)
    (k : IsRuled rights guess next floor views) (id : ℕ) (v : View) (at : get_elem? views id ≡ some v) where
  -- the seat's part is at most the sum over all seats
  mine : (f : View → ℕ) → f v ≤ sum_by f views
  mine f = term_le f views id v at

  -- the sum changes as the seat's part does
  changed : (f : View → ℕ) (w : View) → sum_by f (set views id w) + f v ≡ sum_by f views + f w
  changed f w = sum_by-replaced f views id v w at

  -- a seat's claims are below the next number
  pub claims_below : All (λ x. x < next) v.claims
  claims_below =
      all_counted (λ y. y) (λ x. x < next) v.claims
      (λ x claimed. below_if_one x next (omega (arith, mine (λ u. times x u.claims), k.once x)))

  -- each score that the seat saw is at most the floor
  pub seen_below : AreUnder floor v.seen
  seen_below = all_counted score_word (λ s. (score_word s ≤ floor) × (0 < floor)) v.seen (λ s seen.
      let here = mine (λ u. standing (score_word s) u.seen) in
      let under : score_word s ≤ floor = k.highest (score_word s) (k.sees (score_word s) (omega arith)) in
      let real = k.scores (score_word s) (omega arith) in (under, omega arith))

  -- each score that the seat raised is at most the floor
  pub raised_below : AreUnder floor v.raised
  raised_below = all_counted score_word (λ s. (score_word s ≤ floor) × (0 < floor)) v.raised (λ s raised.
      let here = mine (λ u. standing (score_word s) u.raised) in
      let under : score_word s ≤ floor = k.highest (score_word s) (omega arith) in
      let real = k.scores (score_word s) (omega arith) in (under, omega arith))

  -- the seat claims the next number for one right
  pub claim_kept : (m : ℕ) → m ≡ next + 1 → 0 < v.rights
      → IsRuled rights guess m floor (set views id (view (v.claims ++ next ∷ []) v.raised v.seen (v.rights - 1)))
  claim_kept m e right = let w : View = view (v.claims ++ next ∷ []) v.raised v.seen (v.rights - 1) in
      let same_raised : (n : ℕ) → times_raised n (set views id w) ≡ times_raised n views = λ n. omega
      (arith, changed (λ u. standing n u.raised) w) in
      let same_seen : (n : ℕ) → times_seen n (set views id w) ≡ times_seen n views = λ n. omega
      (arith, changed (λ u. standing n u.seen) w) in
      record {
        once = λ x. omega (
          arith,
          changed (λ u. times x u.claims) w,
          times-append x v.claims
              (next ∷ []),
          k.once x,
          times_below-suc x next m e,
        );
        drawn = omega (arith, changed (λ u. length u.claims) w, length-append v.claims (next ∷ []), k.drawn);
        left = omega (arith, changed (λ u. u.rights) w, k.left);
        limit = k.limit;
        start = k.start;
        highest = λ n known. k.highest n (omega (arith, same_raised n));
        reached = omega (arith, same_raised floor, k.reached);
        sees = λ n seen. omega (arith, same_raised n, k.sees n (omega (arith, same_seen n)));
        scores = λ n there. k.scores n (omega (arith, same_raised n, same_seen n));
        lowest = k.lowest;
        ceiling = k.ceiling;
        idle = idle_set views id w k.idle (λ bare. absurd (omega (arith, length-append v.claims (next ∷ []))));
      }

  -- the seat sees the floor
  pub look_kept : IsRuled rights guess next floor
      (set views id (view v.claims v.raised (v.seen ++ option_to_list (floor_of floor)) v.rights))
  look_kept =
      let new : List ℤ = option_to_list (floor_of floor) in let w : View = view v.claims v.raised
      (v.seen ++ new) v.rights in
      let same_raised : (n : ℕ) → times_raised n (set views id w) ≡ times_raised n views = λ n. omega
      (arith, changed (λ u. standing n u.raised) w) in
      let more_seen : (n : ℕ) → times_seen n (set views id w) ≡ times_seen n views + standing n new = λ n. omega
      (arith, changed (λ u. standing n u.seen) w, standing-append n v.seen new) in
      record {
        once = λ x. omega (arith, changed (λ u. times x u.claims) w, k.once x);
        drawn = omega (arith, changed (λ u. length u.claims) w, k.drawn);
        left = omega (arith, changed (λ u. u.rights) w, k.left);
        limit = k.limit;
        start = k.start;
        highest = λ n known. k.highest n (omega (arith, same_raised n));
        reached = omega (arith, same_raised floor, k.reached);
        sees = λ n seen. elim (cases_eq (standing n new) 0) [
          | inl old ↦ omega (arith, same_raised n, k.sees n (omega (arith, more_seen n)))
          | inr hit ↦ subst (λ (m : ℕ). 0 < times_known guess m (set views id w)) (floor_seen floor n (omega arith)).0
              (omega (arith, same_raised floor, k.reached))
        ];
        scores = λ n there. elim (cases_eq (standing n new) 0) [
          | inl old ↦ k.scores n (omega (arith, same_raised n, more_seen n))
          | inr hit ↦ let t = floor_seen floor n (omega arith) in omega (arith, k.lowest t.1, t.0)
        ];
        lowest = k.lowest;
        ceiling = k.ceiling;
        idle = idle_set views id w k.idle (k.idle id v at);
      }

  -- the seat raises the score with the word x
  pub raise_kept : (x : ℕ) → 2 ^ 31 ≤ x → x ≤ 2 ^ 32 + 2 ^ 31 → 0 < length v.claims
      → IsRuled rights guess next (max floor x)
      (set views id (view v.claims (v.raised ++ score_of_word x ∷ []) v.seen v.rights))
  raise_kept x low high drew = let w : View = view v.claims (v.raised ++ score_of_word x ∷ []) v.seen v.rights in
      let more_raised : (n : ℕ) → times_raised n (set views id w) ≡ times_raised n views + one_if_equal x n =
      λ n. omega (
        arith,
        changed (λ u. standing n u.raised) w,
        standing-append n v.raised (score_of_word x ∷ []),
        ap
            (λ (m : ℕ). one_if_equal m n) (score_word-score_of x),
      ) in
      let same_seen : (n : ℕ) → times_seen n (set views id w) ≡ times_seen n views = λ n. omega
      (arith, changed (λ u. standing n u.seen) w) in
      let known_now : ℕ → Type 0 = λ m. 0 < times_known guess m (set views id w) in
      record {
        once = λ y. omega (arith, changed (λ u. times y u.claims) w, k.once y);
        drawn = omega (arith, changed (λ u. length u.claims) w, k.drawn);
        left = omega (arith, changed (λ u. u.rights) w, k.left);
        limit = k.limit;
        start = k.start;
        highest = λ n known. elim (cases_eq x n) [
          | inl e ↦ omega arith
          | inr apart ↦ let old = k.highest n (omega (arith, more_raised n, one_if_equal-apart x n apart)) in omega
              arith
        ];
        reached = dite (dec_le floor x)
            (λ up. let e : x ≡ max floor x = omega arith in subst known_now e
            (omega (arith, more_raised x, one_if_equal-equal x x refl)))
            (λ down. let e : floor ≡ max floor x = omega arith in subst known_now e
            (omega (arith, more_raised floor, k.reached)));
        sees = λ n seen. omega (arith, more_raised n, k.sees n (omega (arith, same_seen n)));
        scores = λ n there. elim (cases_eq x n) [
          | inl e ↦ omega arith
          | inr apart ↦ k.scores n (omega (arith, more_raised n, same_seen n, one_if_equal-apart x n apart))
        ];
        lowest = λ some_floor. omega (arith, k.lowest);
        ceiling = omega (arith, k.ceiling);
        idle = idle_set views id w k.idle (λ bare. absurd (omega arith));
      }

  -- the seat hands over a part of its rights to a new seat
  pub split_kept : (part : ℕ) → part ≤ v.rights → IsRuled rights guess next floor
      (set views id (kept_view part v) ++ handed_view part v ∷ [])
  split_kept part enough = let l : View = kept_view part v in let r : View = handed_view part v in
      let cut : (f : View → ℕ) → sum_by f (set views id l ++ r ∷ []) + f v ≡ sum_by f views +
      (f l + f r) = λ f. sum_by-cut f views id v l r at in
      let same_raised : (n : ℕ) → times_raised n (set views id l ++ r ∷ []) ≡ times_raised n views = λ n. omega
      (arith, cut (λ u. standing n u.raised)) in
      let more_seen : (n : ℕ) → times_seen n (set views id l ++ r ∷ []) ≡ times_seen n views +
      (standing n v.seen + standing n v.raised) =
      λ n. omega (arith, cut (λ u. standing n u.seen), standing-append n v.seen v.raised) in
      record {
        once = λ y. omega (arith, cut (λ u. times y u.claims), k.once y);
        drawn = omega (arith, cut (λ u. length u.claims), k.drawn);
        left = omega (arith, cut (λ u. u.rights), k.left);
        limit = k.limit;
        start = k.start;
        highest = λ n known. k.highest n (omega (arith, same_raised n));
        reached = omega (arith, same_raised floor, k.reached);
        sees = λ n seen. elim (cases_eq (times_seen n views) 0) [
          | inl unseen ↦ omega (
            arith,
            same_raised n,
            more_seen n,
            mine (λ u. standing n u.seen),
            mine
                (λ u. standing n u.raised),
          )
          | inr old ↦ omega (arith, same_raised n, k.sees n (omega arith))
        ];
        scores = λ n there. k.scores n
            (omega (arith, same_raised n, more_seen n, mine (λ u. standing n u.seen), mine (λ u. standing n u.raised)));
        lowest = k.lowest;
        ceiling = k.ceiling;
        idle = λ j u there. ⊎_elim
            (λ was. idle_set views id l k.idle (k.idle id v at) j u was)
            (λ (e : r ≡ u). λ bare. sym (ap (λ (x : View). length x.raised) e))
            (at_snoc (set views id l) r u j there);
      }

  -- the seat takes in another, which is spent
  pub join_kept : (other : ℕ) (w : View) → ¬ (other ≡ id) → get_elem? (set views id (joined_view v w)) other ≡ some w
      → IsRuled rights guess next floor (set (set views id (joined_view v w)) other spent_view)
  join_kept other w apart there =
      let b : View = joined_view v w in let now : List View = set (set views id b) other spent_view in
      let same_sum : (f : View → ℕ) → f b ≡ f v + f w → f spent_view ≡ 0
      → sum_by f now ≡ sum_by f views = λ f. sum_by-joined f views id other v w b spent_view at there in
      let same_raised : (n : ℕ) → times_raised n now ≡ times_raised n views = λ n. same_sum (λ u. standing n u.raised)
      (standing-append n v.raised w.raised) refl in
      let same_seen : (n : ℕ) → times_seen n now ≡ times_seen n views = λ n. same_sum (λ u. standing n u.seen)
      (standing-append n v.seen w.seen) refl in
      let was : get_elem? views other ≡ some w = sym (set_else views id other b apart) ∙ there in
      let claims = length-append v.claims w.claims in
      record {
        once = λ y. omega (arith, same_sum (λ u. times y u.claims) (times-append y v.claims w.claims) refl, k.once y);
        drawn = omega (arith, same_sum (λ u. length u.claims) (length-append v.claims w.claims) refl, k.drawn);
        left = omega (arith, same_sum (λ u. u.rights) refl refl, k.left);
        limit = k.limit;
        start = k.start;
        highest = λ n known. k.highest n (omega (arith, same_raised n));
        reached = omega (arith, same_raised floor, k.reached);
        sees = λ n seen. omega (arith, same_raised n, k.sees n (omega (arith, same_seen n)));
        scores = λ n there. k.scores n (omega (arith, same_raised n, same_seen n));
        lowest = k.lowest;
        ceiling = k.ceiling;
        idle = idle_set (set views id b) other spent_view
            (idle_set views id b k.idle (λ bare. omega (
              arith,
              claims,
              length-append v.raised w.raised,
              k.idle id v at
                  (omega (arith, claims)),
              k.idle other w was (omega (arith, claims)),
            )))
            (λ bare. refl);
      }
