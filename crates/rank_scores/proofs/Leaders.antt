-- Those of some that no rival precedes, whatever rivals are and which precedes.
use Rattle.std.proofs.Common.{◌≡◌, Bool, true, false, cond, not, ◌||◌, ◌&&◌, ◌⊎◌, inl, inr, List, [], ◌∷◌, filter}
use Rattle.std.proofs.Common.{refl, sym, ap, ◌∙◌, subst, arith}
use Rattle.std.specs.List.{AllByRecursion, IsDistinct, list_any}
use Rattle.std.proofs.lemmas.Bool.{cases_Bool, and_parts, and_from}
use Rattle.std.proofs.lemmas.Int.{ints}
use Rattle.ghcn_series.proofs.Members.{In, of_one, for_each, any_in, in_any, kept_in, in_kept}

-- what passes one test passes the other, if each of them does
pub filter-same : {X : Type 0} (p q : X → Bool) (xs : List X) → AllByRecursion (λ x. p x ≡ q x) xs
    → filter p xs ≡ filter q xs
filter-same p q [] h = refl
filter-same p q (x ∷ xs) h = grind (arith, ints, filter-same p q xs h.1)

-- all pass a test that each passes
pub filter-all : {X : Type 0} (p : X → Bool) (xs : List X) → ((x : X) → p x ≡ true) → filter p xs ≡ xs
filter-all p [] h = refl
filter-all p (x ∷ xs) h = grind (arith, ints, h x, filter-all p xs h)

-- none passes if each fails
pub any-none : {X : Type 0} (p : X → Bool) (xs : List X) → AllByRecursion (λ x. p x ≡ false) xs → list_any p xs ≡ false
any-none p [] h = refl
any-none p (x ∷ xs) h = grind (arith, ints, any-none p xs h.1)

-- one test is enough beside another that follows from it
or-absorbs : (a b : Bool) → (a ≡ true → b ≡ true) → (a || b) ≡ b
or-absorbs true b h = sym (h refl)
or-absorbs false b h = refl

-- also with a third after them
or-absorbs_first : (a b c : Bool) → (b ≡ true → a ≡ true) → (a || (b || c)) ≡ (a || c)
or-absorbs_first true b c h = refl
or-absorbs_first false true c h = let other = h refl in absurd cc
or-absorbs_first false false c h = refl

module _ {X : Type 0} (R P : X → X → Bool) where
  -- a rival among these precedes it
  abbrev pub Outdone : List X → X → Bool
  Outdone all c = list_any (λ d. R d c && P d c) all

  -- those that none outdoes
  abbrev pub Leaders : List X → List X
  Leaders all = filter (λ c. not (Outdone all c)) all

  module _ (turn : (a b : X) → R a b ≡ true → R b a ≡ true)
      (joined : (a b c : X) → R a b ≡ true → R b c ≡ true → R a c ≡ true)
      (on : (a b c : X) → P a b ≡ true → P b c ≡ true → P a c ≡ true)
      (unlike : (a : X) → P a a ≡ false) where
    -- what outdoes one that outdoes another outdoes this one too
    further : (a b c : X) → (R a b && P a b) ≡ true → (R b c && P b c) ≡ true → (R a c && P a c) ≡ true
    further a b c first second =
        let ab = and_parts (R a b) (P a b) first in
        let bc = and_parts (R b c) (P b c) second in
        and_from (R a c) (P a c) (joined a b c ab.0 bc.0) (on a b c ab.1 bc.1)

    -- one that is outdone by another of them isn't a leader, and others don't need it
    pub leaders-first_outdone : (o c : X) (rest : List X) → In rest c → (R c o && P c o) ≡ true
        → Leaders (o ∷ rest) ≡ Leaders rest
    leaders-first_outdone o c rest has outdone =
        let out : Outdone (o ∷ rest) o ≡ true = in_any (λ d. R d o && P d o) (o ∷ rest) c (inr has) outdone in
        ap (λ (b : Bool). cond (not b) (o ∷ filter (λ x. not (Outdone (o ∷ rest) x)) rest)
        (filter (λ x. not (Outdone (o ∷ rest) x)) rest)) out
        ∙ filter-same (λ x. not (Outdone (o ∷ rest) x)) (λ x. not (Outdone rest x)) rest
        (for_each (λ x. not (Outdone (o ∷ rest) x) ≡ not (Outdone rest x)) rest
        (λ x _. ap not (or-absorbs (R o x && P o x) (Outdone rest x)
        (λ h. in_any (λ d. R d x && P d x) rest c has (further c o x outdone h)))))

    -- the same if the first outdoes the second
    pub leaders-second_outdone : (o c : X) (rest : List X) → (R o c && P o c) ≡ true
        → Leaders (o ∷ c ∷ rest) ≡ Leaders (o ∷ rest)
    leaders-second_outdone o c rest outdone =
        let p : X → Bool = λ x. not (Outdone (o ∷ c ∷ rest) x) in
        let out : Outdone (o ∷ c ∷ rest) c ≡ true = ap (λ (b : Bool). b || Outdone (c ∷ rest) c) outdone in
        let failing : p c ≡ false = ap not out in
        let skipped : filter p (o ∷ c ∷ rest) ≡ filter p (o ∷ rest) =
        ap (λ (b : Bool). cond (p o) (o ∷ cond b (c ∷ filter p rest) (filter p rest))
        (cond b (c ∷ filter p rest) (filter p rest))) failing in
        skipped ∙ filter-same p (λ x. not (Outdone (o ∷ rest) x)) (o ∷ rest)
        (for_each (λ x. p x ≡ not (Outdone (o ∷ rest) x)) (o ∷ rest)
        (λ x _. ap not (or-absorbs_first (R o x && P o x) (R c x && P c x) (Outdone rest x)
        (λ h. further o c x outdone h))))

    -- one that has no rival is a leader
    pub leaders-first_alone : (o : X) (rest : List X) → AllByRecursion (λ x. R o x ≡ false) rest
        → Leaders (o ∷ rest) ≡ o ∷ Leaders rest
    leaders-first_alone o rest alone =
        let none : Outdone (o ∷ rest) o ≡ false = any-none (λ d. R d o && P d o) (o ∷ rest)
        (own_alone, for_each (λ d. (R d o && P d o) ≡ false) rest (λ d has. not_rival d (of_one (λ x. R o x ≡ false) rest d alone has))) in
        ap (λ (b : Bool). cond (not b) (o ∷ filter (λ x. not (Outdone (o ∷ rest) x)) rest)
        (filter (λ x. not (Outdone (o ∷ rest) x)) rest)) none
        ∙ ap (λ (xs : List X). o ∷ xs)
        (filter-same (λ x. not (Outdone (o ∷ rest) x)) (λ x. not (Outdone rest x)) rest
        (for_each (λ x. not (Outdone (o ∷ rest) x) ≡ not (Outdone rest x)) rest
        (λ x has. ap (λ (b : Bool). not (b && P o x || Outdone rest x)) (of_one (λ x. R o x ≡ false) rest x alone has))))
      where
        own_alone : (R o o && P o o) ≡ false
        own_alone = elim (R o o) as (λ b. (b && P o o) ≡ false) [ true ↦ unlike o | false ↦ refl ]

        not_rival : (d : X) → R o d ≡ false → (R d o && P d o) ≡ false
        not_rival d h = elim (cases_Bool (R d o)) [
          | inl is ↦ let back = turn d o is in absurd cc
          | inr fails ↦ ap (λ (b : Bool). b && P d o) fails
        ]

    -- of some there is one that none of them precedes
    pub record IsFirst (xs : List X) : Type 0 where
      pub first : X
      pub has : In xs first
      pub none : (x : X) → In xs x → P x first ≡ false

    pub one_first : (x : X) (xs : List X) → IsFirst (x ∷ xs)
    one_first x [] = record {
      first = x;
      has = inl refl;
      none = λ y has. elim has [
        | inl e ↦ subst (λ (z : X). P z x ≡ false) e (unlike x)
        | inr fails ↦ absurd fails
      ];
    }
    one_first x (y ∷ ys) =
        let rest = one_first y ys in
        elim (cases_Bool (P x rest.first)) [
          | inl before ↦ record {
            first = x;
            has = inl refl;
            none = λ z has. elim has [
              | inl e ↦ subst (λ (w : X). P w x ≡ false) e (unlike x)
              | inr later ↦ elim (cases_Bool (P z x)) [
                | inl sooner ↦ let over = on z x rest.first sooner before in let not_so = rest.none z later in absurd cc
                | inr fails ↦ fails
              ]
            ];
          }
          | inr fails ↦ record {
            first = rest.first;
            has = inr rest.has;
            none = λ z has. elim has [
              | inl e ↦ subst (λ (w : X). P w rest.first ≡ false) e fails
              | inr later ↦ rest.none z later
            ];
          }
        ]

    -- each is a leader, or a leader outdoes it
    pub led_by : (all : List X) (c : X) → In all c → In (Leaders all) c
        ⊎ ((d : X) × In (Leaders all) d × ((R d c && P d c) ≡ true))
    led_by all c has = by (filter (λ d. R d c && P d c) all) refl where
      by : (outdoers : List X) → filter (λ d. R d c && P d c) all ≡ outdoers
          → In (Leaders all) c ⊎ ((d : X) × In (Leaders all) d × ((R d c && P d c) ≡ true))
      by [] is =
          let none : Outdone all c ≡ false = elim (cases_Bool (Outdone all c)) [
            | inl some ↦
                let one = any_in (λ d. R d c && P d c) all some in
                let kept = in_kept (λ d. R d c && P d c) all one.0 one.1 one.2 in
                absurd (subst (λ xs. In xs one.0) is kept)
            | inr fails ↦ fails
          ] in
          inl (in_kept (λ x. not (Outdone all x)) all c has (ap not none))
      by (d ∷ ds) is =
          let it = one_first d ds in
          let kept = kept_in (λ d. R d c && P d c) all it.first (subst (λ xs. In xs it.first) (sym is) it.has) in
          let none : Outdone all it.first ≡ false = elim (cases_Bool (Outdone all it.first)) [
            | inl some ↦
                let one = any_in (λ e. R e it.first && P e it.first) all some in
                let over = further one.0 it.first c one.2 kept.1 in
                let among = subst (λ xs. In xs one.0) is (in_kept (λ d. R d c && P d c) all one.0 one.1 over) in
                let so = (and_parts (R one.0 it.first) (P one.0 it.first) one.2).1 in
                let not_so = it.none one.0 among in
                absurd cc
            | inr fails ↦ fails
          ] in
          inr (it.first, in_kept (λ x. not (Outdone all x)) all it.first kept.0 (ap not none), kept.1)

    -- no two leaders are rivals, if of two rivals that are distinct one precedes the other
    pub leaders_apart : (E : X → X → Bool) → ((a b : X) → E a b ≡ false → P a b ≡ false → P b a ≡ true)
        → (all : List X) → IsDistinct E all → IsDistinct R (Leaders all)
    unfolding IsDistinct
    leaders_apart E decided all apart = among all apart (λ x has. has) where
      one_of_two : (x y : X) → In all x → In all y → not (Outdone all x) ≡ true → not (Outdone all y) ≡ true
          → E x y ≡ false → R x y ≡ false
      one_of_two x y has_x has_y lead_x lead_y unlike = elim (cases_Bool (R x y)) [
        | inr fails ↦ fails
        | inl rivals ↦ elim (cases_Bool (P x y)) [
          | inl first ↦
              let out = in_any (λ d. R d y && P d y) all x has_x (and_from (R x y) (P x y) rivals first) in
              absurd cc
          | inr later ↦
              let out = in_any (λ d. R d x && P d x) all y has_y
              (and_from (R y x) (P y x) (turn x y rivals) (decided x y unlike later)) in
              absurd cc
        ]
      ]

      among : (xs : List X) → IsDistinct E xs → ((x : X) → In xs x → In all x)
          → IsDistinct R (filter (λ c. not (Outdone all c)) xs)
      among [] apart within = tt
      among (x ∷ xs) apart within =
          let p : X → Bool = λ c. not (Outdone all c) in
          let rest = among xs apart.1 (λ y has. within y (inr has)) in
          elim (p x) as (λ b. p x ≡ b → IsDistinct R (cond b (x ∷ filter p xs) (filter p xs))) [
            | false ↦ λ fails. rest
            | true ↦ λ lead. (
              for_each (λ y. R x y ≡ false) (filter p xs) (λ y has.
                  let kept = kept_in p xs y has in
                  one_of_two x y (within x (inl refl)) (within y (inr kept.0)) lead kept.1
                  (of_one (λ y. E x y ≡ false) xs y apart.0 kept.0)),
              rest,
            )
          ] refl
