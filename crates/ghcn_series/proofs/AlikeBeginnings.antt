-- Beginnings of lines that are alike, and what is kept of a long one.
use Rattle.ghcn_series.proofs.Cited.{◌≡◌, ℕ, suc, ◌+◌, ◌-◌, ◌<◌, ◌≤◌, min, Bool, cond, List, [], ◌∷◌, ◌++◌, length}
use Rattle.ghcn_series.proofs.Cited.{take, drop, get_or, refl, sym, ap, ◌∙◌, subst₂, append_assoc, length-append}
use Rattle.ghcn_series.proofs.Cited.{length-take, arith, ◌==◌, ◌&&◌, strip_carriage_return, and-true, append-nil}
use Rattle.ghcn_series.proofs.Cited.{take-append-drop, length-take-le, nil_from_length, list_all-append, is_blank}
use Rattle.ghcn_series.proofs.Cited.{AreAlike, BeginAlike}
use Rattle.std.proofs.Common.{set, length-set}
use Rattle.std.proofs.lemmas.List.{take_at, drop_at, take_more_set}
use Rattle.ghcn_series.proofs.AlikeLines.{alike-alike}

-- one is like itself
pub begin-same : (a : List ℕ) → BeginAlike a a
begin-same a = record { holds = λ more. record { columns = refl; behind = refl } }

-- what is like one that is like another one is like that one
pub begin-alike : (a b c : List ℕ) → BeginAlike a b → BeginAlike b c → BeginAlike a c
begin-alike a b c one other = record { holds = λ more. alike-alike _ _ _ (one.holds more) (other.holds more) }

-- they stay so when the same bytes follow
pub begin-more : (a b bytes : List ℕ) → BeginAlike a b → BeginAlike (a ++ bytes) (b ++ bytes)
begin-more a b bytes is =
    record { holds = λ more. rw (append_assoc a bytes more, append_assoc b bytes more) (is.holds (bytes ++ more)) }

-- as lines they are alike
pub begin-line : (a b : List ℕ) → BeginAlike a b → AreAlike (strip_carriage_return a) (strip_carriage_return b)
begin-line a b is = rw (append-nil a, append-nil b) at (is.holds [])

-- of either of two lists with one more element in front
either_cons : (t : Bool) (x : ℕ) (xs ys : List ℕ) → cond t (x ∷ xs) (x ∷ ys) ≡ x ∷ cond t xs ys
either_cons t x xs ys = grind arith

-- the carriage return at the end of a line is not its first byte if others follow
strip-cons : (x y : ℕ) (ys : List ℕ) → strip_carriage_return (x ∷ y ∷ ys) ≡ x ∷ strip_carriage_return (y ∷ ys)
strip-cons x y ys = let last : length (x ∷ y ∷ ys) - 1 ≡ suc (length (y ∷ ys) - 1) = omega arith in
    ap (λ (n : ℕ). cond (get_or (x ∷ y ∷ ys) n 0 == 13) (take n (x ∷ y ∷ ys)) (x ∷ y ∷ ys)) last
    ∙ either_cons (get_or (y ∷ ys) (length (y ∷ ys) - 1) 0 == 13) x (take (length (y ∷ ys) - 1) (y ∷ ys)) (y ∷ ys)

-- it is one of the last bytes
strip-append : (xs : List ℕ) (y : ℕ) (ys : List ℕ)
    → strip_carriage_return (xs ++ y ∷ ys) ≡ xs ++ strip_carriage_return (y ∷ ys)
strip-append [] y ys = refl
strip-append (x ∷ []) y ys = strip-cons x y ys
strip-append (x ∷ z ∷ xs) y ys = strip-cons x z (xs ++ y ∷ ys) ∙ ap (λ (r : List ℕ). x ∷ r) (strip-append (z ∷ xs) y ys)

-- two beginnings that are alike have as many columns
same_count : (a b : List ℕ) → BeginAlike a b → min 269 (length a + 1) ≡ min 269 (length b + 1)
same_count a b is =
    let same : take 269 (a ++ 120 ∷ []) ≡ take 269 (b ++ 120 ∷ []) =
    rw (strip-append a 120 [], strip-append b 120 []) at (is.holds (120 ∷ [])).columns in
    omega (arith, ap length same, length-take {A = ℕ}, length-append {A = ℕ})

-- if one has a byte, so has the other
pub begin-some : (a b : List ℕ) → BeginAlike a b → 0 < length b → 0 < length a
begin-some a b is some = omega (arith, some, same_count a b is)

-- and if one has none, so has the other
pub begin-none : (a b : List ℕ) → BeginAlike a b → b ≡ [] → a ≡ []
begin-none a b is none = nil_from_length a (omega (arith, same_count a b is, ap (λ (xs : List ℕ). length xs) none))

-- ---- what is kept of a long beginning

-- all columns, other bytes that are blanks if those were, and the same last byte are a beginning that is alike
begin-short : (front middle other : List ℕ) (last : ℕ) → length front ≡ 269 → is_blank middle ≡ is_blank other
    → BeginAlike (front ++ (middle ++ last ∷ [])) (front ++ (other ++ last ∷ []))
begin-short front middle other last long same = record {
  holds = λ more.
      let end = strip_carriage_return (last ∷ more) in
      let line : (xs : List ℕ) → strip_carriage_return ((front ++ (xs ++ last ∷ [])) ++ more) ≡ front ++ (xs ++ end) =
      λ xs. let whole : (front ++ (xs ++ last ∷ [])) ++ more ≡ (front ++ xs) ++ last ∷ more = simp append_assoc in
      ap strip_carriage_return whole ∙ strip-append (front ++ xs) last more ∙ append_assoc front xs end in
      let blank : (xs : List ℕ) → is_blank (drop 269 (front ++ (xs ++ end))) ≡ (is_blank xs && is_blank end) = λ xs.
      ap is_blank (drop_at front (xs ++ end) 269 long) ∙ list_all-append (λ b. b == 32) xs end in
      subst₂ AreAlike (sym (line middle)) (sym (line other)) (record {
        columns = take_at front (middle ++ end) 269 long ∙ sym (take_at front (other ++ end) 269 long);
        behind = blank middle ∙ ap (λ (t : Bool). t && is_blank end) same ∙ sym (blank other);
      });
}

-- so it is with a byte in place of the others
pub begin-kept : (rest middle : List ℕ) (mark last : ℕ) → 271 ≤ length rest
    → (is_blank (drop 269 rest) && is_blank middle) ≡ (mark == 32)
    → BeginAlike (rest ++ (middle ++ last ∷ [])) (take 271 (set (set rest 269 mark) 270 last))
begin-kept rest middle mark last long marked = let front = take 269 rest in let behind = drop 269 rest in
    let whole : rest ++ (middle ++ last ∷ []) ≡ front ++ ((behind ++ middle) ++ last ∷ []) =
    ap (λ (l : List ℕ). l ++ (middle ++ last ∷ [])) (sym (take-append-drop 269 rest)) ∙ simp append_assoc in
    let kept : take 271 (set (set rest 269 mark) 270 last) ≡ front ++ ((mark ∷ []) ++ last ∷ []) =
    take_more_set (set rest 269 mark) 270 last (omega (arith, long, length-set rest 269 mark))
    ∙ ap (λ (l : List ℕ). l ++ last ∷ []) (take_more_set rest 269 mark (omega (arith, long)))
    ∙ append_assoc front (mark ∷ []) (last ∷ []) in
    let blank : is_blank (behind ++ middle) ≡ is_blank (mark ∷ []) =
    list_all-append (λ b. b == 32) behind middle ∙ marked ∙ sym (and-true (mark == 32)) in
    rw (whole, kept)
    (begin-short front (behind ++ middle) (mark ∷ []) last (length-take-le 269 rest (omega (arith, long))) blank)
