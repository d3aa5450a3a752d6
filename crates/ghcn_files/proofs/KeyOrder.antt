-- The order of IDs: of their keys, which is that of their bytes.
use Rattle.std.proofs.Common.{◌≡◌, ℕ, ◌+◌, ◌*◌, ◌<◌, List, [], ◌∷◌, length, take, drop, map, get_or, refl, sym, ap}
use Rattle.std.proofs.Common.{suc, subst, ◌∙◌, arith}
use Rattle.std.specs.Cmp.Lexicographic.{slice_cmp}
use Rattle.std.specs.Int.{from_be_bytes, w32, w64}
use Rattle.std.specs.List.{range_with_len}
use Rattle.std.specs.Ordering.{nat_cmp, ordering_then}
use Rattle.std.specs.declared.cmp.Ordering.{Ordering}
use Rattle.std.specs.declared.cmp.Ordering.TheVariants.{Less, Equal, Greater}
use Rattle.std.proofs.lemmas.Bool.Decides.{nat_tests}
use Rattle.std.proofs.lemmas.Simd.{pick_l_whole}
use Rattle.ghcn_files.specs.KeptStations.{AreEleven, key_cmp, key_of}
use Rattle.ghcn_files.proofs.ById.{back_length, cmp_itself, first_bytes, front_length, last_bytes}

-- ---- the order of numbers of bytes

-- the number of some bytes after another number, the most significant byte first
abbrev number : ℕ → List ℕ → ℕ
number n [] = n
number n (b ∷ bs) = number (n * 256 + b) bs

-- a lesser number stays so with the same number of bytes after each
lesser : (n m : ℕ) (bs cs : List ℕ) → length bs ≡ length cs → ((i : ℕ) → get_or bs i 0 < 256) → n < m
    → number n bs < number m cs
lesser n m [] [] same fits lt = lt
lesser n m [] (c ∷ cs) same fits lt = absurd (omega arith)
lesser n m (b ∷ bs) [] same fits lt = absurd (omega arith)
lesser n m (b ∷ bs) (c ∷ cs) same fits lt =
    let small : b < 256 = fits 0 in
    lesser (n * 256 + b) (m * 256 + c) bs cs (omega arith) (λ i. fits (suc i)) (omega arith)

-- numbers of the same number of bytes are in the order of these
number_cmp : (n : ℕ) (bs cs : List ℕ) → length bs ≡ length cs → ((i : ℕ) → get_or bs i 0 < 256)
    → ((i : ℕ) → get_or cs i 0 < 256) → nat_cmp (number n bs) (number n cs) ≡ slice_cmp nat_cmp bs cs
number_cmp n [] [] same p q = cmp_itself n
number_cmp n [] (c ∷ cs) same p q = absurd (omega arith)
number_cmp n (b ∷ bs) [] same p q = absurd (omega arith)
number_cmp n (b ∷ bs) (c ∷ cs) same p q =
    by (nat_cmp b c) refl (number_cmp (n * 256 + b) bs cs (omega arith) (λ i. p (suc i)) (λ i. q (suc i)))
  where
    by : (o : Ordering) → nat_cmp b c ≡ o
        → nat_cmp (number (n * 256 + b) bs) (number (n * 256 + b) cs) ≡ slice_cmp nat_cmp bs cs
        → nat_cmp (number (n * 256 + b) bs) (number (n * 256 + c) cs) ≡ ordering_then o (slice_cmp nat_cmp bs cs)
    by Less is rest =
        let first : b < c = grind (arith, nat_tests) in
        let whole = lesser (n * 256 + b) (n * 256 + c) bs cs (omega arith) (λ i. p (suc i)) (omega arith) in
        grind (arith, nat_tests, whole)
    by Equal is rest =
        let first : b ≡ c = grind (arith, nat_tests) in
        ap (λ (x : ℕ). nat_cmp (number (n * 256 + b) bs) (number (n * 256 + x) cs)) (sym first) ∙ rest
    by Greater is rest =
        let first : c < b = grind (arith, nat_tests) in
        let whole = lesser (n * 256 + c) (n * 256 + b) cs bs (omega arith) (λ i. q (suc i)) (omega arith) in
        grind (arith, nat_tests, whole)

-- eight bytes as such a number
eight : (at : ℕ → ℕ) → let bytes = map at (range_with_len 0 8) in from_be_bytes w64 bytes ≡ number 0 bytes
eight at = omega arith

-- and four
four : (at : ℕ → ℕ) → let bytes = map at (range_with_len 0 4) in from_be_bytes w32 bytes ≡ number 0 bytes
four at = omega arith

-- the order of the numbers of eight bytes
eight_cmp : (bs cs : List ℕ) → length bs ≡ 8 → length cs ≡ 8 → ((i : ℕ) → get_or bs i 0 < 256)
    → ((i : ℕ) → get_or cs i 0 < 256) → nat_cmp (from_be_bytes w64 bs) (from_be_bytes w64 cs) ≡ slice_cmp nat_cmp bs cs
eight_cmp bs cs long many p q =
    let is = λ (xs : List ℕ) (e : length xs ≡ 8).
    subst (λ (l : List ℕ). from_be_bytes w64 l ≡ number 0 l) (pick_l_whole 0 xs 8 e) (eight (λ j. get_or xs j 0)) in
    ap (λ (x : ℕ). nat_cmp x (from_be_bytes w64 cs)) (is bs long)
    ∙ ap (nat_cmp (number 0 bs)) (is cs many)
    ∙ number_cmp 0 bs cs (long ∙ sym many) p q

-- and of four
pub four_cmp : (bs cs : List ℕ) → length bs ≡ 4 → length cs ≡ 4 → ((i : ℕ) → get_or bs i 0 < 256)
    → ((i : ℕ) → get_or cs i 0 < 256) → nat_cmp (from_be_bytes w32 bs) (from_be_bytes w32 cs) ≡ slice_cmp nat_cmp bs cs
four_cmp bs cs long many p q =
    let is = λ (xs : List ℕ) (e : length xs ≡ 4).
    subst (λ (l : List ℕ). from_be_bytes w32 l ≡ number 0 l) (pick_l_whole 0 xs 4 e) (four (λ j. get_or xs j 0)) in
    ap (λ (x : ℕ). nat_cmp x (from_be_bytes w32 cs)) (is bs long)
    ∙ ap (nat_cmp (number 0 bs)) (is cs many)
    ∙ number_cmp 0 bs cs (long ∙ sym many) p q

-- ---- the order of keys

-- what decides first may be asked first
then_in_turn : (o p q : Ordering) → ordering_then (ordering_then o p) q ≡ ordering_then o (ordering_then p q)
then_in_turn Less p q = refl
then_in_turn Equal p q = refl
then_in_turn Greater p q = refl

-- what didn't decide doesn't when it is asked again
then_again : (o p : Ordering) → ordering_then o (ordering_then o p) ≡ ordering_then o p
then_again Less p = refl
then_again Equal p = refl
then_again Greater p = refl

-- eleven bytes are compared as the first eight and then the last four, which have one of these
in_two : (a b : ℕ → ℕ) → let bs = map a (range_with_len 0 11) in let cs = map b (range_with_len 0 11) in
    ordering_then (slice_cmp nat_cmp (take 8 bs) (take 8 cs)) (slice_cmp nat_cmp (drop 7 bs) (drop 7 cs))
    ≡ slice_cmp nat_cmp bs cs
in_two a b = simp (then_in_turn, then_again)

-- keys are in the order of their IDs' bytes
pub key_order : (bs cs : List ℕ) → AreEleven bs → AreEleven cs
    → key_cmp (key_of bs) (key_of cs) ≡ slice_cmp nat_cmp bs cs
key_order bs cs p q =
    let front = eight_cmp (take 8 bs) (take 8 cs) (front_length bs p.0) (front_length cs q.0) (first_bytes 8 bs p.1)
    (first_bytes 8 cs q.1) in
    let back = four_cmp (drop 7 bs) (drop 7 cs) (back_length bs p.0) (back_length cs q.0) (last_bytes 7 bs p.1)
    (last_bytes 7 cs q.1) in
    let Parted = λ (xs ys : List ℕ).
    ordering_then (slice_cmp nat_cmp (take 8 xs) (take 8 ys)) (slice_cmp nat_cmp (drop 7 xs) (drop 7 ys))
    ≡ slice_cmp nat_cmp xs ys in
    ap (λ (o : Ordering). ordering_then o (nat_cmp (key_of bs).1 (key_of cs).1)) front
    ∙ ap (ordering_then (slice_cmp nat_cmp (take 8 bs) (take 8 cs))) back
    ∙ subst (λ (l : List ℕ). Parted l cs) (pick_l_whole 0 bs 11 p.0)
    (subst (Parted (map (λ j. get_or bs j 0) (range_with_len 0 11))) (pick_l_whole 0 cs 11 q.0)
    (in_two (λ j. get_or bs j 0) (λ j. get_or cs j 0)))
