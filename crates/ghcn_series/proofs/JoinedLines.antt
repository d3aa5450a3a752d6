-- The lines of files, of which the first one goes on with a file that has begun.
use Rattle.ghcn_series.proofs.Cited.{◌≡◌, ℕ, ◌+◌, ◌<◌, Bool, true, false, cond, not, List, [], ◌∷◌, ◌++◌, length, map}
use Rattle.ghcn_series.proofs.Cited.{filter, refl, sym, subst, ap, ap₂, ◌∙◌, append_assoc, length-append, inl, inr}
use Rattle.ghcn_series.proofs.Cited.{arith, ◌-◌, ◌==◌, enumerate_from, fun_ext, ne_eqb, append-nil, map-append}
use Rattle.ghcn_series.proofs.Cited.{nil_from_length, map-map, is_blank, lines, EndsLine, HasNoLineFeed, placed_after}
use Rattle.ghcn_series.proofs.Cited.{lines_to, FileLine, file_line, not_blank, file_lines, daily_lines, Files, going_on}
use Rattle.ghcn_series.proofs.Cited.{line_texts}
use Rattle.std.proofs.lemmas.Bool.{true≢false}
use Rattle.ghcn_series.specs.LineKinds.{place_of}
use Rattle.ghcn_series.proofs.FedLines.{lines_from, lines_from-first, lines_from-nil, lines_from-cons}
use Rattle.ghcn_series.proofs.FedLines.{daily_lines-append, daily_lines-one, file_lines-append}

-- the lines of files, of which the first one is the rest of the file of this number, after that many lines of it
abbrev pub lines_on : ℕ → ℕ → List (List ℕ) → List FileLine
lines_on n k [] = []
lines_on n k (rest ∷ files) = not_blank n (enumerate_from (1 + k) (lines rest)) ++ lines_from (n + 1) files

-- ---- the lines of files that go on are those of the files by themselves, under other numbers

-- what is made of a list with one more in front, or without it
pub either_map : {X Y : Type 0} (b : Bool) (f : X → Y) (x : X) (xs : List X)
    → cond b (f x ∷ map f xs) (map f xs) ≡ map f (cond b (x ∷ xs) xs)
either_map true f x xs = refl
either_map false f x xs = refl

module _ {X : Type 0} (q : X → Bool) where
  -- things that pass a test, numbered among all
  abbrev pub passing : ℕ → List X → List (ℕ × X)
  passing n xs = filter (λ (x : ℕ × X). q x.1) (enumerate_from n xs)

  -- from a later number on
  pub passing-later : (n k : ℕ) (xs : List X) → passing (n + k) xs ≡ map (λ (x : ℕ × X). (x.0 + k, x.1)) (passing n xs)
  passing-later n k [] = refl
  passing-later n k (x ∷ xs) =
      let next : n + k + 1 ≡ n + 1 + k = omega arith in
      let more : passing (n + k + 1) xs ≡ map (λ (y : ℕ × X). (y.0 + k, y.1)) (passing (n + 1) xs) =
      rw next (passing-later (n + 1) k xs) in
      rw more (either_map (q x) (λ (y : ℕ × X). (y.0 + k, y.1)) (n, x) (passing (n + 1) xs))

-- a line of files that come after n others, of which the first one goes on after k lines
abbrev pub on_line : ℕ → ℕ → FileLine → FileLine
on_line n k l = record {
  file = (placed_after n k (place_of l)).file + 1;
  line = (placed_after n k (place_of l)).line;
  bytes = l.bytes;
}

module _ (n k : ℕ) where
  -- lines of a file that are such lines one by one
  each_on : (m : ℕ) (f : ℕ × List ℕ → FileLine) → ((l : ℕ × List ℕ) → f l ≡ on_line n k (file_line m l))
      → (ls : List (ℕ × List ℕ)) → map f ls ≡ map (on_line n k) (map (file_line m) ls)
  each_on m f same ls =
      ap (λ (g : ℕ × List ℕ → FileLine). map g ls) (fun_ext same) ∙ sym (map-map (on_line n k) (file_line m) ls)

  -- the first file goes on after k lines
  first-on : (ls : List (List ℕ))
      → not_blank (n + 1) (enumerate_from (1 + k) ls) ≡ map (on_line n k) (not_blank 1 (enumerate_from 1 ls))
  first-on ls =
      let told : List ℕ → Bool = λ l. not (is_blank l) in
      let file : n + 1 ≡ 0 + n + 1 = omega arith in
      ap (map (file_line (n + 1))) (passing-later told 1 k ls)
      ∙ map-map (file_line (n + 1)) (λ (l : ℕ × List ℕ). (l.0 + k, l.1)) (passing told 1 ls)
      ∙ each_on 1 (λ (l : ℕ × List ℕ). file_line (n + 1) (l.0 + k, l.1))
      (λ l. ap (λ (m : ℕ). file_line m (l.0 + k, l.1)) file) (passing told 1 ls)

  -- a later file is the n-th after its own number
  later-on : (m : ℕ) (ls : List (ℕ × List ℕ)) → 1 < m
      → map (file_line (m + n)) ls ≡ map (on_line n k) (map (file_line m) ls)
  later-on m ls some =
      let file : m + n ≡ m - 1 + n + 1 = omega (arith, some) in
      let line : (a : ℕ) → a ≡ a + 0 = λ a. omega arith in
      let other : (m - 1 == 0) ≡ false = ne_eqb (m - 1) 0 (λ e. absurd (omega (arith, some, e))) in
      each_on m (file_line (m + n)) (λ l. rw other (λ i. record { file = file i; line = line l.0 i; bytes = l.1 })) ls

  -- so it is with the lines of later files
  lines_from-on : (m : ℕ) (files : List (List ℕ)) → 1 < m
      → lines_from (m + n) files ≡ map (on_line n k) (lines_from m files)
  lines_from-on m [] some = rw (lines_from-nil (m + n), lines_from-nil m) refl
  lines_from-on m (file ∷ files) some =
      let next : m + n + 1 ≡ m + 1 + n = omega arith in
      let first = later-on m (passing (λ (l : List ℕ). not (is_blank l)) 1 (lines file)) some in
      rw (lines_from-cons (m + n) file files, lines_from-cons m file files, next)
      (rw (map-append (on_line n k) (file_lines (m, file)) (lines_from (m + 1) files))
      (rw (lines_from-on (m + 1) files (omega (arith, some)), first) refl))

  -- and with those of all files
  pub numbered-on : (files : List (List ℕ)) → lines_on (n + 1) k files ≡ map (on_line n k) (daily_lines files)
  numbered-on [] = refl
  numbered-on (rest ∷ files) =
      let next : n + 1 + 1 ≡ 2 + n = omega arith in
      let later : lines_from (n + 1 + 1) files ≡ map (on_line n k) (lines_from 2 files) =
      rw next (lines_from-on 2 files (omega arith)) in
      ap₂ (λ (a b : List FileLine). a ++ b) (first-on (lines rest)) later
      ∙ sym (map-append (on_line n k) (file_lines (1, rest)) (lines_from 2 files))
      ∙ ap (map (on_line n k)) (sym (lines_from-cons 1 rest files) ∙ lines_from-first (rest ∷ files))

  -- what is on them is the same
  pub texts-on : (files : List (List ℕ)) → line_texts (lines_on (n + 1) k files) ≡ line_texts (daily_lines files)
  texts-on files =
      ap line_texts (numbered-on files) ∙ map-map (λ (l : FileLine). l.bytes) (on_line n k) (daily_lines files)

-- ---- files that go on with others

module _ (files : Files) where
  -- the current file of both ends a line
  pub ends-followed : (others : List (List ℕ)) (whole : List ℕ) → EndsLine files.current → EndsLine whole
      → EndsLine (going_on files others whole).current
  ends-followed [] whole first (inl none) = rw (none, append-nil files.current) first
  ends-followed [] whole first (inr (front, is)) =
      let same = ap (λ (t : List ℕ). files.current ++ t) is ∙ sym (append_assoc files.current front (10 ∷ [])) in
      inr (files.current ++ front, same)
  ends-followed (file ∷ others) whole first next = next

  -- and what comes after it is the last part of the current file
  pub parts-followed : (others : List (List ℕ)) (whole rest : List ℕ)
      → (going_on files others (whole ++ rest)).current ≡ (going_on files others whole).current ++ rest
  parts-followed [] whole rest = sym (append_assoc files.current whole rest)
  parts-followed (file ∷ others) whole rest = refl

  -- which files were ended doesn't depend on the current one
  pub ended-followed : (others : List (List ℕ)) (one other : List ℕ)
      → (going_on files others one).ended ≡ (going_on files others other).ended
  ended-followed [] one other = refl
  ended-followed (file ∷ others) one other = refl

  -- they are as many as those of both
  pub length-followed : (others : List (List ℕ)) (whole : List ℕ)
      → length (going_on files others whole).ended ≡ length files.ended + length others
  length-followed [] whole = omega arith
  length-followed (file ∷ others) whole = length-append files.ended ((files.current ++ file) ∷ others)

  -- the lines of files, one of which is in two parts
  daily_lines-on : (file : List ℕ) (others : List (List ℕ)) → EndsLine files.current
      → daily_lines (files.ended ++ (files.current ++ file) ∷ others) ≡ lines_to files files.current
      ++ lines_on (length files.ended + 1) (length (lines files.current)) (file ∷ others)
  daily_lines-on file others ends =
      let n = length files.ended + 1 in let first : 1 + length files.ended ≡ n = omega arith in
      rw (daily_lines-append files.ended ((files.current ++ file) ∷ others), first)
      (rw (lines_from-cons n (files.current ++ file) others, file_lines-append n files.current file ends)
      (simp append_assoc))

  -- the lines of both are those of the first, and then those of the others
  pub lines-followed : (others : List (List ℕ)) (whole : List ℕ) → EndsLine files.current
      → lines_to (going_on files others whole) (going_on files others whole).current ≡ lines_to files files.current
      ++ lines_on (length files.ended + 1) (length (lines files.current)) (others ++ whole ∷ [])
  lines-followed [] whole ends =
      sym (daily_lines-one files.ended (files.current ++ whole)) ∙ daily_lines-on whole [] ends
  lines-followed (file ∷ others) whole ends =
      sym (daily_lines-one (files.ended ++ (files.current ++ file) ∷ others) whole)
      ∙ ap daily_lines (append_assoc files.ended ((files.current ++ file) ∷ others) (whole ∷ []))
      ∙ daily_lines-on file (others ++ whole ∷ []) ends

-- ---- a text that ends a line has nothing after its last line feed

-- a line feed is one
has_line_feed : (front : List ℕ) → HasNoLineFeed (front ++ 10 ∷ []) → ⊥
has_line_feed [] none = true≢false none.0
has_line_feed (b ∷ front) none = has_line_feed front none.1

-- the last part of a text with a line feed at its end
pub nothing_left : (whole rest : List ℕ) → EndsLine (whole ++ rest) → HasNoLineFeed rest → rest ≡ []
nothing_left [] rest (inl e) none = e
nothing_left [] rest (inr (front, e)) none = absurd (has_line_feed front (subst HasNoLineFeed e none))
nothing_left (w ∷ whole) rest (inl e) none = absurd cc
nothing_left (w ∷ whole) rest (inr ([], e)) none =
    nil_from_length rest (omega (arith, ap length e, length-append whole rest))
nothing_left (w ∷ whole) rest (inr (f ∷ front, e)) none = nothing_left whole rest (inr (front, cc)) none
