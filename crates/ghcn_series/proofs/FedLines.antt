-- The lines of files, of which one more line or file has come.
use Rattle.ghcn_series.proofs.Cited.{◌≡◌, ℕ, ◌+◌, List, [], ◌∷◌, ◌++◌, length, ap, arith, refl, flat_map}
use Rattle.ghcn_series.proofs.Cited.{enumerate_from, append-nil, map-append, filter-append, flat_map-append, map-map}
use Rattle.ghcn_series.proofs.Cited.{lines, EndsLine, lines-append, enumerate_from-append, FileLine, not_blank}
use Rattle.ghcn_series.proofs.Cited.{file_lines, daily_lines, line_texts}

-- the lines of a file, of which the first part ends a line
pub file_lines-append : (file : ℕ) (whole tail : List ℕ) → EndsLine whole → file_lines (file, whole ++ tail)
    ≡ file_lines (file, whole) ++ not_blank file (enumerate_from (1 + length (lines whole)) (lines tail))
file_lines-append file whole tail ends =
    rw (lines-append whole tail ends) (simp (enumerate_from-append, filter-append, map-append))

-- the lines of files from a number on
pub lines_from : ℕ → List (List ℕ) → List FileLine
lines_from n files = flat_map file_lines (enumerate_from n files)

-- from the first file on, these are all lines
pub lines_from-first : (files : List (List ℕ)) → lines_from 1 files ≡ daily_lines files
unfolding lines_from
lines_from-first files = refl

-- no file has no lines
pub lines_from-nil : (n : ℕ) → lines_from n [] ≡ []
unfolding lines_from
lines_from-nil n = refl

-- the lines of a file, and of those after it
pub lines_from-cons : (n : ℕ) (file : List ℕ) (files : List (List ℕ))
    → lines_from n (file ∷ files) ≡ file_lines (n, file) ++ lines_from (n + 1) files
unfolding lines_from
lines_from-cons n file files = refl

-- the lines of files, and of others after them
pub daily_lines-append : (files others : List (List ℕ))
    → daily_lines (files ++ others) ≡ daily_lines files ++ lines_from (1 + length files) others
unfolding lines_from
daily_lines-append files others = simp (enumerate_from-append, flat_map-append)

-- the lines of one file more
pub daily_lines-one : (files : List (List ℕ)) (file : List ℕ)
    → daily_lines (files ++ file ∷ []) ≡ daily_lines files ++ file_lines (length files + 1, file)
unfolding lines_from
daily_lines-one files file = rw (daily_lines-append files (file ∷ []))
    (simp append-nil (ap (λ n. daily_lines files ++ file_lines (n, file)) (omega arith)))

-- what is on the lines of files doesn't depend on the files' numbers
texts-from : (a b : ℕ) (files : List (List ℕ)) → line_texts (lines_from a files) ≡ line_texts (lines_from b files)
unfolding lines_from
texts-from a b [] = refl
texts-from a b (file ∷ files) = simp (map-append, map-map) (rw (texts-from (a + 1) (b + 1) files) refl)

-- on the lines of files from any number on is what is on them from the first on
pub texts-renumbered : (n : ℕ) (files : List (List ℕ)) → line_texts (lines_from n files) ≡ line_texts (daily_lines files)
unfolding lines_from
texts-renumbered n files = texts-from n 1 files
