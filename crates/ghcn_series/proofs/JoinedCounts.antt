-- What is counted of files, and of others after them.
use Rattle.ghcn_series.proofs.Cited.{◌≡◌, ℕ, ◌+◌, Bool, true, false, cond, not, List, [], ◌∷◌, ◌++◌, length, map}
use Rattle.ghcn_series.proofs.Cited.{filter, Option, Some, refl, sym, ap, ◌∙◌, arith, ◌-◌, ◌&&◌, ◌||◌, count_by, find}
use Rattle.ghcn_series.proofs.Cited.{list_any, slice_get, enumerate_from, option_map, option_or, or_parts, not-false}
use Rattle.ghcn_series.proofs.Cited.{append-nil, map-append, filter-append, find-append, list_any-append}
use Rattle.ghcn_series.proofs.Cited.{sum_by-append, slice_get-map, map-map, is_blank, EndsLine, enumerate_from-append}
use Rattle.ghcn_series.proofs.Cited.{lines-append, Foreign, LinePlace, JoinsForeign, JoinsOdd, placed_after, FileLine}
use Rattle.ghcn_series.proofs.Cited.{daily_lines, Files, going_on, cuts_foreign, has_element, is_foreign, is_odd}
use Rattle.ghcn_series.proofs.Cited.{foreign_places, foreign_of, odd_among}
use Rattle.std.proofs.lemmas.Bool.{or_from}
use Rattle.std.proofs.lemmas.List.Folds.{fold-map}
use Rattle.ghcn_fields.specs.Meaning.Lines as text
use Rattle.ghcn_series.specs.declared.counts.OddLines.{OddLines}
use Rattle.ghcn_series.specs.LineKinds.{place_of}
use Rattle.ghcn_series.proofs.CountedLines.{blank_line}
use Rattle.ghcn_series.proofs.ListFacts.{map_or}
use Rattle.ghcn_series.proofs.JoinedLines.{lines_on, either_map, on_line, numbered-on, passing, passing-later}

-- ---- foreign files

-- the places of foreign files, of which the first file has this one
abbrev pub places_from : ℕ → List (List ℕ) → List ℕ
places_from n files = map (λ f. f.0) (filter (λ f. is_foreign f.1) (enumerate_from n files))

-- from a later place on, all of them are later
pub places_from-later : (n k : ℕ) (files : List (List ℕ))
    → places_from (n + k) files ≡ map (λ p. p + k) (places_from n files)
places_from-later n k files = rw (passing-later is_foreign n k files) (simp map-map)

-- the places of the foreign files, of files and of others after them
places-append : (files others : List (List ℕ)) → foreign_places (files ++ others)
    ≡ foreign_places files ++ map (λ p. p + length files) (foreign_places others)
places-append files others = simp (enumerate_from-append, filter-append, map-append)
    (ap (λ (ps : List ℕ). foreign_places files ++ ps) (places_from-later 0 (length files) others))

-- the first of two lists is that of the first one, if it has one
first-append : (xs ys : List ℕ) → slice_get (xs ++ ys) 0 ≡ option_or (slice_get xs 0) (slice_get ys 0)
first-append [] ys = refl
first-append (x ∷ xs) ys = refl

-- the foreign files of both
foreign_joined : (these others both : Foreign) (files more : List (List ℕ)) → these ≡ foreign_of files
    → others ≡ foreign_of more → JoinsForeign these others (length files) both → both ≡ foreign_of (files ++ more)
foreign_joined these others both files more is of joins =
    let shift : ℕ → ℕ = λ p. p + length files in
    let count : both.count ≡ count_by is_foreign (files ++ more) =
    joins.count ∙ rw (is, of) (sym (sum_by-append (λ f. cond (is_foreign f) 1 0) files more)) in
    let first : both.first ≡ slice_get (foreign_places (files ++ more)) 0 = joins.first
    ∙ rw (is, of, places-append files more, first-append (foreign_places files) (map shift (foreign_places more)))
    (ap (option_or (slice_get (foreign_places files) 0)) (sym (slice_get-map shift (foreign_places more) 0))) in
    rw (← count, ← first) refl

-- ---- odd lines

-- a line is odd
abbrev odd_line : FileLine → Bool
odd_line l = is_odd l.bytes

-- the place of the first odd line
abbrev first_odd : List FileLine → Option LinePlace
first_odd ls = option_map place_of (find odd_line ls)

-- that of lines that come after n files, the first of which goes on after k lines
first_odd-on : (n k : ℕ) (ls : List FileLine)
    → first_odd (map (on_line n k) ls) ≡ option_map (placed_after n k) (first_odd ls)
first_odd-on n k [] = refl
first_odd-on n k (l ∷ ls) =
    let file : l.file - 1 + n + 1 - 1 ≡ l.file - 1 + n = omega arith in
    elim (is_odd l.bytes) as (λ b. option_map place_of (cond b (Some (on_line n k l))
    (find odd_line (map (on_line n k) ls)))
    ≡ option_map (placed_after n k) (option_map place_of (cond b (Some l) (find odd_line ls)))) [
      | true ↦ λ i. Some (record { file = file i; line = (placed_after n k (place_of l)).line })
      | false ↦ first_odd-on n k ls
    ]

-- the odd lines of both
pub odd_joined : (these others both : OddLines) (ls : List FileLine) (more : List (List ℕ)) (files lines : ℕ)
    → these ≡ odd_among ls → others ≡ odd_among (daily_lines more) → JoinsOdd these others files lines both
    → both ≡ odd_among (ls ++ lines_on (files + 1) lines more)
odd_joined these others both ls more files lines is of joins =
    let on = numbered-on files lines more in let rest = lines_on (files + 1) lines more in
    let number : count_by odd_line rest ≡ count_by odd_line (daily_lines more) = ap (count_by odd_line) on
    ∙ fold-map (λ (n : ℕ) (l : FileLine). n + cond (odd_line l) 1 0) (on_line files lines) 0 (daily_lines more) in
    let place : first_odd rest ≡ option_map (placed_after files lines) (first_odd (daily_lines more)) =
    ap first_odd on ∙ first_odd-on files lines (daily_lines more) in
    let count : both.count ≡ count_by odd_line (ls ++ rest) =
    joins.count ∙ rw (is, of, ← number) (sym (sum_by-append (λ l. cond (odd_line l) 1 0) ls rest)) in
    let first : both.first ≡ first_odd (ls ++ rest) =
    joins.first ∙ rw (is, of, find-append odd_line ls rest, map_or place_of (find odd_line ls) (find odd_line rest))
    (ap (option_or (first_odd ls)) (sym place)) in rw (← count, ← first) refl

-- ---- all counts

-- of lines that aren't blank and lines of elements, in two parts of a file
parts_alone : (t e u f : Bool) → (t ≡ false → e ≡ false) → ((t && not e) || (t && (u && not f))) ≡ false
    → ((t || u) && not (e || f)) ≡ (u && not f)
parts_alone t e u f none is = grind arith

-- where no line has text, none has an element
none_of : (ls : List (List ℕ)) → list_any (λ l. not (is_blank l)) ls ≡ false → list_any has_element ls ≡ false
none_of [] none = refl
none_of (l ∷ ls) none =
    let parts = or_parts (not (is_blank l)) (list_any (λ l. not (is_blank l)) ls) none in
    or_from (has_element l) (list_any has_element ls) (blank_line l (not-false (is_blank l) parts.0)) (none_of ls parts.1)

-- a file is foreign if its last part is, if it isn't cut at a part that is foreign
foreign-cut : (before rest : List ℕ) (files : List (List ℕ)) → EndsLine before
    → cuts_foreign before (rest ∷ files) ≡ false → is_foreign (before ++ rest) ≡ is_foreign rest
foreign-cut before rest files ends whole =
    let told : List ℕ → Bool = λ l. not (is_blank l) in
    let ls = text.lines before in let more = text.lines rest in
    rw (lines-append before rest ends, list_any-append told ls more, list_any-append has_element ls more)
    (parts_alone (list_any told ls) (list_any has_element ls) (list_any told more) (list_any has_element more)
    (none_of ls) whole)

-- foreign files are the same if the same files are foreign
foreign_same : (one other : List ℕ) (more : List (List ℕ)) → is_foreign one ≡ is_foreign other
    → foreign_of (one ∷ more) ≡ foreign_of (other ∷ more)
foreign_same one other more same =
    let count : count_by is_foreign (one ∷ more) ≡ count_by is_foreign (other ∷ more) = rw same refl in
    let first = λ (file : List ℕ).
    either_map (is_foreign other) (λ (f : ℕ × List ℕ). f.0) (0, file) (passing is_foreign 1 more) in
    let places : foreign_places (one ∷ more) ≡ foreign_places (other ∷ more) =
    rw same (sym (first one) ∙ first other) in λ i. record { count = count i; first = slice_get (places i) 0 }

-- the foreign files of both, if the first of the others goes on with a file
pub foreign-followed : (these others both : Foreign) (files : Files) (more : List (List ℕ)) (whole : List ℕ)
    → EndsLine files.current → cuts_foreign files.current more ≡ false → these ≡ foreign_of files.ended
    → others ≡ foreign_of more → JoinsForeign these others (length files.ended) both
    → both ≡ foreign_of (going_on files more whole).ended
foreign-followed these others both files [] whole ends cut is of joins =
    foreign_joined these others both files.ended [] is of joins ∙ ap foreign_of (append-nil files.ended)
foreign-followed these others both files (rest ∷ more) whole ends cut is of joins =
    foreign_joined these others both files.ended ((files.current ++ rest) ∷ more) is
    (of ∙ foreign_same rest (files.current ++ rest) more (sym (foreign-cut files.current rest more ends cut))) joins
