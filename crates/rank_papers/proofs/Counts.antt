-- Entries with their counts, taken together and apart.
use Rattle.std.proofs.Common.{◌≡◌, ◌⊎◌, inl, inr, ℕ, ◌≤◌, Bool, true, false, cond, not, List, [], ◌∷◌, ◌++◌, length, map, refl, sym, ap, ◌∙◌, subst, arith, suc}
use Rattle.std.specs.Prelude.{◌==◌, ◌&&◌}
use Rattle.std.specs.List.{AllByRecursion, AllZip}
use Rattle.std.proofs.lemmas.Bool.{not-false}
use Rattle.rank_papers.specs.declared.counted.Counted.{Counted}
use Rattle.rank_papers.specs.Meaning.Certificate.{has_count}
use Rattle.rank_papers.specs.Certificate.{Line, counted, IsEntry, IsCount, AreCounts}
use Rattle.rank_papers.specs.CertificateLines.{entries_of, counts_in}

-- what a line of a version can say: an entry and a count that can be, and 0 if the line has no count
pub record IsCounted (version : ℕ) (l : Counted) : Type 0 where
  pub entry : IsEntry l.entry
  pub few : l.count ≤ 1000
  pub none : has_count version l.entry ≡ false → l.count ≡ 0

-- ---- entries, and the counts beside them

-- the entries are those that were counted
pub entries-counted : (es : List Line) (ns : List ℕ) → entries_of (counted es ns) ≡ es
entries-counted [] ns = refl
entries-counted (e ∷ es) [] = ap (λ (l : List Line). e ∷ l) (entries-counted es [])
entries-counted (e ∷ es) (n ∷ ns) = ap (λ (l : List Line). e ∷ l) (entries-counted es ns)

-- as many lines as entries
pub length-counted : (es : List Line) (ns : List ℕ) → length (counted es ns) ≡ length es
length-counted [] ns = refl
length-counted (e ∷ es) [] = ap (λ (n : ℕ). suc n) (length-counted es [])
length-counted (e ∷ es) (n ∷ ns) = ap (λ (m : ℕ). suc m) (length-counted es ns)

-- one more entry and its count
pub counted-more : (es : List Line) (ns : List ℕ) (e : Line) (n : ℕ) → length ns ≡ length es
    → counted (es ++ e ∷ []) (ns ++ n ∷ []) ≡ counted es ns ++ record { entry = e; count = n } ∷ []
counted-more [] [] e n h = refl
counted-more [] (m ∷ ns) e n h = absurd (omega (arith, h))
counted-more (x ∷ es) [] e n h = absurd (omega (arith, h))
counted-more (x ∷ es) (m ∷ ns) e n h =
    ap (λ (l : List Counted). record { entry = x; count = m } ∷ l) (counted-more es ns e n (omega (arith, h)))

-- the counts beside entries, one for each
counts-beside : (es : List Line) (ns : List ℕ) → AllZip IsCount es ns → map (λ l. l.count) (counted es ns) ≡ ns
counts-beside [] [] h = refl
counts-beside [] (n ∷ ns) h = absurd h
counts-beside (e ∷ es) [] h = absurd h
counts-beside (e ∷ es) (n ∷ ns) h = ap (λ (l : List ℕ). n ∷ l) (counts-beside es ns h.1)

-- the counts of a version are found again
pub counts_back : (w : ℕ) (es : List Line) (ns : List ℕ) → AreCounts w es ns → counts_in w (counted es ns) ≡ ns
counts_back w es ns (inl h) = ap (λ (v : ℕ). counts_in v (counted es ns)) h.0 ∙ sym h.1
counts_back w es ns (inr h) = ap (λ (v : ℕ). counts_in v (counted es ns)) h.0 ∙ counts-beside es ns h.1

-- lines with counts are those entries with those counts
with_counts : (ls : List Counted) → counted (entries_of ls) (map (λ l. l.count) ls) ≡ ls
with_counts [] = refl
with_counts (l ∷ ls) = ap (λ (xs : List Counted). l ∷ xs) (with_counts ls)

-- so are lines without counts
without_counts : (ls : List Counted) → AllByRecursion (λ l. l.count ≡ 0) ls → counted (entries_of ls) [] ≡ ls
without_counts [] h = refl
without_counts (l ∷ ls) h =
    let same : record { entry = l.entry; count = 0 } ≡ l = λ i. record { entry = l.entry; count = sym h.0 i } in
    ap (λ (x : Counted). x ∷ counted (entries_of ls) []) same
    ∙ ap (λ (xs : List Counted). l ∷ xs) (without_counts ls h.1)

-- in a version that has no counts each is 0
each_zero : (w : ℕ) (ls : List Counted) → (w == 2) ≡ false → AllByRecursion (IsCounted w) ls
    → AllByRecursion (λ l. l.count ≡ 0) ls
each_zero w [] e h = tt
each_zero w (l ∷ ls) e h = (
  h.0.none (ap (λ (b : Bool). b && not l.entry.skipped) e),
  each_zero w ls e h.1,
)

-- lines that can be are their entries with their counts
pub lines_back : (w : ℕ) (ls : List Counted) → AllByRecursion (IsCounted w) ls
    → counted (entries_of ls) (counts_in w ls) ≡ ls
lines_back w ls h = elim (w == 2) as (λ b. (w == 2) ≡ b
    → counted (entries_of ls) (cond b (map (λ l. l.count) ls) []) ≡ ls) [
      | true ↦ λ e. with_counts ls
      | false ↦ λ e. without_counts ls (each_zero w ls e h)
    ] refl

-- ---- what can be

-- entries alone can be lines of version 1
each_alone : (es : List Line) → AllByRecursion IsEntry es → AllByRecursion (IsCounted 1) (counted es [])
each_alone [] h = tt
each_alone (e ∷ es) h = (
  record { entry = h.0; few = omega arith; none = λ f. refl },
  each_alone es h.1,
)

-- entries with counts can be lines of version 2
each_beside : (es : List Line) (ns : List ℕ) → AllByRecursion IsEntry es → AllZip IsCount es ns
    → AllByRecursion (IsCounted 2) (counted es ns)
each_beside [] [] h k = tt
each_beside [] (n ∷ ns) h k = absurd k
each_beside (e ∷ es) [] h k = absurd k
each_beside (e ∷ es) (n ∷ ns) h k = (
  record { entry = h.0; few = k.0.few; none = λ f. k.0.none (not-false e.skipped f) },
  each_beside es ns h.1 k.1,
)

-- entries and the counts of a version can be its lines
pub each_counted : (w : ℕ) (es : List Line) (ns : List ℕ) → AllByRecursion IsEntry es → AreCounts w es ns
    → AllByRecursion (IsCounted w) (counted es ns)
each_counted w es ns h (inl k) =
    subst (λ (v : ℕ). AllByRecursion (IsCounted v) (counted es ns)) (sym k.0)
    (subst (λ (l : List ℕ). AllByRecursion (IsCounted 1) (counted es l)) (sym k.1) (each_alone es h))
each_counted w es ns h (inr k) =
    subst (λ (v : ℕ). AllByRecursion (IsCounted v) (counted es ns)) (sym k.0) (each_beside es ns h k.1)

-- the entries of lines that can be
pub each_entry_of : (w : ℕ) (ls : List Counted) → AllByRecursion (IsCounted w) ls
    → AllByRecursion IsEntry (entries_of ls)
each_entry_of w [] h = tt
each_entry_of w (l ∷ ls) h = (h.0.entry, each_entry_of w ls h.1)

-- the counts of lines of version 2
zip_counts : (ls : List Counted) → AllByRecursion (IsCounted 2) ls
    → AllZip IsCount (entries_of ls) (map (λ l. l.count) ls)
zip_counts [] h = tt
zip_counts (l ∷ ls) h = (
  record { few = h.0.few; none = λ e. h.0.none (ap not e) },
  zip_counts ls h.1,
)

-- the counts of lines that can be are those of their version
pub counts_can : (w : ℕ) (ls : List Counted) → ((w ≡ 1) ⊎ (w ≡ 2)) → AllByRecursion (IsCounted w) ls
    → AreCounts w (entries_of ls) (counts_in w ls)
counts_can w ls (inl e) h = inl (e, ap (λ (v : ℕ). counts_in v ls) e)
counts_can w ls (inr e) h = inr (
  e,
  subst (AllZip IsCount (entries_of ls)) (sym (ap (λ (v : ℕ). counts_in v ls) e))
      (zip_counts ls (subst (λ (v : ℕ). AllByRecursion (IsCounted v) ls) e h)),
)

-- counts are those of a version
pub has_version : (w : ℕ) (es : List Line) (ns : List ℕ) → AreCounts w es ns → ((w ≡ 1) ⊎ (w ≡ 2))
has_version w es ns (inl h) = inl h.0
has_version w es ns (inr h) = inr h.0
