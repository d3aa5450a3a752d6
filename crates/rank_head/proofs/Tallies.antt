-- Rows counted by the lines of their stations, which rise by ID.
use Rattle.std.proofs.Common.{◌≡◌, ℕ, zero, suc, ◌+◌, ◌≤◌, ◌<◌, Bool, true, false, cond, not, List, [], ◌∷◌, ◌++◌}
use Rattle.std.proofs.Common.{length, map, take, drop, get_or, refl, sym, ap, ◌∙◌, subst, arith, ◌&&◌, nat_lt, set}
use Rattle.std.proofs.Common.{replicate, Equal}
use Rattle.std.specs.List.{count_by, AllByRecursion, AllWithin}
use Rattle.std.proofs.Math.Seq.{take-append_seam}
use Rattle.std.proofs.lemmas.Bool.{ltb-true, ltb-false}
use Rattle.std.proofs.lemmas.List.{take_more, get_or_default}
use Rattle.std.proofs.lemmas.List.Sums.{count_by-le-length}
use Rattle.ghcn_files.specs.declared.station.StationId.{StationId}
use Rattle.ghcn_files.specs.Meaning.Ids.{same_id}
use Rattle.rank_scores.specs.declared.candidate.Candidate.{Candidate}
use Rattle.rank_papers.specs.declared.paper.Row.{Row}
use Rattle.rank_papers.specs.ReportLines.{named_in}
use Rattle.rank_papers.specs.Certificate.{Line, count_of}
use Rattle.rank_papers.specs.Papers.{of_rows}
use Rattle.rank_head.specs.HeadTests.{IdsRise}
use Rattle.rank_head.specs.Tallies.{hits, hit, IsOneMore}
use Rattle.rank_head.proofs.CountSums.{all_miss, count-more, no_row}
use Rattle.rank_head.proofs.Scanned.{by_bytes, same_by, behind_first, rise-behind}

-- ---- one row more

module _ (id : StationId) where
  -- a line that hits counts one
  hit-one : (e : Line) → hits id e ≡ true → hit id e ≡ 1
  hit-one e h = ap (λ (b : Bool). cond b 1 0) h

  -- another counts none
  hit-none : (e : Line) → hits id e ≡ false → hit id e ≡ 0
  hit-none e h = ap (λ (b : Bool). cond b 1 0) h

  -- if no line hits nothing is counted
  none_more : (count : Line → ℕ) (es : List Line) → AllByRecursion (λ e. hits id e ≡ false) es
      → map count es ≡ map (λ e. hit id e + count e) es
  none_more count [] h = refl
  none_more count (e ∷ es) h =
      let here : count e ≡ hit id e + count e = omega (arith, hit-none e h.0) in
      ap (λ (n : ℕ). n ∷ map count es) here
      ∙ ap (λ (ns : List ℕ). (hit id e + count e) ∷ ns) (none_more count es h.1)

  -- what misses everywhere misses at a place
  miss_at : (es : List Line) (i : ℕ) (d : Line) → AllByRecursion (λ e. hits id e ≡ false) es → i < length es
      → hits id (get_or es i d) ≡ false
  miss_at [] i d h below = absurd (omega arith)
  miss_at (e ∷ es) zero d h below = h.0
  miss_at (e ∷ es) (suc i) d h below = miss_at es i d h.1 (omega arith)

  -- the first line misses if one after it hits
  before_misses : (e : Line) (es : List Line) (i : ℕ) (d : Line) → IdsRise (e ∷ es) → i < length es
      → hits id (get_or es i d) ≡ true → hits id e ≡ false
  before_misses e es i d up below h = by (hits id e) refl
    where
      by : (b : Bool) → hits id e ≡ b → hits id e ≡ false
      by false t = t
      by true t =
          let miss : hits id (get_or es i d) ≡ false =
          miss_at es i d (all_miss id e es (behind_first e es up) t) below in
          absurd (let no : true ≡ false = sym h ∙ miss in cc)

  -- if the line at a place hits, one more is counted for it alone
  pub one_more : (es : List Line) (i : ℕ) (d : Line) → IdsRise es → i < length es → hits id (get_or es i d) ≡ true
      → (count : Line → ℕ)
      → set (map count es) i (get_or (map count es) i 0 + 1) ≡ map (λ e. hit id e + count e) es
  one_more [] i d up below h count = absurd (omega arith)
  one_more (e ∷ es) zero d up below h count =
      let here : count e + 1 ≡ hit id e + count e = omega (arith, hit-one e h) in
      ap (λ (n : ℕ). n ∷ map count es) here
      ∙ ap (λ (ns : List ℕ). (hit id e + count e) ∷ ns)
      (none_more count es (all_miss id e es (behind_first e es up) h))
  one_more (e ∷ es) (suc i) d up below h count =
      let here : count e ≡ hit id e + count e =
      omega (arith, hit-none e (before_misses e es i d up (omega arith) h)) in
      ap (λ (n : ℕ). n ∷ set (map count es) i (get_or (map count es) i 0 + 1)) here
      ∙ ap (λ (ns : List ℕ). (hit id e + count e) ∷ ns)
      (one_more es i d (rise-behind e es up) (omega arith) h count)

  -- a line of the station that wasn't skipped hits
  pub hits_here : (e : Line) → by_bytes e.id id ≡ Equal → e.skipped ≡ false → hits id e ≡ true
  hits_here e same scanned =
      ap (λ (b : Bool). not b && same_id e.id id) scanned ∙ same_by e.id id Equal same

  -- so that line's count is one more
  pub line-counted : (es : List Line) (old new : List ℕ) (i : ℕ) (d : Line) → IdsRise es → i < length es
      → by_bytes (get_or es i d).id id ≡ Equal → (get_or es i d).skipped ≡ false
      → new ≡ set old i (get_or old i 0 + 1) → IsOneMore id es old new
  line-counted es old new i d up below same scanned written count e =
      written
      ∙ ap (λ (ns : List ℕ). set ns i (get_or ns i 0 + 1)) e
      ∙ one_more es i d up below (hits_here (get_or es i d) same scanned) count

-- ---- all rows

-- a row after others counts as one before them
count-last : (d : Candidate) (ds : List Candidate) (e : Line) → count_of (ds ++ d ∷ []) e ≡ hit d.id e + count_of ds e
count-last d [] e = count-more d [] e
count-last d (c ∷ ds) e =
    omega (arith, count-more c (ds ++ d ∷ []) e, count-last d ds e, count-more c ds e)

-- so it does for all lines
counts-last : (d : Candidate) (ds : List Candidate) (es : List Line)
    → map (λ e. hit d.id e + count_of ds e) es ≡ map (count_of (ds ++ d ∷ [])) es
counts-last d ds [] = refl
counts-last d ds (e ∷ es) =
    ap (λ (n : ℕ). n ∷ map (λ x. hit d.id x + count_of ds x) es) (sym (count-last d ds e))
    ∙ ap (λ (ns : List ℕ). count_of (ds ++ d ∷ []) e ∷ ns) (counts-last d ds es)

-- no row was counted
pub none-counted : (es : List Line) → replicate (length es) 0 ≡ map (count_of []) es
none-counted [] = refl
none-counted (e ∷ es) =
    ap (λ (n : ℕ). n ∷ replicate (length es) 0) (sym (no_row e))
    ∙ ap (λ (ns : List ℕ). count_of [] e ∷ ns) (none-counted es)

-- the candidates of the first of some rows
abbrev pub first_candidates : ℕ → List Row → List Candidate
first_candidates n rows = of_rows (map named_in (take n rows))

-- the candidates of rows and one more
candidates-last : (rows : List Row) (row : Row)
    → of_rows (map named_in (rows ++ row ∷ [])) ≡ of_rows (map named_in rows) ++ row.candidate ∷ []
candidates-last [] row = refl
candidates-last (r ∷ rows) row = ap (λ (cs : List Candidate). r.candidate ∷ cs) (candidates-last rows row)

-- if the first rows were counted, and one more is, one more of the first is counted
pub next-counted : (rows : List Row) (es : List Line) (n : ℕ) (row : Row) (old new : List ℕ) → n < length rows
    → row ≡ get_or rows n row → old ≡ map (count_of (first_candidates n rows)) es
    → IsOneMore row.candidate.id es old new → new ≡ map (count_of (first_candidates (n + 1) rows)) es
next-counted rows es n row old new below at e more =
    let ds : List Candidate = first_candidates n rows in
    let last : List Row → List ℕ = λ rs. map (count_of (of_rows (map named_in rs))) es in
    more (count_of ds) e
    ∙ counts-last row.candidate ds es
    ∙ ap (λ (cs : List Candidate). map (count_of cs) es) (sym (candidates-last (take n rows) row))
    ∙ ap (λ (r : Row). last (take n rows ++ r ∷ [])) at
    ∙ ap last (sym (take_more rows n row below))

-- ---- how many

-- no more rows belong to a line's station than there are
few_of : (ds : List Candidate) (e : Line) → count_of ds e ≤ length ds
few_of ds e = by e.skipped
  where
    by : (b : Bool) → cond b 0 (count_by (λ (c : Candidate). same_id c.id e.id) ds) ≤ length ds
    by true = omega arith
    by false = count_by-le-length (λ (c : Candidate). same_id c.id e.id) ds

-- so it is for the line at a place
few_at : (ds : List Candidate) (es : List Line) (k : ℕ) → get_or (map (count_of ds) es) k 0 ≤ length ds
few_at ds [] k = omega arith
few_at ds (e ∷ es) zero = few_of ds e
few_at ds (e ∷ es) (suc k) = few_at ds es k

-- the first rows are no more than they are said to be
few_first : (n : ℕ) (rows : List Row) → length (first_candidates n rows) ≤ n
few_first zero rows = omega arith
few_first (suc n) [] = omega arith
few_first (suc n) (row ∷ rows) = omega (arith, few_first n rows)

-- so no count of theirs is greater
pub few_counted : (n : ℕ) (rows : List Row) (es : List Line) (counts : List ℕ)
    → counts ≡ map (count_of (first_candidates n rows)) es → (k : ℕ) → get_or counts k 0 ≤ n
few_counted n rows es counts e k =
    rw e (omega (arith, few_at (first_candidates n rows) es k, few_first n rows))

-- ---- loops and loans

-- what holds of the first rows, and of one row more, holds of one more of the first
pub one_further : (P : Row → Type 0) (rows : List Row) (n : ℕ) (row : Row) → n < length rows → row ≡ get_or rows n row
    → P row → AllWithin P rows 0 n → AllWithin P rows 0 (n + 1)
one_further P rows n row below at here before k d low high = by (nat_lt k n) refl
  where
    by : (b : Bool) → nat_lt k n ≡ b → P (get_or rows k d)
    by true t = before k d low (ltb-true k n t)
    by false t =
        let same : n ≡ k = omega (arith, ltb-false k n t) in
        subst (λ (i : ℕ). P (get_or rows i d)) same (subst P (at ∙ get_or_default rows n row d below) here)

-- counts that were lent are back
pub lent_back : (new old : List ℕ) (n : ℕ) → length new ≡ n → take n (new ++ drop (length new) old) ≡ new
lent_back new old n e =
    ap (λ (m : ℕ). take m (new ++ drop (length new) old)) (sym e) ∙ take-append_seam new (drop (length new) old)
