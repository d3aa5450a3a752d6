-- The counts of lines whose IDs rise add up to the number of rows, if each row's series was scanned.
use Rattle.std.proofs.Common.{◌≡◌, ℕ, ◌+◌, Bool, true, false, cond, not, List, [], ◌∷◌, length, map, refl, sym, ap, ◌∙◌}
use Rattle.std.proofs.Common.{subst, arith, ◌||◌, ◌&&◌, Less, Equal}
use Rattle.std.specs.List.{count_by, sum, AllByRecursion}
use Rattle.std.proofs.lemmas.Bool.{and_parts}
use Rattle.std.proofs.lemmas.Cmp.{tied_itself}
use Rattle.std.proofs.lemmas.List.Sums.{sum_by-cons}
use Rattle.ghcn_files.specs.declared.station.StationId.{StationId}
use Rattle.ghcn_files.specs.Meaning.Ids.{same_id}
use Rattle.ghcn_files.proofs.IdLaws.{same_id-is, same_id-turned}
use Rattle.rank_scores.specs.declared.candidate.Candidate.{Candidate}
use Rattle.rank_papers.specs.Report.{Named}
use Rattle.rank_papers.specs.Certificate.{Line, count_of, counts_of}
use Rattle.rank_papers.specs.Papers.{of_rows}
use Rattle.rank_head.specs.HeadTests.{IdsRise, is_scanned}
use Rattle.rank_head.specs.RightHead.{CountsAddUp}
use Rattle.rank_head.specs.Tallies.{hits, hit}
use Rattle.rank_head.proofs.Scanned.{by_bytes, bytes_total, behind_first, rise-behind, AreBehind}

-- one more is added
sum-cons : (n : ℕ) (ns : List ℕ) → sum (n ∷ ns) ≡ n + sum ns
sum-cons n ns = sum_by-cons (λ (x : ℕ). x) n ns

-- ---- one row

-- nothing is counted if no line hits
no_hits : (i : StationId) (es : List Line) → AllByRecursion (λ e. hits i e ≡ false) es → sum (map (hit i) es) ≡ 0
no_hits i [] h = refl
no_hits i (e ∷ es) h =
    let here : hit i e ≡ 0 = ap (λ (b : Bool). cond b 1 0) h.0 in
    omega (arith, sum-cons (hit i e) (map (hit i) es), here, no_hits i es h.1)

-- a line whose ID comes after that of one that hits doesn't
behind_misses : (i : StationId) (e f : Line) → by_bytes e.id f.id ≡ Less → hits i e ≡ true → hits i f ≡ false
behind_misses i e f b h = by (hits i f) refl
  where
    by : (t : Bool) → hits i f ≡ t → hits i f ≡ false
    by false g = g
    by true g =
        let one : e.id ≡ i = same_id-is e.id i (and_parts (not e.skipped) (same_id e.id i) h).1 in
        let other : f.id ≡ i = same_id-is f.id i (and_parts (not f.skipped) (same_id f.id i) g).1 in
        let own : by_bytes e.id e.id ≡ Less =
        subst (λ (j : StationId). by_bytes e.id j ≡ Less) (other ∙ sym one) b in
        let tied : by_bytes e.id e.id ≡ Equal = tied_itself bytes_total e.id in
        absurd (let no : Less ≡ Equal = sym own ∙ tied in cc)

-- none of those after does
pub all_miss : (i : StationId) (e : Line) (es : List Line) → AreBehind e.id es → hits i e ≡ true
    → AllByRecursion (λ f. hits i f ≡ false) es
all_miss i e [] a h = tt
all_miss i e (f ∷ es) a h = (behind_misses i e f a.0 h, all_miss i e es a.1 h)

-- so one line alone is counted
hit_once : (i : StationId) (es : List Line) → IdsRise es → is_scanned es i ≡ true → sum (map (hit i) es) ≡ 1
hit_once i [] up s = absurd cc
hit_once i (e ∷ es) up s = by (hits i e) refl s (λ k. hit_once i es (rise-behind e es up) k)
  where
    by : (b : Bool) → hits i e ≡ b → (b || is_scanned es i) ≡ true
        → (is_scanned es i ≡ true → sum (map (hit i) es) ≡ 1) → sum (map (hit i) (e ∷ es)) ≡ 1
    by true h k again =
        let here : hit i e ≡ 1 = ap (λ (b : Bool). cond b 1 0) h in
        omega (
          arith,
          sum-cons (hit i e) (map (hit i) es),
          here,
          no_hits i es
              (all_miss i e es (behind_first e es up) h),
        )
    by false h k again =
        let here : hit i e ≡ 0 = ap (λ (b : Bool). cond b 1 0) h in
        omega (arith, sum-cons (hit i e) (map (hit i) es), here, again k)

-- ---- all rows

-- the count with one row more
pub count-more : (d : Candidate) (ds : List Candidate) (e : Line) → count_of (d ∷ ds) e ≡ hit d.id e + count_of ds e
count-more d ds e =
    let rows : ℕ = count_by (λ c. same_id c.id e.id) ds in
    let more : count_by (λ c. same_id c.id e.id) (d ∷ ds)
    ≡ cond (same_id d.id e.id) 1 0 + count_by (λ c. same_id c.id e.id) ds =
    sum_by-cons (λ (c : Candidate). cond (same_id c.id e.id) 1 0) d ds in
    by e.skipped (more ∙ ap (λ (b : Bool). cond b 1 0 + rows) (same_id-turned d.id e.id))
  where
    by : (b : Bool) → count_by (λ c. same_id c.id e.id) (d ∷ ds)
        ≡ cond (same_id e.id d.id) 1 0 + count_by (λ c. same_id c.id e.id) ds
        → cond b 0 (count_by (λ c. same_id c.id e.id) (d ∷ ds))
        ≡ cond (not b && same_id e.id d.id) 1 0 + cond b 0 (count_by (λ c. same_id c.id e.id) ds)
    by true f = refl
    by false f = f

-- the counts of all lines
counts-more : (d : Candidate) (ds : List Candidate) (es : List Line)
    → sum (map (count_of (d ∷ ds)) es) ≡ sum (map (hit d.id) es) + sum (map (count_of ds) es)
counts-more d ds [] = refl
counts-more d ds (e ∷ es) = omega (
  arith,
  sum-cons (count_of (d ∷ ds) e) (map (count_of (d ∷ ds)) es),
  sum-cons (hit d.id e) (map (hit d.id) es),
  sum-cons (count_of ds e) (map (count_of ds) es),
  count-more d ds e,
  counts-more d ds es,
)

-- without rows a line counts none
pub no_row : (e : Line) → count_of [] e ≡ 0
no_row e = by e.skipped
  where
    by : (b : Bool) → cond b 0 (count_by (λ (c : Candidate). same_id c.id e.id) []) ≡ 0
    by true = refl
    by false = refl

-- so the counts add up to 0
no_rows : (es : List Line) → sum (map (count_of []) es) ≡ 0
no_rows [] = refl
no_rows (e ∷ es) = omega (arith, sum-cons (count_of [] e) (map (count_of []) es), no_row e, no_rows es)

-- the counts add up to the number of rows
add_up : (es : List Line) → IdsRise es → (rows : List Named)
    → AllByRecursion (λ row. is_scanned es row.0.id ≡ true) rows
    → sum (map (count_of (of_rows rows)) es) ≡ length rows
add_up es up [] h = no_rows es
add_up es up (row ∷ rows) h =
    omega (arith, counts-more row.0 (of_rows rows) es, hit_once row.0.id es up h.0, add_up es up rows h.1)

-- so do those of a right head of version 2
pub counts_add_up : CountsAddUp
counts_add_up q r z head version =
    ap sum (head.counts ∙ ap (λ (w : ℕ). counts_of w (of_rows r.rows) z.entries) version)
    ∙ add_up z.entries head.rise r.rows head.scanned
