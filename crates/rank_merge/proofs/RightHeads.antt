-- A report and a certificate that say what is right have a right head.
use Rattle.rank_merge.proofs.Cited.{ap₂, comes_first, ◌≡◌, ℕ, zero, suc, true, false, List, [], ◌∷◌, take, filter}
use Rattle.rank_merge.proofs.Cited.{Option, Some, None, refl, sym, ap, ◌∙◌, ℤ, arith, ◌⊎◌, inl, inr, subst, ◌≤ℤ◌}
use Rattle.rank_merge.proofs.Cited.{int_lt, AllByRecursion, AllZip, ints, Descend, same_id-laws, Series, Data}
use Rattle.rank_merge.proofs.Cited.{IsContents, Query, IsAsked, Candidate, series_first, precedes, bound_is_below}
use Rattle.rank_merge.proofs.Cited.{admitted_series, has_admitted, morsels, all_candidates, best_of_query, kth_of_query}
use Rattle.rank_merge.proofs.Cited.{Named, Line, IsRightEntry, Certified, SaysRightCertificate, kth_of_best, counts_of}
use Rattle.rank_merge.proofs.Cited.{of_rows, IsRightHead, take-all, sorted-all, all_apart, candidates-own, morsels_rise}
use Rattle.rank_merge.proofs.Cited.{in_order, kth, first, in_order-descends, best-first, kth_score-kth, Reported}
use Rattle.rank_merge.proofs.Cited.{SaysRightReport, kth-best, some_asked, NoneAbove, ScoresFall, in_order-falls}
use Rattle.rank_merge.proofs.Cited.{score_at}
use Rattle.rank_scores.proofs.Ranks.{Descends}
use Rattle.rank_papers.proofs.NamedRows.{descends_order}
use Rattle.rank_head.specs.HeadTests.{stands_before, IdsRise, is_scanned}
use Rattle.rank_scores.specs.Candidates.{candidates}
use Rattle.ghcn_files.proofs.Among.{In, for_each}
use Rattle.rank_scores.proofs.Rising.{from_both}
use Rattle.rank_scores.proofs.QueryMorsels.{asked_alone}
use Rattle.rank_merge.proofs.Lists.{each-unsorted, each-flat, descend-take}

-- ---- scores

-- what is at least a number isn't below it
not_above : (s t : ℤ) → t ≤ℤ s → int_lt s t ≡ false
not_above s t h = grind (arith, ints)

-- a score that none of some is above isn't below that of the one at a place
first_above : (s : ℤ) (ys : List Candidate) (j : ℕ) → NoneAbove s ys → bound_is_below (score_at ys j) s ≡ false
first_above s [] j h = refl
first_above s (y ∷ ys) zero h = not_above s y.score h.0
first_above s (y ∷ ys) (suc j) h = first_above s ys j h.1

-- so if scores fall, none up to a place is below the one there
none_below : (ys : List Candidate) (j : ℕ) → ScoresFall ys
    → AllByRecursion (λ d. bound_is_below (score_at ys j) d.score ≡ false) (take (suc j) ys)
none_below [] j h = tt
none_below (y ∷ ys) zero h = (grind (arith, ints), tt)
none_below (y ∷ ys) (suc j) h = (first_above y.score ys j h.0, none_below ys j h.1)

-- and none of the first k is below the k-th
first_not_below : (k : ℕ) (xs cs : List Candidate) (o : Option ℤ) → o ≡ kth k xs → cs ≡ first k xs
    → AllByRecursion (λ d. bound_is_below o d.score ≡ false) cs
first_not_below zero xs cs o e f = rw (e, f) tt
first_not_below (suc j) xs cs o e f = rw (e, f) (none_below (in_order xs) j (in_order-falls xs))

-- ---- morsels by rising ID

-- entries rise that name series of which each has an ID below those of all after it
entries_rise : (q : Query) (kth : Option ℤ) (es : List Line) (us : List Series) → AllZip (IsRightEntry q kth) es us
    → Descend (λ a b. stands_before a.id b.id ≡ true) us → IdsRise es
entries_rise q kth [] us h k = tt
entries_rise q kth (e ∷ []) us h k = tt
entries_rise q kth (e ∷ f ∷ es) [] h k = absurd h
entries_rise q kth (e ∷ f ∷ es) (u ∷ []) h k = absurd h.1
entries_rise q kth (e ∷ f ∷ es) (u ∷ v ∷ us) h k =
    (ap₂ stands_before h.0.named h.1.0.named ∙ k.0.0, entries_rise q kth (f ∷ es) (v ∷ us) h.1 k.1)

-- ---- lines that were scanned

-- a line that isn't a skip scans its own station
scanned_own : (f e : Line) (es : List Line) → f ≡ e → e.skipped ≡ false → is_scanned (f ∷ es) e.id ≡ true
scanned_own f e es same h = let own = same_id-laws.refl e.id in rw same (grind arith)

-- each line that isn't a skip, among all
abbrev Scans : List Line → Line → Type 0
Scans all e = e.skipped ≡ false → is_scanned all e.id ≡ true

-- so does each of a list
scans : (es : List Line) (e : Line) → In es e → e.skipped ≡ false → is_scanned es e.id ≡ true
scans [] e there h = absurd there
scans (f ∷ es) e (inl same) h = scanned_own f e es same h
scans (f ∷ es) e (inr there) h = let behind = scans es e there h in grind arith

-- ---- candidates of lines

-- what is at most a number below the k-th score is below it
below_kth : (k : Option ℤ) (a b : ℤ) → a ≤ℤ b → bound_is_below k b ≡ true → bound_is_below k a ≡ true
below_kth None a b h e = absurd cc
below_kth (Some s) a b h e = grind (arith, ints)

module _ (q : Query) (k : Option ℤ) (all : List Line) where
  -- a candidate belongs to a series that was scanned, or scores below the k-th
  abbrev IsSeen : Candidate → Type 0
  IsSeen d = (is_scanned all d.id ≡ true) ⊎ (bound_is_below k d.score ≡ true)

  -- so it is with one of an ID, if a line of it is right
  seen : (e : Line) (d : Candidate) → Scans all e → (e.skipped ≡ true → bound_is_below k e.bound ≡ true)
      → d.id ≡ e.id → d.score ≤ℤ e.bound → IsSeen d
  seen e d scanned passed own above = elim (e.skipped) as (λ b. e.skipped ≡ b → IsSeen d) [
    | true ↦ λ s. inr (below_kth k d.score e.bound above (passed s))
    | false ↦ λ s. inl (ap (is_scanned all) own ∙ scanned s)
  ] refl

  -- all candidates of a series are seen
  abbrev AllSeen : Series → Type 0
  AllSeen u = AllByRecursion IsSeen (candidates q u)

  -- so it is with all series of right lines
  seen_morsels : (es : List Line) (us : List Series) → AllZip (IsRightEntry q k) es us → AllByRecursion (Scans all) es
      → AllByRecursion AllSeen us
  seen_morsels es [] h s = tt
  seen_morsels [] (u ∷ us) h s = absurd h
  seen_morsels (e ∷ es) (u ∷ us) h s = (
    from_both (λ d. d.id ≡ u.id) (λ d. d.score ≤ℤ e.bound) IsSeen (candidates q u)
        (λ d own above. seen e d s.0 h.0.passed_over (own ∙ sym h.0.named) above) (candidates-own q u) h.0.above,
    seen_morsels es us h.1 s.1,
  )

  -- a candidate that is seen and doesn't score below belongs to a series that was scanned
  scanned_unless_below : (rows : List Named) → AllByRecursion (λ d. IsSeen d) (of_rows rows)
      → AllByRecursion (λ d. bound_is_below k d.score ≡ false) (of_rows rows)
      → AllByRecursion (λ row. is_scanned all row.0.id ≡ true) rows
  scanned_unless_below [] h n = tt
  scanned_unless_below (row ∷ rows) h n = grind (arith, ints, scanned_unless_below rows h.1 n.1)

-- ---- the head

module _ (q : Query) (c : Data) (asked : IsAsked q) (right : IsContents c) where
  -- the best are the first in order
  pub best_are : best_of_query q c ≡ take q.k (in_order (all_candidates q c))
  best_are = best-first q.k (all_candidates q c) (all_apart q c right)

  -- the first candidates are seen by lines that are right, since all are
  first_seen : (es : List Line) (cs : List Candidate) → AllZip (IsRightEntry q (kth_of_query q c)) es (morsels q c)
      → cs ≡ first q.k (all_candidates q c) → AllByRecursion (IsSeen q (kth_of_query q c) es) cs
  first_seen es cs h e =
      let Seen : Candidate → Type 0 = IsSeen q (kth_of_query q c) es in
      let series : List Series = filter (has_admitted q) (admitted_series q c) in
      let of_series = each-unsorted (AllSeen q (kth_of_query q c) es) series_first series
      (seen_morsels q (kth_of_query q c) es es (morsels q c) h (for_each (Scans es) es (scans es))) in
      let all = subst (AllByRecursion Seen) (asked_alone q (admitted_series q c))
      (each-flat Seen (candidates q) series of_series) in
      rw e (take-all Seen q.k (in_order (all_candidates q c)) (sorted-all comes_first Seen (all_candidates q c) all))

  -- the head of a report and a certificate that say what is right
  pub right_head : (r : Reported) (z : Certified) → SaysRightReport q c r → SaysRightCertificate q c z
      → IsRightHead q r z
  right_head r z report certificate = record {
    report = report.asked;
    certificate = certificate.asked;
    order = descends_order (of_rows r.rows) (subst Descends (sym (report.best ∙ best_are))
        (descend-take (λ x y. precedes x y ≡ true) q.k (in_order (all_candidates q c))
        (in_order-descends (all_candidates q c) (all_apart q c right))));
    kth = certificate.kth
        ∙ sym (ap (kth_of_best q.k) report.best
        ∙ kth-best q.k (all_candidates q c) (some_asked q asked) (all_apart q c right));
    rise = entries_rise q (kth_of_query q c) z.entries (morsels q c) certificate.entries (morsels_rise q c right);
    scanned = scanned_unless_below q (kth_of_query q c) z.entries r.rows
        (first_seen z.entries (of_rows r.rows) certificate.entries (report.best ∙ best_are))
        (first_not_below q.k (all_candidates q c) (of_rows r.rows) (kth_of_query q c)
        (kth_score-kth q.k (all_candidates q c) (all_apart q c right)) (report.best ∙ best_are));
    counts = certificate.counts
        ∙ ap (λ (l : List Candidate). counts_of z.version l z.entries) (sym report.best);
  }
