-- Files that are looked for one after the other.
use Rattle.std.proofs.Common.{◌≡◌, ℕ, zero, suc, ◌+◌, List, [], ◌∷◌, ◌++◌, refl, sym, ap, ◌∙◌, subst, append_assoc, arith}
use Rattle.std.specs.Prelude.{Bool, true, false}
use Rattle.std.specs.List.{AllByRecursion}
use Rattle.extremes.specs.PapersFolder.{Finding, IsFoundFirst, paper_paths, paths_of}

module _ (exists : Finding) where
  -- none is found by these paths, and none by those after them
  pub none-then : (first more : List (List ℕ)) → AllByRecursion (λ p. exists p false) first
      → AllByRecursion (λ p. exists p false) more → AllByRecursion (λ p. exists p false) (first ++ more)
  none-then [] more was is = is
  none-then (p ∷ first) more was is = (was.0, none-then first more was.1 is)

  -- a file that is found after others that aren't is the first of all
  found-then : (first more behind : List (List ℕ)) (path : List ℕ) → AllByRecursion (λ p. exists p false) first
      → IsFoundFirst exists more path → IsFoundFirst exists (first ++ (more ++ behind)) path
  found-then first more behind path was is = record {
    before = first ++ is.before;
    after = is.after ++ behind;
    among = ap (λ (ps : List (List ℕ)). first ++ (ps ++ behind)) is.among
        ∙ ap (λ (ps : List (List ℕ)). first ++ ps) (append_assoc is.before (path ∷ is.after) behind)
        ∙ sym (append_assoc first is.before (path ∷ (is.after ++ behind)));
    none = none-then first is.before was is.none;
    there = is.there;
  }

  -- what is found by a path is found by the same path
  pub found-by : (path owned other : List ℕ) (found is : Bool) → path ≡ owned → owned ≡ other → found ≡ is
      → exists path found → exists other is
  found-by path owned other found is same spelled all there =
      subst (λ (p : List ℕ). exists p is) (same ∙ spelled) (subst (exists path) all there)

  -- of two files the first is found
  pub one-found : (path other : List ℕ) → exists path true → IsFoundFirst exists (path ∷ other ∷ []) path
  one-found path other is = record { before = []; after = other ∷ []; among = refl; none = tt; there = is }

  -- or the other
  pub other-found : (path other : List ℕ) → exists path false → exists other true
      → IsFoundFirst exists (path ∷ other ∷ []) other
  other-found path other was is = record { before = path ∷ []; after = []; among = refl; none = (was, tt); there = is }

  -- the paths of one query more
  paths-more : (folder : List ℕ) (n k m : ℕ) → m ≡ n + k
      → paper_paths folder n (suc k) ≡ paper_paths folder n k ++ paths_of folder m
  paths-more folder n zero m same =
      let e : n ≡ m = omega (arith, same) in ap (λ (x : ℕ). paths_of folder x) e
  paths-more folder n (suc k) m same =
      ap (λ (ps : List (List ℕ)). paths_of folder n ++ ps) (paths-more folder (suc n) k m (omega (arith, same)))

  -- and of all
  paths-split : (folder : List ℕ) (n k more m : ℕ) → m ≡ n + k
      → paper_paths folder n (k + more) ≡ paper_paths folder n k ++ paper_paths folder m more
  paths-split folder n zero more m same =
      let e : n ≡ m = omega (arith, same) in
      let f : zero + more ≡ more = omega arith in
      ap (λ (x : ℕ). paper_paths folder n x) f ∙ ap (λ (x : ℕ). paper_paths folder x more) e
  paths-split folder n (suc k) more m same =
      let f : suc k + more ≡ suc (k + more) = omega arith in
      ap (λ (x : ℕ). paper_paths folder n x) f
      ∙ ap (λ (ps : List (List ℕ)). paths_of folder n ++ ps) (paths-split folder (suc n) k more m (omega (arith, same)))

  -- none is found of the files of one query more
  pub none-next : (folder : List ℕ) (i n : ℕ) → n ≡ i + 1
      → AllByRecursion (λ p. exists p false) (paper_paths folder 1 i)
      → AllByRecursion (λ p. exists p false) (paths_of folder n)
      → AllByRecursion (λ p. exists p false) (paper_paths folder 1 (i + 1))
  none-next folder i n same was is =
      let f : i + 1 ≡ suc i = omega arith in
      subst (λ (ps : List (List ℕ)). AllByRecursion (λ p. exists p false) ps)
      (sym (ap (λ (x : ℕ). paper_paths folder 1 x) f ∙ paths-more folder 1 i n (omega (arith, same))))
      (none-then (paper_paths folder 1 i) (paths_of folder n) was is)

  -- or one is
  pub found-next : (folder : List ℕ) (i n more queries : ℕ) (path : List ℕ) → n ≡ i + 1 → queries ≡ i + suc more
      → AllByRecursion (λ p. exists p false) (paper_paths folder 1 i) → IsFoundFirst exists (paths_of folder n) path
      → IsFoundFirst exists (paper_paths folder 1 queries) path
  found-next folder i n more queries path same count was is =
      subst (λ (ps : List (List ℕ)). IsFoundFirst exists ps path)
      (sym (ap (λ (x : ℕ). paper_paths folder 1 x) count ∙ paths-split folder 1 i (suc more) n (omega (arith, same))))
      (found-then (paper_paths folder 1 i) (paths_of folder n) (paper_paths folder (suc n) more) path was is)
