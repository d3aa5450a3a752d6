-- The reports and the certificates of a list of queries, which are opened one after the other.
use Rattle.std.proofs.Common.{◌≡◌, ℕ, zero, suc, ◌+◌, ◌-◌, ◌<◌, true, List, [], ◌∷◌, ◌++◌, refl, sym, ap, ◌∙◌, subst}
use Rattle.std.proofs.Common.{append_assoc, arith}
use Rattle.std.specs.Prelude.{string_bytes}
use Rattle.rank_input.specs.Feeding.{AreOpened, Opening, StopsAt}
use Rattle.rank_input.proofs.Openings.{opened-both, stops-before, stops-behind, stops-later}
use Rattle.extremes.specs.declared.checked_papers.JudgingStop.{JudgingStop}
use Rattle.extremes.specs.declared.checked_papers.JudgingStop.TheVariants.{Input, NotRead}
use Rattle.extremes.specs.JudgeEach.{StopsJudging}
use Rattle.extremes.specs.PaperPaths.{all_paths, both_paths}

-- the paths of some queries, and then those of the queries after them
all_paths_more : (folder : List ℕ) (n a b m : ℕ) → m ≡ n + a
    → all_paths folder n (a + b) ≡ all_paths folder n a ++ all_paths folder m b
all_paths_more folder n zero b m is =
    let f : zero + b ≡ b = omega arith in
    let e : n ≡ m = omega (arith, is) in
    ap (λ (x : ℕ). all_paths folder n x) f ∙ ap (λ (x : ℕ). all_paths folder x b) e
all_paths_more folder n (suc a) b m is =
    let f : suc a + b ≡ suc (a + b) = omega arith in
    ap (λ (x : ℕ). all_paths folder n x) f
    ∙ ap (λ (ps : List (List ℕ)). both_paths folder n ++ ps) (all_paths_more folder (suc n) a b m (omega (arith, is)))

-- a number below another has some after it
rest_of : (i n : ℕ) → i < n → (rest : ℕ) × (n ≡ i + suc rest)
rest_of i n lt = (n - suc i, omega (arith, lt))

module _ (opens : Opening) where
  -- reading that stops at a file stops there if others come after it
  pub stop-before : (paths more : List (List ℕ)) (stop : JudgingStop) → StopsJudging opens paths stop
      → StopsJudging opens (paths ++ more) stop
  stop-before paths more (Input fault) is = is
  stop-before paths more (NotRead path) is = stops-before opens (string_bytes path) paths more is

  -- and if an opened one comes before it
  pub stop-later : (first : List ℕ) (paths : List (List ℕ)) (stop : JudgingStop) → opens first true
      → StopsJudging opens paths stop → StopsJudging opens (first ∷ paths) stop
  stop-later first paths (Input fault) opened is = is
  stop-later first paths (NotRead path) opened is = stops-later opens first (string_bytes path) paths opened is

  -- and if opened ones do
  stop-behind : (first paths : List (List ℕ)) (stop : JudgingStop) → AreOpened opens first
      → StopsJudging opens paths stop → StopsJudging opens (first ++ paths) stop
  stop-behind first paths (Input fault) opened is = is
  stop-behind first paths (NotRead path) opened is = stops-behind opens (string_bytes path) first paths opened is

  module _ (folder : List ℕ) (i number : ℕ) (at : number ≡ i + 1) (was : AreOpened opens (all_paths folder 1 i)) where
    -- the report and the certificate of one query more are opened
    pub papers-next : AreOpened opens (both_paths folder number) → AreOpened opens (all_paths folder 1 (i + 1))
    papers-next is =
        subst (λ (ps : List (List ℕ)). AreOpened opens ps)
        (sym (all_paths_more folder 1 i 1 number (omega (arith, at))))
        (opened-both opens (all_paths folder 1 i) (both_paths folder number) was is)

    -- or reading stops among them
    pub papers-stop : (queries : ℕ) (stop : JudgingStop) → i < queries
        → StopsJudging opens (both_paths folder number) stop → StopsJudging opens (all_paths folder 1 queries) stop
    papers-stop queries stop lt is =
        let some = rest_of i queries lt in
        subst (λ (k : ℕ). StopsJudging opens (all_paths folder 1 k) stop) (sym some.1)
        (subst (λ (ps : List (List ℕ)). StopsJudging opens ps stop)
        (sym (all_paths_more folder 1 i (suc some.0) number (omega (arith, at))))
        (stop-behind (all_paths folder 1 i) (all_paths folder number (suc some.0)) stop was
        (stop-before (both_paths folder number) (all_paths folder (suc number) some.0) stop is)))

  -- those of as many queries as there are, or more, are all
  pub papers-all : (folder : List ℕ) (i queries : ℕ) → i ≡ queries → AreOpened opens (all_paths folder 1 i)
      → AreOpened opens (all_paths folder 1 queries)
  papers-all folder i queries same is = subst (λ (k : ℕ). AreOpened opens (all_paths folder 1 k)) same is
