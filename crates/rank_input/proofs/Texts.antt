-- The texts of the first files of a list.
use Rattle.std.proofs.Common.{◌≡◌, ℕ, zero, suc, ◌+◌, ◌<◌, ◌≤◌, List, [], ◌∷◌, ◌++◌, length, map, take, get_or}
use Rattle.std.proofs.Common.{Bor, add-one, refl, ap, ◌∙◌, arith}

-- the text of each file
abbrev pub texts : List (Bor (List ℕ)) → List (List ℕ)
texts files = map (λ file. file.now) files

-- the first files, and one more
pub texts-more : (files : List (Bor (List ℕ))) (i : ℕ) (d : Bor (List ℕ)) → i < length files
    → take (i + 1) (texts files) ≡ take i (texts files) ++ (get_or files i d).now ∷ []
texts-more files i d lt = ap (λ k. take k (texts files)) (add-one i) ∙ go files i d lt
  where
    go : (files : List (Bor (List ℕ))) (i : ℕ) (d : Bor (List ℕ)) → i < length files
        → take (suc i) (texts files) ≡ take i (texts files) ++ (get_or files i d).now ∷ []
    go [] i d lt = absurd (omega arith)
    go (f ∷ fs) zero d lt = refl
    go (f ∷ fs) (suc i) d lt = ap (λ (ts : List (List ℕ)). f.now ∷ ts) (go fs i d (omega arith))

-- the first files, if these are all
pub all_texts : (files : List (Bor (List ℕ))) (i : ℕ) → length files ≤ i → take i (texts files) ≡ texts files
all_texts [] zero le = refl
all_texts [] (suc i) le = refl
all_texts (f ∷ fs) zero le = absurd (omega arith)
all_texts (f ∷ fs) (suc i) le = ap (λ (ts : List (List ℕ)). f.now ∷ ts) (all_texts fs i (omega arith))
