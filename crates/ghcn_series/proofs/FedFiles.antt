-- Whole files that are fed, one after the other.
use Rattle.ghcn_series.proofs.Cited.{◌≡◌, ℕ, ◌+◌, ◌<◌, List, [], ◌∷◌, ◌++◌, length, take, get_or, Bor, ap, ◌∙◌, arith}
use Rattle.ghcn_series.proofs.Cited.{take_more, get_or-map, Station, Keep, Fed, ended_files}
use Rattle.ghcn_series.proofs.ReadFiles.{texts, length-texts}

-- the first of these files, all of them ended
abbrev pub fed_files : Keep → List Station → List (Bor (List ℕ)) → ℕ → Fed
fed_files keep stations files n =
    record { keep = keep; stations = stations; files = ended_files (take n (texts files)) }

-- the first files, and one more
pub texts-more : (files : List (Bor (List ℕ))) (i : ℕ) (d : Bor (List ℕ)) → i < length files
    → take (i + 1) (texts files) ≡ take i (texts files) ++ (get_or files i d).now ∷ []
texts-more files i d lt = take_more (texts files) i [] (omega (arith, lt, length-texts files))
    ∙ ap (λ t. take i (texts files) ++ t ∷ []) (get_or-map (λ f. f.now) files i d [] lt)
