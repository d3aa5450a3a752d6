-- Files that are opened one after the other, until one can't be read.
use Rattle.std.proofs.Common.{◌≡◌, ℕ, zero, suc, ◌+◌, ◌<◌, ◌≤◌, List, [], ◌∷◌, ◌++◌, length, map, take, get_or}
use Rattle.std.proofs.Common.{true, refl, ap, ◌∙◌, subst, sym, append_assoc, add-one, arith}
use Rattle.std.proofs.lemmas.Bool.{OnFalse_from}
use Rattle.std.specs.Prelude.{Bool, Result, Ok, Err}
use Rattle.rank_input.specs.Feeding.{Opening, AreOpened, AreOpenedFor, IsTried, StopsAt}

-- files that were opened were, unless memory ran out
pub opened-for : {A F : Type 0} (is_memory : F → Bool) (opens : Opening) (paths : List (List ℕ)) (answer : Result A F)
    → AreOpened opens paths → AreOpenedFor is_memory opens paths answer
opened-for is_memory opens paths (Ok answer) are = are
opened-for is_memory opens paths (Err fault) are = OnFalse_from (is_memory fault) _ (λ e. are)

module _ (opens : Opening) where
  -- reading stops at the first file
  pub stops-first : (path : List ℕ) (paths : List (List ℕ)) → IsTried opens path → StopsAt opens (path ∷ paths) path
  stops-first path paths tried = record { before = []; after = paths; named = refl; opened = tt; tried = tried }

  -- or after it
  pub stops-later : (first path : List ℕ) (paths : List (List ℕ)) → opens first true → StopsAt opens paths path
      → StopsAt opens (first ∷ paths) path
  stops-later first path paths opened stops = record {
    before = first ∷ stops.before;
    after = stops.after;
    named = ap (λ (ps : List (List ℕ)). first ∷ ps) stops.named;
    opened = (opened, stops.opened);
    tried = stops.tried;
  }

  -- files after it change nothing
  pub stops-before : (path : List ℕ) (paths more : List (List ℕ)) → StopsAt opens paths path
      → StopsAt opens (paths ++ more) path
  stops-before path paths more stops = record {
    before = stops.before;
    after = stops.after ++ more;
    named = ap (λ (ps : List (List ℕ)). ps ++ more) stops.named
        ∙ append_assoc stops.before (path ∷ stops.after) more;
    opened = stops.opened;
    tried = stops.tried;
  }

  -- nor do opened files before it
  pub stops-behind : (path : List ℕ) (first paths : List (List ℕ)) → AreOpened opens first → StopsAt opens paths path
      → StopsAt opens (first ++ paths) path
  stops-behind path [] paths opened stops = stops
  stops-behind path (p ∷ ps) paths opened stops =
      stops-later p path (ps ++ paths) opened.0 (stops-behind path ps paths opened.1 stops)

  -- files were opened, and others after them
  pub opened-both : (first paths : List (List ℕ)) → AreOpened opens first → AreOpened opens paths
      → AreOpened opens (first ++ paths)
  opened-both [] paths was is = is
  opened-both (p ∷ ps) paths was is = (was.0, opened-both ps paths was.1 is)

  module _ {X : Type 0} (f : X → List ℕ) where
    opened-more : (xs : List X) (i : ℕ) (d : X) → i < length xs → AreOpened opens (map f (take i xs))
        → opens (f (get_or xs i d)) true → AreOpened opens (map f (take (suc i) xs))
    opened-more [] i d lt was is = absurd (omega arith)
    opened-more (x ∷ xs) zero d lt was is = (is, tt)
    opened-more (x ∷ xs) (suc i) d lt was is = (was.0, opened-more xs i d (omega arith) was.1 is)

    -- one file more is opened
    pub opened-next : (xs : List X) (i : ℕ) (x : X) → i < length xs → get_or xs i x ≡ x
        → AreOpened opens (map f (take i xs)) → opens (f x) true → AreOpened opens (map f (take (i + 1) xs))
    opened-next xs i x lt at was is =
        subst (λ k. AreOpened opens (map f (take k xs))) (sym (add-one i))
        (opened-more xs i x lt was (subst (λ y. opens (f y) true) (sym at) is))

    stops-there : (xs : List X) (i : ℕ) (d : X) → i < length xs → AreOpened opens (map f (take i xs))
        → IsTried opens (f (get_or xs i d)) → StopsAt opens (map f xs) (f (get_or xs i d))
    stops-there [] i d lt was is = absurd (omega arith)
    stops-there (x ∷ xs) zero d lt was is = stops-first (f x) (map f xs) is
    stops-there (x ∷ xs) (suc i) d lt was is =
        stops-later (f x) (f (get_or xs i d)) (map f xs) was.0 (stops-there xs i d (omega arith) was.1 is)

    -- or reading stops at it
    pub stops-next : (xs : List X) (i : ℕ) (x : X) → i < length xs → get_or xs i x ≡ x
        → AreOpened opens (map f (take i xs)) → IsTried opens (f x) → StopsAt opens (map f xs) (f x)
    stops-next xs i x lt at was is =
        subst (λ y. StopsAt opens (map f xs) (f y)) at
        (stops-there xs i x lt was (subst (λ y. IsTried opens (f y)) (sym at) is))

    -- all files are opened
    pub opened-all : (xs : List X) (i : ℕ) → length xs ≤ i → AreOpened opens (map f (take i xs))
        → AreOpened opens (map f xs)
    opened-all [] i le was = tt
    opened-all (x ∷ xs) zero le was = absurd (omega arith)
    opened-all (x ∷ xs) (suc i) le was = (was.0, opened-all xs i (omega arith) was.1)
