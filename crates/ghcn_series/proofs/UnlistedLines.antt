-- The lines of unlisted stations in files are those in their parts, and those that name an element and no listed station.
use Rattle.ghcn_series.proofs.Cited.{◌≡◌, ℕ, ◌+◌, Bool, false, cond, List, [], ◌∷◌, ◌++◌, map, Option, None, Some, refl}
use Rattle.ghcn_series.proofs.Cited.{ap, arith, ◌&&◌, ◌-◌, ◌^◌, min, not, cons_option, count_by, filter_map, find}
use Rattle.ghcn_series.proofs.Cited.{flat_map, list_any, option_map, flat_map-append, filter_map-append, sum_by-append}
use Rattle.ghcn_series.proofs.Cited.{sum_by-cons, same_bytes, columns, lines, Element, Month, Station, code_of}
use Rattle.ghcn_series.proofs.Cited.{elements, month_of, id_of, is_listed, files_together, is_unlisted, month_said}
use Rattle.ghcn_series.proofs.Cited.{months_said, unlisted_said, in_64_bits}
use Rattle.std.specs.Option.{option_map_or}
use Rattle.std.proofs.lemmas.List.Recursion.{is_count_by}
use Rattle.ghcn_series.specs.Laws.{UnlistedAddUp}

module _ (stations : List Station) where
  -- how many lines of files belong to stations that aren't listed
  abbrev unlisted_in : List (List ℕ) → ℕ
  unlisted_in files = count_by (λ m. not (is_listed stations m.id)) (months_said files)

  -- those of files, and of others after them
  unlisted-append : (files others : List (List ℕ))
      → unlisted_in (files ++ others) ≡ unlisted_in files + unlisted_in others
  unlisted-append files others = rw (flat_map-append, filter_map-append)
      (sum_by-append (λ (m : Month). cond (not (is_listed stations m.id)) 1 0) (months_said files) (months_said others))

-- so the numbers of the parts add up
pub unlisted-add-up : UnlistedAddUp
unlisted-add-up stations [] = refl
unlisted-add-up stations (p ∷ ps) =
    let added = sum_by-cons (λ (n : ℕ). n) (unlisted_said stations p) (map (unlisted_said stations) ps) in
    omega (arith, unlisted-append stations p (files_together ps), unlisted-add-up stations ps, added)

-- ---- by their columns

-- what is made of the first that passes passes a test that all of that pass alike, if one passes and they do
found_any : {X Y : Type 0} (test : X → Bool) (make : X → Y) (p : Y → Bool) (b : Bool) → ((x : X) → p (make x) ≡ b)
    → (xs : List X) → option_map_or p (option_map make (find test xs)) false ≡ (list_any test xs && b)
found_any test make p b alike [] = refl
found_any test make p b alike (x ∷ xs) = grind (arith, alike x, found_any test make p b alike xs)

module _ {X Y : Type 0} (make : X → Option Y) (p : Y → Bool) (q : X → Bool)
    (same : (x : X) → option_map_or p (make x) false ≡ q x) where
  -- with what is made of one thing more, if something is
  count_more : (o : Option Y) (ys : List Y) (passes : Bool) → option_map_or p o false ≡ passes
      → count_by p (cons_option o ys) ≡ cond passes (1 + count_by p ys) (count_by p ys)
  count_more None ys passes is = ap (λ (b : Bool). cond b (1 + count_by p ys) (count_by p ys)) is
  count_more (Some y) ys passes is = grind (arith, sum_by-cons (λ (z : Y). cond (p z) 1 0) y ys)

  -- of what is made of things, as many pass as of the things
  count_made : (xs : List X) → count_by p (filter_map make xs) ≡ count_by q xs
  count_made = is_count_by (λ (xs : List X). count_by p (filter_map make xs)) q refl
      (λ x xs. count_more (make x) (filter_map make xs) (q x) (same x))

-- a line says a month of an unlisted station if it names an element and no listed station
unlisted_line : (stations : List Station) (line : List ℕ)
    → option_map_or (λ m. not (is_listed stations m.id)) (month_said line) false ≡ is_unlisted stations line
unlisted_line stations line =
    found_any (λ (e : Element). same_bytes (code_of e) (columns 18 21 line)) (λ (e : Element). month_of e line)
    (λ (m : Month). not (is_listed stations m.id)) (not (is_listed stations (id_of line))) (λ e. refl) elements

-- that many lines belong to unlisted stations
pub unlisted-said : (stations : List Station) (files : List (List ℕ))
    → unlisted_said stations files ≡ min (count_by (is_unlisted stations) (flat_map lines files)) (2 ^ 64 - 1)
unlisted-said stations files =
    ap in_64_bits (count_made month_said (λ (m : Month). not (is_listed stations m.id)) (is_unlisted stations)
    (unlisted_line stations) (flat_map lines files))
