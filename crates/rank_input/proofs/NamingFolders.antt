-- The daily files of a folder, and the names in a text.
use Rattle.std.proofs.Common.{◌≡◌, ℕ, suc, ◌+◌, ◌<◌, List, [], ◌∷◌, ◌++◌, length, map, take, drop, get_or, Bool, true}
use Rattle.std.proofs.Common.{false, cond, refl, sym, ap, ◌∙◌, subst, arith, eq-eqb, lit<, ◌-◌, ◌≢◌, Bor}
use Rattle.std.specs.Prelude.{filter, Contains, IsPermutation, IsSorted, String, string_bytes, ◌==◌, if◌then◌else◌}
use Rattle.std.specs.List.{slice_split}
use Rattle.std.specs.Ordering.{nat_cmp, is_lt}
use Rattle.std.specs.Cmp.Lexicographic.{slice_cmp}
use Rattle.std.specs.String.{string_cmp}
use Rattle.std.specs.Str.Lines.{strip_carriage_return}
use Rattle.std.specs.Prelude.{Option, None, Some, MatchOption}
use Rattle.std.specs.Option.{unwrap_or}
use Rattle.std.specs.Iterator.{Yields}
use Rattle.std.specs.Str.Iter.{split_steps, split_text, split_has_more, split_pattern}
use Rattle.std.specs.Str.Pattern.{FindsChar}
use Rattle.std.proofs.lemmas.Bool.{ne_eqb}
use Rattle.std.proofs.lemmas.Bool.Decides.{nat_tests}
use Rattle.std.proofs.lemmas.Grind.{common_steps}
use Rattle.std.proofs.lemmas.Iterator.Consumers.{YieldsList-at, YieldsList-so_far, YieldsList-turn, YieldsList-end}
use Rattle.std.proofs.lemmas.Iterator.Splits.{YieldsList-from_str_split}
use Rattle.std.proofs.lemmas.List.{map-append, get_or-map, length-map}
use Rattle.std.proofs.lemmas.List.Elements.{filter-append, Contains-append_right}
use Rattle.std.proofs.lemmas.List.Sorted.{IsPermutation-map}
use Rattle.ghcn_fields.specs.Meaning.Lines.{without_empty_last}
use Rattle.rank_input.specs.Named.{Text, is_name, names_in, is_daily, daily_in, below, AreDailyIn}
use Rattle.rank_input.proofs.Naming.{cut, cut-at, cut-map}

-- ---- what a test keeps

module _ {X : Type 0} (p : X → Bool) where
  -- one more that is kept
  pub kept-more : (xs : List X) (x : X) → p x ≡ true → filter p (xs ++ x ∷ []) ≡ filter p xs ++ x ∷ []
  kept-more xs x is = filter-append p xs (x ∷ [])
      ∙ ap (λ (b : Bool). filter p xs ++ cond b (x ∷ []) []) is

  -- one more that isn't
  pub kept-same : (xs : List X) (x : X) → p x ≡ false → filter p (xs ++ x ∷ []) ≡ filter p xs ++ []
  kept-same xs x is = filter-append p xs (x ∷ [])
      ∙ ap (λ (b : Bool). filter p xs ++ cond b (x ∷ []) []) is

  -- an element that is kept is there
  pub kept-there : (xs : List X) (i : ℕ) (x : X) → i < length xs → get_or xs i x ≡ x → p x ≡ true
      → Contains (filter p xs) x
  kept-there xs i x lt at is =
      let rest : List X = drop (suc i) xs in
      let parts : filter p xs ≡ filter p (take i xs) ++ x ∷ filter p rest =
      ap (filter p) (cut-at xs i x lt at) ∙ filter-append p (take i xs) (x ∷ rest)
      ∙ ap (λ (b : Bool). filter p (take i xs) ++ cond b (x ∷ filter p rest) (filter p rest)) is in
      subst (λ (ys : List X). Contains ys x) (sym parts)
      (Contains-append_right (filter p (take i xs)) (x ∷ filter p rest) x (0, omega arith, refl))

-- ---- the names in a text

-- a name of a list, without the end of its line unless NULs end names
abbrev pub trimmed : Bool → Text → Text
trimmed null name = if null then name else strip_carriage_return name

-- the byte that ends a name
abbrev pub end_of : Bool → ℕ
end_of null = if null then 0 else 10

-- ---- a carriage return at the end of a name

nothing-left : (xs : Text) → drop (length xs) xs ≡ []
nothing-left [] = refl
nothing-left (x ∷ xs) = nothing-left xs

-- a name that doesn't end so is kept
name-kept : (name : Text) → ((front : Text) → name ≢ front ++ 13 ∷ []) → strip_carriage_return name ≡ name
name-kept [] others = refl
name-kept (b ∷ bs) others =
    let n : ℕ = length bs in
    let name : Text = b ∷ bs in
    let last : n ≡ length name - 1 = omega arith in
    let ends : get_or name (length name - 1) 0 ≡ 13 → ⊥ = λ e. others (take n name)
    (cut name n 0 (omega arith)
    ∙ ap (λ (y : ℕ). take n name ++ y ∷ drop (suc n) name) (ap (λ (k : ℕ). get_or name k 0) last ∙ e)
    ∙ ap (λ (ys : Text). take n name ++ 13 ∷ ys) (nothing-left bs)) in
    ap (λ (t : Bool). cond t (take (length name - 1) name) name) (ne_eqb (get_or name (length name - 1) 0) 13 ends)

-- a name that does loses it
name-cut : (name front : Text) → name ≡ front ++ 13 ∷ [] → strip_carriage_return name ≡ front
name-cut l x e =
    let last : get_or l (length l - 1) 0 ≡ 13 = grind (arith, common_steps) in
    let front : take (length l - 1) l ≡ x = grind (arith, common_steps) in
    ap (λ t. cond t (take (length l - 1) l) l) (eq-eqb _ 13 last) ∙ front

-- a name without one carriage return at its end
pub without-return : (name : Bor Text) (r : Option (Bor Text))
    → MatchOption r ((front : Text) → name.now ≢ front ++ 13 ∷ []) (λ x. name.now ≡ x.now ++ 13 ∷ [])
    → (unwrap_or r name).now ≡ strip_carriage_return name.now
without-return name None kept = sym (name-kept name.now kept)
without-return name (Some x) is = sym (name-cut name.now x.now is)

-- ---- all names of a text

more-than-none : (n : ℕ) → (suc n == 0) ≡ false
more-than-none n = grind (arith, nat_tests)

-- it is ASCII
end-is-ascii : (null : Bool) → end_of null < 128
end-is-ascii true = lit< tt
end-is-ascii false = lit< tt

map-same : (xs : List Text) → map (λ x. x) xs ≡ xs
map-same [] = refl
map-same (x ∷ xs) = ap (λ (ys : List Text). x ∷ ys) (map-same xs)

-- an empty last part names nothing
empty-last : (parts : List Text) → filter is_name (map strip_carriage_return parts)
    ≡ filter is_name (map strip_carriage_return (without_empty_last parts))
empty-last [] = refl
empty-last ([] ∷ []) = refl
empty-last ((b ∷ bs) ∷ []) =
    let parts : List Text = (b ∷ bs) ∷ [] in
    ap (λ (e : Bool). filter is_name (map strip_carriage_return (cond e [] parts))) (sym (more-than-none (length bs)))
empty-last (x ∷ y ∷ more) =
    let name : Text = strip_carriage_return x in
    ap (λ (ts : List Text). cond (is_name name) (name ∷ ts) ts) (empty-last (y ∷ more))

-- the names in a text are its parts that aren't empty
parts-named : (null : Bool) (text : Text)
    → filter is_name (map (trimmed null) (slice_split (λ b. b == end_of null) text)) ≡ names_in null text
parts-named true text = ap (filter is_name) (map-same (slice_split (λ b. b == 0) text))
parts-named false text = empty-last (slice_split (λ b. b == 10) text)

-- the names that parts of a text are
abbrev pub named_by : Bool → List (Bor Text) → List Text
named_by null parts = filter is_name (map (trimmed null) (map (λ part. part.now) parts))

-- a part of a text is this name
pub record IsNamed (null : Bool) (part : Bor Text) (name : Text) : Type 0 where
  pub same : name ≡ trimmed null part.now
  pub some : is_name name ≡ true

-- what is known at a turn of a loop over the parts of a text: if none is left, those that came are all names; otherwise a
-- name that comes follows those that came
pub record Turn (null : Bool) (text : Text) (parts : List (Bor Text)) (next : Option (Bor Text)) : Type 0 where
  pub all : next ≡ None → named_by null parts ≡ names_in null text
  pub among : (part : Bor Text) (name : Text) → next ≡ Some part → IsNamed null part name
      → (after : List Text) × (names_in null text ≡ named_by null parts ++ name ∷ after)

-- it is, if the ends of names cut the text
pub turn : (null : Bool) (text : Text) (end : ℕ) (parts : List (Bor Text)) (s v t u : _) (next : Option (Bor Text))
    → s ≡ v → split_text v ≡ text → split_has_more v ≡ true → split_pattern v ≡ end → end ≡ end_of null
    → Yields (split_steps FindsChar (λ a b. b ≡ a)) s parts t → split_steps FindsChar (λ a b. b ≡ a) t next u
    → Turn null text parts next
turn null text end parts s v t u next begins same more pattern ends gave gives =
    let all : List Text = slice_split (λ b. b == end_of null) text in
    let n : ℕ = length parts in
    let before : List Text = map (trimmed null) (take n all) in
    let after : List Text = map (trimmed null) (drop (suc n) all) in
    let cuts = YieldsList-at begins
    (YieldsList-from_str_split (end_of null) text (end-is-ascii null) same more (pattern ∙ ends)) in
    record {
      all = λ none. ap (λ (ts : List Text). filter is_name (map (trimmed null) ts))
          (YieldsList-end cuts parts t gave next u none gives).0 ∙ parts-named null text;
      among = λ part name is named. (
        filter is_name after,
        let came = YieldsList-turn cuts parts t gave next u part is gives in
            sym (parts-named null text)
            ∙ ap (filter is_name) (cut-map (trimmed null) all n part.now came.0 (sym came.1)
            ∙ ap (λ (t : Text). before ++ t ∷ after) (sym named.same))
            ∙ filter-append is_name before (name ∷ after)
            ∙ ap (λ (b : Bool). filter is_name before ++ cond b (name ∷ filter is_name after) (filter is_name after))
            named.some
            ∙ ap (λ (ts : List Text). filter is_name (map (trimmed null) ts) ++ name ∷ filter is_name after)
            (sym (YieldsList-so_far cuts parts t gave)),
      );
    }

-- one name more
pub names-more : (null : Bool) (parts : List (Bor Text)) (part : Bor Text) (name : Text) → IsNamed null part name
    → named_by null (parts ++ part ∷ []) ≡ named_by null parts ++ name ∷ []
names-more null parts part name named =
    let were : List Text = map (λ p. p.now) parts in
    ap (λ (ts : List Text). filter is_name (map (trimmed null) ts))
    (map-append (λ (p : Bor Text). p.now) parts (part ∷ []))
    ∙ ap (filter is_name) (map-append (trimmed null) were (part.now ∷ [])
    ∙ ap (λ (t : Text). map (trimmed null) were ++ t ∷ []) (sym named.same))
    ∙ kept-more is_name (map (trimmed null) were) name named.some

-- one more isn't none
pub more-are-some : (named xs : List Text) (x : Text) → named ≡ xs ++ x ∷ [] → false ≡ (length named == 0)
more-are-some named [] x are = ap (λ (ts : List Text). length ts == 0) (sym are)
more-are-some named (y ∷ ys) x are =
    sym (more-than-none (length (ys ++ x ∷ []))) ∙ ap (λ (ts : List Text). length ts == 0) (sym are)

-- a list of no length is empty
pub none-there : (xs : List Text) → (length xs == 0) ≡ true → xs ≡ []
none-there [] is = refl
none-there (x ∷ xs) is = let no : true ≡ false = sym is ∙ more-than-none (length xs) in absurd cc

-- any other has an element
pub some-there : (xs : List Text) → (length xs == 0) ≡ false → 0 < length xs
some-there [] is = absurd cc
some-there (x ∷ xs) is = omega arith

-- ---- the daily files of a folder

-- one path more
pub daily-more : {Z : Type 0} (folder : Text) (names : List Text) (paths : List (String Z)) (name : Text) (path : String Z)
    → is_daily name ≡ true → string_bytes path ≡ below folder name
    → map string_bytes paths ≡ map (below folder) (filter is_daily names)
    → map string_bytes (paths ++ path ∷ []) ≡ map (below folder) (filter is_daily (names ++ name ∷ []))
daily-more folder names paths name path is at were =
    map-append string_bytes paths (path ∷ [])
    ∙ ap (λ (t : Text). map string_bytes paths ++ t ∷ []) at
    ∙ ap (λ (ts : List Text). ts ++ below folder name ∷ []) were
    ∙ sym (map-append (below folder) (filter is_daily names) (name ∷ []))
    ∙ ap (λ (ts : List Text). map (below folder) ts) (sym (kept-more is_daily names name is))

-- paths in the order of texts are so as bytes
pub texts-sorted : {Z : Type 0} (paths : List (String Z)) → IsSorted string_cmp paths
    → IsSorted (slice_cmp nat_cmp) (map string_bytes paths)
texts-sorted [] sorted = λ k d low high. absurd (omega arith)
texts-sorted (p ∷ ps) sorted = λ k d low high.
    let paths : List (String _) = p ∷ ps in
    let long : length (map string_bytes paths) ≡ length paths = length-map paths string_bytes in
    let lt : k + 1 < length paths = omega (arith, long, high) in
    ap (λ (t : Text). is_lt (slice_cmp nat_cmp t (get_or (map string_bytes paths) k d)))
    (get_or-map string_bytes paths (k + 1) p d lt)
    ∙ ap (λ (t : Text). is_lt (slice_cmp nat_cmp (string_bytes (get_or paths (k + 1) p)) t))
    (get_or-map string_bytes paths k p d (omega (arith, lt)))
    ∙ sorted k p low lt

-- the paths of daily files, sorted, are those of a folder
pub daily-sorted : {Z : Type 0} (folder names : Text) (found paths : List (String Z))
    → map string_bytes found ≡ map (below folder) (daily_in names) → 0 < length paths → IsPermutation found paths
    → IsSorted string_cmp paths → AreDailyIn folder names (map string_bytes paths)
daily-sorted folder names found paths are some same sorted = record {
  same = subst (λ (ts : List Text). IsPermutation ts (map string_bytes paths)) are
      (IsPermutation-map string_bytes found paths same);
  order = texts-sorted paths sorted;
  some = let long = length-map paths string_bytes in omega (arith, long, some);
}

-- no paths are those of no daily files
pub none-daily : {Z : Type 0} (folder : Text) (daily : List Text) (paths : List (String Z)) → length paths ≡ 0
    → map string_bytes paths ≡ map (below folder) daily → daily ≡ []
none-daily folder [] paths none are = refl
none-daily folder (d ∷ ds) [] none are =
    let long : 0 ≡ suc (length (map (below folder) ds)) = ap (λ (ts : List Text). length ts) are in absurd (omega (arith, long))
none-daily folder (d ∷ ds) (p ∷ ps) none are = absurd (omega arith)
