-- Daily files that are taken in shares.
use Rattle.std.proofs.Common.{arith, inl, inr, ◌≡◌, ◌<◌, ℕ, suc, ◌+◌, length, List, [], ◌∷◌, ◌++◌, map, refl, sym, subst, ap, ◌∙◌, take, drop}
use Rattle.std.specs.Prelude.{Option, Some, IfSome, IsPermutation, String, string_bytes}
use Rattle.std.specs.List.{slice_get, AllByRecursion}
use Rattle.std.proofs.Math.Seq.{take-suc}
use Rattle.std.proofs.lemmas.List.{append_assoc, append-nil, map-append, take-append-drop}
use Rattle.std.proofs.lemmas.List.Elements.{All-from_recursion, recursion_from_All}
use Rattle.std.proofs.lemmas.List.Sorted.{All-permutation}
use Rattle.std.proofs.lemmas.Option.{get_or_from_slice_get, slice_get_cases, slice_get_within}
use denote.Bor.{Bor}
use Rattle.ghcn_files.specs.declared.element.Keep.{Keep}
use Rattle.ghcn_series.specs.Fed.{Files, ended_files, followed_by}
use Rattle.ghcn_series.specs.LinesRead.{Reading}
use Rattle.rank_input.specs.declared.claimed.Taken.{Taken}
use Rattle.rank_input.specs.declared.intake.Intake.{Intake}
use Rattle.rank_input.specs.Feeding.{AreFilesOf, AreOpened, FeedsFiles, Opening}
use Rattle.rank_input.specs.Takes.{file_input, with_daily, HasTaken, WereGivenAlike, JoinsFiles}
use Rattle.rank_input.specs.Shares.{TakesShare, TakesWhole, bytes_at, paths_of}
use Rattle.rank_input.proofs.Feedings.{input-files}
use Rattle.rank_input.proofs.Openings.{opened-both}

-- files that are all ended follow one another
followed-ended : (files others : List (List ℕ))
    → followed_by (ended_files files) (ended_files others) ≡ ended_files (files ++ others)
followed-ended files [] = ap ended_files (sym (append-nil files))
followed-ended files (file ∷ others) = refl

-- the files of one share and then those of another
files-append : (ks ls : List (Option (List ℕ))) (fs gs : List (List ℕ)) → AreFilesOf ks fs → AreFilesOf ls gs
    → AreFilesOf (ks ++ ls) (fs ++ gs)
files-append [] ls [] gs are more = more
files-append [] ls (f ∷ fs) gs are more = absurd are
files-append (k ∷ ks) ls [] gs are more = absurd are
files-append (k ∷ ks) ls (f ∷ fs) gs are more = (are.0, files-append ks ls fs gs are.1 more)

-- what is true of all is true of them in another order
pub each-permutation : {X : Type 0} (P : X → Type 0) (xs ys : List X) → IsPermutation xs ys → AllByRecursion P xs
    → AllByRecursion P ys
each-permutation P xs ys same all =
    recursion_from_All P ys (All-permutation P xs ys same (All-from_recursion P xs all))

-- it is true of the last, and of those before it
pub last-and-others : {X : Type 0} (P : X → Type 0) (xs : List X) (x : X) → AllByRecursion P (xs ++ x ∷ [])
    → P x × AllByRecursion P xs
last-and-others P [] x all = (all.0, tt)
last-and-others P (y ∷ xs) x all =
    let rest = last-and-others P xs x all.1 in
    (rest.0, (all.0, rest.1))

-- the paths of some shares and of one more
pub paths-append : {A : Type 0} (shares : List (Bor (List (String A)))) (share : Bor (List (String A)))
    → paths_of (shares ++ share ∷ []) ≡ paths_of shares ++ share.now
paths-append [] share = append-nil share.now
paths-append (first ∷ shares) share =
    ap (λ (paths : List (String _)). first.now ++ paths) (paths-append shares share)
    ∙ sym (append_assoc first.now (paths_of shares) share.now)

-- a share that is cut from the rest is one more
pub cut_rest : {A : Type 0} (shares : List (Bor (List (String A)))) (share : Bor (List (String A)))
    (paths rest others : List (String A)) (count : ℕ) → share.now ≡ take count rest → others ≡ drop count rest
    → paths_of shares ++ rest ≡ paths → paths_of (shares ++ share ∷ []) ++ others ≡ paths
cut_rest shares share paths rest others count front back all =
    ap (λ (ps : List (String _)). ps ++ others) (paths-append shares share)
    ∙ append_assoc (paths_of shares) share.now others
    ∙ ap (λ (ps : List (String _)). paths_of shares ++ ps)
    (ap (λ (ps : List (String _)). ps ++ others) front ∙ ap (λ (ps : List (String _)). take count rest ++ ps) back
    ∙ take-append-drop count rest)
    ∙ all

-- those of the shares up to a place, and of the one at it
pub paths-next : {A : Type 0} (shares : List (Bor (List (String A)))) (place : ℕ) (share : Bor (List (String A)))
    → slice_get shares place ≡ Some share
    → paths_of (take place shares) ++ share.now ≡ paths_of (take (place + 1) shares)
paths-next shares place share is =
    let next : place + 1 ≡ suc place = search arith in
    sym (ap (λ (n : ℕ). paths_of (take n shares)) next ∙ ap paths_of (take-suc shares place share (slice_get_within shares place share is)
    ∙ ap (λ (s : Bor _). take place shares ++ s ∷ []) (get_or_from_slice_get shares place share share is))
    ∙ paths-append (take place shares) share)

module _ {L A : Type 0} (has_read : Reading L) (bytes_of : List ℕ → Option (List ℕ)) (opens : Opening) (keep : Keep)
    (stations : List ℕ) where
  -- an intake to which all files of a share were fed was given them
  pub fed_share : (paths : List (String A)) (old new : Intake L) → HasTaken has_read old (file_input keep stations [])
      → FeedsFiles has_read old new (bytes_at bytes_of paths) → AreOpened opens (map string_bytes paths)
      → TakesWhole has_read bytes_of opens keep stations paths new
  fed_share paths old new was fed opened = record {
    opened = opened;
    files = fed.files;
    all = fed.all;
    taken = subst (HasTaken has_read new) (input-files keep stations [] fed.files)
        (fed.taken (file_input keep stations []) was);
  }

  -- two shares are of one station list
  pub shares_alike : (front back : List (String A)) (first last : Intake L)
      → TakesWhole has_read bytes_of opens keep stations front first
      → TakesWhole has_read bytes_of opens keep stations back last → WereGivenAlike has_read first last
  shares_alike front back first last one two = record {
    input = file_input keep stations one.files;
    files = ended_files two.files;
    of_first = one.taken;
    of_next = two.taken;
  }

  -- the intake of two shares was given the files of both
  pub joined_both : (front back : List (String A)) (first last both : Intake L)
      → TakesWhole has_read bytes_of opens keep stations front first
      → TakesWhole has_read bytes_of opens keep stations back last → JoinsFiles has_read first last both
      → TakesWhole has_read bytes_of opens keep stations (front ++ back) both
  joined_both front back first last both one two joins = record {
    opened = subst (AreOpened opens) (sym (map-append (λ (path : String A). string_bytes path) front back))
        (opened-both opens (map string_bytes front) (map string_bytes back) one.opened two.opened);
    files = one.files ++ two.files;
    all = subst (λ (ks : List (Option (List ℕ))). AreFilesOf ks (one.files ++ two.files))
        (sym (map-append (λ (path : String A). bytes_of (string_bytes path)) front back))
        (files-append (bytes_at bytes_of front) (bytes_at bytes_of back) one.files two.files one.all two.all);
    taken = subst (λ (files : Files).
        HasTaken has_read both (with_daily (file_input keep stations one.files) files))
        (followed-ended one.files two.files)
        (joins.holds (file_input keep stations one.files) (ended_files two.files) one.taken two.taken);
  }

  -- so it was given all files that were cut into the two
  pub joined_shares : (paths front back : List (String A)) (from : ℕ) (first last both : Intake L)
      → front ≡ take from paths → back ≡ drop from paths
      → TakesWhole has_read bytes_of opens keep stations front first
      → TakesWhole has_read bytes_of opens keep stations back last → JoinsFiles has_read first last both
      → TakesWhole has_read bytes_of opens keep stations paths both
  joined_shares paths front back from first last both is_front is_back one two joins =
      let parts : front ++ back ≡ paths =
      ap (λ (ps : List (String A)). ps ++ back) is_front ∙ ap (λ (ps : List (String A)). take from paths ++ ps) is_back
      ∙ take-append-drop from paths in
      subst (λ (ps : List (String A)). TakesWhole has_read bytes_of opens keep stations ps both) parts
      (joined_both front back first last both one two joins)

  -- what was taken of the share at a place
  pub taken-at : (shares : List (Bor (List (String A)))) (t : Taken L) (share : Bor (List (String A)))
      → slice_get shares t.place ≡ Some share → TakesWhole has_read bytes_of opens keep stations share.now t.intake
      → TakesShare has_read bytes_of opens keep stations shares t
  taken-at shares t share is whole =
      subst (λ (o : Option (Bor _)). IfSome o (λ share. TakesWhole has_read bytes_of opens keep stations share.now t.intake))
      (sym is) whole

  -- of a place of the shares it is what was taken of its share
  pub taken-from : (shares : List (Bor (List (String A)))) (t : Taken L) (place : ℕ) → place < length shares
      → t.place ≡ place → TakesShare has_read bytes_of opens keep stations shares t
      → (share : Bor (List (String A))) × (slice_get shares place ≡ Some share)
      × TakesWhole has_read bytes_of opens keep stations share.now t.intake
  taken-from shares t place lt at takes = elim (slice_get_cases shares place).1 [
    | inl found ↦ (
      found.0,
      found.2,
      subst (λ (o : Option (Bor _)). IfSome o
          (λ share. TakesWhole has_read bytes_of opens keep stations share.now t.intake))
          (ap (slice_get shares) at ∙ found.2) takes,
    )
    | inr past ↦ absurd (omega (arith, lt, past.0))
  ]

  -- with it the shares up to a place are joined up to the next one
  pub joined-next : (shares : List (Bor (List (String A)))) (place : ℕ) (share : Bor (List (String A)))
      (before next both : Intake L) → slice_get shares place ≡ Some share
      → TakesWhole has_read bytes_of opens keep stations (paths_of (take place shares)) before
      → TakesWhole has_read bytes_of opens keep stations share.now next → JoinsFiles has_read before next both
      → TakesWhole has_read bytes_of opens keep stations (paths_of (take (place + 1) shares)) both
  joined-next shares place share before next both is one two joins =
      subst (λ (ps : List (String A)). TakesWhole has_read bytes_of opens keep stations ps both)
      (paths-next shares place share is)
      (joined_both (paths_of (take place shares)) share.now before next both one two joins)

  -- the first share is joined with none
  pub joined-first : (shares : List (Bor (List (String A)))) (place : ℕ) (share : Bor (List (String A)))
      (next : Intake L) → slice_get shares place ≡ Some share → place ≡ 0
      → TakesWhole has_read bytes_of opens keep stations share.now next
      → TakesWhole has_read bytes_of opens keep stations (paths_of (take (place + 1) shares)) next
  joined-first shares place share next is first whole =
      subst (λ (ps : List (String A)). TakesWhole has_read bytes_of opens keep stations ps next)
      (ap (λ (n : ℕ). paths_of (take n shares) ++ share.now) (sym first) ∙ paths-next shares place share is) whole
