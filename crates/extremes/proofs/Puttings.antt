-- New files that are put one after the other.
use Rattle.std.proofs.Common.{◌≡◌, ℕ, suc, ◌+◌, List, [], ◌∷◌, ◌++◌, length, refl, sym, ap, ◌∙◌, subst, append_assoc, arith}
use Rattle.std.specs.Prelude.{Bool, Option, None, Some, String, true, false, string_bytes}
use Rattle.std.proofs.lemmas.List.{append-nil}
use Rattle.extremes.specs.declared.papers.Papers.{Papers}
use Rattle.extremes.specs.declared.papers_folder.Stop.{Stop}
use Rattle.extremes.specs.declared.papers_folder.Stop.TheVariants.{Input, NotWritten}
use Rattle.extremes.specs.PapersFolder.{FailsAt, PutsUntil, PuttingStops, files_of, new_files, papers_from}
use Rattle.extremes.specs.Targets.{Abandoning, ArePut, ArePutWhole, Given, IsPut, NewFile, Storing, TargetOpening}

-- the file that isn't put is the first of some files, and of these and others
fails-more : (failed : Option NewFile) (rest more : List NewFile) → FailsAt failed rest → FailsAt failed (rest ++ more)
fails-more None rest more fails = tt
fails-more (Some file) rest more fails = (fails.0 ++ more, ap (λ (fs : List NewFile). fs ++ more) fails.1)

-- putting stops among some files, and so among these and others
pub until-first : (first more : List NewFile) (stores : Storing) (failed : Option NewFile) → PutsUntil first stores failed
    → PutsUntil (first ++ more) stores failed
until-first first more stores failed is = record {
  put = is.put;
  rest = is.rest ++ more;
  among = ap (λ (fs : List NewFile). fs ++ more) is.among ∙ append_assoc is.put is.rest more;
  fails = fails-more failed is.rest more is.fails;
  stored = is.stored;
}

pub stops-first : (first more : List NewFile) (stores : Storing) (stop : Stop) → PuttingStops first stores stop
    → PuttingStops (first ++ more) stores stop
stops-first first more stores (Input fault) is = (is.0, until-first first more stores None is.1)
stops-first first more stores (NotWritten path) is = (is.0, until-first first more stores _ is.1)

module _ {T : Type 0} (creates : TargetOpening T) (abandons : Abandoning T) (contents : Given T) where
  -- files that are put whole after others are put whole with them
  whole-then : (before between after : T) (first more : List NewFile)
      → ArePutWhole creates abandons contents before first between
      → ArePutWhole creates abandons contents between more after
      → ArePutWhole creates abandons contents before (first ++ more) after
  whole-then before between after [] more was is =
      subst (λ (b : T). ArePutWhole creates abandons contents b more after) (sym was) is
  whole-then before between after (file ∷ first) more was is =
      (was.0, was.1, whole-then was.0 between after first more was.2 is)

  -- and so if another one isn't
  pub put-then : (before between after : T) (first more : List NewFile) (failed : Option NewFile)
      → ArePutWhole creates abandons contents before first between
      → ArePut creates abandons contents between after more failed
      → ArePut creates abandons contents before after (first ++ more) failed
  put-then before between after first more None was is = whole-then before between after first more was is
  put-then before between after first more (Some file) was is = record {
    between = is.between;
    whole = whole-then before between is.between first more was is.whole;
    failing = is.failing;
  }

  -- putting stops after files that are put whole
  pub until-then : (before between after : T) (first more : List NewFile) (failed : Option NewFile)
      → ArePutWhole creates abandons contents before first between
      → PutsUntil more (ArePut creates abandons contents between after) failed
      → PutsUntil (first ++ more) (ArePut creates abandons contents before after) failed
  until-then before between after first more failed was is = record {
    put = first ++ is.put;
    rest = is.rest;
    among = ap (λ (fs : List NewFile). first ++ fs) is.among ∙ sym (append_assoc first is.put is.rest);
    fails = is.fails;
    stored = put-then before between after first is.put failed was is.stored;
  }

  pub stops-then : (before between after : T) (first more : List NewFile) (stop : Stop)
      → ArePutWhole creates abandons contents before first between
      → PuttingStops more (ArePut creates abandons contents between after) stop
      → PuttingStops (first ++ more) (ArePut creates abandons contents before after) stop
  stops-then before between after first more (Input fault) was is =
      (is.0, until-then before between after first more None was is.1)
  stops-then before between after first more (NotWritten path) was is =
      (is.0, until-then before between after first more _ was is.1)

  -- all files are put, or none is
  pub until-all : (before after : T) (files : List NewFile) → ArePutWhole creates abandons contents before files after
      → PutsUntil files (ArePut creates abandons contents before after) None
  until-all before after files was = record {
    put = files;
    rest = [];
    among = sym (append-nil files);
    fails = tt;
    stored = was;
  }

  pub until-none : (before : T) (files : List NewFile)
      → PutsUntil files (ArePut creates abandons contents before before) None
  until-none before files = record { put = []; rest = files; among = refl; fails = tt; stored = refl }

  -- one file is put whole, or it isn't
  pub one-put : (before after : T) (path bytes : List ℕ)
      → IsPut creates abandons contents before after (Some path) bytes true
      → ArePut creates abandons contents before after ((path, bytes) ∷ []) None
  one-put before after path bytes is = (after, is, refl)

  pub one-fails : (before after : T) (path bytes : List ℕ)
      → IsPut creates abandons contents before after (Some path) bytes false
      → PutsUntil ((path, bytes) ∷ []) (ArePut creates abandons contents before after) (Some (path, bytes))
  one-fails before after path bytes is = record {
    put = [];
    rest = (path, bytes) ∷ [];
    among = refl;
    fails = ([], refl);
    stored = record { between = before; whole = refl; failing = is };
  }

  -- the same for the file of a path that is spelled in two ways
  pub put-as : (before after : T) (path other bytes : List ℕ) (whole : Bool) → path ≡ other → whole ≡ true
      → IsPut creates abandons contents before after (Some path) bytes whole
      → ArePut creates abandons contents before after ((other, bytes) ∷ []) None
  put-as before after path other bytes whole same all is =
      subst (λ (p : List ℕ). ArePut creates abandons contents before after ((p, bytes) ∷ []) None) same
      (one-put before after path bytes (subst (IsPut creates abandons contents before after (Some path) bytes) all is))

  pub fails-as : {A : Type 0} (before after : T) (path other bytes : List ℕ) (owned : String A) (whole : Bool)
      → path ≡ string_bytes owned → string_bytes owned ≡ other → whole ≡ false
      → IsPut creates abandons contents before after (Some path) bytes whole
      → PutsUntil ((other, bytes) ∷ []) (ArePut creates abandons contents before after)
      (Some (string_bytes owned, bytes))
  fails-as before after path other bytes owned whole same spelled none is =
      subst (λ (p : List ℕ). PutsUntil ((p, bytes) ∷ []) (ArePut creates abandons contents before after)
      (Some (string_bytes owned, bytes))) spelled
      (one-fails before after (string_bytes owned) bytes
      (subst (λ (p : List ℕ). IsPut creates abandons contents before after (Some p) bytes false) same
      (subst (IsPut creates abandons contents before after (Some path) bytes) none is)))

-- the files of some queries, and of more after them
papers-append : (folder : List ℕ) (n m : ℕ) (ps qs : List Papers) → m ≡ n + length ps
    → papers_from folder n (ps ++ qs) ≡ papers_from folder n ps ++ papers_from folder m qs
papers-append folder n m [] qs same =
    let e : n ≡ m = omega (arith, same) in ap (λ (k : ℕ). papers_from folder k qs) e
papers-append folder n m (p ∷ ps) qs same =
    ap (λ (fs : List NewFile). files_of folder n p ++ fs) (papers-append folder (suc n) m ps qs (omega (arith, same)))
    ∙ sym (append_assoc (files_of folder n p) (papers_from folder (suc n) ps) (papers_from folder m qs))

pub files-append : (folder : Option (List ℕ)) (n m : ℕ) (ps qs : List Papers) → m ≡ n + length ps
    → new_files folder n (ps ++ qs) ≡ new_files folder n ps ++ new_files folder m qs
files-append None n m ps qs same = refl
files-append (Some folder) n m ps qs same = papers-append folder n m ps qs same
