-- Queries that are ranked one after the other, and the files that they get.
use Rattle.std.proofs.Common.{◌≡◌, ℕ, suc, ◌+◌, ◌<◌, ◌≤◌, true, List, [], ◌∷◌, ◌++◌, length, take, drop, get_or}
use Rattle.std.proofs.Common.{refl, sym, ap, ◌∙◌, subst, append_assoc, arith}
use Rattle.std.proofs.Math.Seq.{split_at}
use Rattle.std.specs.Prelude.{⊤, Option, None, Some}
use Rattle.std.specs.List.{AllZip}
use Rattle.std.proofs.lemmas.List.{append-nil, length-take-le, take_more}
use Rattle.std.proofs.lemmas.Grind.{flat_map-append}
use Rattle.std.proofs.lemmas.Slice.Zip.{AllZip-long, all_zipped_more}
use Rattle.rank_input.specs.declared.fault.Fault.{Fault}
use Rattle.rank_input.specs.Input.{is_memory}
use Rattle.extremes.specs.declared.papers.Papers.{Papers}
use Rattle.extremes.specs.declared.papers_folder.Stop.{Stop}
use Rattle.extremes.specs.declared.papers_folder.Stop.TheVariants.{Input, NotWritten}
use Rattle.extremes.specs.Each.{RankingStops, RanksAll, RanksOne, RanksUntil, reports_of}
use Rattle.extremes.specs.PapersFolder.{PutsUntil, PuttingStops, new_files}
use Rattle.extremes.specs.Targets.{Abandoning, ArePut, Given, NewFile, Storing, TargetOpening}
use Rattle.extremes.proofs.Comparing.{take-whole}
use Rattle.extremes.proofs.Puttings.{files-append, put-then, until-then}

-- ---- one query after the other

-- what holds of two lists, place by place, and of two others, holds of them one after the other
zip-append : {A B : Type 0} (R : A → B → Type 0) (xs ws : List A) (ys zs : List B) → AllZip R xs ys → AllZip R ws zs
    → AllZip R (xs ++ ws) (ys ++ zs)
zip-append R [] ws [] zs was is = is
zip-append R [] ws (y ∷ ys) zs was is = absurd was
zip-append R (x ∷ xs) ws [] zs was is = absurd was
zip-append R (x ∷ xs) ws (y ∷ ys) zs was is = (was.0, zip-append R xs ws ys zs was.1 is)

-- nothing that is ranked has no file
no-files : (folder : Option (List ℕ)) (n : ℕ) → new_files folder n [] ≡ []
no-files None n = refl
no-files (Some folder) n = refl

module _ {Q T : Type 0} (R : Q → Papers → Type 0) (folder : Option (List ℕ)) (creates : TargetOpening T)
    (abandons : Abandoning T) (contents : Given T) where
  -- what is put between two states
  abbrev pub between : T → T → Storing
  between before after = ArePut creates abandons contents before after

  -- no query is ranked, and no file put
  pub ranks-none : (first : T) (text : List ℕ) → text ≡ [] → RanksAll R [] folder 1 (between first first) text
  ranks-none first text none = record {
    papers = [];
    ranked = tt;
    reports = none;
    stored = subst (λ (fs : List NewFile). between first first fs None) (sym (no-files folder 1)) refl;
  }

  -- one query more is ranked
  one-more : (first middle last : T) (qs : List Q) (q : Q) (n : ℕ) (before after : List ℕ) → n ≡ length qs + 1
      → RanksAll R qs folder 1 (between first middle) before → RanksOne (R q) folder n (between middle last) before after
      → RanksAll R (qs ++ q ∷ []) folder 1 (between first last) after
  one-more first middle last qs q n before after counted was adds =
      let long = AllZip-long R qs was.papers was.ranked in
      record {
        papers = was.papers ++ adds.papers ∷ [];
        ranked = all_zipped_more R qs was.papers q adds.papers was.ranked adds.ranked;
        reports = adds.added ∙ ap (λ t. t ++ adds.papers.report.items) was.reports
            ∙ ap (λ t. reports_of was.papers ++ t) (sym (append-nil adds.papers.report.items))
            ∙ sym (flat_map-append (λ (p : Papers). p.report.items) was.papers (adds.papers ∷ []));
        stored = subst (λ (fs : List NewFile). between first last fs None)
            (sym (files-append folder 1 n was.papers (adds.papers ∷ []) (omega (arith, counted, long))))
            (put-then creates abandons contents first middle last (new_files folder 1 was.papers)
            (new_files folder n (adds.papers ∷ [])) None was.stored adds.stored);
      }

  -- so it is with the next query of some
  pub ranks-next : (first middle last : T) (qs : List Q) (i n : ℕ) (q : Q) (before after : List ℕ) → i < length qs
      → n ≡ i + 1 → get_or qs i q ≡ q → RanksAll R (take i qs) folder 1 (between first middle) before
      → RanksOne (R q) folder n (between middle last) before after
      → RanksAll R (take (i + 1) qs) folder 1 (between first last) after
  ranks-next first middle last qs i n q before after lt counted at was adds =
      let long = length-take-le i qs (omega (arith, lt)) in
      subst (λ (xs : List Q). RanksAll R xs folder 1 (between first last) after)
      (sym (take_more qs i q lt ∙ ap (λ x. take i qs ++ x ∷ []) at))
      (one-more first middle last (take i qs) q n before after (omega (arith, counted, long)) was adds)

  -- as many queries as there are, or more, are all
  pub ranks-all : (first last : T) (qs : List Q) (i : ℕ) (text : List ℕ) → length qs ≤ i
      → RanksAll R (take i qs) folder 1 (between first last) text → RanksAll R qs folder 1 (between first last) text
  ranks-all first last qs i text le was =
      subst (λ (xs : List Q). RanksAll R xs folder 1 (between first last) text) (take-whole (λ (q : Q). ⊤) qs i le) was

  -- the rankings stop at the next query
  until-next : (first middle last : T) (qs more : List Q) (q : Q) (n : ℕ) (text : List ℕ) (failed : Option NewFile)
      → n ≡ length qs + 1 → RanksAll R qs folder 1 (between first middle) text
      → RanksUntil R (q ∷ []) folder n (between middle last) failed
      → RanksUntil R (qs ++ q ∷ more) folder 1 (between first last) failed
  until-next first middle last qs more q n text failed counted was is =
      let long = AllZip-long R qs was.papers was.ranked in
      record {
        first = qs ++ is.first;
        more = is.more ++ more;
        among = ap (λ (xs : List Q). qs ++ (xs ++ more)) is.among ∙ ap (λ (xs : List Q). qs ++ xs)
            (append_assoc is.first is.more more) ∙ sym (append_assoc qs is.first (is.more ++ more));
        papers = was.papers ++ is.papers;
        ranked = zip-append R qs is.first was.papers is.papers was.ranked is.ranked;
        put = subst (λ (fs : List NewFile). PutsUntil fs (between first last) failed)
            (sym (files-append folder 1 n was.papers is.papers (omega (arith, counted, long))))
            (until-then creates abandons contents first middle last (new_files folder 1 was.papers)
            (new_files folder n is.papers) failed was.stored is.put);
      }

  stops-among : (first middle last : T) (qs more : List Q) (q : Q) (n : ℕ) (text : List ℕ) (stop : Stop)
      → n ≡ length qs + 1 → RanksAll R qs folder 1 (between first middle) text
      → RankingStops R (q ∷ []) folder n (between middle last) stop
      → RankingStops R (qs ++ q ∷ more) folder 1 (between first last) stop
  stops-among first middle last qs more q n text (Input fault) counted was is =
      (is.0, until-next first middle last qs more q n text None counted was is.1)
  stops-among first middle last qs more q n text (NotWritten path) counted was is =
      (is.0, until-next first middle last qs more q n text _ counted was is.1)

  pub stops-next : (first middle last : T) (qs : List Q) (i n : ℕ) (q : Q) (text : List ℕ) (stop : Stop) → i < length qs
      → n ≡ i + 1 → get_or qs i q ≡ q → RanksAll R (take i qs) folder 1 (between first middle) text
      → RankingStops R (q ∷ []) folder n (between middle last) stop
      → RankingStops R qs folder 1 (between first last) stop
  stops-next first middle last qs i n q text stop lt counted at was is =
      let long = length-take-le i qs (omega (arith, lt)) in
      subst (λ (xs : List Q). RankingStops R xs folder 1 (between first last) stop)
      (sym (split_at qs i q lt ∙ ap (λ x. take i qs ++ x ∷ drop (suc i) qs) at))
      (stops-among first middle last (take i qs) (drop (suc i) qs) q n text stop (omega (arith, counted, long)) was is)

-- the rankings stop before a query is ranked
pub stops-before : {Q : Type 0} (R : Q → Papers → Type 0) (q : Q) (folder : Option (List ℕ)) (n : ℕ) (stores : Storing)
    (stop : Stop) (fault : Fault) → stop ≡ Input fault → is_memory fault ≡ true → stores [] None
    → RankingStops R (q ∷ []) folder n stores stop
stops-before R q folder n stores stop fault same memory none =
    subst (λ (s : Stop). RankingStops R (q ∷ []) folder n stores s) (sym same) (
      memory,
      record {
        first = [];
        more = q ∷ [];
        among = refl;
        papers = [];
        ranked = tt;
        put = record { put = []; rest = new_files folder n []; among = refl; fails = tt; stored = none };
      },
    )

-- or after it is
until-after : {Q : Type 0} (R : Q → Papers → Type 0) (q : Q) (folder : Option (List ℕ)) (n : ℕ) (stores : Storing)
    (papers : Papers) (failed : Option NewFile) → R q papers → PutsUntil (new_files folder n (papers ∷ [])) stores failed
    → RanksUntil R (q ∷ []) folder n stores failed
until-after R q folder n stores papers failed is put = record {
  first = q ∷ [];
  more = [];
  among = refl;
  papers = papers ∷ [];
  ranked = (is, tt);
  put = put;
}

pub stops-after : {Q : Type 0} (R : Q → Papers → Type 0) (q : Q) (folder : Option (List ℕ)) (n : ℕ) (stores : Storing)
    (papers : Papers) (stop : Stop) → R q papers → PuttingStops (new_files folder n (papers ∷ [])) stores stop
    → RankingStops R (q ∷ []) folder n stores stop
stops-after R q folder n stores papers (Input fault) is puts =
    (puts.0, until-after R q folder n stores papers None is puts.1)
stops-after R q folder n stores papers (NotWritten path) is puts =
    (puts.0, until-after R q folder n stores papers _ is puts.1)
