-- What names stand for, one after the other.
use Rattle.std.proofs.Common.{◌≡◌, ℕ, zero, suc, ◌+◌, ◌<◌, ◌≤◌, List, [], ◌∷◌, ◌++◌, length, map, take, drop, get_or}
use Rattle.std.proofs.Common.{inl, inr, refl, sym, ap, ◌∙◌, subst, append_assoc, add-one, arith}
use Rattle.std.specs.Prelude.{Bool, true, Option, None, Some}
use Rattle.std.specs.List.{flat_map, AllZip}
use Rattle.std.proofs.lemmas.List.{append-nil, map-append}
use Rattle.std.proofs.lemmas.Grind.{flat_map-append}
use Rattle.rank_input.specs.declared.named.NotNamed.{NotNamed}
use Rattle.rank_input.specs.declared.named.NotNamed.TheVariants.{Unreadable, Empty, NotText, Memory}
use Rattle.rank_input.specs.Feeding.{AreAllOf, Opening}
use Rattle.rank_input.specs.declared.archive.Place.{Place}
use Rattle.rank_input.specs.declared.archive.Place.TheVariants.{Folder}
use Rattle.rank_input.specs.Named.{Text, Known, StandsFor, AllStandFor, AddsNamed, IsFolderOf, AreDailyIn, IsPlaceOf}
use Rattle.rank_input.specs.Named.{AreListed, list_path, names_in}
use Rattle.rank_input.specs.NamingStops.{IsNothing, StopsAmong, StopsAfterWords, StopsNaming}

-- ---- a list, cut at one of its elements

module _ {X : Type 0} where
  -- what comes before a place, what is there, and what follows it
  pub cut : (xs : List X) (i : ℕ) (d : X) → i < length xs → xs ≡ take i xs ++ get_or xs i d ∷ drop (suc i) xs
  cut [] i d lt = absurd (omega arith)
  cut (x ∷ xs) zero d lt = refl
  cut (x ∷ xs) (suc i) d lt = ap (λ (ys : List X). x ∷ ys) (cut xs i d (omega arith))

  -- what comes before an element, the element, and what follows it
  pub cut-at : (xs : List X) (i : ℕ) (x : X) → i < length xs → get_or xs i x ≡ x
      → xs ≡ take i xs ++ x ∷ drop (suc i) xs
  cut-at xs i x lt at = cut xs i x lt ∙ ap (λ y. take i xs ++ y ∷ drop (suc i) xs) at

  first-more : (xs : List X) (i : ℕ) (d : X) → i < length xs → take (suc i) xs ≡ take i xs ++ get_or xs i d ∷ []
  first-more [] i d lt = absurd (omega arith)
  first-more (x ∷ xs) zero d lt = refl
  first-more (x ∷ xs) (suc i) d lt = ap (λ (ys : List X). x ∷ ys) (first-more xs i d (omega arith))

  -- the first are all
  pub first-all : (xs : List X) (i : ℕ) → length xs ≤ i → take i xs ≡ xs
  first-all [] zero le = refl
  first-all [] (suc i) le = refl
  first-all (x ∷ xs) zero le = absurd (omega arith)
  first-all (x ∷ xs) (suc i) le = ap (λ (ys : List X). x ∷ ys) (first-all xs i (omega arith))

  module _ {Y : Type 0} (f : X → Y) where
    -- one more than the first
    pub first-next : (xs : List X) (i : ℕ) (x : X) → i < length xs → get_or xs i x ≡ x
        → map f (take (i + 1) xs) ≡ map f (take i xs) ++ f x ∷ []
    first-next xs i x lt at = ap (λ k. map f (take k xs)) (add-one i)
        ∙ ap (λ (ys : List X). map f ys) (first-more xs i x lt ∙ ap (λ y. take i xs ++ y ∷ []) at)
        ∙ map-append f (take i xs) (x ∷ [])

    -- what comes before an element of another list
    pub cut-map : (xs : List X) (i : ℕ) (x : X) → i < length xs → get_or xs i x ≡ x
        → map f xs ≡ map f (take i xs) ++ f x ∷ map f (drop (suc i) xs)
    cut-map xs i x lt at = ap (λ (ys : List X). map f ys) (cut-at xs i x lt at)
        ∙ map-append f (take i xs) (x ∷ drop (suc i) xs)

-- ---- what paths stand for

-- what is known of a folder is what its path stands for
pub folder-stands : (known : Known) (path : Text) (part : List Text) → IsFolderOf known path part
    → StandsFor known path part
folder-stands None path part is = inr is
folder-stands (Some None) path part is = absurd is.there
folder-stands (Some (Some names)) path part is = subst (λ (t : Text). AreDailyIn path t part) is.there is.daily

-- what isn't a folder stands for itself
pub file-stands : (known : Known) (place : Place) (path : Text) → IsPlaceOf known place → (place ≡ Folder → ⊥)
    → StandsFor known path (path ∷ [])
file-stands None place path is other = inl refl
file-stands (Some None) place path is other = refl
file-stands (Some (Some names)) place path is other = absurd (other is)

-- what isn't a value is none
pub none-left : {X : Type 0} (o : Option X) → ((x : X) → o ≡ Some x → ⊥) → o ≡ None
none-left None others = refl
none-left (Some x) others = absurd (others x refl)

-- the names of a list, by the bytes that were read of its path
pub are-listed : (bytes_of : Text → Option Text) (opens : Opening) (null : Bool) (list path text read : Text)
    (names : List Text) → path ≡ list_path list → text ≡ read → AreAllOf (bytes_of path) read → opens path true
    → names ≡ names_in null text → AreListed bytes_of opens null list names
are-listed bytes_of opens null list path text read names at same whole opened is = record {
  text = read;
  whole = subst (λ (t : Text). AreAllOf (bytes_of t) read) at whole;
  opened = subst (λ (t : Text). opens t true) at opened;
  is = is ∙ ap (names_in null) same;
}

module _ (names_of : Text → Known) where
  -- what a path stands for, by what is known of it
  abbrev Stands : Text → List Text → Type 0
  Stands path part = StandsFor (names_of path) path part

  -- no names stand for no files
  stand-none : AllStandFor names_of [] []
  stand-none = record { parts = []; each = tt; all = refl }

  each-both : (xs ys : List Text) (ps qs : List (List Text)) → AllZip Stands xs ps → AllZip Stands ys qs
      → AllZip Stands (xs ++ ys) (ps ++ qs)
  each-both [] ys [] qs was is = is
  each-both [] ys (p ∷ ps) qs was is = absurd was
  each-both (x ∷ xs) ys [] qs was is = absurd was
  each-both (x ∷ xs) ys (p ∷ ps) qs was is = (was.0, each-both xs ys ps qs was.1 is)

  -- names stand for files, and then others for others
  stand-both : (xs ys first more : List Text) → AllStandFor names_of xs first → AllStandFor names_of ys more
      → AllStandFor names_of (xs ++ ys) (first ++ more)
  stand-both xs ys first more was is = record {
    parts = was.parts ++ is.parts;
    each = each-both xs ys was.parts is.parts was.each is.each;
    all = ap (λ (ts : List Text). ts ++ more) was.all ∙ ap (λ (ts : List Text). flat_map (λ p. p) was.parts ++ ts) is.all
        ∙ sym (flat_map-append (λ (p : List Text). p) was.parts is.parts);
  }

  -- no names add nothing
  pub adds-none : (old : List Text) → AddsNamed names_of [] old old
  adds-none old = record { part = []; stand = stand-none; added = sym (append-nil old) }

  -- one name adds what it stands for
  pub adds-one : (name : Text) (part old new : List Text) → Stands name part → new ≡ old ++ part
      → AddsNamed names_of (name ∷ []) old new
  adds-one name part old new is added = record {
    part = part;
    stand = record { parts = part ∷ []; each = (is, tt); all = sym (append-nil part) };
    added = added;
  }

  -- names add files, and then others add others
  pub adds-both : (all xs ys old mid new : List Text) → all ≡ xs ++ ys → AddsNamed names_of xs old mid
      → AddsNamed names_of ys mid new → AddsNamed names_of all old new
  adds-both all xs ys old mid new same was is = record {
    part = was.part ++ is.part;
    stand = subst (λ (ts : List Text). AllStandFor names_of ts (was.part ++ is.part)) (sym same)
        (stand-both xs ys was.part is.part was.stand is.stand);
    added = is.added ∙ ap (λ (ts : List Text). ts ++ is.part) was.added ∙ append_assoc old was.part is.part;
  }

  -- what is added to nothing is all
  pub adds-all : (named paths : List Text) → AddsNamed names_of named [] paths → AllStandFor names_of named paths
  adds-all named paths is = subst (AllStandFor names_of named) (sym is.added) is.stand

  module _ (opens : Opening) where
    -- names stand for files until one stands for nothing
    pub stops-after : (named before after : List Text) (name : Text) (why : NotNamed) (old new : List Text)
        → named ≡ before ++ name ∷ after → AddsNamed names_of before old new → IsNothing opens names_of name why
        → StopsAmong opens names_of named why
    stops-after named before after name why old new among was is = record {
      before = before;
      name = name;
      after = after;
      among = among;
      paths = was.part;
      stood = was.stand;
      fails = is;
    }

    module _ (bytes_of : Text → Option Text) (null : Bool) where
      -- a word stands for nothing
      pub stops-at-word : (list : Option Text) (words : List Text) (why : NotNamed)
          → StopsAmong opens names_of words why
          → StopsNaming bytes_of opens names_of null list words why
      stops-at-word list words (Unreadable at) is = inl is
      stops-at-word list words (Empty at) is = inl is
      stops-at-word list words (NotText at) is = inl is
      stops-at-word list words Memory is = tt

      -- words stand for files, and then naming stops in the list
      pub stops-after-words : (list : Option Text) (words : List Text) (why : NotNamed)
          → StopsAfterWords bytes_of opens names_of null list words why
          → StopsNaming bytes_of opens names_of null list words why
      stops-after-words list words (Unreadable at) is = inr is
      stops-after-words list words (Empty at) is = inr is
      stops-after-words list words (NotText at) is = inr is
      stops-after-words list words Memory is = tt
