-- Parts that are read one after the other.
use Rattle.rank_merge.proofs.Cited.{◌≡◌, ℕ, suc, ◌+◌, ◌<◌, List, [], ◌∷◌, ◌++◌, length, map, Result, Ok, Err, Bool}
use Rattle.rank_merge.proofs.Cited.{true, false, take, drop, get_or, refl, ap, ◌∙◌, arith, ap₂, map-append, length-map}
use Rattle.rank_merge.proofs.Cited.{length-take, map_more, drop_more, take-append-drop, flat_map_more, IsRefusal, Query}
use Rattle.rank_merge.proofs.Cited.{named_in, Line, MergeFault, Part, rows_of, first_rows, Texts, part_of, and_parts}
use Rattle.rank_merge.proofs.Cited.{parts_from, is_memory, AreOfParts, IsFloor, part_in, ints}
use Rattle.std.specs.Bool.{OnFalse}
use Rattle.rank_merge.specs.declared.gathering.Gathered.{Gathered}
use Rattle.rank_merge.specs.declared.part.Papers.{Papers}
use Rattle.rank_merge.proofs.FirstRows.{same_firsts}
use Rattle.rank_merge.proofs.Orders.{named_cmp, named_total}

-- ---- what was read before

-- parts, and then others
abbrev then_parts : Result (List Part) MergeFault → Result (List Part) MergeFault → Result (List Part) MergeFault
then_parts (Err why) qs = Err why
then_parts (Ok ps) (Err why) = Err why
then_parts (Ok ps) (Ok qs) = Ok (ps ++ qs)

-- none, and then others
then-none : (r : Result (List Part) MergeFault) → r ≡ then_parts (Ok []) r
then-none (Ok qs) = refl
then-none (Err why) = refl

-- one more in front of both
then-one : (o : Result Part MergeFault) (r s : Result (List Part) MergeFault)
    → and_parts o (then_parts r s) ≡ then_parts (and_parts o r) s
then-one (Err why) r s = refl
then-one (Ok p) (Err why) s = refl
then-one (Ok p) (Ok ps) (Err why) = refl
then-one (Ok p) (Ok ps) (Ok qs) = refl

module _ (q : Query) where
  -- what is read of texts, and then of others
  parts_from-append : (n : ℕ) (ts us : List Texts)
      → parts_from q n (ts ++ us) ≡ then_parts (parts_from q n ts) (parts_from q (n + length ts) us)
  parts_from-append n [] us =
      let same : n ≡ n + 0 = omega arith in
      then-none (parts_from q n us) ∙ ap (λ (m : ℕ). then_parts (Ok []) (parts_from q m us)) same
  parts_from-append n (t ∷ ts) us =
      let same : suc n + length ts ≡ n + length (t ∷ ts) = omega arith in
      ap (and_parts (part_of q n t)) (parts_from-append (suc n) ts us)
      ∙ then-one (part_of q n t) (parts_from q (suc n) ts) (parts_from q (suc n + length ts) us)
      ∙ ap (λ (m : ℕ). then_parts (parts_from q n (t ∷ ts)) (parts_from q m us)) same

  -- a part after parts that were read
  part_behind : (ts us : List Texts) (t : Texts) (ps : List Part) (n : ℕ) (o : Result Part MergeFault)
      → parts_from q 1 ts ≡ Ok ps → 1 + length ts ≡ n → part_of q n t ≡ o
      → parts_from q 1 (ts ++ t ∷ us) ≡ then_parts (Ok ps) (and_parts o (parts_from q (suc n) us))
  part_behind ts us t ps n o e at is =
      parts_from-append 1 ts (t ∷ us) ∙ ap₂ then_parts e (ap (λ (m : ℕ). parts_from q m (t ∷ us)) at
      ∙ ap (λ (x : Result Part MergeFault). and_parts x (parts_from q (suc n) us)) is)

-- ---- parts of a list of other things

-- what follows of a fact follows if memory didn't run out
pub unless_memory : {P Q : Type 0} (b : Bool) → (P → Q) → OnFalse b P → OnFalse b Q
unless_memory true f h = h
unless_memory false f h = f h

module _ {X : Type 0} (q : Query) (f : X → Texts) (xs : List X) (i : ℕ) (d : X) (below : i < length xs) where
  -- that many are made of those before a place
  number_before : 1 + length (map f (take i xs)) ≡ i + 1
  number_before = omega (arith, length-map (take i xs) f, length-take i xs, below)

  -- all are those before a place, the one at it and those after it
  all_around : map f xs ≡ map f (take i xs) ++ f (get_or xs i d) ∷ map f (drop (i + 1) xs)
  all_around = grind (arith, ints, take-append-drop i xs, map-append f (take i xs) (drop i xs), drop_more xs i d below)

  -- one more part was read
  pub gathered_next : (papers : Papers) (old new : Gathered) → AreOfParts q (map f (take i xs)) old
      → part_of q (i + 1) (f (get_or xs i d)) ≡ Ok (part_in papers)
      → first_rows q.k (map named_in new.rows.items)
      ≡ first_rows q.k (map named_in old.rows.items ++ map named_in papers.report.rows.items)
      → IsFloor q.k (map named_in new.rows.items) new.floor
      → new.lines.items ≡ old.lines.items ++ papers.certificate.lines.items
      → AreOfParts q (map f (take (i + 1) xs)) new
  gathered_next papers old new h read rows floor lines =
      let p : Part = part_in papers in
      record {
        parts = h.parts ++ p ∷ [];
        read = ap (parts_from q 1) (map_more f xs i d below)
            ∙ part_behind q (map f (take i xs)) [] (f (get_or xs i d)) h.parts (i + 1) (Ok p) h.read number_before read;
        rows = rows
            ∙ same_firsts named_cmp named_total q.k (map named_in old.rows.items) (rows_of h.parts) p.report.rows h.rows
            ∙ ap (first_rows q.k) (flat_map_more (λ (x : Part). x.report.rows) [] h.parts p);
        floor = floor;
        lines = lines ∙ ap (λ (l : List Line). l ++ p.certificate.entries) h.lines
            ∙ flat_map_more (λ (x : Part). x.certificate.entries) [] h.parts p;
      }

  -- a part that is refused refuses all
  pub refused_at : (old : Gathered) (why : MergeFault) → AreOfParts q (map f (take i xs)) old
      → IsRefusal is_memory why (part_of q (i + 1) (f (get_or xs i d)))
      → IsRefusal is_memory why (parts_from q 1 (map f xs))
  refused_at old why h refused =
      unless_memory (is_memory why) (λ (e : part_of q (i + 1) (f (get_or xs i d)) ≡ Err why).
      ap (parts_from q 1) all_around ∙ part_behind q (map f (take i xs)) (map f (drop (i + 1) xs)) (f (get_or xs i d))
      h.parts (i + 1) (Err why) h.read number_before e) refused
