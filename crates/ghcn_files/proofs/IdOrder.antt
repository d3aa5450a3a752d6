-- Things with IDs, by increasing ID: of things of different stations there is one such list.
use Rattle.std.proofs.Common.{◌≡◌, Bool, true, List, refl, sym, ap, ◌∙◌, subst}
use Rattle.std.specs.List.{IsDistinct}
use Rattle.std.specs.List.Sorted.{IsPermutation, IsSortedBy}
use Rattle.std.specs.Cmp.{IsTotalOrder, IsStrictWeakOrder}
use Rattle.std.specs.Cmp.Lexicographic.{slice_cmp}
use Rattle.std.specs.Ordering.{is_lt, is_le, is_eq, nat_cmp}
use Rattle.std.specs.declared.cmp.Ordering.{Ordering}
use Rattle.std.specs.declared.cmp.Ordering.TheVariants.{Equal}
use Rattle.std.proofs.lemmas.Cmp.{nat_list_cmp_total, on_total}
use Rattle.std.proofs.lemmas.List.{map-id}
use Rattle.std.proofs.lemmas.List.Sorted.{ranks_by, IsPermutation-trans}
use Rattle.std.proofs.lemmas.Map.Text.{is_eq-slice_cmp}
use Rattle.ghcn_fields.specs.Sorting.{sorted_by}
use Rattle.ghcn_files.specs.declared.station.StationId.{StationId}
use Rattle.ghcn_files.specs.Meaning.Ids.{same_id}
use Rattle.ghcn_files.proofs.IdLaws.{same_id-turned}
use Rattle.ghcn_files.proofs.Ordered as ordered

module _ {X : Type 0} (id_of : X → StationId) where
  -- the order by ID
  abbrev pub id_cmp : X → X → Ordering
  id_cmp a b = slice_cmp nat_cmp (id_of a).0 (id_of b).0

  -- it is total
  pub id_total : IsTotalOrder id_cmp
  id_total = on_total (λ x. (id_of x).0) nat_list_cmp_total

  -- one whose ID comes before another's, or is the same
  abbrev pub comes_first : X → X → Bool
  comes_first a b = is_le (id_cmp a b)

  -- two belong to one station
  abbrev pub same_station : X → X → Bool
  same_station a b = same_id (id_of a) (id_of b)

  -- which of two is named first makes no difference
  pub same_station-turned : (a b : X) → same_station a b ≡ same_station b a
  same_station-turned a b = same_id-turned (id_of a) (id_of b)

  -- whether they are, by that order
  pub same_by : (a b : X) (o : Ordering) → id_cmp a b ≡ o → same_station a b ≡ is_eq o
  same_by a b o e = sym (is_eq-slice_cmp (id_of a).0 (id_of b).0) ∙ ap is_eq e

  -- those that tie belong to one station
  pub tied_same : (a b : X) → id_cmp a b ≡ Equal → same_station a b ≡ true
  tied_same a b = same_by a b Equal

  -- one is strictly before another
  abbrev pub strictly : X → X → Bool
  strictly a b = is_lt (id_cmp a b)

  -- that is an order
  pub strictly_ranks : IsStrictWeakOrder strictly
  strictly_ranks = ranks_by nat_list_cmp_total (λ x. (id_of x).0)

  -- of things of different stations there is one list in the order of IDs
  one_by_id : (xs ys : List X) → IsDistinct same_station xs → IsPermutation xs ys
      → ordered.InTurn id_cmp id_total comes_first (λ a b. refl) ys → ys ≡ sorted_by comes_first xs
  one_by_id = ordered.one_order id_cmp id_total comes_first (λ a b. refl) same_station same_station-turned tied_same

  -- a sort by ID returns that list
  pub one_sort : (xs ys : List X) → IsDistinct same_station xs → IsPermutation xs ys → IsSortedBy strictly ys
      → ys ≡ sorted_by comes_first xs
  one_sort xs ys d p up = one_by_id xs ys d p
      (subst (ordered.InTurn id_cmp id_total comes_first (λ a b. refl)) (map-id ys)
      (ordered.sort-in_turn id_cmp id_total comes_first (λ a b. refl) (λ x. x) ys up))

  -- and so does a sort of another list of them
  pub same_sort : (xs ys : List X) → IsDistinct same_station xs → IsPermutation xs ys
      → sorted_by comes_first ys ≡ sorted_by comes_first xs
  same_sort xs ys d p = one_by_id xs (sorted_by comes_first ys) d
      (IsPermutation-trans xs ys (sorted_by comes_first ys) p (ordered.sorted-permutation comes_first ys))
      (ordered.sorted-in_turn id_cmp id_total comes_first (λ a b. refl) ys)

  -- in it each has an ID before those of all after it
  pub sorted-rise : (xs : List X) → IsDistinct same_station xs
      → ordered.Descend (λ a b. strictly a b ≡ true) (sorted_by comes_first xs)
  sorted-rise = ordered.sorted-rise id_cmp id_total comes_first (λ a b. refl) same_station same_station-turned tied_same
