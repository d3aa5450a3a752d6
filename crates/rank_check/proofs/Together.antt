-- What was found of some series, and then of others.
use Rattle.std.proofs.Common.{◌≡◌, ℕ, ◌+◌, ◌<◌, ◌≤◌, List, [], ◌∷◌, ◌++◌, length, map, get_or, inl, inr, refl, sym, ap}
use Rattle.std.proofs.Common.{◌∙◌, arith, set, take, drop, if◌then◌else◌}
use Rattle.std.proofs.lemmas.List.{map-append, take-append-drop, ext_get_or, get_or-map, length-map, length-set, get_or_default}
use Rattle.std.proofs.lemmas.List.{get_or-set_same, get_or-set_other, nil_from_length}
use Rattle.std.proofs.lemmas.List.Folds.{list_any-append}
use Rattle.std.proofs.lemmas.List.Sums.{sum_by-append}
use Rattle.std.proofs.lemmas.Grind.{flat_map-append}
use Rattle.std.proofs.lemmas.Bool.{cases_eq}
use Rattle.std.specs.Ordering.{is_eq}
use Rattle.ghcn_series.specs.Meaning.Series.{Series}
use Rattle.ghcn_series.specs.Says.{in_64_bits}
use Rattle.rank_query.specs.Meaning.Asked.{Query}
use Rattle.rank_scores.specs.declared.candidate.Candidate.{Candidate}
use Rattle.rank_scores.specs.Candidates.{candidates}
use Rattle.rank_scores.specs.Meaning.Order.{precedes}
use Rattle.rank_scores.specs.Order.{full_cmp, rank_in}
use Rattle.rank_check.specs.declared.tally.Met.{Met}
use Rattle.rank_check.specs.Survey.{met, met_both, candidates_in}

-- sums that stay within 64 bits
pub both-counts : (a b : ℕ) → in_64_bits (in_64_bits a + in_64_bits b) ≡ in_64_bits (a + b)
both-counts a b = omega arith

-- a row against the candidates of both
met-both : (cs ds : List Candidate) (c : Candidate) → met_both (met cs c) (met ds c) ≡ met (cs ++ ds) c
met-both cs ds c =
    let present = sym (list_any-append (λ x. is_eq (full_cmp x c)) cs ds) in
    let number : rank_in cs c + rank_in ds c ≡ rank_in (cs ++ ds) c =
    sym (sum_by-append (λ x. if precedes x c then 1 else 0) cs ds) in
    let ahead = both-counts (rank_in cs c) (rank_in ds c) ∙ ap in_64_bits number in
    λ i. record { candidate = c; present = present i; ahead = ahead i }

-- the first rows have what is known from both, and the others what was known
pub record AreBoth (old others new : List Met) (place : ℕ) : Type 0 where
  pub long : length new ≡ length old
  pub done : (k : ℕ) (d : Met) → k < place → k < length old → get_or new k d ≡ met_both (get_or old k d) (get_or others k d)
  pub left : (k : ℕ) (d : Met) → place ≤ k → get_or new k d ≡ get_or old k d

-- none has yet
pub none_both : (old others : List Met) → AreBoth old others old 0
none_both old others = record {
  long = refl;
  done = λ k d lt within. absurd (omega (arith, lt));
  left = λ k d le. refl;
}

-- one row more
pub one_both : (old others new : List Met) (place : ℕ) (m other now : Met) → AreBoth old others new place
    → place < length new → length others ≡ length old → m ≡ get_or new place m → other ≡ get_or others place other
    → now ≡ met_both m other → AreBoth old others (set new place now) (place + 1)
one_both old others new place m other now is within same at there made = record {
  long = length-set new place now ∙ is.long;
  done = λ k d lt inside. elim (cases_eq k place) [
    | inl here ↦
        let first : m ≡ get_or old k d =
        at ∙ is.left place m (omega arith) ∙ get_or_default old place m d (omega (arith, inside, here))
        ∙ ap (λ (i : ℕ). get_or old i d) (sym here) in
        let second : other ≡ get_or others k d =
        there ∙ get_or_default others place other d (omega (arith, inside, here, same))
        ∙ ap (λ (i : ℕ). get_or others i d) (sym here) in
        ap (λ (i : ℕ). get_or (set new place now) i d) here ∙ get_or-set_same new place now d within ∙ made
        ∙ ap (λ (x : Met). met_both x other) first ∙ ap (λ (x : Met). met_both (get_or old k d) x) second
    | inr apart ↦ get_or-set_other new place k now d apart ∙ is.done k d (omega (arith, lt, apart)) inside
  ];
  left = λ k d le.
      get_or-set_other new place k now d (λ e. omega (arith, le, e)) ∙ is.left k d (omega (arith, le));
}

-- all rows
pub all_both : (cs ds rows : List Candidate) (old others new : List Met) (place : ℕ) → AreBoth old others new place
    → length old ≤ place → old ≡ map (met cs) rows → others ≡ map (met ds) rows → new ≡ map (met (cs ++ ds)) rows
all_both cs ds [] old others new place is end first second = nil_from_length new (is.long ∙ ap length first)
all_both cs ds (r ∷ rs) old others new place is end first second =
    let rows : List Candidate = r ∷ rs in
    let d : Met = met [] r in
    let many : length old ≡ length rows = ap length first ∙ length-map rows (met cs) in
    ext_get_or d new (map (met (cs ++ ds)) rows) (is.long ∙ many ∙ sym (length-map rows (met (cs ++ ds)))) (λ k lt.
    let within : k < length rows = omega (arith, lt, is.long, many) in
    let row : Candidate = get_or rows k r in
    is.done k d (omega (arith, lt, is.long, end)) (omega (arith, lt, is.long))
    ∙ ap (λ (x : Met). met_both x (get_or others k d))
    (ap (λ (l : List Met). get_or l k d) first ∙ get_or-map (met cs) rows k r d within)
    ∙ ap (λ (x : Met). met_both (met cs row) x)
    (ap (λ (l : List Met). get_or l k d) second ∙ get_or-map (met ds) rows k r d within)
    ∙ met-both cs ds row ∙ sym (get_or-map (met (cs ++ ds)) rows k r d within))

-- the candidates of all series
pub candidates-both : (q : Query) (ss us : List Series)
    → candidates_in q ss ++ candidates_in q us ≡ candidates_in q (ss ++ us)
candidates-both q ss us = sym (flat_map-append (candidates q) ss us)

-- what is made of two parts of a list
pub map_parts : {A B : Type 0} (f : A → B) (n : ℕ) (front back all : List A) → front ≡ take n all → back ≡ drop n all
    → map f front ++ map f back ≡ map f all
map_parts f n front back all is_front is_back =
    sym (map-append f front back)
    ∙ ap (map f) (ap (λ l. l ++ back) is_front ∙ ap (λ l. take n all ++ l) is_back ∙ take-append-drop n all)
