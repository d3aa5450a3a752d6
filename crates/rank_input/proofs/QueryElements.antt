-- The elements that some queries need.
use Rattle.std.proofs.Common.{◌≡◌, ◌<◌, Bool, true, false, List, [], ◌∷◌, ◌++◌, length, get_or}
use Rattle.std.proofs.Common.{refl, sym, ◌∙◌, arith, length-append}
use Rattle.std.specs.Prelude.{◌||◌}
use Rattle.std.specs.List.{All, Any}
use Rattle.std.proofs.lemmas.Bool.{or_left, or_right}
use Rattle.std.proofs.lemmas.List.{get_or_append_left}
use Rattle.std.proofs.lemmas.List.Elements.{All-push}
use Rattle.std.proofs.lemmas.List.Quantifiers.{Any-push}
use Rattle.ghcn_files.specs.declared.element.Element.{Element}
use Rattle.ghcn_files.specs.declared.element.Element.TheVariants.{Prcp, Snow, Snwd, Tmax, Tmin}
use Rattle.ghcn_files.specs.declared.element.Keep.{Keep}
use Rattle.ghcn_files.specs.Elements.{same_element, is_kept, with_one}
use Rattle.ghcn_series.proofs.AllSeries.{same_element-is}
use Rattle.rank_query.specs.Meaning.Asked.{Query, score_element}

-- some query is about an element
abbrev pub IsAsked : Element → List Query → Type 0
IsAsked e qs = Any (λ q. score_element q.score ≡ e) qs

-- a set has the element of each query, and no other
pub record HasNeeded (qs : List Query) (keep : Keep) : Type 0 where
  pub own : All (λ q. is_kept keep (score_element q.score) ≡ true) qs
  pub no_other : (e : Element) → is_kept keep e ≡ true → IsAsked e qs

-- a set with one element more has that one and its own
is_kept-with_one : (keep : Keep) (e f : Element) → is_kept (with_one keep e) f ≡ (same_element f e || is_kept keep f)
is_kept-with_one keep e Prcp = refl
is_kept-with_one keep e Snow = refl
is_kept-with_one keep e Snwd = refl
is_kept-with_one keep e Tmax = refl
is_kept-with_one keep e Tmin = refl

-- an element is the same as itself
same_element-refl : (e : Element) → same_element e e ≡ true
same_element-refl Prcp = refl
same_element-refl Snow = refl
same_element-refl Snwd = refl
same_element-refl Tmax = refl
same_element-refl Tmin = refl

-- what some queries are about, they are about with one more
asked-push : (e : Element) (qs : List Query) (q : Query) → IsAsked e qs → IsAsked e (qs ++ q ∷ [])
asked-push e qs q some =
    let within : some.0 < length (qs ++ q ∷ []) = omega (arith, some.2, length-append qs (q ∷ [])) in
    (some.0, some.1, within, get_or_append_left qs (q ∷ []) some.1 some.0 some.2 ∙ some.3, some.4)

-- one query more needs its element too
pub needed-push : (qs : List Query) (q : Query) (keep : Keep) → HasNeeded qs keep
    → HasNeeded (qs ++ q ∷ []) (with_one keep (score_element q.score))
needed-push qs q keep h = record {
  own = All-push (λ p. is_kept (with_one keep own) (score_element p.score) ≡ true) qs q
      (λ k d lt. has_old (score_element (get_or qs k d).score) (h.own k d lt))
      (is_kept-with_one keep own own ∙ or_left (same_element own own) (is_kept keep own) (same_element-refl own));
  no_other = λ f has. by_same f (same_element f own) refl (sym (is_kept-with_one keep own f) ∙ has);
}
  where
    own : Element
    own = score_element q.score

    has_old : (f : Element) → is_kept keep f ≡ true → is_kept (with_one keep own) f ≡ true
    has_old f has = is_kept-with_one keep own f ∙ or_right (same_element f own) (is_kept keep f) has

    by_same : (f : Element) (same : Bool) → same_element f own ≡ same → (same_element f own || is_kept keep f) ≡ true
        → IsAsked f (qs ++ q ∷ [])
    by_same f true is has = Any-push (λ p. score_element p.score ≡ f) qs q (sym (same_element-is f own is))
    by_same f false is has =
        let was : is_kept keep f ≡ true = rw is at has in asked-push f qs q (h.no_other f was)
