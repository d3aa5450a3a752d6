use Rattle.std.proofs.Common.{◌≡◌, ◌∙◌, Bool, true, List, [], ◌∷◌, filter, refl, sym, ap, arith}
use Rattle.ghcn_files.specs.declared.element.Element.{Element}
use Rattle.ghcn_files.specs.declared.element.Keep.{Keep}
use Rattle.ghcn_files.specs.Elements.{is_kept, only}
use Rattle.ghcn_files.proofs.KeptElements.{is_kept-only}
use Rattle.ghcn_series.specs.Meaning.Series.{Series}
use Rattle.ghcn_series.specs.Series.{Data}
use Rattle.ghcn_series.proofs.AllSeries.{same_element-is}
use Rattle.rank_query.specs.Meaning.Asked.{score_element}
use Rattle.rank_scores.proofs.laws.own_element_among_others.Goals as goal

-- among what is kept, the same pass a test with one more that is kept if it passes
filter-cons : (test keeps : Series → Bool) (u : Series) (us : List Series) → (test u ≡ true → keeps u ≡ true)
    → filter test (filter keeps us) ≡ filter test us → filter test (filter keeps (u ∷ us)) ≡ filter test (u ∷ us)
filter-cons test keeps u us h rest = grind arith

-- among what is kept, the same pass a test if all that pass it are kept
filter-filter : (test keeps : Series → Bool) (us : List Series) → ((u : Series) → test u ≡ true → keeps u ≡ true)
    → filter test (filter keeps us) ≡ filter test us
filter-filter test keeps [] h = refl
filter-filter test keeps (u ∷ us) h = filter-cons test keeps u us (h u) (filter-filter test keeps us h)

-- a set with an element keeps the series of that element
kept_among : (keep : Keep) (e : Element) → is_kept keep e ≡ true → (u : Series)
    → is_kept (only e) u.element ≡ true → is_kept keep u.element ≡ true
kept_among keep e has u is =
    ap (is_kept keep) (same_element-is u.element e (sym (is_kept-only e u.element) ∙ is)) ∙ has

-- so the series of that element are the same among those that are kept
pub returns : goal.returns
returns c = λ keep q held has.
    let e = score_element q.score in
    let of : List Series → Data = λ us.
    record { stations = held.stations; series = us; unlisted = held.unlisted } in
    ap of (filter-filter (λ u. is_kept (only e) u.element) (λ u. is_kept keep u.element) held.series
    (kept_among keep e has))
