use Rattle.std.proofs.Common.{◌≡◌, Bool, false, refl, sym, [], ◌∷◌, ap, subst, ◌∙◌}
use Rattle.std.specs.Prelude.{◌&&◌}
use Rattle.std.specs.List.{IsDistinct}
use Rattle.std.specs.Ordering.{int_eq}
use Rattle.ghcn_files.specs.declared.station.StationId.{StationId}
use Rattle.ghcn_files.specs.Meaning.Ids.{same_id}
use Rattle.rank_scores.specs.declared.candidate.Candidate.{Candidate}
use Rattle.rank_scores.specs.Order.{begin_alike, AreApart}
use Rattle.rank_scores.proofs.Examples.{id_a, id_b, id_c}
use Rattle.ranking_tests.proofs.scores.best_of_three_stations.Goals as goal

-- candidates of stations that differ begin apart
other_stations : (x y : Candidate) (i j : StationId) → x.id ≡ i → y.id ≡ j → same_id i j ≡ false
    → begin_alike x y ≡ false
other_stations x y i j e f other =
    ap (λ (k : StationId). same_id k y.id && int_eq x.first y.first) e
    ∙ ap (λ (k : StationId). same_id i k && int_eq x.first y.first) f
    ∙ ap (λ (b : Bool). b && int_eq x.first y.first) other

-- those of the three stations are apart
three_apart : (c b a : Candidate) → c.id ≡ id_c → b.id ≡ id_b → a.id ≡ id_a → AreApart (c ∷ b ∷ a ∷ [])
unfolding IsDistinct
three_apart c b a is_c is_b is_a = (
  (other_stations c b id_c id_b is_c is_b refl, (other_stations c a id_c id_a is_c is_a refl, tt)),
  ((other_stations b a id_b id_a is_b is_a refl, tt), (tt, tt)),
)

-- the three candidates that are put in order are apart
pub best_first-requires : goal.best_first-requires
best_first-requires g c =
    subst AreApart (sym c.in_ok-vec.ensures.items) (three_apart c.in_ok-c.c c.in_ok-b.b c.in_ok-a.a
    c.in_ok-c.ensures c.in_ok-b.ensures c.in_ok-a.ensures)
