use Rattle.std.proofs.Common.{◌≡◌, ℕ, ◌-◌, ◌<◌, true, length, get_or, refl, sym, ap, ◌∙◌, arith}
use Rattle.std.specs.declared.cmp.Ordering.{Ordering}
use Rattle.std.specs.declared.cmp.Ordering.TheVariants.{Less, Equal, Greater}
use Rattle.std.specs.Ordering.{is_lt}
use Rattle.std.proofs.lemmas.List.{get_or_default}
use Rattle.std.proofs.lemmas.List.Sorted.{all_adjacent_more}
use Rattle.ghcn_files.specs.KeptStations.{id_key, key_cmp}
use Rattle.ghcn_files.proofs.keys.do_rise.Goals as goal

-- what is less compares as less
less : (o : Ordering) → is_lt o ≡ true → o ≡ Less
less Less is = refl
less Equal is = absurd cc
less Greater is = absurd cc

-- one key more is above the one before it
pub loop-place-preserved : goal.loop-place-preserved
loop-place-preserved c =
    let keys = c.args.keys.now in
    let place : ℕ = c.loop-place.place in
    let e : ℕ × ℕ × ℕ = (0, 0, 0) in
    let inside : place < length keys = omega arith in
    all_adjacent_more keys (λ a b. key_cmp (id_key a) (id_key b) ≡ Less) place (omega arith) c.loop-place.invariant (λ d.
    ap (λ (x : ℕ × ℕ × ℕ). key_cmp (id_key x) (id_key (get_or keys place d)))
    (get_or_default keys (place - 1) d e (omega arith))
    ∙ ap (λ (x : ℕ × ℕ × ℕ). key_cmp (id_key (get_or keys (place - 1) e)) (id_key x)) (get_or_default keys place d e inside)
    ∙ less _ (sym c.is_below.ensures ∙ c.if-not-is_below.false))
