use Rattle.std.proofs.Common.{◌≡◌, ℕ, ◌+◌, ◌<◌, List, [], ◌∷◌, ◌++◌, length, take, get_or, sym, ap, ◌∙◌, subst, arith}
use Rattle.std.proofs.Common.{append_assoc, append-nil, FitsSigned, w64}
use Rattle.std.specs.List.{flat_map}
use Rattle.std.proofs.lemmas.Grind.{flat_map-append}
use Rattle.std.proofs.lemmas.List.{take_more, length-take-le}
use Rattle.rank_sched.proofs.Lists.{each-append}
use Rattle.rank_papers.specs.declared.counted.Counted.{Counted}
use Rattle.rank_papers.specs.Meaning.Certificate.{entry_line}
use Rattle.rank_papers.specs.Certificate.{Line, AreInRange, counted}
use Rattle.rank_papers.proofs.Counts.{counted-more}
use Rattle.rank_papers.proofs.certificate_text.push_lines.Goals as goal

-- entries and counts up to one more
counted-to : (es : List Line) (ns : List ℕ) (i : ℕ) (e : Line) (n : ℕ) → length ns ≡ length es → i < length es
    → counted (take (i + 1) es) (take (i + 1) ns)
    ≡ counted (take i es) (take i ns) ++ record { entry = get_or es i e; count = get_or ns i n } ∷ []
counted-to es ns i e n h below =
    ap (λ (xs : List Line). counted xs (take (i + 1) ns)) (take_more es i e below)
    ∙ ap (counted (take i es ++ get_or es i e ∷ [])) (take_more ns i n (omega (arith, h)))
    ∙ counted-more (take i es) (take i ns) (get_or es i e) (get_or ns i n)
    (length-take-le i ns (omega (arith, h)) ∙ sym (length-take-le i es (omega arith)))

-- the line of one entry more, with its count
text-more : (es : List Line) (ns : List ℕ) (i : ℕ) (e : Line) (n : ℕ) (before paper : List ℕ)
    → length ns ≡ length es → i < length es
    → paper ≡ before ++ flat_map (entry_line 2) (counted (take i es) (take i ns))
    → paper ++ entry_line 2 (record { entry = get_or es i e; count = get_or ns i n })
    ≡ before ++ flat_map (entry_line 2) (counted (take (i + 1) es) (take (i + 1) ns))
text-more es ns i e n before paper many below h =
    let l : Counted = record { entry = get_or es i e; count = get_or ns i n } in
    let line : List ℕ = entry_line 2 l in
    let ls : List Counted = counted (take i es) (take i ns) in
    let lines : List ℕ = flat_map (entry_line 2) ls in
    let more : lines ++ line ≡ flat_map (entry_line 2) (counted (take (i + 1) es) (take (i + 1) ns)) =
    ap (λ (t : List ℕ). lines ++ t) (sym (append-nil line))
    ∙ sym (flat_map-append (entry_line 2) ls (l ∷ []))
    ∙ ap (flat_map (entry_line 2)) (sym (counted-to es ns i e n many below)) in
    ap (λ (p : List ℕ). p ++ line) h ∙ append_assoc before lines line ∙ ap (λ (t : List ℕ). before ++ t) more

-- one entry more in range
in_range-more : (es : List Line) (i : ℕ) (e : Line) → i < length es → AreInRange (take i es)
    → FitsSigned w64 (get_or es i e).bound → AreInRange (take (i + 1) es)
in_range-more es i e below h fits =
    subst AreInRange (sym (take_more es i e below))
    (each-append (λ (x : Line). FitsSigned w64 x.bound) (take i es) (get_or es i e ∷ []) h (fits, tt))

-- one line more
pub loop-place-preserved : goal.loop-place-preserved
loop-place-preserved c = record {
  text = c.in_ok-push_line.ensures.text
      ∙ text-more c.args.lines.now c.args.counts.now c.loop-place.place _ _ c.args.paper.now.items
      c.loop-place.paper.items c.requires c.loop-place-test.true c.loop-place.invariant.text;
  fits = in_range-more c.args.lines.now c.loop-place.place _ c.loop-place-test.true c.loop-place.invariant.fits
      c.in_ok-push_line.ensures.fits;
}
