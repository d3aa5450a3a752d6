use Rattle.ghcn_series.proofs.Cited.{arith, ◌≡◌, ◌+◌, ◌-◌, ◌++◌, [], ◌∷◌, length, take, drop, get_or, sym, ap, subst₂}
use Rattle.ghcn_series.proofs.Cited.{◌∙◌, ◌==◌, ◌&&◌, Bool, take_more, take_all, is_blank, BeginAlike}
use Rattle.std.proofs.lemmas.List.{length-drop}
use Rattle.ghcn_series.proofs.AlikeBeginnings.{begin-kept}
use Rattle.ghcn_series.proofs.beginning.shorten.Goals as goal
use Rattle.ghcn_series.proofs.beginning.shorten.Goals.{then-is_blank, else-is_blank}

-- what is kept is like all of it
pub returns-clause-kept : goal.returns-clause-kept
returns-clause-kept c =
    let rest = c.args.rest.now.items in let bytes = c.args.bytes.now in
    let before = length bytes - 1 in let last = get_or bytes before 0 in
    let whole : bytes ≡ take before bytes ++ last ∷ [] =
    sym (take_all (before + 1) bytes (omega (arith, c.requires.some)))
    ∙ take_more bytes before 0 (omega (arith, c.requires.some)) in
    let behind : take (length c.deref.result.now - 269) (drop 269 c.deref.result.now) ≡ drop 269 rest =
    take_all (length c.deref.result.now - 269) (drop 269 c.deref.result.now)
    (omega (arith, length-drop 269 c.deref.result.now)) ∙ ap (λ xs. drop 269 xs) c.deref.ensures.value in
    let both : (c.is_blank.result && is_blank (take before bytes)) ≡ c.if-is_blank.only_blanks =
    elim c.if-is_blank.branch [
      | then-is_blank w ↦ rw w.if-is_blank.true (sym w.is_blank-only_blanks.ensures ∙ sym w.only_blanks-is)
      | else-is_blank w ↦ rw w.if-is_blank.false (sym w.if-is_blank.false ∙ sym w.only_blanks-is)
    ] in
    let blank : (is_blank (drop 269 rest) && is_blank (take before bytes)) ≡ (c.byte_for.result == 32) =
    ap (λ (t : Bool). t && is_blank (take before bytes)) (ap is_blank (sym behind) ∙ sym c.is_blank.ensures)
    ∙ both ∙ sym c.byte_for.ensures in
    subst₂ (λ xs ys. BeginAlike xs ys) (ap (λ xs. rest ++ xs) (sym whole)) (sym c.truncate.ensures.items)
    (begin-kept rest (take before bytes) c.byte_for.result last c.requires.long blank)
