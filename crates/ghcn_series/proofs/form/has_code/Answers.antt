use Rattle.ghcn_series.proofs.Cited.{◌≡◌, ℕ, ◌+◌, ◌-◌, ◌<◌, false, List, [], ◌∷◌, ◌++◌, length, drop, get_or, refl, sym}
use Rattle.ghcn_series.proofs.Cited.{◌∙◌, arith, length-append, length-drop, replicate, is_ascii_uppercase, and-false}
use Rattle.ghcn_series.proofs.Cited.{get_or-take, get_or-drop, get_or-append_right, length-replicate, length-take-le}
use Rattle.ghcn_series.proofs.Cited.{columns, may_follow, is_code}
use Rattle.std.proofs.lemmas.List.{get_or-replicate}
use Rattle.std.proofs.lemmas.List.Folds.{list_all_at}
use Rattle.ghcn_series.specs.LineKinds.{has_code}
use Rattle.ghcn_series.proofs.form.has_code.Goals as goal

-- bytes with a blank after the first aren't a code
blank_behind : (bytes : List ℕ) (i : ℕ) → i + 1 < length bytes → get_or bytes (i + 1) 0 ≡ 32 → is_code bytes ≡ false
blank_behind [] i within is = refl
blank_behind (b ∷ bytes) i within is =
    let at : get_or bytes i 0 ≡ 32 = grind (arith, is) in
    let none = list_all_at may_follow bytes i 0 (omega (arith, within)) (rw at refl) in
    rw none (and-false (is_ascii_uppercase b))

-- a line without the last column of a code has none
short_code : (line : List ℕ) → length line < 21 → false ≡ has_code line
short_code line short =
    let blanks : List ℕ = replicate 21 32 in let whole : List ℕ = line ++ blanks in
    let last : get_or (columns 18 21 line) 3 0 ≡ 32 =
    get_or-take 4 (drop 17 whole) 3 0 (omega arith) ∙ get_or-drop 17 whole 3 0
    ∙ get_or-append_right line blanks (length line) 20 0 refl (omega (arith, short))
    ∙ get_or-replicate 21 (20 - length line) 32 0 (omega arith) in
    let count = length-take-le 4 (drop 17 whole)
    (omega (arith, length-drop 17 whole, length-append line blanks, length-replicate {A = ℕ} 21 32)) in
    sym (blank_behind (columns 18 21 line) 2 (omega (arith, count)) last)

-- a shorter line has no code
pub returns-then-line-lt-UP_TO_CODE : goal.returns-then-line-lt-UP_TO_CODE
returns-then-line-lt-UP_TO_CODE c = short_code c.args.line.now c.if-line-lt-UP_TO_CODE.true
