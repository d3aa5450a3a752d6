use Rattle.ghcn_series.proofs.Cited.{rules, ◌∙◌, ◌<◌, ◌≤◌, [], List, ℤ, ℕ, pos, ap, refl, sym, length, get_or, arith}
use Rattle.ghcn_series.proofs.Cited.{w32, nat_tests, to_z-of_z, days_of_blocks}
use Rattle.std.proofs.lemmas.List.{get_or_read_under}
use Rattle.ghcn_series.proofs.Lookups.{blocks-behind, blocks-end}
use Rattle.ghcn_series.proofs.PartsAdded.{packed-at}
use Rattle.ghcn_series.proofs.Nexts.{block-nonempty}
use Rattle.ghcn_series.proofs.days.Blocks.next.Goals as goal

-- after the last block there is no day
pub returns-in_err-number-clause-none : goal.returns-in_err-number-clause-none
returns-in_err-number-clause-none c =
    let past : length c.self.inside.numbers.now ≤ c.self.inside.passed =
    grind (arith, nat_tests, c.in_err-number.ensures.lookup) in
    rw c.from_residual.ensures
    (sym c.self.view_is ∙ ap days_of_blocks (blocks-end _ _ _ c.self.inside.passed c.self.invariant past))

-- so there is no other
pub returns-in_err-number-clause-end : goal.returns-in_err-number-clause-end
returns-in_err-number-clause-end c = returns-in_err-number-clause-none c

-- the next block is as it may be
pub of-requires : goal.of-requires
of-requires c =
    let here : c.self.inside.passed < length c.self.inside.numbers.now =
    grind (arith, nat_tests, c.in_ok-number.ensures.lookup) in
    let n : ℤ = c.in_ok-number.number.now in
    rw (to_z-of_z w32 n (search rules), get_or_read_under _ _ _ n (pos 0) c.in_ok-number.ensures.lookup.1 here refl)
    (record { days = (packed-at _ _ _ c.self.invariant c.self.inside.passed here).days })

-- what comes is that block's days, and those after it
pub returns-clause-some : goal.returns-clause-some
returns-clause-some c =
    let i : ℕ = c.self.inside.passed in let ns : List ℤ = c.self.inside.numbers.now in
    let here : i < length ns = grind (arith, nat_tests, c.in_ok-number.ensures.lookup) in
    let n : ℤ = c.in_ok-number.number.now in
    rw (c.of.ensures, to_z-of_z w32 n (search rules))
    (rw (get_or_read_under ns i _ n (pos 0) c.in_ok-number.ensures.lookup.1 here refl)
    (sym c.self.view_is ∙ ap days_of_blocks (blocks-behind ns c.self.inside.words.now c.self.inside.values.now i
    c.self.invariant here)))

-- of which there is one
pub returns-clause-day : goal.returns-clause-day
returns-clause-day c =
    let i : ℕ = c.self.inside.passed in let ns : List ℤ = c.self.inside.numbers.now in
    let ws : List ℕ = c.self.inside.words.now in let vs : List (List ℤ) = c.self.inside.values.now in
    let here : i < length ns = grind (arith, nat_tests, c.in_ok-number.ensures.lookup) in
    let n : ℤ = c.in_ok-number.number.now in
    let packed = packed-at ns ws vs c.self.invariant i here in
    rw (c.of.ensures, to_z-of_z w32 n (search rules))
    (rw (get_or_read_under ns i _ n (pos 0) c.in_ok-number.ensures.lookup.1 here refl)
    (block-nonempty (get_or ns i (pos 0), (get_or ws i 0, get_or vs i [])) packed.present packed.fits))
