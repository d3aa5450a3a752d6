use Rattle.ghcn_series.proofs.Cited.{rules, ◌∙◌, ℕ, ◌-◌, ◌^◌, ℤ, ◌≤ℤ◌, ◌<ℤ◌, sym, w32, bit_and, to_z-of_z}
use Rattle.ghcn_series.proofs.PartDays.{some-bits, both-parts, each-day, ones-left, first-bit, later-bit}
use Rattle.ghcn_series.proofs.days.BlockDays.take_to.Goals as goal

-- the days that stay, and those that are taken, are in the calendar
pub invariant_of-days : goal.invariant_of-days
invariant_of-days c = rw (to_z-of_z w32 c.self.inside.number (search rules))
    (some-bits c.self.inside.number c.self.inside.left c.first_places-taken.result c.self.invariant)

-- so it is with those that stay
pub invariant_of-self : goal.invariant_of-self
invariant_of-self c = some-bits c.self.inside.number c.self.inside.left _ c.self.invariant

-- its days are both
pub returns-clause-parts : goal.returns-clause-parts
returns-clause-parts c =
    let n : ℤ = c.self.inside.number in let k : ℕ = c.places_to.result in
    rw (to_z-of_z w32 n (search rules), c.first_places-taken.ensures, ones-left k)
    (sym c.self.view_is ∙ both-parts n c.self.inside.values.now c.self.inside.left k c.places_to.ensures.few)

-- those that are taken come up to the last one
pub returns-clause-taken : goal.returns-clause-taken
returns-clause-taken c =
    let n : ℤ = c.self.inside.number in let w : ℕ = c.self.inside.left in
    let k : ℕ = c.places_to.result in let near = to_z-of_z w32 n (search rules) in
    let up_to = rw (near, to_z-of_z w32 c.args.last (search rules)) at c.places_to.ensures.up_to in
    rw (near, c.first_places-taken.ensures)
    (each-day (λ (d : ℤ). d ≤ℤ c.args.last) n c.self.inside.values.now (bit_and w (2 ^ k - 1))
    (λ j lt set. up_to j (first-bit w k j set)))

-- those that stay come after it
pub returns-clause-left : goal.returns-clause-left
returns-clause-left c =
    let n : ℤ = c.self.inside.number in let w : ℕ = c.self.inside.left in
    let k : ℕ = c.places_to.result in let near = to_z-of_z w32 n (search rules) in
    let behind = rw (near, to_z-of_z w32 c.args.last (search rules)) at c.places_to.ensures.behind in
    rw (c.first_places-taken.ensures, ones-left k)
    (each-day (λ (d : ℤ). c.args.last <ℤ d) n c.self.inside.values.now (bit_and w (2 ^ 32 - 2 ^ k))
    (λ j lt set. behind j (later-bit w k j set) lt))
