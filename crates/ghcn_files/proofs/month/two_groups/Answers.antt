use Rattle.std.proofs.Common.{◌≡◌, ℕ, ◌+◌, ◌-◌, ◌*◌, List, take, drop, sym, ap, ◌∙◌, arith}
use Rattle.std.proofs.lemmas.List.{take_rest, take-take, drop-take, drop-drop}
use Rattle.ghcn_files.proofs.ColumnSlices.{columns-slice}
use Rattle.ghcn_files.proofs.month.two_groups.Goals as goal

-- the first five are the first day's
pub returns-clause-first : goal.returns-clause-first
returns-clause-first c =
    let line : List ℕ = c.args.line.now in
    let start : ℕ = 21 + 8 * c.args.day in
    let count : 5 ≡ start + 5 - start = omega arith in
    ap (take 5) (c.in-Some.ensures.cases.same ∙ ap (take 16) (take_rest line start))
    ∙ take-take 5 16 (drop start line) (omega arith)
    ∙ ap (λ (n : ℕ). take n (drop start line)) count
    ∙ sym (columns-slice (14 + 8 * (c.args.day + 1)) (18 + 8 * (c.args.day + 1)) start (start + 5) line
    (omega arith) (omega arith) (omega arith) (omega arith))

-- and five after eight the next one's
pub returns-clause-second : goal.returns-clause-second
returns-clause-second c =
    let line : List ℕ = c.args.line.now in
    let start : ℕ = 21 + 8 * c.args.day in
    let next : ℕ = start + 8 in
    let count : 5 ≡ next + 5 - next = omega arith in
    ap (λ (l : List ℕ). take 5 (drop 8 l)) (c.in-Some.ensures.cases.same ∙ ap (take 16) (take_rest line start))
    ∙ ap (take 5) (drop-take 8 8 (drop start line)) ∙ take-take 5 8 (drop 8 (drop start line)) (omega arith)
    ∙ ap (take 5) (drop-drop 8 start line)
    ∙ ap (λ (n : ℕ). take n (drop next line)) count
    ∙ sym (columns-slice (14 + 8 * (c.args.day + 2)) (18 + 8 * (c.args.day + 2)) next (next + 5) line
    (omega arith) (omega arith) (omega arith) (omega arith))
