use Rattle.std.proofs.Common.{◌≡◌, List, ℕ, length, take, drop, ◌++◌, ◌-◌, ◌/◌, ◌∙◌, sym, ap₂, arith}
use Rattle.std.proofs.lemmas.List.{take-append-drop, take_all, length-drop}
use Rattle.rank_input.proofs.Halves.{ends_line}
use Rattle.rank_input.proofs.list.halves.Goals as goal

-- the first part ends with a line feed
pub returns-clause-ends : goal.returns-clause-ends
returns-clause-ends c =
    let text = c.args.text.now in
    let half = length text / 2 in
    let both = ap₂ (λ (front : List ℕ) (back : List ℕ). front ++ back) c.split_at.ensures.front c.split_at.ensures.back
    ∙ take-append-drop (length text - length c.in-Some.back.now) text in
    let second : take (length text - half) (drop half text) ≡ drop half text =
    take_all (length text - half) (drop half text) (omega (arith, length-drop half text)) in
    ends_line text c.split_at.result.0.now c.split_at.result.1.now _ c.in-Some.back.now half (sym both)
    c.split_at.ensures.front_len (sym second ∙ c.in-Some.ensures.parts)
