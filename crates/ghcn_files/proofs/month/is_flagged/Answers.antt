use Rattle.std.proofs.Common.{◌+◌, ◌*◌, ◌∷◌, [], sym, ap, ◌∙◌, arith, List, ℕ}
use Rattle.std.specs.Prelude.{not}
use Rattle.std.proofs.lemmas.List.{get_or_past}
use Rattle.ghcn_fields.specs.Meaning.Bytes.{is_blank}
use Rattle.ghcn_files.proofs.ColumnSlices.{one_column}
use Rattle.ghcn_files.proofs.month.is_flagged.Goals as goal

-- a column past the end is a blank
pub returns-in-None : goal.returns-in-None
returns-in-None c =
    let at = 27 + 8 * c.args.day in
    sym (ap (λ (bytes : List ℕ). not (is_blank bytes))
    (one_column (20 + 8 * (c.args.day + 1)) (27 + 8 * c.args.day) c.args.line.now (omega arith)
    ∙ ap (λ (b : ℕ). b ∷ []) (get_or_past c.args.line.now (27 + 8 * c.args.day) 32
    (omega (arith, c.in-None.ensures.lookup)))))
