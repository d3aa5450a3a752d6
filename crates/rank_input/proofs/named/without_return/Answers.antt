use Rattle.std.proofs.Common.{ap, ◌∙◌, List, ℕ, lit<, Bor}
use Rattle.std.proofs.lemmas.Str.Pattern.{strip_suffix_char}
use Rattle.rank_input.proofs.NamingFolders.{without-return}
use Rattle.rank_input.proofs.named.without_return.Goals as goal

-- a carriage return is taken off, or there is none
pub returns : goal.returns
returns c =
    ap (λ (t : Bor (List ℕ)). t.now) c.unwrap_or.ensures
    ∙ without-return c.args.name c.strip_suffix.result
    (strip_suffix_char 13 c.args.name.now c.strip_suffix.result c.strip_suffix.ensures.cases (lit< tt))
