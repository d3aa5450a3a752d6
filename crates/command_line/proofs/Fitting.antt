-- What a subcommand is given fits together if it is that of a command.
use Rattle.std.proofs.Common.{◌≡◌, ◌∙◌, List, [], ◌∷◌, Option, None, Some, IsSome, IfSome, codes, refl, sym, ap, subst}
use Rattle.std.proofs.Common.{arith, length, ◌%◌, inl, inr, false, true≢false}
use Rattle.std.specs.Str.{bytes_eq}
use Rattle.std.proofs.lemmas.Slice.Eq.{bytes_eq-Decides}
use Rattle.clap.specs.Words.{Row, Text, fault_of, subcommand_of}
use Rattle.command_line.specs.declared.asked.Part.{Part}
use Rattle.command_line.specs.declared.asked.NamedFiles.{NamedFiles}
use Rattle.command_line.specs.declared.asked.Command.{Command}
use Rattle.command_line.specs.declared.asked.Command.TheVariants.{Rank, RankEach, Merge, Check, CheckEach, Describe}
use Rattle.command_line.specs.Fitting.{FitTogether, FitToRank, FitToCheck, AreInPairs, HasListIfNull}
use Rattle.command_line.specs.CommandLine.{extremes_app, paths_of, AreFiles, IsRank, IsMerge, IsCheck, IsDescribe, IsCommand, IsCommandOf}
use Rattle.command_line.proofs.CommandLines.{some_read}

-- each part has a report and a certificate
paths-even : (parts : List Part) → length (paths_of parts) % 2 ≡ 0
paths-even [] = refl
paths-even (p ∷ ps) = let rest = paths-even ps in omega (arith, rest)

-- files that are named with `--null` are named by a list too
files-listed : (rows : List Row) (files : NamedFiles) → AreFiles rows files → HasListIfNull rows
files-listed rows files are given = some_read _ files.list _ are.list (are.listed (are.null.1 given))

-- what a command that ranks is given fits
rank-fits : (rows : List Row) (c : Command) → IsRank rows c → FitToRank rows
rank-fits rows (Rank asked) is = record { queries = inl is.0; listed = files-listed rows asked.files is.6 }
rank-fits rows (RankEach asked) is = record { queries = inr is.0; listed = files-listed rows asked.files is.5 }
rank-fits rows c is = absurd is

-- the reports and certificates of a command that merges come in pairs
merge-fits : (rows : List Row) (c : Command) → IsMerge rows c → AreInPairs rows
merge-fits rows (Merge asked) is = ap (λ (ps : List Text). length ps % 2) (sym is.2) ∙ paths-even asked.parts.items
merge-fits rows c is = absurd is

-- what a command that checks is given fits
check-fits : (rows : List Row) (c : Command) → IsCheck rows c → FitToCheck rows
check-fits rows (Check asked) is = record { queries = inl is.0; listed = files-listed rows asked.files is.7 }
check-fits rows (CheckEach asked) is = record { queries = inr is.0; listed = files-listed rows asked.files is.6 }
check-fits rows c is = absurd is

-- the names of the list of a command that describes end by NUL only if there is a list
describe-fits : (rows : List Row) (c : Command) → IsDescribe rows c → HasListIfNull rows
describe-fits rows (Describe asked) is = files-listed rows asked.files is.2
describe-fits rows c is = absurd is

-- texts whose bytes differ aren't one
pub other_text : (x y : Text) → bytes_eq x y ≡ false → x ≡ y → ⊥
other_text x y differ same = true≢false (sym ((bytes_eq-Decides x y).1 same) ∙ differ)

-- what each command is given fits together
command-fits : (name : Text) (rows : List Row) (c : Command) → IsCommand name rows c → FitTogether name rows
command-fits name rows c (inl is) = subst (λ n. FitTogether n rows) (sym is.0) (record {
  rank = λ same. rank-fits rows c is.1;
  merge = λ same. absurd (other_text (codes "rank") (codes "merge") refl same);
  check = λ same. absurd (other_text (codes "rank") (codes "check") refl same);
  describe = λ same. absurd (other_text (codes "rank") (codes "describe") refl same);
})
command-fits name rows c (inr (inl is)) = subst (λ n. FitTogether n rows) (sym is.0) (record {
  rank = λ same. absurd (other_text (codes "merge") (codes "rank") refl same);
  merge = λ same. merge-fits rows c is.1;
  check = λ same. absurd (other_text (codes "merge") (codes "check") refl same);
  describe = λ same. absurd (other_text (codes "merge") (codes "describe") refl same);
})
command-fits name rows c (inr (inr (inl is))) = subst (λ n. FitTogether n rows) (sym is.0) (record {
  rank = λ same. absurd (other_text (codes "check") (codes "rank") refl same);
  merge = λ same. absurd (other_text (codes "check") (codes "merge") refl same);
  check = λ same. check-fits rows c is.1;
  describe = λ same. absurd (other_text (codes "check") (codes "describe") refl same);
})
command-fits name rows c (inr (inr (inr (inl is)))) = subst (λ n. FitTogether n rows) (sym is.0) (record {
  rank = λ same. absurd (other_text (codes "describe") (codes "rank") refl same);
  merge = λ same. absurd (other_text (codes "describe") (codes "merge") refl same);
  check = λ same. absurd (other_text (codes "describe") (codes "check") refl same);
  describe = λ same. describe-fits rows c is.1;
})
command-fits name rows c (inr (inr (inr (inr is)))) = subst (λ n. FitTogether n rows) (sym is.0) (record {
  rank = λ same. absurd (other_text (codes "table") (codes "rank") refl same);
  merge = λ same. absurd (other_text (codes "table") (codes "merge") refl same);
  check = λ same. absurd (other_text (codes "table") (codes "check") refl same);
  describe = λ same. absurd (other_text (codes "table") (codes "describe") refl same);
})

-- arguments without an error that name a subcommand name the command that is read of it
pub command-met : (words : List Text) (met : Option (Text × List Row)) (c : Command) → fault_of extremes_app words ≡ []
    → met ≡ subcommand_of extremes_app words → IsSome met → IfSome met (λ m. IsCommand m.0 m.1 c)
    → IsCommandOf words c
command-met words None c read same some is = absurd cc
command-met words (Some m) c read same some is = record {
  name = m.0;
  rows = m.1;
  right = record {
    read = read;
    together = subst (λ (o : Option (Text × List Row)). IfSome o (λ r. FitTogether r.0 r.1)) same
        (command-fits m.0 m.1 c is);
  };
  entered = sym same;
  named = is;
}
