use Rattle.std.proofs.Common.{take, false}
use Rattle.std.specs.Prelude.{string_bytes}
use Rattle.std.specs.List.{All}
use Rattle.extremes.proofs.target.is_in_use.Given as goal

-- none of the files so far is found to be the certificate's
abbrev pub invariant-loop-file : goal.invariant-loop-file
invariant-loop-file g l = All (λ file. g.T.Target.one_file l.target l.out (string_bytes file) false)
    (take l.file-index l.files)
