-- How the verdicts of a list of queries are printed, and how a run ends that can't open a report or a certificate.
use Rattle.std.proofs.Common.{◌≡◌, ℕ, List, [], ◌∷◌, ◌++◌, map, Option, refl, sym, ap, subst, inl, inr}
use Rattle.std.specs.Prelude.{Ok, String, string_bytes}
use Rattle.ghcn_series.specs.declared.counts.Warnings.{Warnings}
use Rattle.rank_input.specs.declared.fault.Fault.{Fault}
use Rattle.rank_input.specs.Feeding.{Opening}
use Rattle.extremes.specs.declared.checked_papers.JudgingStop.{JudgingStop}
use Rattle.extremes.specs.declared.checked_papers.JudgingStop.TheVariants.{Input, NotRead}
use Rattle.extremes.specs.declared.ending.Ending.{Ending}
use Rattle.extremes.specs.declared.judge_each.Verdicts.{Verdicts}
use Rattle.extremes.specs.JudgeEach.{Judged, StopsJudging}
use Rattle.extremes.specs.JudgeEachRuns.{AreLinesTold, AreVerdictsTold, EndsAtPapers, stop_ending, stop_line}
use Rattle.extremes.specs.Messages.{ArePrintedLines, Line, LinePrinting, Streams, after_lines, input_lines, streams}
use Rattle.extremes.specs.Messages.{warning_lines}
use Rattle.extremes.proofs.JudgeEachRuns.{of-memory}
use Rattle.extremes.proofs.PrintedLines.{lines-then}

module _ {M : Type 0} (prints : LinePrinting M) (held given : Option (List ℕ)) where
  -- verdicts that are printed after lines are printed after those before them too
  lines-after : (before between after : M) (first : List Line) → ArePrintedLines prints before between first
      → (verdicts : Verdicts) (ending : Ending)
      → AreLinesTold (streams (ArePrintedLines prints between after) held given) verdicts ending
      → AreLinesTold (after_lines first (streams (ArePrintedLines prints before after) held given)) verdicts ending
  lines-after before between after first printed verdicts ending (inl told) =
      inl (told.0, told.1, lines-then prints before between after first [] printed told.2)
  lines-after before between after first printed verdicts ending (inr cut) =
      inr (cut.0, cut.1, lines-then prints before between after first _ printed cut.2)

  -- so they are printed after the warnings
  pub verdicts-after : (before between after : M) (paths : List (List ℕ)) (verdicts : Verdicts) (warnings : Warnings)
      → ArePrintedLines prints before between (warning_lines paths warnings) → (lines : Fault → List Line)
      (answer : Judged) (ending : Ending) → answer ≡ Ok (verdicts, warnings)
      → AreLinesTold (streams (ArePrintedLines prints between after) held given) verdicts ending
      → AreVerdictsTold lines (streams (ArePrintedLines prints before after) held given) answer paths ending
  verdicts-after before between after paths verdicts warnings printed lines answer ending is told =
      subst (λ (a : Judged). AreVerdictsTold lines (streams (ArePrintedLines prints before after) held given) a paths
      ending) (sym is)
      (lines-after before between after (warning_lines paths warnings) printed verdicts ending told)

-- what is printed of files is printed of the same files, under the same arguments
pub verdicts-as : {A : Type 0} (line : Fault → Line) (s : Streams) (files named arguments words : List (String A))
    (ending : Ending) → files ≡ named → arguments ≡ words → (answer : Judged)
    → AreVerdictsTold (input_lines line (map string_bytes arguments) (map string_bytes files)) s answer
    (map string_bytes files) ending
    → AreVerdictsTold (input_lines line (map string_bytes words) (map string_bytes named)) s answer
    (map string_bytes named) ending
verdicts-as {A} line s files named arguments words ending same same_words answer is =
    subst (λ (fs : List (String A)). AreVerdictsTold (input_lines line (map string_bytes words) (map string_bytes fs)) s
    answer (map string_bytes fs) ending) same
    (subst (λ (ws : List (String A)). AreVerdictsTold (input_lines line (map string_bytes ws) (map string_bytes files))
    s answer (map string_bytes files) ending) same_words is)

-- checks that stop at the reports and the certificates end the run there
pub ends-at-papers : (opens : Opening) (line : Fault → Line) (s : Streams) (paths : List (List ℕ)) (stop : JudgingStop)
    (ending : Ending) → s.after ≡ s.before → StopsJudging opens paths stop → ending ≡ stop_ending stop
    → s.says (stop_line line stop ∷ []) → EndsAtPapers opens line s paths ending
ends-at-papers opens line s paths (Input fault) ending unprinted stops ends said = inr (record {
  ends = ends;
  unprinted = unprinted;
  said = subst (λ (f : Fault). s.says (line f ∷ [])) (of-memory fault stops) said;
})
ends-at-papers opens line s paths (NotRead path) ending unprinted stops ends said = inl (record {
  path = string_bytes path;
  stops = stops;
  ends = ends;
  unprinted = unprinted;
  said = said;
})
