-- How the reports of a list of queries are printed, and why a list is refused.
use Rattle.std.proofs.Common.{◌≡◌, ℕ, List, [], ◌∷◌, ◌++◌, map, Option, Some, Global, refl, sym, ap, subst}
use Rattle.std.specs.Prelude.{Ok, String, Vec, codes, string_bytes}
use Rattle.std.specs.Fmt.{decimal}
use Rattle.ghcn_series.specs.declared.counts.Warnings.{Warnings}
use Rattle.rank_input.specs.declared.fault.Fault.{Fault}
use Rattle.rank_input.specs.declared.queries.QueriesFault.{QueriesFault}
use Rattle.extremes.specs.declared.ending.Ending.{Ending}
use Rattle.extremes.specs.declared.ending.Ending.TheVariants.{Done, Refused, Words, File}
use Rattle.extremes.specs.Each.{Reports}
use Rattle.extremes.specs.EachPrinted.{AreReportsPrinted, list_lines}
use Rattle.extremes.specs.Messages.{ArePrintedLines, Line, LinePrinting, Streams, after_lines, input_lines, place_text}
use Rattle.extremes.specs.Messages.{streams, unlisted_warning, warning_lines}
use Rattle.extremes.specs.Printed.{IsShown}
use Rattle.extremes.proofs.PrintedLines.{line-alone, lines-then, place-nested}
use Rattle.explanations.specs.Shown.{shown_text}

module _ {M : Type 0} (prints : LinePrinting M) (held given : Option (List ℕ)) where
  -- a text that is shown after lines is shown after those before them too
  shown-after : (before between after : M) (first : List Line) → ArePrintedLines prints before between first
      → (text : List ℕ) (ending : Ending) → IsShown (streams (ArePrintedLines prints between after) held given) text ending
      → IsShown (after_lines first (streams (ArePrintedLines prints before after) held given)) text ending
  shown-after before between after first printed text Done is =
      (is.0, lines-then prints before between after first [] printed is.1)
  shown-after before between after first printed text Refused is = is
  shown-after before between after first printed text Words is = is
  shown-after before between after first printed text File is =
      (is.0, lines-then prints before between after first _ printed is.1)

  -- reports are printed after the warnings and the line on unlisted stations
  pub reports-after : (before middle between after : M) (first : List Line) (unlisted : ℕ)
      → ArePrintedLines prints before middle first → ArePrintedLines prints middle between (unlisted_warning unlisted)
      → (lines : Fault → List Line) (answer : Reports) (reports : Vec ℕ Global) (text : List ℕ) (ending : Ending)
      → answer ≡ Ok reports → text ≡ reports.items
      → IsShown (streams (ArePrintedLines prints between after) held given) text ending
      → AreReportsPrinted lines (streams (ArePrintedLines prints before after) held given) answer first unlisted ending
  reports-after before middle between after first unlisted printed counted lines answer reports text ending is same
      shown =
      let s = streams (ArePrintedLines prints before after) held given in
      subst (λ (a : Reports). AreReportsPrinted lines s a first unlisted ending) (sym is)
      (subst (λ (t : List ℕ). IsShown (after_lines (first ++ unlisted_warning unlisted) s) t ending) same
      (shown-after before between after (first ++ unlisted_warning unlisted)
      (lines-then prints before middle between first (unlisted_warning unlisted) printed counted) text ending shown))

-- what is printed of files is printed of the same files, under the same arguments
pub reports-as : {A : Type 0} (line : Fault → Line) (s : Streams) (files named arguments words : List (String A))
    (ending : Ending) → files ≡ named → arguments ≡ words → (answer : Reports) (warnings : Warnings) (unlisted : ℕ)
    → AreReportsPrinted (input_lines line (map string_bytes arguments) (map string_bytes files)) s answer
    (warning_lines (map string_bytes files) warnings) unlisted ending
    → AreReportsPrinted (input_lines line (map string_bytes words) (map string_bytes named)) s answer
    (warning_lines (map string_bytes named) warnings) unlisted ending
reports-as {A} line s files named arguments words ending same same_words answer warnings unlisted is =
    subst (λ (fs : List (String A)). AreReportsPrinted (input_lines line (map string_bytes words) (map string_bytes fs)) s
    answer (warning_lines (map string_bytes fs) warnings) unlisted ending) same
    (subst (λ (ws : List (String A)). AreReportsPrinted (input_lines line (map string_bytes ws) (map string_bytes files)) s
    answer (warning_lines (map string_bytes files) warnings) unlisted ending) same_words is)

-- the line on a place is printed
pub place-in-printed : {M : Type 0} (prints : LinePrinting M) (before after : M) (path : List ℕ) (line : ℕ)
    → prints before (Some (codes "at " ++ (shown_text path ++ (codes ":" ++ decimal line)))) after
    → ArePrintedLines prints before after (Some (place_text line path) ∷ [])
place-in-printed prints before after path line is = line-alone prints before after _ _
    (ap (λ t. Some t ∷ []) (place-nested line path)) is

-- the lines on a list are those of its error
pub list-lines : {M : Type 0} (prints : LinePrinting M) (before after : M) (line : Fault → Line) (path : List ℕ)
    (fault why : QueriesFault) → fault ≡ why → ArePrintedLines prints before after (list_lines line path why)
    → ArePrintedLines prints before after (list_lines line path fault)
list-lines prints before after line path fault why is printed =
    subst (λ (f : QueriesFault). ArePrintedLines prints before after (list_lines line path f)) (sym is) printed
