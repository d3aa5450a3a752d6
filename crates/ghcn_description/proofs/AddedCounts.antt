-- The numbers of lines in a description add up to that of all lines.
use Rattle.std.proofs.Common.{◌≡◌, List, [], ◌∷◌, refl, arith}
use Rattle.std.specs.List.{AllZip, sum_by}
use Rattle.std.proofs.lemmas.List.Sums.{sum_by-cons}
use Rattle.ghcn_files.specs.declared.element.Element.{Element}
use Rattle.ghcn_files.specs.declared.station.Station.{Station}
use Rattle.ghcn_files.specs.Meaning.Elements.{elements}
use Rattle.ghcn_series.specs.DailyFaults.{FileLine, daily_lines}
use Rattle.ghcn_description.specs.declared.counts.ElementCounts.{ElementCounts}
use Rattle.ghcn_description.specs.Described.{AreCounts}
use Rattle.ghcn_description.specs.Laws.{DescriptionsAddUp}
use Rattle.ghcn_description.specs.Lines.{lines_of_element}
use Rattle.ghcn_description.proofs.AddedLines.{lines-add_up}

-- the lines of elements, as they are counted
of_elements : (stations : List Station) (ls : List FileLine) (cs : List ElementCounts) (es : List Element)
    → AllZip (AreCounts stations ls) cs es → sum_by (λ c. c.lines) cs ≡ sum_by (lines_of_element stations ls) es
of_elements stations ls [] [] are = refl
of_elements stations ls [] (e ∷ es) are = absurd are
of_elements stations ls (c ∷ cs) [] are = absurd are
of_elements stations ls (c ∷ cs) (e ∷ es) are =
    omega (
      arith,
      sum_by-cons (λ (x : ElementCounts). x.lines) c cs,
      sum_by-cons (lines_of_element stations ls) e es,
      are.0.sums.lines,
      of_elements stations ls cs es are.1,
    )

-- so the numbers of a description add up
pub descriptions-add_up : DescriptionsAddUp
descriptions-add_up stations files d describes =
    let ls : List FileLine = daily_lines files in
    let is = describes.is in
    omega (
      arith,
      lines-add_up stations files describes.right,
      of_elements stations ls d.elements elements is.counts,
      is.others.codes.total,
      is.unlisted,
      is.blank,
      is.lines,
    )
