-- Worked examples of the definitions, by computation.
use Rattle.std.proofs.Common.{◌≡◌, refl, length, [], ◌∷◌, List, ℕ, true, false, map}
use Rattle.std.specs.Prelude.{codes}
use Rattle.ghcn_series.specs.DailyFaults.{FileLine, daily_lines, file_line}
use Rattle.ghcn_series.specs.LineKinds.{all_lines, blank_lines}
use Rattle.ghcn_description.specs.Lines.{is_other, other_lines, code_on, lines_with}
use Rattle.ghcn_description.specs.Texts.{further_line}

-- two files: a line of another code and one whose code has bytes that can't be seen; and a blank line, with its feed
abbrev files : List (List ℕ)
files = codes "ZZA00000001202007WESD\nZZA00000001202007W\t D" ∷ codes "   \n" ∷ []

-- the lines that aren't blank
abbrev ls : List FileLine
ls = daily_lines files

-- three lines, of which one is blank and two have other codes, and these are shown so
other_codes : (length (all_lines files) ≡ 3) × (blank_lines files ≡ 1) × (other_lines ls ≡ 2)
    × (map code_on ls ≡ codes "WESD" ∷ codes "W??D" ∷ [])
    × (lines_with ls (codes "WESD") ≡ 1) × (lines_with ls (codes "W??D") ≡ 1) × (lines_with ls (codes "PRCP") ≡ 0)
other_codes = (refl, refl, refl, refl, refl, refl, refl)

-- a code of the five elements isn't an other one, and in small letters it is
of_elements :
    map is_other (file_line 1 (1, codes "ZZA00000001202007TMAX") ∷ file_line 1 (2, codes "ZZA00000001202007tmax") ∷ [])
    ≡ false ∷ true ∷ []
of_elements = refl

-- without lines of further codes there is no line for these
no_further : further_line 0 ≡ []
no_further = refl
