-- How the values of scores are printed.
use Rattle.std.specs.Prelude.{ℕ, List, codes, ℤ, neg_ℤ}
use Rattle.std.specs.Fmt.{signed_decimal}
use Rattle.ghcn_fields.specs.Meaning.NumberTexts.{tenths}
use Rattle.ghcn_files.specs.declared.element.Element.{Element}
use Rattle.ghcn_files.specs.declared.element.Element.TheVariants.{Prcp, Snow, Snwd, Tmax, Tmin}
use Rattle.rank_query.specs.declared.score.Score.{Score}
use Rattle.rank_query.specs.declared.score.Score.TheVariants.{Highest, Lowest, Sum}
use Rattle.rank_papers.specs.declared.measure.Measure.{Measure}
use Rattle.rank_papers.specs.declared.measure.Measure.TheVariants.{Degrees, Millimetres, WholeMillimetres, Days}

-- how the values of an element are printed
abbrev pub element_measure : Element → Measure
element_measure Prcp = Millimetres
element_measure Snow = WholeMillimetres
element_measure Snwd = WholeMillimetres
element_measure Tmax = Degrees
element_measure Tmin = Degrees

-- how the values of a score are printed
abbrev pub measure_of_score : Score → Measure
measure_of_score (Highest e) = element_measure e
measure_of_score (Lowest e) = element_measure e
measure_of_score (Sum n e) = element_measure e
measure_of_score spell = Days

-- a value in raw units as it is printed, without its unit: tenths of a degree or of a millimetre with one decimal,
-- whole millimetres and days as whole numbers
abbrev pub value_text : Measure → ℤ → List ℕ
value_text Degrees v = tenths v
value_text Millimetres v = tenths v
value_text WholeMillimetres v = signed_decimal v
value_text Days v = signed_decimal v

-- the unit that is printed
abbrev pub unit_text : Measure → List ℕ
unit_text Degrees = codes "C"
unit_text Millimetres = codes "mm"
unit_text WholeMillimetres = codes "mm"
unit_text Days = codes "days"

-- the value of a score: if the lowest are ranked, a score is the negated value
abbrev pub value_of : Score → ℤ → ℤ
value_of (Lowest e) score = neg_ℤ score
value_of other score = score
