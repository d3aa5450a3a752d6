-- Worked heads, by computation.
use Rattle.std.proofs.Common.{◌≡◌, ℕ, List, [], ◌∷◌, Bool, true, false, Option, refl, Some, None, ℤ, pos, codes}
use Rattle.std.specs.Fmt.{digits}
use Rattle.ghcn_files.specs.declared.element.Element.TheVariants.{Tmax}
use Rattle.rank_query.specs.declared.score.Score.TheVariants.{Highest}
use Rattle.rank_query.specs.Meaning.Asked.{Query}
use Rattle.rank_query.specs.Asked.{top}
use Rattle.rank_papers.specs.Report.{Named}
use Rattle.rank_papers.specs.ReportLines.{Reported}
use Rattle.rank_papers.specs.Certificate.{Line, Certified}
use Rattle.rank_head.specs.declared.fault.HeadFault.TheVariants.{OtherReportQuery, OtherCertificateQuery, OutOfOrder}
use Rattle.rank_head.specs.declared.fault.HeadFault.TheVariants.{OtherFloor, NotRising, NotScanned, NotCounted}
use Rattle.rank_head.specs.HeadTests.{head_fault}

-- the k highest of all
abbrev ask : ℕ → Query
ask k = top k (Highest Tmax)

-- a row of the first of July 2020
abbrev row : List ℕ → ℤ → Named
row id score = (record { id = record { 0 = id }; first = pos 18444; last = pos 18444; score = score }, codes "NAME")

-- the line of a series
abbrev line : Bool → List ℕ → ℤ → Line
line skipped id bound = record { id = record { 0 = id }; bound = bound; skipped = skipped }

-- the IDs of three stations
abbrev a : List ℕ
a = codes "ZZA00000001"

abbrev b : List ℕ
b = codes "ZZA00000002"

abbrev c : List ℕ
c = codes "ZZA00000003"

-- a report of the two highest
abbrev report : List Named → Reported
report rows = record { query = ask 2; rows = rows }

-- a certificate of them
abbrev certificate : Option ℤ → List Line → List ℕ → Certified
certificate kth es counts = record { version = 2; query = ask 2; kth = kth; entries = es; counts = counts }

-- two rows in order, and the lines of three series
abbrev rows : List Named
rows = row a (pos 311) ∷ row b (pos 305) ∷ []

abbrev lines : List Line
lines = line false a (pos 311) ∷ line false b (pos 305) ∷ line true c (pos 300) ∷ []

-- no error: with counts, of version 1 without, and if there are fewer rows than were asked for
right : (head_fault (ask 2) (report rows) (certificate (Some (pos 305)) lines (1 ∷ 1 ∷ 0 ∷ [])) ≡ None)
    × (head_fault (ask 2) (report rows)
    (record { version = 1; query = ask 2; kth = Some (pos 305); entries = lines; counts = [] }) ≡ None)
    × (head_fault (ask 2) (report (row a (pos 311) ∷ []))
    (certificate None (line false a (pos 311) ∷ []) (1 ∷ [])) ≡ None)
    × (head_fault (ask 2) (report []) (certificate None [] []) ≡ None)
unfolding digits
right = (refl, refl, refl, refl)

-- another query, of the report before that of the certificate, and both before all other errors
queries : (head_fault (ask 1) (report rows) (certificate None lines []) ≡ Some OtherReportQuery)
    × (head_fault (ask 1) (record { query = ask 1; rows = row b (pos 305) ∷ row a (pos 311) ∷ [] })
    (certificate None lines []) ≡ Some OtherCertificateQuery)
unfolding digits
queries = (refl, refl)

-- rows that are not in order, the second and the third; a row twice isn't in order
order : (head_fault (ask 2) (report (row b (pos 305) ∷ row a (pos 311) ∷ [])) (certificate None [] []) ≡ Some
    (OutOfOrder 4))
    × (head_fault (ask 2) (report (row a (pos 311) ∷ row a (pos 311) ∷ [])) (certificate None [] [])
    ≡ Some (OutOfOrder 4))
    × (head_fault (ask 2) (report (row a (pos 311) ∷ row b (pos 311) ∷ row b (pos 312) ∷ [])) (certificate None [] [])
    ≡ Some (OutOfOrder 5))
unfolding digits
order = (refl, refl, refl)

-- a k-th score that isn't that of the second row, none at all, and one if there should be none
floors : (head_fault (ask 2) (report rows) (certificate (Some (pos 311)) [] []) ≡ Some OtherFloor)
    × (head_fault (ask 2) (report rows) (certificate None [] []) ≡ Some OtherFloor)
    × (head_fault (ask 2) (report (row a (pos 311) ∷ [])) (certificate (Some (pos 311)) [] []) ≡ Some OtherFloor)
unfolding digits
floors = (refl, refl, refl)

-- lines that don't rise, the second and the third; a line twice doesn't
rise : (head_fault (ask 2) (report []) (certificate None (line false b (pos 1) ∷ line false a (pos 1) ∷ []) [])
    ≡ Some (NotRising 5))
    × (head_fault (ask 2) (report []) (certificate None (line false a (pos 1) ∷ line true a (pos 1) ∷ []) [])
    ≡ Some (NotRising 5))
    × (head_fault (ask 2) (report [])
    (certificate None (line false a (pos 1) ∷ line false c (pos 1) ∷ line false b (pos 1) ∷ []) []) ≡ Some
    (NotRising 6))
unfolding digits
rise = (refl, refl, refl)

-- a row of a series that was skipped, and one of a series without a line
scanned : (head_fault (ask 2) (report rows)
    (certificate (Some (pos 305)) (line true a (pos 304) ∷ line false b (pos 305) ∷ []) []) ≡ Some (NotScanned 3))
    × (head_fault (ask 2) (report rows) (certificate (Some (pos 305)) (line false a (pos 311) ∷ []) [])
    ≡ Some (NotScanned 4))
unfolding digits
scanned = (refl, refl)

-- a count that isn't the number of rows of its line's station
counts : (head_fault (ask 2) (report rows) (certificate (Some (pos 305)) lines (2 ∷ 0 ∷ 0 ∷ []))
    ≡ Some (NotCounted 4))
    × (head_fault (ask 2) (report rows) (certificate (Some (pos 305)) lines (1 ∷ 1 ∷ 1 ∷ [])) ≡ Some (NotCounted 6))
unfolding digits
counts = (refl, refl)
