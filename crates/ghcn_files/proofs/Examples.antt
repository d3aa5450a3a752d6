-- Worked examples of the definitions, by computation.
use Rattle.std.proofs.Common.{◌≡◌, ◌∙◌, ap, ℕ, zero, suc, Bool, List, [], ◌∷◌, ◌++◌, refl, true, false, Some, None}
use Rattle.std.proofs.Common.{Ok, Err, take, replicate}
use Rattle.std.specs.Prelude.{codes, pos, neg_ℤ, map, ◌^◌, ◌-◌, nat_lt, length, if◌then◌else◌}
use Rattle.std.specs.Option.{option_or, option_map}
use Rattle.std.specs.List.{repeat, find}
use Rattle.std.proofs.lemmas.List.{length-replicate}
use Rattle.ghcn_files.specs.declared.element.Element.TheVariants.{Prcp, Snow, Snwd, Tmax, Tmin}
use Rattle.ghcn_files.specs.declared.fault.StationWhy.TheVariants as station
use Rattle.ghcn_files.specs.declared.fault.StationsFault.TheVariants.{StationLine, TooManyStations}
use Rattle.ghcn_files.specs.declared.fault.LineWhy.TheVariants as why
use Rattle.ghcn_files.specs.Meaning.Elements.{elements, may_be_negative}
use Rattle.ghcn_files.specs.Elements.{element_of, is_kept, nothing, everything, with_one, only}
use Rattle.ghcn_files.specs.StationLines.{id_of, station_of}
use Rattle.ghcn_files.specs.Meaning.Listed.{is_station_of}
use Rattle.ghcn_files.specs.Listed.{Numbered, listed, is_repeated, station_fault, place_of}
use Rattle.ghcn_files.specs.Months.{read_month, month_of, reading, days_of_group}

-- ---- the station list

-- a whole line
abbrev alpha : List ℕ
alpha = codes "ZZA00000001  10.0000   20.0000  100.0    ALPHA"

-- and another
abbrev bravo : List ℕ
bravo = codes "ZZA00000002  11.0000   21.0000  100.0    BRAVO"

-- two lines are two stations
two_listed : listed (alpha ++ 10 ∷ bravo ++ 10 ∷ []) ≡ Ok (station_of alpha ∷ station_of bravo ∷ [])
two_listed = refl

-- returns before line feeds and a line of blanks
windows_line_ends : listed (alpha ++ 13 ∷ 10 ∷ 32 ∷ 10 ∷ bravo ++ 13 ∷ [])
    ≡ Ok (station_of alpha ∷ station_of bravo ∷ [])
windows_line_ends = refl

-- the numbers of a station
fields : ((station_of alpha).latitude ≡ pos 100_000) × ((station_of alpha).longitude ≡ pos 200_000)
    × ((station_of alpha).elevation ≡ Some (pos 1000))
fields = (refl, refl, refl)

-- its name, up to the field's last column
named : (station_of alpha).name ≡ codes "ALPHA" ++ replicate 25 32
named = refl

-- a missing elevation, and one that is left out
no_elevation : ((station_of (codes "ZZA00000001  10.0000   20.0000 -999.9")).elevation ≡ None)
    × ((station_of (take 32 alpha)).elevation ≡ None)
no_elevation = (refl, refl)

-- a byte that can't be printed
question_mark : (station_of (codes "ZZA00000001  10.0000   20.0000        N" ++ 200 ∷ [])).state ≡ codes "N?"
question_mark = refl

-- the second of two, by its ID
found : (find (is_station_of (id_of bravo)) (station_of alpha ∷ station_of bravo ∷ []) ≡ Some (station_of bravo))
    × (place_of (station_of alpha ∷ station_of bravo ∷ []) (id_of bravo) ≡ Some 1)
found = (refl, refl)

-- thirty columns are enough
short_accepted : listed (take 30 alpha) ≡ Ok (station_of (take 30 alpha) ∷ [])
short_accepted = refl

-- twenty-nine are not
too_short : listed (take 29 alpha) ≡ Err (StationLine 1 station.Short)
too_short = refl

-- an ID of two lines
twice : listed (alpha ++ 10 ∷ alpha ++ 10 ∷ []) ≡ Err (StationLine 2 station.Duplicate)
twice = refl

-- no lines
empty_text : listed [] ≡ Ok []
empty_text = refl

-- a blank in the ID
blank_in_id : listed (codes "ZZA0000 001  10.0000   20.0000") ≡ Err (StationLine 1 station.BadId)
blank_in_id = refl

-- past the pole
latitude_out : listed (codes "ZZA00000001  91.0000   20.0000  100.0    ALPHA") ≡ Err (StationLine 1 station.BadLatitude)
latitude_out = refl

-- past 180 degrees
longitude_out : listed (codes "ZZA00000001  90.0000 -180.0001  100.0    ALPHA")
    ≡ Err (StationLine 1 station.BadLongitude)
longitude_out = refl

-- an elevation that ends with its sign's column
cut_elevation : listed (take 33 alpha) ≡ Err (StationLine 1 station.BadElevation)
cut_elevation = refl

-- half a degree past a pole, and past both edges of the world by the last decimal
past_the_world : (listed (codes "ZZA00000001  90.5000   20.0000") ≡ Err (StationLine 1 station.BadLatitude))
    × (listed (codes "ZZA00000001 -90.5000   20.0000") ≡ Err (StationLine 1 station.BadLatitude))
    × (listed (codes "ZZA00000001  90.0001   20.0000") ≡ Err (StationLine 1 station.BadLatitude))
    × (listed (codes "ZZA00000001 -90.0001   20.0000") ≡ Err (StationLine 1 station.BadLatitude))
    × (listed (codes "ZZA00000001  10.0000  180.0001") ≡ Err (StationLine 1 station.BadLongitude))
past_the_world = (refl, refl, refl, refl, refl)

-- a line with these degrees of latitude and longitude
abbrev placed_at : List ℕ → List ℕ
placed_at degrees = codes "ZZA00000001 " ++ degrees

-- the edges themselves are places
world_edges : (listed (placed_at (codes " 90.0000  180.0000"))
    ≡ Ok (station_of (placed_at (codes " 90.0000  180.0000")) ∷ []))
    × (listed (placed_at (codes "-90.0000 -180.0000"))
    ≡ Ok (station_of (placed_at (codes "-90.0000 -180.0000")) ∷ []))
world_edges = (refl, refl)

-- no latitude, and no longitude
no_place : (listed (placed_at (codes "           20.0000")) ≡ Err (StationLine 1 station.BadLatitude))
    × (listed (placed_at (codes " 10.0000          ")) ≡ Err (StationLine 1 station.BadLongitude))
no_place = (refl, refl)

-- a station whose ID ends with this byte
abbrev ends_with : ℕ → List ℕ
ends_with b = codes "ZZA0000000" ++ b ∷ codes "  10.0000   20.0000"

-- IDs have the bytes from 33 to 126
id_bytes : (listed (ends_with 127) ≡ Err (StationLine 1 station.BadId))
    × (listed (ends_with 126) ≡ Ok (station_of (ends_with 126) ∷ []))
    × (listed (ends_with 33) ≡ Ok (station_of (ends_with 33) ∷ []))
    × (listed (ends_with 31) ≡ Err (StationLine 1 station.BadId))
    × (listed (ends_with 195) ≡ Err (StationLine 1 station.BadId))
id_bytes = (refl, refl, refl, refl, refl)

-- in a name and a state the bytes from 32 to 126 stay, and each other one becomes a question mark
printed_bytes : ((station_of (take 41 alpha ++ 31 ∷ 32 ∷ 126 ∷ 127 ∷ 195 ∷ 169 ∷ [])).name
    ≡ codes "? ~???" ++ replicate 24 32)
    × ((station_of (take 38 alpha ++ 31 ∷ 127 ∷ [])).state ≡ codes "??")
    × ((station_of (take 38 alpha ++ 32 ∷ 126 ∷ [])).state ≡ codes " ~")
printed_bytes = (refl, refl, refl)

-- a record of 85 columns, with something in the columns between the fields
abbrev whole_record : List ℕ
whole_record = codes "ZZA00000001x 40.7789x -73.9692x  42.7xNYxABCDEFGHIJKLMNOPQRSTUVWXYZ0123XGSN HCN 72506"

-- each field from its first column to its last; what lies between them and after the name isn't read
record_fields : (listed whole_record ≡ Ok (station_of whole_record ∷ []))
    × ((station_of whole_record).latitude ≡ pos 407_789)
    × ((station_of whole_record).longitude ≡ neg_ℤ (pos 739_692))
    × ((station_of whole_record).elevation ≡ Some (pos 427)) × ((station_of whole_record).state ≡ codes "NY")
    × ((station_of whole_record).name ≡ codes "ABCDEFGHIJKLMNOPQRSTUVWXYZ0123")
record_fields = (refl, refl, refl, refl, refl, refl)

-- of two errors of a line that of the earlier test is reported: length, ID, latitude, longitude, elevation, repeated ID
earlier_test : (listed (codes "ZZA0000 001  10.0000   20.000") ≡ Err (StationLine 1 station.Short))
    × (listed (codes "ZZA0000 001  91.0000   20.0000") ≡ Err (StationLine 1 station.BadId))
    × (listed (codes "ZZA00000001  91.0000  181.0000") ≡ Err (StationLine 1 station.BadLatitude))
    × (listed (codes "ZZA00000001  10.0000  181.0000  x") ≡ Err (StationLine 1 station.BadLongitude))
    × (listed (alpha ++ 10 ∷ take 33 alpha) ≡ Err (StationLine 2 station.BadElevation))
earlier_test = (refl, refl, refl, refl, refl)

-- of two lines with an error the first, and a line of blanks counts for the numbers of the lines after it
earlier_line : (listed (alpha ++ 10 ∷ take 29 bravo ++ 10 ∷ alpha) ≡ Err (StationLine 2 station.Short))
    × (listed (alpha ++ 10 ∷ 10 ∷ 32 ∷ 10 ∷ alpha) ≡ Err (StationLine 4 station.Duplicate))
earlier_line = (refl, refl)

-- n lines of one station
abbrev so_many : ℕ → List Numbered
so_many n = replicate n (1, alpha)

-- none of them is another station's
none_of_bravo : (n : ℕ) → is_repeated (so_many n) (id_of bravo) ≡ false
none_of_bravo zero = refl
none_of_bravo (suc n) = none_of_bravo n

-- after that many stations a line without an error is refused as one too many, or not at all
at_limit : (n : ℕ) → station_fault (so_many n) (7, bravo) ≡ (if nat_lt n (2 ^ 20) then None else Some TooManyStations)
at_limit n =
    ap (λ (b : Bool). option_or (option_map (λ why. StationLine 7 why) (if b then Some station.Duplicate else None))
    (if nat_lt (length (so_many n)) (2 ^ 20) then None else Some TooManyStations))
    (none_of_bravo n)
    ∙ ap (λ (m : ℕ). if nat_lt m (2 ^ 20) then None else Some TooManyStations) (length-replicate n (1, alpha))

-- it is one too many after 2^20 stations, and not after one fewer
too_many : (station_fault (so_many (2 ^ 20)) (7, bravo) ≡ Some TooManyStations)
    × (station_fault (so_many (2 ^ 20 - 1)) (7, bravo) ≡ None)
too_many = (at_limit (2 ^ 20), at_limit (2 ^ 20 - 1))

-- after that many, a repeated ID and a line that is too short are reported as what they are
before_too_many : (station_fault (so_many (2 ^ 20)) (7, alpha) ≡ Some (StationLine 7 station.Duplicate))
    × (station_fault (so_many (2 ^ 20)) (7, take 29 bravo) ≡ Some (StationLine 7 station.Short))
before_too_many = (refl, refl)

-- ---- lines of a daily file

-- codes byte for byte
codes_of_elements : (element_of (codes "PRCP") ≡ Some Prcp) × (element_of (codes "TMIN") ≡ Some Tmin)
    × (element_of (codes "Tmin") ≡ None) × (element_of (codes "SNO") ≡ None)
codes_of_elements = (refl, refl, refl, refl)

-- a missing day
abbrev gap : List ℕ
gap = codes "-9999   "

-- a line of one value and a flagged one
abbrev july : List ℕ
july = codes "ZZA00000001202007TMAX  311   " ++ repeat 30 gap

-- it is read
july_read : read_month july ≡ Ok (Some (month_of Tmax july))
unfolding days_of_group
july_read = refl

-- without its last three columns too
july_cut : read_month (take 266 july) ≡ Ok (Some (month_of Tmax july))
unfolding days_of_group
july_cut = refl

-- but not without four
july_too_short : read_month (take 265 july) ≡ Err why.Short
july_too_short = refl

-- a column more has to be blank
july_too_long : (read_month (july ++ codes "x") ≡ Err why.TooLong)
    × (read_month (july ++ codes " ") ≡ Ok (Some (month_of Tmax july)))
unfolding days_of_group
july_too_long = (refl, refl)

-- what it says of two days
first_days : (reading july 1 ≡ record { value = Some (pos 311); flagged = false })
    × (reading july 2 ≡ record { value = None; flagged = false })
first_days = (refl, refl)

-- a quality flag
flagged_day : reading (codes "ZZA00000001201912PRCP  400MQS") 1 ≡ record { value = Some (pos 400); flagged = true }
flagged_day = refl

-- a value with a blank between digits
bad_value : read_month (codes "ZZA00000001202007TMAX  311   " ++ gap ++ codes "12 34   " ++ repeat 28 gap)
    ≡ Err (why.BadValue 3)
unfolding days_of_group
bad_value = refl

-- a month 13 and a year 0
no_such_month : (read_month (codes "ZZA00000001202013TMAX" ++ repeat 31 gap) ≡ Err why.BadMonth)
    × (read_month (codes "ZZA00000001000001TMAX" ++ repeat 31 gap) ≡ Err why.BadYear)
unfolding days_of_group
no_such_month = (refl, refl)

-- another element, and a line that ends inside its code
passed_over : (read_month (codes "ZZA00000001202007WSFG") ≡ Ok None)
    × (read_month (codes "ZZA00000001202007WSF") ≡ Err why.Short)
passed_over = (refl, refl)

-- the five codes, and which elements have negative values
all_codes : (map element_of
    (codes "PRCP" ∷ codes "SNOW" ∷ codes "SNWD" ∷ codes "TMAX" ∷ codes "TMIN" ∷ codes "TAVG" ∷ [])
    ≡ Some Prcp ∷ Some Snow ∷ Some Snwd ∷ Some Tmax ∷ Some Tmin ∷ None ∷ [])
    × (map may_be_negative (Prcp ∷ Snow ∷ Snwd ∷ Tmax ∷ Tmin ∷ []) ≡ false ∷ false ∷ false ∷ true ∷ true ∷ [])
all_codes = (refl, refl)

-- no element, one, one more, that one once more, and all
sets_of_elements : (map (is_kept nothing) elements ≡ replicate 5 false)
    × (map (is_kept (only Tmax)) elements ≡ false ∷ false ∷ false ∷ true ∷ false ∷ [])
    × (map (is_kept (with_one (only Tmax) Snow)) elements ≡ false ∷ true ∷ false ∷ true ∷ false ∷ [])
    × (with_one (only Tmax) Tmax ≡ only Tmax)
    × (map (is_kept everything) elements ≡ replicate 5 true) × (with_one everything Prcp ≡ everything)
sets_of_elements = (refl, refl, refl, refl, refl, refl)

-- a line of this head, without a value
abbrev empty_line : List ℕ → List ℕ
empty_line head = head ++ repeat 31 gap

-- a month and a year with blanks before their digits
blanks_before : (read_month (empty_line (codes "ZZA000000012020 7TMAX"))
    ≡ Ok (Some (month_of Tmax (empty_line (codes "ZZA000000012020 7TMAX")))))
    × ((month_of Tmax (empty_line (codes "ZZA000000012020 7TMAX"))).month ≡ 7)
    × ((month_of Tmax (empty_line (codes "ZZA00000001 98712TMAX"))).year ≡ 987)
unfolding days_of_group
blanks_before = (refl, refl, refl)

-- a blank after the digit, no month, no year, and a month below zero
no_month : (read_month (empty_line (codes "ZZA0000000120207 TMAX")) ≡ Err why.BadMonth)
    × (read_month (empty_line (codes "ZZA000000012020  TMAX")) ≡ Err why.BadMonth)
    × (read_month (empty_line (codes "ZZA00000001    07TMAX")) ≡ Err why.BadYear)
    × (read_month (empty_line (codes "ZZA000000012020-1TMAX")) ≡ Err why.BadMonth)
    × (read_month (empty_line (codes "ZZA00000001-02007TMAX")) ≡ Err why.BadYear)
unfolding days_of_group
no_month = (refl, refl, refl, refl, refl)

-- the edges of the years and of the months
time_edges : (read_month (empty_line (codes "ZZA00000001000101TMAX"))
    ≡ Ok (Some (month_of Tmax (empty_line (codes "ZZA00000001000101TMAX")))))
    × (read_month (empty_line (codes "ZZA00000001999912TMAX"))
    ≡ Ok (Some (month_of Tmax (empty_line (codes "ZZA00000001999912TMAX")))))
    × (read_month (empty_line (codes "ZZA00000001202000TMAX")) ≡ Err why.BadMonth)
unfolding days_of_group
time_edges = (refl, refl, refl)

-- a byte 127 in the ID
unseen_id : read_month (codes "ZZA0000000" ++ 127 ∷ empty_line (codes "202007TMAX")) ≡ Err why.BadId
unfolding days_of_group
unseen_id = refl

-- of two errors of a line the one of the earlier test is reported: length, what is past its end, ID, year, month, the
-- first value
earlier_told : (read_month (empty_line (codes "ZZA0000 001202007TMAX") ++ codes "x") ≡ Err why.TooLong)
    × (read_month (empty_line (codes "ZZA0000 001000007TMAX")) ≡ Err why.BadId)
    × (read_month (empty_line (codes "ZZA00000001000013TMAX")) ≡ Err why.BadYear)
    × (read_month (codes "ZZA00000001202013TMAX    x   " ++ repeat 30 gap) ≡ Err why.BadMonth)
    × (read_month (codes "ZZA00000001202007TMAX" ++ gap ++ codes "   +7   " ++ codes "    x   " ++ repeat 28 gap)
    ≡ Err (why.BadValue 2))
    × (read_month (take 265 (empty_line (codes "ZZA0000 001202007TMAX"))) ≡ Err why.Short)
unfolding days_of_group
earlier_told = (refl, refl, refl, refl, refl, refl)

-- of a line of another element nothing else is looked at
other_element : (read_month (codes "ZZA0000 001000013TAVG" ++ repeat 31 (codes "    x   ") ++ codes "x") ≡ Ok None)
    × (read_month (codes "ZZA0000 001000013TAV") ≡ Err why.Short)
unfolding days_of_group
other_element = (refl, refl)

-- of the three flags only the second one counts, and each byte but a blank does: a zero, a small letter, a tab
flags : (reading (codes "ZZA00000001201912PRCP  400 0 ") 1 ≡ record { value = Some (pos 400); flagged = true })
    × (reading (codes "ZZA00000001201912PRCP  400M 7") 1 ≡ record { value = Some (pos 400); flagged = false })
    × (reading (codes "ZZA00000001201912PRCP  400 i ") 1 ≡ record { value = Some (pos 400); flagged = true })
    × (reading (codes "ZZA00000001201912PRCP  400 " ++ 9 ∷ codes " ") 1
    ≡ record { value = Some (pos 400); flagged = true })
flags = (refl, refl, refl, refl)

-- a blank value is missing as -9999 is, and the numbers beside that one are values
missing_values : (reading (codes "ZZA00000001201912TMIN        ") 1 ≡ record { value = None; flagged = false })
    × (reading (codes "ZZA00000001201912TMIN-9998   ") 1 ≡ record { value = Some (neg_ℤ (pos 9998)); flagged = false })
    × (reading (codes "ZZA00000001201912TMIN99999   ") 1 ≡ record { value = Some (pos 99999); flagged = false })
missing_values = (refl, refl, refl)

-- the last day's group, in the columns 262 to 269
last_day : (reading (codes "ZZA00000001202007TMAX" ++ repeat 30 gap ++ codes "  305 X ") 31
    ≡ record { value = Some (pos 305); flagged = true })
    × (reading (codes "ZZA00000001202007TMAX" ++ repeat 30 gap ++ codes "  305 X ") 30
    ≡ record { value = None; flagged = false })
last_day = (refl, refl)
