-- The canonical text of a query spells it.
use Rattle.rank_query.proofs.Cited.{◌≡◌, ℕ, ◌<◌, ◌≤◌, ◌^◌, true, ◌++◌, length, codes, IsTrue, refl, length-append}
use Rattle.rank_query.proofs.Cited.{arith, Some, None, ℤ, pos, neg_ℤ, ◌≤ℤ◌, Option, AllByRecursion, and_parts}
use Rattle.rank_query.proofs.Cited.{nat_tests, ints, is_within, Score, Highest, Lowest, Sum, Dry, Wet, Hot, Cold}
use Rattle.rank_query.proofs.Cited.{Region, Everywhere, Inside, Country, State, Only, Query, IsAsked, is_score, is_fall}
use Rattle.rank_query.proofs.Cited.{is_heat, is_month, is_season, is_region, score_words, region_words, season_words}
use Rattle.rank_query.proofs.Cited.{period_words, query_words, query_text, SpellsWord, IsSpelling, QueryWord, Exactly}
use Rattle.rank_query.proofs.Cited.{Count, Tenths, Edge, TwoMonths, Season, AllYear, Months, Dates, dates_text}
use Rattle.rank_query.proofs.Cited.{per_words, Per, Each, Station, Year, word_text, words_of, map, List, [], ◌∷◌, sym}
use Rattle.rank_query.proofs.Cited.{subst, length-map, is_code, code_of, date_text, Element, nat_le, list_all}
use Rattle.rank_query.proofs.Cited.{is_visible, ◌&&◌}
use Rattle.rank_query.specs.Laws.{IsShortLine}
use Rattle.ghcn_files.proofs.Among.{each-weaker}
use Rattle.rank_query.proofs.OneWords.{IsOneWord, words_of-join}
use Rattle.rank_query.proofs.PrintedWords.{IsShortWord, length-join, printable-join, known_word, decimal_numeral}
use Rattle.rank_query.proofs.PrintedWords.{decimal_word, code_word, visible_word, date_word, dates_word}
use Rattle.rank_query.proofs.PrintedWords.{four_places_text, tenths_text, months_word, months_spelt}
use Rattle.rank_query.proofs.SpeltWords.{SpellAll}
use Rattle.rank_query.proofs.RegionWords.{edges_of, longitude-range}

-- the canonical text of a word is one short word, and spells it
pub record IsPrinted (w : QueryWord) : Type 0 where
  pub short : IsShortWord (word_text w)
  pub spelt : SpellsWord (word_text w) w

-- so it is with bytes that are a short word
exact_printed : (text : List ℕ) → IsShortWord text → IsPrinted (Exactly text)
exact_printed text short = record { short = short; spelt = refl }

-- as are those of the language's own words
known_printed : (text : List ℕ) → (nat_le 1 (length text) && list_all is_visible text && nat_le (length text) 11) ≡ true
    → IsPrinted (Exactly text)
known_printed text short = exact_printed text (known_word text short)

-- of an element's code
element_printed : (e : Element) → IsPrinted (Exactly (code_of e))
element_printed e = exact_printed (code_of e) (code_word e)

-- and of a date
date_printed : (day : ℤ) → IsPrinted (Exactly (date_text day))
date_printed day = exact_printed (date_text day) (date_word day)

-- with a number of rows or days within limits
count_printed : (low high n : ℕ) → high < 10 ^ 4 → IsTrue (is_within low high n) → IsPrinted (Count n)
count_printed low high n few within =
    let below : n ≤ high = grind (arith, nat_tests) in
    record { short = decimal_word n (omega arith) (omega arith); spelt = decimal_numeral n (omega arith) }

-- with degrees by which a day is hot or cold
tenths_printed : (t : ℤ) → is_heat t ≡ true → IsPrinted (Tenths t)
tenths_printed t is =
    let it = tenths_text t (grind (arith, ints)) (grind (arith, ints)) in record { short = it.short; spelt = it.spelt }

-- with an edge of a box
edge_printed : (z : ℤ) → neg_ℤ (pos 1_800_000) ≤ℤ z → z ≤ℤ pos 1_800_000 → IsPrinted (Edge z)
edge_printed z low high = let it = four_places_text z low high in record { short = it.short; spelt = it.spelt }

-- a month is one of twelve
twelve : (m : ℕ) → is_month m ≡ true → m ≤ 12
twelve m is = grind (arith, nat_tests)

-- and with two months
months_printed : (a b : ℕ) → is_month a ≡ true → is_month b ≡ true → IsPrinted (TwoMonths a b)
months_printed a b first last = record {
  short = months_word a b (twelve a first) (twelve b last);
  spelt = months_spelt a b (twelve a first) (twelve b last);
}

-- the words of a score are such, and few
score_printed : (s : Score) → is_score s ≡ true → AllByRecursion IsPrinted (score_words s)
    × (length (score_words s) ≤ 3)
score_printed (Highest e) is = ((known_printed (codes "highest") refl, (element_printed e, tt)), omega arith)
score_printed (Lowest e) is = ((known_printed (codes "lowest") refl, (element_printed e, tt)), omega arith)
score_printed (Sum n e) is =
    let days = count_printed 1 366 n (omega arith) (and_parts (is_within 1 366 n) (is_fall e) is).0 in
    ((known_printed (codes "sum") refl, (days, (element_printed e, tt))), omega arith)
score_printed Dry is = ((known_printed (codes "dry") refl, tt), omega arith)
score_printed Wet is = ((known_printed (codes "wet") refl, tt), omega arith)
score_printed (Hot t) is = ((known_printed (codes "hot") refl, (tenths_printed t is, tt)), omega arith)
score_printed (Cold t) is = ((known_printed (codes "cold") refl, (tenths_printed t is, tt)), omega arith)

-- a code is such a word
code_printed : (len : ℕ) (code : List ℕ) → 1 ≤ len → len ≤ 11 → is_code len code ≡ true → IsPrinted (Exactly code)
code_printed len code some few is = exact_printed code (visible_word len code some few is)

-- the words of a region are such, and few
region_printed : (r : Region) → is_region r ≡ true → AllByRecursion IsPrinted (region_words r)
    × (length (region_words r) ≤ 5)
region_printed Everywhere is = (tt, omega arith)
region_printed (Inside south west north east) is =
    let edges = edges_of south west north east is in
    let s = edge_printed south (omega (arith, ints, edges.low)) (omega (arith, ints, edges.order, edges.high)) in
    let w = longitude-range west edges.west_is in
    let n = edge_printed north (omega (arith, ints, edges.low, edges.order)) (omega (arith, ints, edges.high)) in
    let e = longitude-range east edges.east_is in (
      (
        known_printed (codes "box") refl,
        (s, (edge_printed west w.0 w.1, (n, (edge_printed east e.0 e.1, tt)))),
      ),
      omega arith,
    )
region_printed (Country code) is =
    ((known_printed (codes "country") refl, (code_printed 2 code (omega arith) (omega arith) is, tt)), omega arith)
region_printed (State code) is =
    ((known_printed (codes "state") refl, (code_printed 2 code (omega arith) (omega arith) is, tt)), omega arith)
region_printed (Only id) is =
    ((known_printed (codes "station") refl, (code_printed 11 id.0 (omega arith) (omega arith) is, tt)), omega arith)

-- the words of a season are such, and few
season_printed : (s : Season) → is_season s ≡ true → AllByRecursion IsPrinted (season_words s)
    × (length (season_words s) ≤ 2)
season_printed AllYear is = (tt, omega arith)
season_printed (Months a b) is =
    let both = and_parts (is_month a) (is_month b) is in
    ((known_printed (codes "months") refl, (months_printed a b both.0 both.1, tt)), omega arith)
season_printed (Dates a b) is =
    ((known_printed (codes "days") refl, (exact_printed (dates_text a b) (dates_word a b), tt)), omega arith)

-- the words of a period are such, and few
period_printed : (p : Option (ℤ × ℤ)) → AllByRecursion IsPrinted (period_words p) × (length (period_words p) ≤ 4)
period_printed None = (tt, omega arith)
period_printed (Some p) = (
  (
    known_printed (codes "from") refl,
    (date_printed p.0, (known_printed (codes "to") refl, (date_printed p.1, tt))),
  ),
  omega arith,
)

-- the words of a group are such, and few
per_printed : (g : Per) → AllByRecursion IsPrinted (per_words g) × (length (per_words g) ≤ 2)
per_printed Each = (tt, omega arith)
per_printed Station = ((known_printed (codes "per") refl, (known_printed (codes "station") refl, tt)), omega arith)
per_printed Year = ((known_printed (codes "per") refl, (known_printed (codes "year") refl, tt)), omega arith)

-- words before words are such
all_both : (xs ys : List QueryWord) → AllByRecursion IsPrinted xs → AllByRecursion IsPrinted ys
    → AllByRecursion IsPrinted (xs ++ ys)
all_both [] ys first second = second
all_both (x ∷ xs) ys first second = (first.0, all_both xs ys first.1 second)

-- the texts of such words are short words
short_texts : (words : List QueryWord) → AllByRecursion IsPrinted words
    → AllByRecursion IsShortWord (map word_text words)
short_texts [] all = tt
short_texts (w ∷ words) all = (all.0.short, short_texts words all.1)

-- and spell them
texts_spell : (words : List QueryWord) → AllByRecursion IsPrinted words → SpellAll (map word_text words) words
texts_spell [] all = tt
texts_spell (w ∷ words) all = (all.0.spelt, texts_spell words all.1)

-- a canonical text spells its query, and is short and printable
pub record IsCanonical (q : Query) : Type 0 where
  pub spells : IsSpelling (query_text q) q
  pub line : IsShortLine (query_text q)

-- so it is for each query that may be asked
pub canonical : (q : Query) → IsAsked q → IsCanonical q
canonical q is =
    let score = score_printed q.score is.score in
    let region = region_printed q.region is.region in
    let season = season_printed q.season is.season in
    let period = period_printed q.period in
    let group = per_printed q.per in
    let placed = all_both (score_words q.score) (region_words q.region) score.0 region.0 in
    let front = all_both (score_words q.score ++ region_words q.region) (season_words q.season) placed season.0 in
    let dated = all_both (score_words q.score ++ region_words q.region ++ season_words q.season)
    (period_words q.period) front period.0 in
    let all : AllByRecursion IsPrinted (query_words q) = (
      known_printed (codes "top") refl,
      (
        count_printed 1 1000 q.k (omega arith) is.k,
        all_both (score_words q.score ++ region_words q.region ++ season_words q.season ++ period_words q.period)
            (per_words q.per) dated group.0,
      ),
    ) in
    let texts : List (List ℕ) = map word_text (query_words q) in
    let short = short_texts (query_words q) all in
    let same : words_of (query_text q) ≡ texts = words_of-join texts
    (each-weaker IsShortWord IsOneWord texts (λ w it. it.one) short) in
    let few : length (query_words q) ≤ 18 = simp length-append (omega arith) in
    record {
      spells = subst (λ words. SpellAll words (query_words q)) (sym same) (texts_spell (query_words q) all);
      line = record {
        some = omega arith;
        short = omega (arith, length-join texts short, length-map (query_words q) word_text);
        printable = printable-join texts short;
      };
    }
