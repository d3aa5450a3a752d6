-- What is read as a query can be asked.
use Rattle.rank_query.proofs.Cited.{ints, arith, ◌≡◌, ℕ, List, [], ◌∷◌, None, Result, Ok, Err, codes, inl, inr, refl}
use Rattle.rank_query.proofs.Cited.{sym, subst, length, IfOk, nat_lt, AllByRecursion, Everywhere, AllYear, QueryFault}
use Rattle.rank_query.proofs.Cited.{QueryTooLong, Query, IsAsked, Word, numbered_words, Read, keyword, one_word}
use Rattle.rank_query.proofs.Cited.{by_word, number, score_at, region_at, season_at, period_at, per_at, read_words}
use Rattle.rank_query.proofs.Cited.{read_query, IsSpelling}
use Rattle.rank_query.proofs.Spellings.{asked, nothing_left, read_spells}
use Rattle.rank_query.proofs.ReadingSteps.{bind_ok, else_ok, by_word_took}
use Rattle.rank_query.proofs.Stops.{ReadsPart}
use Rattle.rank_query.proofs.PartStops.{part_word}
use Rattle.rank_query.proofs.WordStops.{reads_number}
use Rattle.rank_query.proofs.QueryStops.{one_row}
use Rattle.rank_query.proofs.ScoreStops.{score_part}
use Rattle.rank_query.proofs.RegionStops.{GoodRegion, region_parts}
use Rattle.rank_query.proofs.RegionWords.{region_rows}
use Rattle.rank_query.proofs.SeasonStops.{GoodSeason, season_parts}
use Rattle.rank_query.proofs.SeasonWords.{season_rows}
use Rattle.rank_query.proofs.PeriodStops.{GoodPeriod, period_parts}
use Rattle.rank_query.proofs.PeriodWords.{period_rows}

-- what is read by its first word, or without one, is good, if both are
by_word_good : {A : Type 0} (Good : A → Type 0) (table : List (List ℕ × (List Word → Read A))) (other : A)
    (ws rest : List Word) (x : A) → AllByRecursion (λ row. ReadsPart A Good row.1) table → Good other
    → by_word table (λ w. Ok (other, w)) ws ≡ Ok (x, rest) → Good x
by_word_good {A} Good [] other ws rest x parts is e = grind (arith, ints)
by_word_good Good (row ∷ table) other ws rest x parts is e =
    elim (by_word_took row.0 row.1 table (λ w. Ok (other, w)) ws (x, rest) e) [
      | inl found ↦ (parts.0.takes found.0 (x, rest) found.2).good
      | inr later ↦ by_word_good Good table other ws rest x parts.1 is later
    ]

-- the query of some words can be asked
pub words_asked : (ws : List Word) (q : Query) → read_words ws ≡ Ok q → IsAsked q
unfolding read_words region_at season_at period_at
words_asked ws q e =
    let top = bind_ok (keyword (codes "top") ws) _ q e in
    let k = bind_ok (one_word (number 1 1000) top.0) _ q top.2 in
    let s = bind_ok (score_at k.0.1) _ q k.2 in
    let r = bind_ok (region_at s.0.1) _ q s.2 in
    let t = bind_ok (season_at r.0.1) _ q r.2 in
    let p = bind_ok (period_at t.0.1) _ q t.2 in
    let g = bind_ok (per_at p.0.1) _ q p.2 in
    let rows = ((part_word (reads_number 1 1000 one_row)).takes top.0 k.0 k.1).good in
    let score = (score_part.takes k.0.1 s.0 s.1).good in
    let region = by_word_good GoodRegion region_rows Everywhere s.0.1 r.0.1 r.0.0 region_parts refl r.1 in
    let season = by_word_good GoodSeason season_rows AllYear r.0.1 t.0.1 t.0.0 season_parts refl t.1 in
    let period = by_word_good GoodPeriod period_rows None t.0.1 p.0.1 p.0.0 period_parts refl p.1 in
    subst IsAsked (nothing_left g.0.1 (asked k.0.0 s.0.0 r.0.0 t.0.0 p.0.0 g.0.0) q g.2).1
    (record { k = rows; score = score; region = region; season = season; period = period })

-- what is read as a query can be asked
pub read_asked : (text : List ℕ) (q : Query) → read_query text ≡ Ok q → IsAsked q
unfolding read_query
read_asked text q e = words_asked (numbered_words text) q (else_ok (nat_lt 256 (length text)) QueryTooLong _ q e)

-- if the reading succeeds, the query can be asked and the text spells it
pub if_read : (text : List ℕ) (r : Result Query QueryFault) → r ≡ read_query text
    → IfOk r (λ q. IsAsked q × IsSpelling text q)
if_read text (Ok q) e = (read_asked text q (sym e), read_spells text q (sym e))
if_read text (Err fault) e = tt
