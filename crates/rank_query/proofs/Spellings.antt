-- What is read as a query spells it, and what spells a query is read as it.
use Rattle.rank_query.proofs.Cited.{ints, ◌≡◌, ℕ, ◌≤◌, false, List, [], ◌∷◌, ◌++◌, length, Option, Ok, codes, refl, sym}
use Rattle.rank_query.proofs.Cited.{ap, ◌∙◌, subst, append_assoc, append-nil, arith, nat_lt, ℤ, enumerate_from}
use Rattle.rank_query.proofs.Cited.{AllByRecursion, nat_tests, Score, Region, Season, QueryTooLong, Query, IsAsked}
use Rattle.rank_query.proofs.Cited.{Word, words_of, numbered_words, says, keyword, one_word, number, score_at}
use Rattle.rank_query.proofs.Cited.{region_at, season_at, period_at, per_at, nothing_more, read_words, read_query}
use Rattle.rank_query.proofs.Cited.{SpellsQuery, IsSpelling, Count, QueryWord, score_words, region_words, season_words}
use Rattle.rank_query.proofs.Cited.{period_words, per_words, Per}
use Rattle.rank_query.proofs.OneWords.{HasNoBlank, words_no_blank}
use Rattle.rank_query.proofs.ReadingSteps.{bind_ok, else_ok, unnumbered, unnumbered-enumerate_from, keyword_took}
use Rattle.rank_query.proofs.SpeltWords.{SpellAll, Spell}
use Rattle.rank_query.proofs.WordValues.{numeral_number}
use Rattle.rank_query.proofs.ScoreWords.{count_took, score_took, score_read}
use Rattle.rank_query.proofs.RegionWords.{region_took, region_read}
use Rattle.rank_query.proofs.SeasonWords.{season_took, season_read, no_region}
use Rattle.rank_query.proofs.PeriodWords.{period_took, period_read, no_season}
use Rattle.rank_query.proofs.GroupWords.{per_took, per_read, no_period}

-- if nothing more comes, nothing is left
pub nothing_left : (ws : List Word) (q r : Query) → nothing_more ws q ≡ Ok r → (ws ≡ []) × (q ≡ r)
nothing_left [] q r e = (refl, cc)
nothing_left (w ∷ ws) q r e = cc

-- if no words are left none are spelt
none_spelt : (words : List (List ℕ)) → SpellAll words [] → words ≡ []
none_spelt [] all = refl
none_spelt (w ∷ words) all = absurd all

-- what is asked by its parts
abbrev pub asked : ℕ → Score → Region → Season → Option (ℤ × ℤ) → Per → Query
asked k s r t p g = record { k = k; score = s; region = r; season = t; period = p; per = g }

-- the words of the parts of a query come one after another
parts_order : (s r t p g : List QueryWord) → s ++ r ++ t ++ p ++ g ≡ s ++ (r ++ (t ++ (p ++ (g ++ []))))
parts_order s r t p g =
    append_assoc (s ++ r ++ t) p g ∙ append_assoc (s ++ r) t (p ++ g) ∙ append_assoc s r (t ++ (p ++ g))
    ∙ ap (λ g. s ++ (r ++ (t ++ (p ++ g)))) (sym (append-nil g))

-- words spell a query, if those after "top" spell the others
query_spelt : (ws left : List Word) (k : ℕ) (s : Score) (r : Region) (t : Season) (p : Option (ℤ × ℤ))
    (g : Per) → unnumbered ws ≡ codes "top" ∷ unnumbered left → Spell (unnumbered left)
    (Count k ∷ score_words s ++ (region_words r ++ (season_words t ++ (period_words p ++ (per_words g ++ [])))))
    → AllByRecursion HasNoBlank (unnumbered ws) → SpellsQuery (unnumbered ws) (asked k s r t p g)
query_spelt ws left k s r t p g front spelt clean =
    let all : AllByRecursion HasNoBlank (codes "top" ∷ unnumbered left) =
    subst (AllByRecursion HasNoBlank) front clean in
    let order = parts_order (score_words s) (region_words r) (season_words t) (period_words p) (per_words g) in
    subst (λ words. SpellsQuery words (asked k s r t p g)) (sym front)
    (refl, subst (λ these. SpellAll (unnumbered left) (Count k ∷ these)) (sym order) (spelt all.1))

-- the query that was read is spelt by the words
pub words_spell : (ws : List Word) (q : Query) → AllByRecursion HasNoBlank (unnumbered ws) → read_words ws ≡ Ok q
    → SpellsQuery (unnumbered ws) q
unfolding read_words
words_spell ws q no_blank e =
    let top = bind_ok (keyword (codes "top") ws) _ q e in
    let k = bind_ok (one_word (number 1 1000) top.0) _ q top.2 in
    let s = bind_ok (score_at k.0.1) _ q k.2 in
    let r = bind_ok (region_at s.0.1) _ q s.2 in
    let t = bind_ok (season_at r.0.1) _ q r.2 in
    let p = bind_ok (period_at t.0.1) _ q t.2 in
    let g = bind_ok (per_at p.0.1) _ q p.2 in
    let end = nothing_left g.0.1 (asked k.0.0 s.0.0 r.0.0 t.0.0 p.0.0 g.0.0) q g.2 in
    let none : Spell (unnumbered g.0.1) [] = subst (λ left. Spell (unnumbered left) []) (sym end.0) (λ clean. tt) in
    let group = per_took p.0.1 g.0.1 g.0.0 g.1 [] none in
    let period = period_took t.0.1 p.0.1 p.0.0 p.1 _ group in
    let season = season_took r.0.1 t.0.1 t.0.0 t.1 _ period in
    let region = region_took s.0.1 r.0.1 r.0.0 r.1 _ season in
    let score = score_took k.0.1 s.0.1 s.0.0 s.1 _ region in
    let rows = count_took 1 1000 top.0 k.0.1 k.0.0 k.1 _ score in
    subst (SpellsQuery (unnumbered ws)) end.1 (query_spelt ws top.0 k.0.0 s.0.0 r.0.0 t.0.0 p.0.0 g.0.0
    (keyword_took (codes "top") ws top.0 top.1) rows no_blank)

-- and the words of a text are words
text_spells : (text : List ℕ) (q : Query) → read_words (numbered_words text) ≡ Ok q → IsSpelling text q
text_spells text q e =
    let same : unnumbered (numbered_words text) ≡ words_of text = unnumbered-enumerate_from 1 (words_of text) in
    subst (λ ws. SpellsQuery ws q) same
    (words_spell (numbered_words text) q (subst (AllByRecursion HasNoBlank) (sym same) (words_no_blank text)) e)

-- what is read as a query spells it
pub read_spells : (text : List ℕ) (q : Query) → read_query text ≡ Ok q → IsSpelling text q
unfolding read_query
read_spells text q e = text_spells text q (else_ok (nat_lt 256 (length text)) QueryTooLong _ q e)

-- words that spell a query that may be asked are read as it
pub spelt_read : (ws : List (List ℕ)) (q : Query) → IsAsked q → SpellsQuery ws q
    → read_words (enumerate_from 1 ws) ≡ Ok q
unfolding read_words keyword says
spelt_read [] q is spelling = absurd spelling
spelt_read (w ∷ []) q is spelling = absurd spelling.1
spelt_read (w ∷ k ∷ ws) q is spelling =
    let all = subst (SpellAll ws) (parts_order (score_words q.score) (region_words q.region) (season_words q.season)
    (period_words q.period) (per_words q.per)) spelling.1.1 in
    let rows = numeral_number 1 1000 q.k 2 k is.k spelling.1.0 in
    let s = score_read q.score _ is.score ws 3 all in
    let r = region_read q.region _ is.region (no_region q.season q.period q.per) s.rest s.at s.spells in
    let t = season_read q.season _ is.season (no_season q.period q.per) r.rest r.at r.spells in
    let p = period_read q.period _ is.period (no_period q.per) t.rest t.at t.spells in
    let g = per_read q.per p.rest p.at p.spells in
    let none = none_spelt g.rest g.spells in
    grind (arith, ints)

-- and so is a text of at most 256 bytes
pub spelling_read : (text : List ℕ) (q : Query) → IsAsked q → IsSpelling text q → length text ≤ 256
    → read_query text ≡ Ok q
unfolding read_query
spelling_read text q is spelling short =
    let test : nat_lt 256 (length text) ≡ false = grind (arith, nat_tests) in
    rw (test, spelt_read (words_of text) q is spelling)
