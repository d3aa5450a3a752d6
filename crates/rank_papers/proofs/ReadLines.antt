-- What any report or certificate writes in its lines is read of them.
use Rattle.std.proofs.Common.{◌≡◌, ◌-◌, Bool, true, cond, List, length, Some, None, refl, ap, ◌∙◌, arith, FitsSigned, w64, ℕ}
use Rattle.std.specs.Prelude.{ℤ, codes, slice_range}
use Rattle.std.specs.List.{list_all}
use Rattle.std.proofs.lemmas.Bool.{and_parts}
use Rattle.std.proofs.lemmas.Bool.Decides.{nat_tests}
use Rattle.std.proofs.lemmas.Int.{ints}
use Rattle.ghcn_files.specs.Meaning.Ids.{is_visible}
use Rattle.ghcn_files.specs.Ids.{is_id}
use Rattle.rank_query.specs.declared.score.Score.TheVariants.{Dry}
use Rattle.rank_query.specs.Meaning.Asked.{Query, IsAsked}
use Rattle.rank_query.specs.Asked.{top}
use Rattle.rank_query.specs.Meaning.QueryTexts.{query_text}
use Rattle.rank_query.specs.Reading.{read_query}
use Rattle.rank_query.proofs.CanonicalTexts.{canonical}
use Rattle.rank_query.proofs.Spellings.{spelling_read}
use Rattle.rank_papers.specs.Meaning.Report.{query_line}
use Rattle.rank_papers.specs.Lines.{is_i64, ok_query, query_in, query_of_text}
use Rattle.rank_papers.proofs.LineValues.{exactly-from}
use Rattle.rank_papers.proofs.WrittenLines.{last_field}

-- the line of a query is read as it
pub query_in-line : (q : Query) → IsAsked q → query_in (query_line q) ≡ Some q
query_in-line q asked =
    let text : List ℕ = query_text q in
    let own = canonical q asked in
    let read : query_of_text text ≡ Some q =
    ap (λ (b : Bool). cond b (ok_query (read_query text)) None) own.line.printable
    ∙ ap ok_query (spelling_read text q asked own.spells own.line.short) in
    exactly-from query_line (query_of_text (slice_range (query_line q) 6 (length (query_line q) - 1))) q
    (ap query_of_text (last_field 6 (codes "query ") text refl) ∙ read)

-- a query that can be asked
abbrev pub some_query : Query
some_query = top 1 Dry

-- it is read of its line
pub some_query-line : query_in (query_line some_query) ≡ Some some_query
some_query-line =
    query_in-line some_query (record { k = refl; score = refl; region = refl; season = refl; period = refl })

-- a number inside 64 bits passes the test
pub is_i64-fits : (z : ℤ) → FitsSigned w64 z → is_i64 z ≡ true
is_i64-fits z h = grind (arith, ints)

-- an ID has eleven bytes
pub id_long : (bytes : List ℕ) → is_id bytes ≡ true → length bytes ≡ 11
id_long bytes h =
    let both = and_parts _ (list_all is_visible bytes) h in
    let test = both.0 in grind (arith, nat_tests)
