-- A list of queries as it is read, line by line: how far a loop has come, and how it ends.
use Rattle.std.proofs.Common.{◌≡◌, ℕ, ◌+◌, ◌<◌, zero, suc, List, [], ◌∷◌, ◌++◌, length, take, drop, get_or}
use Rattle.std.proofs.Common.{refl, sym, ap, subst, ◌∙◌, arith}
use Rattle.std.specs.List.{All, AllZip}
use Rattle.std.proofs.lemmas.List.{take_more, take_all, take-append-drop, drop_more, length-take-le}
use Rattle.std.proofs.lemmas.List.FromFn.{length-enumerate_from, get_or-enumerate_from}
use Rattle.std.proofs.lemmas.Slice.Zip.{all_zipped_more, AllZip-long}
use Rattle.ghcn_fields.specs.Meaning.Lines.{lines}
use Rattle.ghcn_fields.specs.Lines.{numbered_lines}
use Rattle.rank_query.specs.Meaning.Asked.{Query}
use Rattle.rank_query.specs.Meaning.Asks.{Asks}
use Rattle.rank_input.specs.declared.queries.QueriesFault.{QueriesFault}
use Rattle.rank_input.specs.declared.queries.QueriesFault.TheVariants.{Line, NotText, Memory}
use Rattle.rank_input.specs.Named.{Text}
use Rattle.rank_input.specs.Queries.{query_lines, some_lines, IsQuery, IsBadLine, HasFirstBad, IsFirstBadQuery}

-- the line at a place, with its number
pub record IsLineAt (ls : List Text) (k : ℕ) (item : ℕ × Text) : Type 0 where
  pub within : k < length ls
  pub number : item.0 ≡ k + 1
  pub line : item.1 ≡ get_or ls k item.1

-- these queries are asked by the first lines, one by each
pub record HaveAsked (ls : List Text) (k : ℕ) (held : List Query) : Type 0 where
  pub each : AllZip Asks (take k ls) held

-- a numbered line is the line at its place
pub line_at : (text : Text) (k : ℕ) (item : ℕ × Text) → k < length (numbered_lines text)
    → item ≡ get_or (numbered_lines text) k item → IsLineAt (lines text) k item
line_at text k item lt is =
    let ls : List Text = lines text in
    let within : k < length ls = omega (arith, lt, length-enumerate_from 1 ls) in
    let at : item ≡ (1 + k, get_or ls k item.1) = is ∙ get_or-enumerate_from 1 ls k item within in
    let number : item.0 ≡ 1 + k = ap (λ (p : ℕ × Text). p.0) at in
    record { within = within; number = omega (arith, number); line = ap (λ (p : ℕ × Text). p.1) at }

-- one line more asks one query more
pub one_more : (ls : List Text) (k : ℕ) (held : List Query) (item : ℕ × Text) (q : Query) → IsLineAt ls k item
    → HaveAsked ls k held → Asks item.1 q → HaveAsked ls (k + 1) (held ++ q ∷ [])
one_more ls k held item q at h asks = record {
  each = subst (λ (xs : List Text). AllZip Asks xs (held ++ q ∷ []))
      (sym (take_more ls k item.1 at.within ∙ ap (λ (l : Text). take k ls ++ l ∷ []) (sym at.line)))
      (all_zipped_more Asks (take k ls) held item.1 q h.each asks);
}

-- lines that ask queries are queries
are_queries : (ls : List Text) (qs : List Query) → AllZip Asks ls qs → All IsQuery ls
are_queries [] qs h k d lt = absurd (omega (arith, lt))
are_queries (l ∷ ls) [] h k d lt = absurd h
are_queries (l ∷ ls) (q ∷ qs) h zero d lt = (q, h.0)
are_queries (l ∷ ls) (q ∷ qs) h (suc k) d lt = are_queries ls qs h.1 k d (omega (arith, lt))

-- lines stay as they are, if there are some
some_stay : (ls : List Text) → 0 < length ls → some_lines ls ≡ ls
some_stay [] lt = absurd (omega (arith, lt))
some_stay (l ∷ ls) lt = refl

-- if there is none, one empty line stands for them
none_is_blank : (ls : List Text) → length ls ≡ 0 → some_lines ls ≡ [] ∷ []
none_is_blank [] e = refl
none_is_blank (l ∷ ls) e = absurd (omega (arith, e))

-- the error of the first line that isn't a query is that of the list
decides : (text : Text) (fault : QueriesFault) → HasFirstBad (query_lines text) fault → IsFirstBadQuery text fault
decides text (Memory m) first = tt
decides text (Line line why) first = first
decides text (NotText line) first = first

-- a line that isn't a query comes after lines that are
pub bad_line : (text : Text) (k : ℕ) (held : List Query) (item : ℕ × Text) (fault : QueriesFault)
    → IsLineAt (lines text) k item → HaveAsked (lines text) k held → IsBadLine item.0 item.1 fault
    → IsFirstBadQuery text fault
bad_line text k held item fault at h bad =
    let ls : List Text = lines text in
    let stay : query_lines text ≡ ls = some_stay ls (omega (arith, at.within)) in
    let long : length (take k ls) ≡ k = length-take-le k ls (omega (arith, at.within)) in
    let number : item.0 ≡ length (take k ls) + 1 = omega (arith, at.number, long) in
    decides text fault (record {
      before = take k ls;
      bad = item.1;
      after = drop (k + 1) ls;
      among = stay ∙ sym (take-append-drop k ls)
          ∙ ap (λ (xs : List Text). take k ls ++ xs) (drop_more ls k item.1 at.within)
          ∙ ap (λ (l : Text). take k ls ++ l ∷ drop (k + 1) ls) (sym at.line);
      asked = are_queries (take k ls) held h.each;
      here = subst (λ (n : ℕ). IsBadLine n item.1 fault) number bad;
    })

-- at the end the queries are asked by all lines
all_lines : (text : Text) (k : ℕ) (held : List Query) → k ≡ length (numbered_lines text)
    → HaveAsked (lines text) k held → AllZip Asks (lines text) held
all_lines text k held e h =
    subst (λ (ls : List Text). AllZip Asks ls held)
    (take_all k (lines text) (omega (arith, e, length-enumerate_from 1 (lines text)))) h.each

-- and so by the lines of the list, if there are some
pub all_asked : (text : Text) (k : ℕ) (held : List Query) → k ≡ length (numbered_lines text)
    → HaveAsked (lines text) k held → 0 < length held → AllZip Asks (query_lines text) held
all_asked text k held e h some =
    let each : AllZip Asks (lines text) held = all_lines text k held e h in
    let many : 0 < length (lines text) = omega (arith, AllZip-long Asks (lines text) held each) in
    subst (λ (ls : List Text). AllZip Asks ls held) (sym (some_stay (lines text) many)) each

-- if there is none, one empty line stands for them
pub blank_alone : (text : Text) (k : ℕ) (held : List Query) → k ≡ length (numbered_lines text)
    → HaveAsked (lines text) k held → length held ≡ 0 → query_lines text ≡ [] ∷ []
blank_alone text k held e h none =
    none_is_blank (lines text) (omega (arith, AllZip-long Asks (lines text) held (all_lines text k held e h)))

-- this line is a query
pub blank_asked : (text : Text) (held : List Query) (q : Query) → query_lines text ≡ [] ∷ [] → length held ≡ 0
    → Asks [] q → AllZip Asks (query_lines text) (held ++ q ∷ [])
blank_asked text [] q e none asks = subst (λ (ls : List Text). AllZip Asks ls (q ∷ [])) (sym e) (asks, tt)
blank_asked text (p ∷ ps) q e none asks = absurd (omega (arith, none))

-- or it isn't one
pub blank_bad : (text : Text) (fault : QueriesFault) → query_lines text ≡ [] ∷ [] → IsBadLine 1 [] fault
    → IsFirstBadQuery text fault
blank_bad text fault e bad = decides text fault (record {
  before = [];
  bad = [];
  after = [];
  among = e;
  asked = are_queries [] [] tt;
  here = bad;
})
