-- Each error of a word is the one that the words before it call for.
use Rattle.rank_query.proofs.Cited.{ints, ◌≡◌, ℕ, ◌+◌, Bool, true, false, cond, ◌&&◌, inl, inr, List, [], ◌∷◌, ◌++◌}
use Rattle.rank_query.proofs.Cited.{length, reverse, Option, Some, None, Result, Ok, Err, IfErr, codes, refl, sym, ap}
use Rattle.rank_query.proofs.Cited.{◌∙◌, subst, arith, nat_lt, ℤ, pos, neg_ℤ, int_le, map-append, length-map}
use Rattle.rank_query.proofs.Cited.{length-reverse, reverse-reverse, Element, Score, Highest, Lowest, Sum, Dry, Wet}
use Rattle.rank_query.proofs.Cited.{Hot, Cold, Region, Everywhere, Inside, Country, Season, AllYear, Months, Dates}
use Rattle.rank_query.proofs.Cited.{State, Only, QueryFault, QueryTooLong, UnexpectedWord, QueryEnds, OutOfLimits}
use Rattle.rank_query.proofs.Cited.{BadDate, BadBox, EmptyPeriod, Query, may_be_negative, is_fall, is_heat, is_month}
use Rattle.rank_query.proofs.Cited.{Word, words_of, numbered_words, ◌>>=◌, keyword, one_word, made_into, number}
use Rattle.rank_query.proofs.Cited.{element, heat, months, degrees, code, date, tenths_in, two_numbers, dates}
use Rattle.rank_query.proofs.Cited.{no_score_at, sum_at, score_at, box_at, everywhere_at, region_at, Per, Each, group}
use Rattle.rank_query.proofs.Cited.{group_of, each_at, per_at, months_at, dates_at, all_year_at, season_at, days_at}
use Rattle.rank_query.proofs.Cited.{between_at, always_at, period_at, nothing_more, read_words, read_query}
use Rattle.rank_query.proofs.Cited.{place_behind, other, has_form, is_decimal, is_behind_box, is_behind_first_day}
use Rattle.rank_query.proofs.Cited.{IsFaultAmong, cases_Bool}
use Rattle.rank_query.specs.FaultKinds.{heat as a_heat, date as a_date}
use Rattle.rank_query.proofs.ReadingSteps.{assoc, unnumbered, unnumbered-enumerate_from, test_err, test_ok}
use Rattle.rank_query.proofs.ReadingSteps.{or_fault_err}
use Rattle.rank_query.proofs.Spellings.{asked}
use Rattle.rank_query.proofs.ScoreWords.{score_rows}
use Rattle.rank_query.proofs.RegionWords.{region_rows}
use Rattle.rank_query.proofs.SeasonWords.{season_rows}
use Rattle.rank_query.proofs.PeriodWords.{period_rows}
use Rattle.rank_query.proofs.GroupWords.{per_rows}
use Rattle.rank_query.proofs.Stops.{bind_err}
use Rattle.rank_query.proofs.FaultPlaces.{place_of}
use Rattle.rank_query.proofs.Places.{IsSettled, IsNoKeyword, HaveOtherLengths, not_both, settled_word, edge_more}
use Rattle.rank_query.proofs.Places.{edge_less, edge_place, number_no_keyword, heat_no_keyword, months_no_keyword}
use Rattle.rank_query.proofs.Places.{degrees_no_keyword, code_no_keyword, group_no_keyword, date_no_keyword}
use Rattle.rank_query.proofs.Places.{dates_no_keyword, element_settled, degrees_decimal, day_date}
use Rattle.rank_query.proofs.WordFaults.{IsKind, IsFaultBehind, here, unexpected, further, made_then, one_step}
use Rattle.rank_query.proofs.WordFaults.{inner_step, keyword_step, Part, Row, rows_part, limited_kind, number_kind}
use Rattle.rank_query.proofs.WordFaults.{element_kind, degrees_kind, code_kind, date_kind, dates_kind}

-- after a word, what is made of the value of another
made_row : {A B : Type 0} (text : List ℕ) (value : Word → Result A QueryFault) (make : A → B)
    → ((past : List (List ℕ)) (w : Word) (f : QueryFault) → value w ≡ Err f → IsKind f w.0 (text ∷ past) w.1)
    → ((past : List (List ℕ)) (w : Word) (x : A) → value w ≡ Ok x → IsSettled (w.1 ∷ text ∷ past))
    → Row B text (λ ws. made_into make (one_word value ws))
made_row text value make kind settled past ws g fault e next =
    one_step value (λ p. g (make p.0, p.1)) (text ∷ past) ws fault (sym (made_then make (one_word value ws) g) ∙ e)
    (kind past) (λ w x rest is e. further (text ∷ past) w rest fault
    (next (w.1 ∷ text ∷ past) (make x) rest (settled past w x is) e))

-- after a word, an element that a test allows
element_row : (text : List ℕ) (allows : Element → Bool) (make : Element → Score)
    → ((past : List (List ℕ)) → IsSettled (text ∷ past))
    → Row Score text (λ ws. made_into make (one_word (element allows) ws))
element_row text allows make settled = made_row text (element allows) make
    (λ past. element_kind allows (text ∷ past) (settled past)) (λ past w x. element_settled allows w x (text ∷ past))

-- a number of days and what is added up
sum_row : Row Score (codes "sum") sum_at
unfolding sum_at
sum_row = λ past ws g fault e next.
    inner_step (number 1 366) _ g (codes "sum" ∷ past) ws fault e (number_kind 1 366 (codes "sum" ∷ past) refl)
    (λ w n rest is e.
    further (codes "sum" ∷ past) w rest fault (
    let behind : List (List ℕ) = w.1 ∷ codes "sum" ∷ past in
    inner_step (element is_fall) _ g behind rest fault e
    (element_kind is_fall behind (settled_word w.1 (codes "sum" ∷ past) (number_no_keyword 1 366 w n is) refl refl))
    (λ v x rest is e.
    further behind v rest fault (next (v.1 ∷ behind) (Sum n x) rest (element_settled is_fall v x behind is) e))))

-- after a word, degrees by which a day is hot or cold
heat_row : (text : List ℕ) (make : ℤ → Score) → ((past : List (List ℕ)) → place_behind (text ∷ past) ≡ a_heat)
    → ((past : List (List ℕ)) → is_behind_box 2 (text ∷ past) ≡ false)
    → ((past : List (List ℕ)) → is_behind_first_day (text ∷ past) ≡ false)
    → Row Score text (λ ws. made_into make (one_word heat ws))
unfolding heat
heat_row text make place box day = made_row text heat make
    (λ past. limited_kind tenths_in is_heat (text ∷ past) (λ word. ap (λ p. has_form p word) (place past)))
    (λ past w t is. settled_word w.1 (text ∷ past) (heat_no_keyword w t is) (box past) (day past))

-- a word alone
word_row : {A : Type 0} (text : List ℕ) (y : A) → ((past : List (List ℕ)) → IsSettled (text ∷ past))
    → Row A text (λ ws. Ok (y, ws))
word_row text y settled = λ past ws g fault e next. next (text ∷ past) y ws (settled past) e

-- no score
no_score : Part Score no_score_at
unfolding no_score_at
no_score past [] g fault settled e next = let same : QueryEnds ≡ fault = cc in inl (sym same)
no_score past (w ∷ rest) g fault settled e next =
    unexpected past w rest fault settled (let same : UnexpectedWord w.0 ≡ fault = cc in same)

-- a score
score_part : Part Score score_at
unfolding score_at
score_part =
    rows_part score_rows no_score_at (
      element_row (codes "highest") (λ e. true) Highest (λ past. refl),
      (
        element_row (codes "lowest") may_be_negative Lowest (λ past. refl),
        (
          sum_row,
          (
            word_row (codes "dry") Dry (λ past. refl),
            (
              word_row (codes "wet") Wet (λ past. refl),
              (
                heat_row (codes "hot") Hot (λ past. refl) (λ past. refl) (λ past. refl),
                (heat_row (codes "cold") Cold (λ past. refl) (λ past. refl) (λ past. refl), tt),
              ),
            ),
          ),
        ),
      ),
    ) no_score

-- after four edges another word comes
edges_settled : (e n w s : List ℕ) (box : List (List ℕ)) → IsNoKeyword e → IsNoKeyword n → IsNoKeyword w
    → IsNoKeyword s → IsSettled (e ∷ n ∷ w ∷ s ∷ box)
edges_settled e n w s box no_e no_n no_w no_s = grind (arith, ints, settled_word, edge_less, not_both)

-- an error at an edge of a box, or after it
edge_step : {B C : Type 0} (low high : ℤ) (f : ℤ × List Word → Result B QueryFault) (g : B → Result C QueryFault)
    (past : List (List ℕ)) (ws : List Word) (fault : QueryFault)
    → ((one_word (degrees low high) ws >>= f) >>= g) ≡ Err fault → is_behind_box 3 past ≡ true
    → ((w : Word) (z : ℤ) (rest : List Word) → IsNoKeyword w.1 → is_decimal w.1 ≡ true
    → (f (z, rest) >>= g) ≡ Err fault → IsFaultBehind (w.1 ∷ past) rest fault) → IsFaultBehind past ws fault
edge_step low high f g past ws fault e behind next = inner_step (degrees low high) f g past ws fault e
    (degrees_kind low high past (edge_place past behind)) (λ w z rest is e. further past w rest fault
    (next w z rest (degrees_no_keyword low high w z is) (degrees_decimal low high w z is) e))

-- the four edges of a box
box_row : Row Region (codes "box") box_at
unfolding box_at
box_row past ws g fault e next =
    let box : List (List ℕ) = codes "box" ∷ past in
    edge_step (neg_ℤ (pos 900_000)) (pos 900_000) _ g box ws fault e refl (λ s z rest no_s is_s e.
    edge_step (neg_ℤ (pos 1_800_000)) (pos 1_800_000) _ g (s.1 ∷ box) rest fault e (edge_more 2 s.1 box is_s refl)
    (λ w x rest no_w is_w e.
    edge_step z (pos 900_000) _ g (w.1 ∷ s.1 ∷ box) rest fault e
    (edge_more 2 w.1 (s.1 ∷ box) is_w (edge_more 1 s.1 box is_s refl)) (λ n y rest no_n is_n e.
    edge_step (neg_ℤ (pos 1_800_000)) (pos 1_800_000) (λ o. Ok (Inside z x y o.0, o.1)) g (n.1 ∷ w.1 ∷ s.1 ∷ box) rest
    fault e (edge_more 2 n.1 (w.1 ∷ s.1 ∷ box) is_n (edge_more 1 w.1 (s.1 ∷ box) is_w (edge_more 0 s.1 box is_s refl)))
    (λ o v rest no_o is_o e. next (o.1 ∷ n.1 ∷ w.1 ∷ s.1 ∷ box) (Inside z x y v) rest
    (edges_settled o.1 n.1 w.1 s.1 box no_o no_n no_w no_s) e))))

-- after a word, a code of that many bytes
code_row : (text : List ℕ) (len : ℕ) (make : List ℕ → Region) → HaveOtherLengths len
    → ((past : List (List ℕ)) → IsSettled (text ∷ past))
    → ((past : List (List ℕ)) → is_behind_box 2 (text ∷ past) ≡ false)
    → ((past : List (List ℕ)) → is_behind_first_day (text ∷ past) ≡ false)
    → Row Region text (λ ws. made_into make (one_word (code len) ws))
code_row text len make lengths settled box day = made_row text (code len) make
    (λ past. code_kind len (text ∷ past) (settled past))
    (λ past w c is. settled_word w.1 (text ∷ past) (code_no_keyword len w c lengths is) (box past) (day past))

-- a part that needs no word
always_part : {A : Type 0} (y : A) → Part A (λ ws. Ok (y, ws))
always_part y = λ past ws g fault settled e next. next past y ws settled e

-- a region
region_part : Part Region region_at
unfolding region_at
region_part =
    rows_part region_rows everywhere_at (
      box_row,
      (
        code_row (codes "country") 2 Country two (λ past. refl) (λ past. refl) (λ past. refl),
        (
          code_row (codes "state") 2 State two (λ past. refl) (λ past. refl) (λ past. refl),
          (
            code_row (codes "station") 11 (λ id. Only (record { 0 = id })) eleven (λ past. refl) (λ past. refl)
                (λ past. refl),
            tt,
          ),
        ),
      ),
    ) (always_part Everywhere)
  where
    two : HaveOtherLengths 2
    two = (refl, (refl, (refl, (refl, (refl, (refl, (refl, (refl, tt))))))))

    eleven : HaveOtherLengths 11
    eleven = (refl, (refl, (refl, (refl, (refl, (refl, (refl, (refl, tt))))))))

-- two months after "months"
months_row : Row Season (codes "months") months_at
unfolding months
months_row = made_row (codes "months") months (λ s. Months s.0 s.1)
    (λ past. limited_kind two_numbers (λ s. is_month s.0 && is_month s.1) (codes "months" ∷ past) (λ word. refl))
    (λ past w s is. settled_word w.1 (codes "months" ∷ past) (months_no_keyword w s is) refl refl)

-- two days after "days"
dates_row : Row Season (codes "days") dates_at
dates_row = made_row (codes "days") dates (λ s. Dates s.0 s.1) (λ past. dates_kind (codes "days" ∷ past) refl)
    (λ past w s is. settled_word w.1 (codes "days" ∷ past) (dates_no_keyword w s is) refl refl)

-- a season
season_part : Part Season season_at
unfolding season_at
season_part = rows_part season_rows all_year_at (months_row, (dates_row, tt)) (always_part AllYear)

-- two days after "from"
days_row : Row (Option (ℤ × ℤ)) (codes "from") between_at
unfolding days_at
days_row = λ past ws g fault e next.
    let from : List (List ℕ) = codes "from" ∷ past in
    inner_step date _ (λ p. g (Some p.0, p.1)) from ws fault (sym (made_then Some (days_at ws) g) ∙ e)
    (date_kind from refl) (λ w first rest is e.
    let day : List (List ℕ) = w.1 ∷ from in
    let to : List (List ℕ) = codes "to" ∷ day in
    let place : place_behind to ≡ a_date = ap (λ b. cond (b && true) a_date other) (day_date w first is) in
    further from w rest fault (
    keyword_step (codes "to") _ day rest fault (sym (assoc (keyword (codes "to") rest) _ (λ p. g (Some p.0, p.1))) ∙ e)
    (settled_word w.1 from (date_no_keyword w first is) refl refl) (λ rest e.
    inner_step date (λ last. cond (int_le first last.0) (Ok ((first, last.0), last.1)) (Err EmptyPeriod))
    (λ p. g (Some p.0, p.1)) to rest fault e (date_kind to place) (λ v last rest is e.
    elim (bind_err (cond (int_le first last) (Ok ((first, last), rest)) (Err EmptyPeriod)) (λ p. g (Some p.0, p.1))
    fault e) [
      | inl early ↦
          let order = test_err (int_le first last) ((first, last), rest) EmptyPeriod fault early in
          here to v rest fault (subst (λ f. IsKind f v.0 to v.1) order.1 (λ at. (place, day_date v last is)))
      | inr later ↦
          let order = test_ok (int_le first last) ((first, last), rest) later.0 EmptyPeriod later.1 in
          further to v rest fault (next (v.1 ∷ to) (Some (first, last)) rest
          (settled_word v.1 to (date_no_keyword v last is) refl refl)
          (subst (λ (p : (ℤ × ℤ) × List Word). g (Some p.0, p.1) ≡ Err fault) (sym order.1) later.2))
    ]))))

-- a period
period_part : Part (Option (ℤ × ℤ)) period_at
unfolding period_at
period_part = rows_part period_rows always_at (days_row, tt) (always_part None)

-- of a group
group_kind : (past : List (List ℕ)) → IsSettled past → (w : Word) (f : QueryFault) → group w ≡ Err f
    → IsKind f w.0 past w.1
unfolding group
group_kind past settled w f e = subst (λ f. IsKind f w.0 past w.1)
    (or_fault_err (UnexpectedWord w.0) f (group_of w.1) e).1 (λ at. (at, inl settled))

-- a group after "per"
group_row : Row Per (codes "per") (one_word group)
group_row = λ past ws g fault e next.
    let per : List (List ℕ) = codes "per" ∷ past in
    one_step group g per ws fault e (group_kind per refl)
    (λ w x rest is e. further per w rest fault (next (w.1 ∷ per) x rest
    (settled_word w.1 per (group_no_keyword w x is) refl refl) e))

-- a group may be missing
per_part : Part Per per_at
unfolding per_at
per_part = rows_part per_rows each_at (group_row, tt) (always_part Each)

-- no word may follow
nothing_kind : (past : List (List ℕ)) (ws : List Word) (q : Query) (fault : QueryFault) → IsSettled past
    → nothing_more ws q ≡ Err fault → IsFaultBehind past ws fault
nothing_kind past [] q fault settled e = absurd cc
nothing_kind past (w ∷ rest) q fault settled e =
    unexpected past w rest fault settled (let same : UnexpectedWord w.0 ≡ fault = cc in same)

-- the error of the words of a query
words_kind : (ws : List Word) (fault : QueryFault) → read_words ws ≡ Err fault → IsFaultBehind [] ws fault
unfolding read_words
words_kind ws fault e =
    let top : List (List ℕ) = codes "top" ∷ [] in
    keyword_step (codes "top") _ [] ws fault e refl (λ rest e.
    one_step (number 1 1000) _ top rest fault e (number_kind 1 1000 top refl) (λ v k rest is e.
    further top v rest fault (
    score_part (v.1 ∷ top) rest _ fault (settled_word v.1 top (number_no_keyword 1 1000 v k is) refl refl) e
    (λ past s rest settled e.
    region_part past rest _ fault settled e (λ past r rest settled e.
    season_part past rest _ fault settled e (λ past t rest settled e.
    period_part past rest _ fault settled e (λ past p rest settled e.
    per_part past rest (λ g. nothing_more g.1 (asked k s r t p g.0)) fault settled e (λ past g rest settled e.
    nothing_kind past rest (asked k s r t p g) fault settled e))))))))

-- an error of a word, whose number is one more than there are words before it, is among those of the words
is_among : (fault : QueryFault) (n : ℕ) (ws past : List (List ℕ)) (word : List ℕ) (behind : List (List ℕ))
    → ws ≡ reverse past ++ word ∷ behind → n ≡ length past + 1 → IsKind fault n past word → IsFaultAmong fault ws
is_among QueryTooLong n ws past word behind parts at is = tt
is_among (UnexpectedWord m) n ws past word behind parts at is = (past, word, behind, parts, is at)
is_among QueryEnds n ws past word behind parts at is = tt
is_among (OutOfLimits m) n ws past word behind parts at is = (past, word, behind, parts, is at)
is_among (BadDate m) n ws past word behind parts at is = (past, word, behind, parts, is at)
is_among (BadBox m) n ws past word behind parts at is = (past, word, behind, parts, is at)
is_among EmptyPeriod n ws past word behind parts at is = (past, word, behind, parts, is at)

-- the error of the words of a text is that of one of them
text_kind : (text : List ℕ) (fault : QueryFault) → IsFaultBehind [] (numbered_words text) fault
    → IsFaultAmong fault (words_of text)
text_kind text fault (inl ends) = subst (λ f. IsFaultAmong f (words_of text)) (sym ends) tt
text_kind text fault (inr is) =
    let past : List (List ℕ) = reverse (unnumbered is.before) in
    let place = place_of 1 (words_of text) is.before is.word is.behind is.parts in
    let long : length past ≡ length is.before = length-reverse (unnumbered is.before)
    ∙ length-map is.before (λ (w : Word). w.1) in
    let at : is.word.0 ≡ length past + 1 = omega (arith, place.number, long) in
    let parts : words_of text ≡ reverse past ++ is.word.1 ∷ unnumbered is.behind =
    sym (unnumbered-enumerate_from 1 (words_of text)) ∙ ap unnumbered is.parts
    ∙ map-append (λ (w : Word). w.1) is.before (is.word ∷ is.behind)
    ∙ ap (λ words. words ++ is.word.1 ∷ unnumbered is.behind) (sym (reverse-reverse (unnumbered is.before))) in
    is_among fault is.word.0 (words_of text) past is.word.1 (unnumbered is.behind) parts at is.kind

-- a text's error is that of one of its words
pub fault_kind : (text : List ℕ) (fault : QueryFault) → read_query text ≡ Err fault → IsFaultAmong fault (words_of text)
unfolding read_query
fault_kind text fault e = elim (cases_Bool (nat_lt 256 (length text))) [
  | inl long ↦
      let told = rw long at e in
      let same : QueryTooLong ≡ fault = cc in
      subst (λ f. IsFaultAmong f (words_of text)) same tt
  | inr short ↦ let read = rw short at e in text_kind text fault (words_kind (numbered_words text) fault read)
]

-- if the reading fails, the error is that of one of the words
pub if_fault_kind : (text : List ℕ) (r : Result Query QueryFault) → r ≡ read_query text
    → IfErr r (λ fault. IsFaultAmong fault (words_of text))
if_fault_kind text (Ok q) e = tt
if_fault_kind text (Err fault) e = fault_kind text fault (sym e)
