-- What the grammar has after the words that were read.
use Rattle.rank_query.proofs.Cited.{◌≡◌, ℕ, suc, Bool, true, false, cond, ◌&&◌, List, [], ◌∷◌, arith, ints, Result, Ok}
use Rattle.rank_query.proofs.Cited.{Err, codes, refl, sym, ap, subst, is_some, ℤ, bytes_decides, AllByRecursion}
use Rattle.rank_query.proofs.Cited.{same_bytes, read_date, scaled_field, Element, Prcp, Snow, Snwd, Tmax, Tmin, code_of}
use Rattle.rank_query.proofs.Cited.{QueryFault, UnexpectedWord, BadDate, BadBox, is_code, Word, number, element, heat}
use Rattle.rank_query.proofs.Cited.{months, dates, degrees, code, date, edge, other, is_number, is_decimal}
use Rattle.rank_query.proofs.Cited.{is_date_word, is_behind_box, is_behind_first_day, place_behind, Per, group}
use Rattle.ghcn_files.proofs.Among.{each-weaker}
use Rattle.rank_query.proofs.ReadingSteps.{or_fault_ok}
use Rattle.rank_query.proofs.WordValues.{element_code, field_number}

-- after these words no number, edge or date comes
abbrev pub IsSettled : List (List ℕ) → Type 0
IsSettled past = place_behind past ≡ other

-- the words after which an edge, a first date, a number, degrees, months or days of a season come
abbrev keywords : List (List ℕ)
keywords =
    codes "box" ∷ codes "from" ∷ codes "top" ∷ codes "sum" ∷ codes "hot" ∷ codes "cold" ∷ codes "months" ∷ codes "days"
    ∷ []

-- a word isn't one of them
abbrev pub IsNoKeyword : List ℕ → Type 0
IsNoKeyword w = AllByRecursion (λ text. same_bytes w text ≡ false) keywords

-- two tests of which the second fails
pub not_both : (a b : Bool) → b ≡ false → (a && b) ≡ false
not_both x b e = grind (arith, ints)

-- after a word that isn't a keyword another word comes, if none of what comes before it goes on
pub settled_word : (v : List ℕ) (past : List (List ℕ)) → IsNoKeyword v → is_behind_box 2 past ≡ false
    → is_behind_first_day past ≡ false → IsSettled (v ∷ past)
settled_word v past word box day = grind (arith, ints, not_both)

-- one more number after "box"
pub edge_more : (n : ℕ) (w : List ℕ) (past : List (List ℕ)) → is_decimal w ≡ true → is_behind_box n past ≡ true
    → is_behind_box (suc n) (w ∷ past) ≡ true
edge_more n w past is behind = grind (arith, ints)

-- words that aren't "box" do not end by it
pub edge_less : (n : ℕ) (w : List ℕ) (past : List (List ℕ)) → same_bytes w (codes "box") ≡ false
    → is_behind_box n past ≡ false → is_behind_box (suc n) (w ∷ past) ≡ false
edge_less n w past apart behind = grind (arith, ints)

-- where an edge is
pub edge_place : (past : List (List ℕ)) → is_behind_box 3 past ≡ true → place_behind past ≡ edge
edge_place past is = grind (arith, ints)

-- a word with a value isn't one without
not_same : {A : Type 0} (value : Word → Result A QueryFault) (w : Word) (x : A) (text : List ℕ) (fault : QueryFault)
    → value w ≡ Ok x → value (w.0, text) ≡ Err fault → same_bytes w.1 text ≡ false
not_same value w x text fault ok err = grind (arith, ints, bytes_decides)

-- a word with a value isn't a keyword, if no keyword has one
no_keyword : {A : Type 0} (value : Word → Result A QueryFault) (w : Word) (x : A) (fault : QueryFault) → value w ≡ Ok x
    → AllByRecursion (λ text. value (w.0, text) ≡ Err fault) keywords → IsNoKeyword w.1
no_keyword value w x fault e none = each-weaker (λ text. value (w.0, text) ≡ Err fault)
    (λ text. same_bytes w.1 text ≡ false) keywords (λ text err. not_same value w x text fault e err) none

-- a number isn't a keyword
pub number_no_keyword : (low high : ℕ) (w : Word) (n : ℕ) → number low high w ≡ Ok n → IsNoKeyword w.1
unfolding number
number_no_keyword low high w n e = grind (arith, ints, no_keyword)

-- nor are degrees by which a day is hot or cold
pub heat_no_keyword : (w : Word) (t : ℤ) → heat w ≡ Ok t → IsNoKeyword w.1
unfolding heat
heat_no_keyword w t e = no_keyword heat w t (UnexpectedWord w.0) e
    (refl, (refl, (refl, (refl, (refl, (refl, (refl, (refl, tt))))))))

-- nor are the months of a season
pub months_no_keyword : (w : Word) (s : ℕ × ℕ) → months w ≡ Ok s → IsNoKeyword w.1
unfolding months
months_no_keyword w s e = no_keyword months w s (UnexpectedWord w.0) e
    (refl, (refl, (refl, (refl, (refl, (refl, (refl, (refl, tt))))))))

-- nor are degrees of a box
pub degrees_no_keyword : (low high : ℤ) (w : Word) (z : ℤ) → degrees low high w ≡ Ok z → IsNoKeyword w.1
unfolding degrees
degrees_no_keyword low high w z e = no_keyword (degrees low high) w z (BadBox w.0) e
    (refl, (refl, (refl, (refl, (refl, (refl, (refl, (refl, tt))))))))

-- no keyword has the length of a code
abbrev pub HaveOtherLengths : ℕ → Type 0
HaveOtherLengths len = AllByRecursion (λ text. is_code len text ≡ false) keywords

-- so no code is a keyword
pub code_no_keyword : (len : ℕ) (w : Word) (c : List ℕ) → HaveOtherLengths len → code len w ≡ Ok c → IsNoKeyword w.1
unfolding code
code_no_keyword len w c lengths e = no_keyword (code len) w c (UnexpectedWord w.0) e
    (each-weaker (λ text. is_code len text ≡ false) (λ text. code len (w.0, text) ≡ Err (UnexpectedWord w.0)) keywords
    (λ text is. ap (λ b. cond b (Ok text) (Err (UnexpectedWord w.0))) is) lengths)

-- nor is a date
pub date_no_keyword : (w : Word) (day : ℤ) → date w ≡ Ok day → IsNoKeyword w.1
unfolding date
date_no_keyword w day e = no_keyword date w day (BadDate w.0) e
    (refl, (refl, (refl, (refl, (refl, (refl, (refl, (refl, tt))))))))

-- nor are the days of a season
pub dates_no_keyword : (w : Word) (s : ℤ × ℤ) → dates w ≡ Ok s → IsNoKeyword w.1
unfolding dates
dates_no_keyword w s e = grind (arith, ints, no_keyword)

-- nor is a group
pub group_no_keyword : (w : Word) (g : Per) → group w ≡ Ok g → IsNoKeyword w.1
unfolding group
group_no_keyword w g e = no_keyword group w g (UnexpectedWord w.0) e
    (refl, (refl, (refl, (refl, (refl, (refl, (refl, (refl, tt))))))))

-- after the code of an element another word comes
code_settled : (e : Element) (past : List (List ℕ)) → IsSettled (code_of e ∷ past)
code_settled Prcp past = refl
code_settled Snow past = refl
code_settled Snwd past = refl
code_settled Tmax past = refl
code_settled Tmin past = refl

-- and so after a word that is read as an element
pub element_settled : (allows : Element → Bool) (w : Word) (e : Element) (past : List (List ℕ))
    → element allows w ≡ Ok e → IsSettled (w.1 ∷ past)
element_settled allows w e past is =
    subst (λ (word : List ℕ). IsSettled (word ∷ past)) (sym (element_code allows w e is)) (code_settled e past)

-- degrees are a number with up to four decimals
pub degrees_decimal : (low high : ℤ) (w : Word) (z : ℤ) → degrees low high w ≡ Ok z → is_decimal w.1 ≡ true
unfolding degrees
degrees_decimal low high w z e = ap is_number (field_number low high z (scaled_field 4 w.1) (BadBox w.0) e).0

-- a word that is read as a day is a date
pub day_date : (w : Word) (day : ℤ) → date w ≡ Ok day → is_date_word w.1 ≡ true
unfolding date
day_date w day e = ap is_some (or_fault_ok (BadDate w.0) (read_date w.1) day e)
