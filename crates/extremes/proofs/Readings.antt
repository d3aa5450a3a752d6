-- An input is read in one way, so what ranking returns is accepted.
use Rattle.std.proofs.Common.{◌≡◌, ℕ, List, sym, ap, ◌∙◌, subst}
use Rattle.std.specs.Prelude.{Result, Ok, Err}
use Rattle.ghcn_files.specs.declared.station.Station.{Station}
use Rattle.ghcn_series.specs.Series.{Data}
use Rattle.ghcn_series.specs.SaidLists.{said_by, stations_said}
use Rattle.ghcn_series.specs.Says.{data_of}
use Rattle.ghcn_series.proofs.SaidLines.{held-said, listed-said}
use Rattle.rank_query.specs.Meaning.Asked.{Query}
use Rattle.rank_query.specs.Meaning.Asks.{Asks}
use Rattle.rank_query.proofs.Asks.{asks_read}
use Rattle.rank_input.specs.Input.{IsReadOf}
use Rattle.extremes.specs.Judged.{AreRightTexts, AnswersAreAccepted}
use Rattle.extremes.proofs.RightAnswers.{answers_right}

-- a value if there is one
abbrev value_or : {A E : Type 0} → Result A E → A → A
value_or (Ok a) d = a
value_or (Err e) d = d

-- a result has one value
pub one_value : {A E : Type 0} (r : Result A E) (a b : A) → r ≡ Ok a → r ≡ Ok b → a ≡ b
one_value r a b h k = ap (λ q. value_or q a) (sym h ∙ k)

-- an input asks and holds one thing
pub one_reading : (query stations : List ℕ) (files : List (List ℕ)) (x y : Query × Data)
    → IsReadOf query stations files x.0 x.1 → IsReadOf query stations files y.0 y.1 → x ≡ y
one_reading query stations files x y a b =
    let list : a.list ≡ b.list = one_value _ _ _ a.lists b.lists in
    let asked : x.0 ≡ y.0 = one_value _ _ _ (asks_read query x.0 a.asks) (asks_read query y.0 b.asks) in
    let dataset : x.1 ≡ y.1 =
    one_value _ _ _ (subst (λ (l : List Station). data_of l files ≡ Ok x.1) list a.holds) b.holds in
    λ i. (asked i, dataset i)

-- a text denotes one query
pub one_query : (query : List ℕ) (a b : Query) → Asks query a → Asks query b → a ≡ b
one_query query a b x y = one_value _ _ _ (asks_read query a x) (asks_read query b y)

-- the data of an input without an error are those of the stations that its list says
pub data_is_said : (query stations : List ℕ) (files : List (List ℕ)) (q : Query) (dataset : Data)
    → IsReadOf query stations files q dataset → data_of (stations_said stations) files ≡ Ok dataset
data_is_said query stations files q dataset read =
    subst (λ (list : List Station). data_of list files ≡ Ok dataset)
    (listed-said stations read.list read.lists) read.holds

-- an input without an error holds what its lines say
pub held_is_said : (query stations : List ℕ) (files : List (List ℕ)) (q : Query) (dataset : Data)
    → IsReadOf query stations files q dataset → dataset ≡ said_by (stations_said stations) files
held_is_said query stations files q dataset read =
    held-said (stations_said stations) files dataset (data_is_said query stations files q dataset read)

-- it asks what its text denotes, and holds that
pub one_saying : (query stations : List ℕ) (files : List (List ℕ)) (x : Query × Data) (q : Query)
    → IsReadOf query stations files x.0 x.1 → Asks query q → x ≡ (q, said_by (stations_said stations) files)
one_saying query stations files x q read asks =
    let asked : x.0 ≡ q = one_query query x.0 q read.asks asks in
    let dataset = held_is_said query stations files x.0 x.1 read in
    λ i. (asked i, dataset i)

-- so the report and the certificate that answer an input are the right ones of what a verdict is about
pub answers_accepted : AnswersAreAccepted
answers_accepted query stations files papers v a j =
    let right = answers_right query stations files j.read.list papers j.read.lists a in
    j.accepted.1 (subst (λ (q : Query). AreRightTexts q (stations_said stations) files papers.report.items
    papers.certificate.items) (one_query query a.asked j.asked a.asks j.read.asks)
    (right.report, 2, right.certificate))
