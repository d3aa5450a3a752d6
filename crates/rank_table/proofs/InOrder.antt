-- Texts of reports are read line by line: where the reading ends is the first bad line.
use Rattle.std.proofs.Common.{◌≡◌, inl, inr, ℕ, ◌+◌, ◌<◌, true, false, List, [], ◌∷◌, ◌++◌, length, Result, Ok, Err}
use Rattle.std.proofs.Common.{refl, sym, ap, ◌∙◌, subst, append_assoc, append-nil, length-append, arith}
use Rattle.rank_papers.specs.Lines.{and_then}
use Rattle.rank_papers.specs.ReportLines.{Reported, IsReported, reported_lines}
use Rattle.rank_papers.proofs.BadLines.{Begun, EndsAt, IsInOrder}
use Rattle.rank_papers.proofs.ReadLines.{some_query}
use Rattle.rank_papers.proofs.ReportPlaces.{in_order as one_in_order}
use Rattle.rank_papers.proofs.ReportValues.{lines-are, written}
use Rattle.rank_table.specs.Reading.{and_report, at_least_one, cut_lines, is_last, read_lines, reports_after}
use Rattle.rank_table.proofs.Cuts.{HaveNoLast, Lines, begin_first, cut-last, none-append, none_before}
use Rattle.rank_table.proofs.ReportLines.{end_is_last, end_of, front as front_of, front_has_none, written_read}
use Rattle.rank_table.proofs.Shifts.{and_report-err, read_alone, read_cut, read_last, read_more, shifted, wrong_behind}

-- ---- lines of one report

-- lines that begin a report begin a text of reports
lift_begun : (ls : Lines) → Begun reported_lines ls → Begun read_lines ls
lift_begun ls b =
    let v = b.value in
    let are = lines-are (ls ++ b.more) v b.is in
    record {
      more = b.more;
      value = v ∷ [];
      is = ap read_lines are.1
          ∙ read_last (front_of v) (end_of v) (front_has_none v) (end_is_last v) v (written_read v are.0);
    }

-- if a report goes wrong at a line, whatever comes after it, so do reports
lift_wrong : (before : Lines) (line : List ℕ) (n : ℕ) → HaveNoLast before
    → ((more : Lines) → reported_lines (before ++ line ∷ more) ≡ Err n)
    → (more : Lines) → read_lines (before ++ line ∷ more) ≡ Err n
lift_wrong before line n none bad more =
    let b = begin_first before line more none in
    let same : 0 + n ≡ n = omega arith in
    ap (λ (cuts : List Lines). reports_after 0 (at_least_one cuts)) b.2
    ∙ ap (λ (x : Result Reported ℕ). and_report 0 x (reports_after (0 + length (before ++ line ∷ b.0)) b.1)) (bad b.0)
    ∙ ap Err same

-- if a report goes wrong, so do reports whose first lines are its
lift_ends : (xs ys : Lines) (n : ℕ) → reported_lines xs ≡ Err n
    → ((before : Lines) (l : List ℕ) (behind : Lines) → xs ≡ before ++ l ∷ behind → HaveNoLast before)
    → ((before : Lines) → Begun reported_lines before → xs ≡ before → xs ++ ys ≡ before)
    → EndsAt read_lines 1 (xs ++ ys) n
lift_ends xs ys n e none whole =
    let at = one_in_order.ends xs n e in
    record {
      before = at.before;
      begun = lift_begun at.before at.begun;
      number = at.number;
      wrong = elim at.wrong [
        | inl w ↦ inl (
          w.0,
          w.1 ++ ys,
          ap (λ (x : Lines). x ++ ys) w.2 ∙ append_assoc at.before (w.0 ∷ w.1) ys,
          lift_wrong at.before w.0 n (none at.before w.0 w.1 w.2) w.3,
        )
        | inr all ↦ inr (whole at.before at.begun all)
      ];
    }

-- ---- where the reading ends

-- in a report that is alone
ends_alone : (ls : Lines) (n : ℕ) → HaveNoLast ls → read_lines (ls ++ []) ≡ Err n → EndsAt read_lines 1 (ls ++ []) n
ends_alone ls n none e =
    elim (and_report-err (reported_lines ls) (Ok []) n
    (sym (read_alone ls none) ∙ ap read_lines (sym (append-nil ls)) ∙ e)) [
      | inl own ↦ lift_ends ls [] n own
          (λ before l behind is. none_before ls [] before l (behind ++ [] ∷ []) none
          (ap (λ (x : Lines). x ++ [] ∷ []) is ∙ append_assoc before (l ∷ behind) ([] ∷ [])))
          (λ before b all. append-nil ls ∙ all)
      | inr more ↦ let no = more.2 in absurd cc
    ]

-- or in the first report of several, or after it
module _ (front : Lines) (l : List ℕ) (none : HaveNoLast front) (is : is_last l ≡ true) where
  -- the lines of the first report
  abbrev first : Lines
  first = front ++ l ∷ []

  -- all of them begin a report only if they are one
  whole : (n : ℕ) → reported_lines first ≡ Err n → (before : Lines) → Begun reported_lines before → first ≡ before → ⊥
  whole n e before b all =
      let v = b.value in
      let are = lines-are (before ++ b.more) v b.is in
      let cuts : first ∷ cut_lines b.more ≡ written v ∷ [] =
      sym (cut-last front l b.more none is)
      ∙ ap cut_lines (sym (append_assoc front (l ∷ []) b.more) ∙ ap (λ (x : Lines). x ++ b.more) all ∙ are.1)
      ∙ cut-last (front_of v) (end_of v) [] (front_has_none v) (end_is_last v) in
      let same : first ≡ written v = cc in
      let no : Err n ≡ Ok v = sym e ∙ ap reported_lines same ∙ written_read v are.0 in
      cc

  -- how many there are
  abbrev k : ℕ
  k = 0 + length first

  module _ (v : Reported) (read : reported_lines first ≡ Ok v) where
    -- lines after a first report that is read are read after it
    behind_first : (xs : Lines) → 0 < length xs → read_lines (first ++ xs) ≡ and_then v (shifted k (read_lines xs))
    behind_first [] some = absurd (omega arith)
    behind_first (m ∷ rest) some = read_more front l none is v read m rest

    -- so lines that begin reports do so after it
    begun_behind : (before : Lines) → Begun read_lines before → Begun read_lines (first ++ before)
    begun_behind before b = record {
      more = b.more;
      value = v ∷ b.value;
      is = ap read_lines (append_assoc first before b.more)
          ∙ behind_first (before ++ b.more) (some (before ++ b.more) b.is)
          ∙ ap (λ (x : Result (List Reported) ℕ). and_then v (shifted k x)) b.is;
    }
      where
        some : (xs : Lines) → read_lines xs ≡ Ok b.value → 0 < length xs
        some [] e = absurd cc
        some (x ∷ xs) e = omega arith

    -- and reading ends after it where it ends by itself
    ends_behind : (rest : Lines) (n j : ℕ) → n ≡ k + j → EndsAt read_lines 1 rest j
        → EndsAt read_lines 1 (first ++ rest) n
    ends_behind rest n j number at = record {
      before = first ++ at.before;
      begun = begun_behind at.before at.begun;
      number = omega (arith, number, at.number, length-append first at.before);
      wrong = elim at.wrong [
        | inl w ↦ inl (
          w.0,
          w.1,
          ap (λ (x : Lines). first ++ x) w.2 ∙ sym (append_assoc first at.before (w.0 ∷ w.1)),
          λ more. ap read_lines (append_assoc first at.before (w.0 ∷ more))
              ∙ behind_first (at.before ++ w.0 ∷ more) (omega (arith, length-append at.before (w.0 ∷ more)))
              ∙ ap (λ (x : Result (List Reported) ℕ). and_then v (shifted k x)) (w.3 more) ∙ ap Err (sym number),
        )
        | inr all ↦ inr (ap (λ (x : Lines). first ++ x) all)
      ];
    }

  -- in either
  ends_cut : (rest : Lines) (n : ℕ) → ((j : ℕ) → read_lines rest ≡ Err j → EndsAt read_lines 1 rest j)
      → read_lines (first ++ rest) ≡ Err n → EndsAt read_lines 1 (first ++ rest) n
  ends_cut rest n again e =
      elim (and_report-err (reported_lines first) (reports_after k (cut_lines rest)) n
      (sym (read_cut front l none is rest) ∙ e)) [
        | inl own ↦ lift_ends first rest n own
            (λ before m behind all. none_before front l before m behind none all)
            (λ before b all. absurd (whole n own before b all))
        | inr more ↦
            let at = wrong_behind k n rest more.2 in
            ends_behind more.0 more.1 rest n at.0 at.2 (again at.0 at.1)
      ]

-- wherever the reading of lines ends of which the first have no last one, it ends at a line of its number
ends_from : (front ls : Lines) (n : ℕ) → HaveNoLast front → read_lines (front ++ ls) ≡ Err n
    → EndsAt read_lines 1 (front ++ ls) n
ends_from front [] n none e = ends_alone front n none e
ends_from front (l ∷ rest) n none e =
    let apart = append_assoc front (l ∷ []) rest in
    let f : read_lines ((front ++ l ∷ []) ++ rest) ≡ Err n = ap read_lines apart ∙ e in
    subst (λ (ls : Lines). EndsAt read_lines 1 ls n) apart
    (elim (is_last l) as (λ b. is_last l ≡ b → EndsAt read_lines 1 ((front ++ l ∷ []) ++ rest) n) [
      | true ↦ λ is. ends_cut front l none is rest n (λ j g. ends_from [] rest j tt g) f
      | false ↦ λ isnt. ends_from (front ++ l ∷ []) rest n (none-append front l none isnt) f
    ] refl)

-- ---- the whole

-- a report that can be
abbrev some_report : Reported
some_report = record { query = some_query; rows = [] }

-- it can be
some_can_be : IsReported some_report
some_can_be = record {
  asked = record { k = refl; score = refl; region = refl; season = refl; period = refl };
  few = refl;
  rows = tt;
}

-- texts of reports are read line by line
pub in_order : IsInOrder read_lines 1
in_order = record {
  begun = lift_begun []
      (record { more = written some_report; value = some_report; is = written_read some_report some_can_be });
  ends = λ ls n e. ends_from [] ls n tt e;
}
