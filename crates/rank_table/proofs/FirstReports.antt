-- Cutting the first report off a text: how far it has been looked for, and where it ends.
use Rattle.std.proofs.Common.{◌≡◌, ℕ, Bool, true, false, cond, List, [], ◌∷◌, ◌++◌, Some, refl}
use Rattle.std.proofs.Common.{sym, ap, ◌∙◌, append_assoc, append-nil, arith}
use Rattle.std.specs.Prelude.{◌==◌}
use Rattle.std.specs.List.{flat_map}
use Rattle.std.proofs.lemmas.Grind.{flat_map-append}
use Rattle.rank_papers.specs.Lines.{IsFirstLineCut, before_lines, onto_first, paper_lines}
use Rattle.rank_table.specs.Reading.{IsAfterReport, at_least_one, cut_lines, is_last, reports_of_lines}
use Rattle.rank_table.proofs.Cuts.{HaveNoLast, Lines, cut-last, none-append, one_report}

-- ---- lines and their text

-- lines, one after the other
abbrev text_of_lines : Lines → List ℕ
text_of_lines ls = flat_map (λ l. l) ls

-- a byte more at the front
text-first : (b : ℕ) (ls : Lines) → text_of_lines (before_lines b ls) ≡ b ∷ text_of_lines ls
text-first b ls = grind arith

-- the lines of a text are the text
text-lines : (bytes : List ℕ) → text_of_lines (paper_lines bytes) ≡ bytes
text-lines [] = refl
text-lines (b ∷ bytes) = text-first b (paper_lines bytes) ∙ ap (λ (x : List ℕ). b ∷ x) (text-lines bytes)

-- without a line among all, none comes first
none-first : (front more : Lines) → [] ≡ front ++ more → [] ≡ front
none-first [] more e = refl
none-first (f ∷ front) more e = absurd cc

-- the first lines of a text are the lines of their own text
first-lines : (bytes : List ℕ) (front more : Lines) → paper_lines bytes ≡ front ++ more
    → paper_lines (text_of_lines front) ≡ front
first-lines bytes [] more e = refl
first-lines [] (f ∷ front) more e = absurd cc
first-lines (b ∷ bytes) (f ∷ front) more e =
    by (λ fs is. first-lines bytes fs more is) (b == 10) refl (paper_lines bytes) refl e
  where
    by : ((fs : Lines) → paper_lines bytes ≡ fs ++ more → paper_lines (text_of_lines fs) ≡ fs) → (t : Bool)
        → (b == 10) ≡ t → (ls : Lines) → paper_lines bytes ≡ ls
        → cond t ((b ∷ []) ∷ ls) (onto_first b ls) ≡ f ∷ front ++ more
        → paper_lines (text_of_lines (f ∷ front)) ≡ f ∷ front
    by again true s ls same e = let rest = again front (cc) in cc
    by again false s [] same e =
        let tail : [] ≡ front ++ more = cc in let none = none-first front more tail in cc
    by again false s (l ∷ ls) same e = let rest = again (l ∷ front) (cc) in cc

-- ---- how far a report has been looked for

-- the lines of a text before the rest, none of which is the last of a report
pub record HasPassed (text rest : List ℕ) : Type 0 where
  pub front : Lines
  pub lines : paper_lines text ≡ front ++ paper_lines rest
  pub none : HaveNoLast front

-- none yet
pub none_passed : (text : List ℕ) → HasPassed text text
none_passed text = record { front = []; lines = refl; none = tt }

-- the lines after one that is cut off
lines_behind : (text rest line behind : List ℕ) (h : HasPassed text rest) → IsFirstLineCut rest (Some (line, behind))
    → paper_lines text ≡ (h.front ++ line ∷ []) ++ paper_lines behind
lines_behind text rest line behind h cut =
    h.lines ∙ ap (λ (ls : Lines). h.front ++ ls) cut.0 ∙ sym (append_assoc h.front (line ∷ []) (paper_lines behind))

-- so a line more was passed
pub more_passed : (text rest line behind : List ℕ) → HasPassed text rest → IsFirstLineCut rest (Some (line, behind))
    → is_last line ≡ false → HasPassed text behind
more_passed text rest line behind h cut is = record {
  front = h.front ++ line ∷ [];
  lines = lines_behind text rest line behind h cut;
  none = none-append h.front line h.none is;
}

-- a text is the text of its first lines and the rest
text_is : (text rest : List ℕ) (front : Lines) → paper_lines text ≡ front ++ paper_lines rest
    → text ≡ text_of_lines front ++ rest
text_is text rest front e =
    sym (text-lines text) ∙ ap text_of_lines e ∙ flat_map-append (λ (l : List ℕ). l) front (paper_lines rest)
    ∙ ap (λ (x : List ℕ). text_of_lines front ++ x) (text-lines rest)

-- if the report's last line was found, the report ends after it
pub report_ends : (text rest line behind : List ℕ) → HasPassed text rest → IsFirstLineCut rest (Some (line, behind))
    → is_last line ≡ true → IsAfterReport text behind
report_ends text rest line behind h cut is =
    let own : Lines = h.front ++ line ∷ [] in
    let lines = lines_behind text rest line behind h cut in
    record {
      first = text_of_lines own;
      parts = text_is text behind own lines;
      lines = ap reports_of_lines (lines ∙ append_assoc h.front (line ∷ []) (paper_lines behind))
          ∙ ap at_least_one (cut-last h.front line (paper_lines behind) h.none is)
          ∙ ap (λ (ls : Lines). ls ∷ cut_lines (paper_lines behind))
          (sym (first-lines text own (paper_lines behind) lines));
    }

-- if there is none, the report is the whole text
pub report_is_whole : (text rest : List ℕ) → HasPassed text rest → rest ≡ [] → IsAfterReport text rest
report_is_whole text rest h end = record {
  first = text_of_lines h.front;
  parts = text_is text rest h.front h.lines;
  lines = ap reports_of_lines (h.lines ∙ ap (λ (r : List ℕ). h.front ++ paper_lines r) end ∙ append-nil h.front)
      ∙ one_report h.front h.none
      ∙ ap (λ (ls : Lines). ls ∷ []) (sym (first-lines text h.front (paper_lines rest) h.lines))
      ∙ ap (λ (r : List ℕ). paper_lines (text_of_lines h.front) ∷ cut_lines (paper_lines r)) (sym end);
}
