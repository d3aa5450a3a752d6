-- Reports that follow other lines are read as they are by themselves; only the numbers of lines are others.
use Rattle.std.proofs.Common.{◌≡◌, ◌⊎◌, inl, inr, ℕ, ◌+◌, true, List, [], ◌∷◌, ◌++◌, length, Result, Ok, Err}
use Rattle.std.proofs.Common.{refl, sym, ap, ◌∙◌, append_assoc, append-nil, add_assoc, add-zero, arith}
use Rattle.rank_papers.specs.Lines.{and_then}
use Rattle.rank_papers.specs.ReportLines.{Reported, reported_lines}
use Rattle.rank_table.specs.Reading.{and_report, at_least_one, cut_lines, is_last, read_lines, reports_after}
use Rattle.rank_table.proofs.Cuts.{HaveNoLast, Lines, cut-last, one_report, some_cut}

-- what is read after that many lines more
abbrev pub shifted : ℕ → Result (List Reported) ℕ → Result (List Reported) ℕ
shifted k (Ok rs) = Ok rs
shifted k (Err n) = Err (k + n)

-- a report and others after that many lines more
and_report-shift : (k j : ℕ) (r : Result Reported ℕ) (rest : Result (List Reported) ℕ)
    → and_report (k + j) r (shifted k rest) ≡ shifted k (and_report j r rest)
and_report-shift k j r rest = grind arith

-- reports after that many lines more
reports_after-shift : (k j : ℕ) (cuts : List Lines)
    → reports_after (k + j) cuts ≡ shifted k (reports_after j cuts)
reports_after-shift k j [] = refl
reports_after-shift k j (ls ∷ cuts) =
    ap (λ (n : ℕ). and_report (k + j) (reported_lines ls) (reports_after n cuts)) (add_assoc k j (length ls))
    ∙ ap (and_report (k + j) (reported_lines ls)) (reports_after-shift k (j + length ls) cuts)
    ∙ and_report-shift k j (reported_lines ls) (reports_after (j + length ls) cuts)

-- the reports of some lines, after that many others
reports_behind : (k : ℕ) (l : List ℕ) (ls : Lines)
    → reports_after k (cut_lines (l ∷ ls)) ≡ shifted k (read_lines (l ∷ ls))
reports_behind k l ls =
    ap (λ (n : ℕ). reports_after n (cut_lines (l ∷ ls))) (sym (add-zero k))
    ∙ reports_after-shift k 0 (cut_lines (l ∷ ls))
    ∙ ap (λ (cuts : List Lines). shifted k (reports_after 0 cuts)) (sym (some_cut (l ∷ ls) (omega arith)))

-- what goes wrong after that many lines goes wrong by itself
pub wrong_behind : (k n : ℕ) (ls : Lines) → reports_after k (cut_lines ls) ≡ Err n
    → (m : ℕ) × (read_lines ls ≡ Err m) × (n ≡ k + m)
wrong_behind k n [] e = absurd cc
wrong_behind k n (l ∷ ls) e = by (read_lines (l ∷ ls)) (sym (reports_behind k l ls) ∙ e)
  where
    by : (r : Result (List Reported) ℕ) → shifted k r ≡ Err n → (m : ℕ) × (r ≡ Err m) × (n ≡ k + m)
    by (Ok rs) f = absurd cc
    by (Err m) f = (m, refl, cc)

-- ---- what is read of lines, by where they are cut first

-- a report alone
pub read_alone : (ls : Lines) → HaveNoLast ls → read_lines ls ≡ and_report 0 (reported_lines ls) (Ok [])
read_alone ls none = ap (reports_after 0) (one_report ls none)

-- a report goes wrong, or what comes after it
pub and_report-err : (r : Result Reported ℕ) (rest : Result (List Reported) ℕ) (n : ℕ) → and_report 0 r rest ≡ Err n
    → (r ≡ Err n) ⊎ ((v : Reported) × (r ≡ Ok v) × (rest ≡ Err n))
and_report-err (Err m) rest n e = let same : 0 + m ≡ n = cc in inl (ap Err (omega arith))
and_report-err (Ok v) (Err m) n e = inr (v, refl, cc)
and_report-err (Ok v) (Ok vs) n e = absurd cc

-- a report before others
and_report-ok : (v : Reported) (rest : Result (List Reported) ℕ) → and_report 0 (Ok v) rest ≡ and_then v rest
and_report-ok v rest = grind arith

module _ (front : Lines) (l : List ℕ) (none : HaveNoLast front) (is : is_last l ≡ true) where
  -- the lines of the first report
  abbrev pub first : Lines
  first = front ++ l ∷ []

  -- it is read, and what comes after it
  pub read_cut : (rest : Lines) → read_lines (first ++ rest)
      ≡ and_report 0 (reported_lines first) (reports_after (0 + length first) (cut_lines rest))
  read_cut rest = ap read_lines (append_assoc front (l ∷ []) rest)
      ∙ ap (λ (cuts : List Lines). reports_after 0 (at_least_one cuts)) (cut-last front l rest none is)

  -- as something, before others
  pub read_more : (v : Reported) → reported_lines first ≡ Ok v → (m : List ℕ) (rest : Lines)
      → read_lines (first ++ m ∷ rest) ≡ and_then v (shifted (0 + length first) (read_lines (m ∷ rest)))
  read_more v e m rest =
      read_cut (m ∷ rest)
      ∙ ap (λ (x : Result Reported ℕ). and_report 0 x (reports_after (0 + length first) (cut_lines (m ∷ rest)))) e
      ∙ ap (and_report 0 (Ok v)) (reports_behind (0 + length first) m rest)
      ∙ and_report-ok v (shifted (0 + length first) (read_lines (m ∷ rest)))

  -- and alone
  pub read_last : (v : Reported) → reported_lines first ≡ Ok v → read_lines first ≡ Ok (v ∷ [])
  read_last v e = ap read_lines (sym (append-nil first)) ∙ read_cut []
      ∙ ap (λ (x : Result Reported ℕ). and_report 0 x (Ok [])) e
