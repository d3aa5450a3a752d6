-- Lines that are cut after each that is the last of a report.
use Rattle.std.proofs.Common.{◌≡◌, ℕ, ◌+◌, ◌<◌, true, false, cond, List, [], ◌∷◌, ◌++◌, length, refl, sym, ap, ◌∙◌}
use Rattle.std.proofs.Common.{length-append, arith}
use Rattle.std.specs.List.{AllByRecursion, flat_map}
use Rattle.rank_table.specs.Reading.{is_last, onto_report, cut_lines, reports_of_lines}

-- lines of a text
abbrev pub Lines : Type 0
Lines = List (List ℕ)

-- none of these lines is the last of a report
abbrev pub HaveNoLast : Lines → Type 0
HaveNoLast ls = AllByRecursion (λ l. is_last l ≡ false) ls

-- so it is with one more that isn't
pub none-append : (front : Lines) (l : List ℕ) → HaveNoLast front → is_last l ≡ false → HaveNoLast (front ++ l ∷ [])
none-append [] l none is = (is, tt)
none-append (f ∷ front) l none is = (none.0, none-append front l none.1 is)

-- lines before one that comes no later than one more have none
pub none_before : (front : Lines) (x : List ℕ) (before : Lines) (l : List ℕ) (behind : Lines) → HaveNoLast front
    → front ++ x ∷ [] ≡ before ++ l ∷ behind → HaveNoLast before
none_before front x [] l behind none e = tt
none_before [] x (b ∷ before) l behind none e =
    absurd (omega (arith, ap (λ (ls : Lines). length ls) e, length-append before (l ∷ behind)))
none_before (f ∷ front) x (b ∷ before) l behind none e =
    let first : f ≡ b = cc in
    let tail : front ++ x ∷ [] ≡ before ++ l ∷ behind = cc in
    (ap is_last (sym first) ∙ none.0, none_before front x before l behind none.1 tail)

-- ---- the first cut

-- lines are cut after the first that is the last of a report
pub cut-last : (front : Lines) (l : List ℕ) (rest : Lines) → HaveNoLast front → is_last l ≡ true
    → cut_lines (front ++ l ∷ rest) ≡ (front ++ l ∷ []) ∷ cut_lines rest
cut-last [] l rest none is = grind arith
cut-last (f ∷ front) l rest none is = let more = cut-last front l rest none.1 is in grind arith

-- if there is none, they are one report
pub one_report : (ls : Lines) → HaveNoLast ls → reports_of_lines ls ≡ ls ∷ []
one_report [] none = refl
one_report (l ∷ ls) none = let more = one_report ls none.1 in grind arith

-- a line begins the first report, whatever comes after it; so do lines without a last one, and a line after them
pub begin_first : (before : Lines) (l : List ℕ) (more : Lines) → HaveNoLast before
    → (tail : Lines) × (others : List Lines) × (cut_lines (before ++ l ∷ more) ≡ (before ++ l ∷ tail) ∷ others)
begin_first [] l more none = elim (is_last l) as (λ b. (tail : Lines) × (others : List Lines)
    × (cond b ((l ∷ []) ∷ cut_lines more) (onto_report l (cut_lines more)) ≡ (l ∷ tail) ∷ others)) [
      | true ↦ ([], cut_lines more, refl)
      | false ↦ elim (cut_lines more) as (λ cuts. (tail : Lines) × (others : List Lines)
          × (onto_report l cuts ≡ (l ∷ tail) ∷ others)) [
            | [] ↦ ([], [], refl)
            | c ∷ cuts ↦ (c, cuts, refl)
          ]
    ]
begin_first (f ∷ before) l more none =
    let b = begin_first before l more none.1 in (b.0, b.1, let is = b.2 in grind arith)

-- ---- all cuts

-- some lines are at least one report
pub some_cut : (ls : Lines) → 0 < length ls → reports_of_lines ls ≡ cut_lines ls
some_cut [] some = absurd (omega arith)
some_cut (l ∷ ls) some = grind arith

-- reports, one after the other
abbrev pub joined : List Lines → Lines
joined cuts = flat_map (λ c. c) cuts

-- a line more at the front
joined-first : (l : List ℕ) (cuts : List Lines) → joined (onto_report l cuts) ≡ l ∷ joined cuts
joined-first l cuts = grind arith

-- lines that are cut are the lines
pub joined-cuts : (ls : Lines) → joined (cut_lines ls) ≡ ls
joined-cuts [] = refl
joined-cuts (l ∷ ls) = let more = joined-cuts ls in grind (arith, joined-first l (cut_lines ls))

-- so are those of at least one report
pub joined-reports : (ls : Lines) → joined (reports_of_lines ls) ≡ ls
joined-reports [] = refl
joined-reports (l ∷ ls) = ap joined (some_cut (l ∷ ls) (omega arith)) ∙ joined-cuts (l ∷ ls)
