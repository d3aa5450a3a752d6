-- The texts of files, one after the other.
use Rattle.std.proofs.Common.{◌≡◌, ◌⊎◌, inl, inr, ℕ, suc, ◌+◌, List, [], ◌∷◌, ◌++◌, length, Result, Ok, Err, refl, sym}
use Rattle.std.proofs.Common.{ap, ap₂, ◌∙◌, subst, arith}
use Rattle.std.specs.List.{AllByRecursion, AllZip}
use Rattle.rank_papers.specs.Places.{IsFirstBadLine}
use Rattle.rank_papers.specs.ReportLines.{Reported}
use Rattle.rank_table.specs.declared.fault.TableFault.{TableFault}
use Rattle.rank_table.specs.declared.fault.TableFault.TheVariants.{BadReport}
use Rattle.rank_table.specs.Laws.{ReportsAreRead, TextsGoWrong}
use Rattle.rank_table.specs.Reading.{and_file, in_file, read_reports, reports_from}
use Rattle.rank_table.specs.Reports.{AreReports, HoldsReports, IsFirstBadText, Placed, placed_after, placed_from}
use Rattle.rank_table.proofs.ManyReports.{text_goes_wrong, text_is_read}

-- ---- results

-- the reports of a file before those of others were read
and_file-some : (file : ℕ) (r : Result (List Reported) ℕ) (rest : Result (List Placed) TableFault) (ps : List Placed)
    → and_file (in_file file r) rest ≡ Ok ps
    → (rs : List Reported) × (qs : List Placed) × (r ≡ Ok rs) × (rest ≡ Ok qs) × (ps ≡ placed_after file 0 rs ++ qs)
and_file-some file (Err n) rest ps e = absurd cc
and_file-some file (Ok rs) (Err why) ps e = absurd cc
and_file-some file (Ok rs) (Ok qs) ps e = (rs, qs, refl, refl, cc)

-- a file goes wrong, or one of those after it
and_file-err : (n : ℕ) (r : Result (List Reported) ℕ) (rest : Result (List Placed) TableFault) (file line : ℕ)
    → and_file (in_file n r) rest ≡ Err (BadReport file line)
    → ((file ≡ n) × (r ≡ Err line)) ⊎ ((rs : List Reported) × (r ≡ Ok rs) × (rest ≡ Err (BadReport file line)))
and_file-err n (Err m) rest file line e = inl (cc, cc)
and_file-err n (Ok rs) (Ok ps) file line e = absurd cc
and_file-err n (Ok rs) (Err why) file line e = inr (rs, refl, cc)

-- ---- all files are read

-- what is read is held
read_held : (file : ℕ) (texts : List (List ℕ)) (ps : List Placed) → reports_from file texts ≡ Ok ps
    → (reports : List (List Reported)) × AllZip HoldsReports texts reports × (ps ≡ placed_from file reports)
read_held file [] ps e = ([], tt, cc)
read_held file (t ∷ texts) ps e =
    let it = and_file-some file (read_reports t) (reports_from (suc file) texts) ps e in
    let more = read_held (suc file) texts it.1 it.3 in (
      it.0 ∷ more.0,
      ((text_is_read t it.0).0 it.2, more.1),
      it.4 ∙ ap (λ (qs : List Placed). placed_after file 0 it.0 ++ qs) more.2,
    )

-- and what is held is read
held_read : (file : ℕ) (texts : List (List ℕ)) (reports : List (List Reported)) → AllZip HoldsReports texts reports
    → reports_from file texts ≡ Ok (placed_from file reports)
held_read file [] [] h = refl
held_read file [] (rs ∷ reports) h = absurd h
held_read file (t ∷ texts) [] h = absurd h
held_read file (t ∷ texts) (rs ∷ reports) h =
    ap₂ (λ (r : Result (List Reported) ℕ) (rest : Result (List Placed) TableFault). and_file (in_file file r) rest)
    ((text_is_read t rs).1 h.0) (held_read (suc file) texts reports h.1)

-- both directions
pub reports_are_read : ReportsAreRead
reports_are_read texts ps = (
  λ e. let it = read_held 1 texts ps e in record { reports = it.0; held = it.1; places = it.2 },
  λ h. held_read 1 texts h.reports h.held ∙ ap Ok (sym h.places),
)

-- ---- the first bad text

-- a refusal is that of the first bad text, whose number is counted from that of the first
refused_bad : (first : ℕ) (texts : List (List ℕ)) (file line : ℕ)
    → reports_from first texts ≡ Err (BadReport file line)
    → (k : ℕ) × (file + 1 ≡ k + first) × IsFirstBadText texts k line
refused_bad first [] file line e = absurd cc
refused_bad first (t ∷ texts) file line e =
    elim (and_file-err first (read_reports t) (reports_from (suc first) texts) file line e) [
      | inl own ↦ (
        1,
        omega (arith, own.0),
        record {
          before = [];
          bytes = t;
          behind = texts;
          place = refl;
          right = tt;
          number = refl;
          wrong = (text_goes_wrong t line).0 own.1;
        },
      )
      | inr rest ↦
          let it = refused_bad (suc first) texts file line rest.2 in
          let bad = it.2 in (
            it.0 + 1,
            omega (arith, it.1),
            record {
              before = t ∷ bad.before;
              bytes = bad.bytes;
              behind = bad.behind;
              place = ap (λ (ts : List (List ℕ)). t ∷ ts) bad.place;
              right = ((rest.0, (text_is_read t rest.0).0 rest.1), bad.right);
              number = omega (arith, bad.number);
              wrong = bad.wrong;
            },
          )
    ]

-- the first bad text is refused
bad_refused : (first : ℕ) (before : List (List ℕ)) (bytes : List ℕ) (behind : List (List ℕ)) (file line : ℕ)
    → AllByRecursion AreReports before → file ≡ length before + first → IsFirstBadLine AreReports bytes line
    → reports_from first (before ++ bytes ∷ behind) ≡ Err (BadReport file line)
bad_refused first [] bytes behind file line right number wrong =
    let same : first ≡ file = omega (arith, number) in
    ap (λ (r : Result (List Reported) ℕ). and_file (in_file first r) (reports_from (suc first) behind))
    ((text_goes_wrong bytes line).1 wrong)
    ∙ ap (λ (f : ℕ). Err (BadReport f line)) same
bad_refused first (t ∷ before) bytes behind file line right number wrong =
    ap₂ (λ (r : Result (List Reported) ℕ) (rest : Result (List Placed) TableFault). and_file (in_file first r) rest)
    ((text_is_read t right.0.0).1 right.0.1)
    (bad_refused (suc first) before bytes behind file line right.1 (omega (arith, number)) wrong)

-- both directions
pub texts_go_wrong : TextsGoWrong
texts_go_wrong texts file line = (
  λ e.
      let it = refused_bad 1 texts file line e in
      let same : it.0 ≡ file = omega (arith, it.1) in
      subst (λ (k : ℕ). IsFirstBadText texts k line) same it.2,
  λ h. ap (reports_from 1) h.place ∙ bad_refused 1 h.before h.bytes h.behind file line h.right h.number h.wrong,
)
