-- What is read as a certificate is the text of what it says.
use Rattle.std.proofs.Common.{◌≡◌, ◌⊎◌, inl, inr, ℕ, ◌+◌, ◌-◌, ◌≤◌, Bool, true, false, cond, List, [], ◌∷◌, ◌++◌, length, take, Option, Some, None, Result, Ok, Err, refl, sym, ap, ◌∙◌, subst, arith, FitsSigned, w64}
use Rattle.std.specs.Prelude.{⊤, ℤ, codes, slice_range, nat_le, IfSome}
use Rattle.std.specs.List.{AllByRecursion}
use Rattle.std.specs.Option.{option_map_or, option_map}
use Rattle.std.specs.Cmp.Lexicographic.{bytes_decides}
use Rattle.std.proofs.lemmas.Bool.{leb-true}
use Rattle.std.proofs.lemmas.List.{length-map}
use Rattle.ghcn_fields.specs.Meaning.Bytes.{same_bytes}
use Rattle.ghcn_fields.specs.Numbers.{natural, signed_by, up_to}
use Rattle.std.specs.Fmt.{signed_decimal}
use Rattle.ghcn_files.specs.Ids.{is_id}
use Rattle.rank_query.specs.Meaning.Asked.{Query}
use Rattle.rank_papers.specs.declared.counted.Counted.{Counted}
use Rattle.rank_papers.specs.Meaning.Report.{query_line}
use Rattle.rank_papers.specs.ReportLines.{first_word}
use Rattle.rank_papers.specs.Meaning.Certificate.{title_line, kth_line, has_count, entry_line, end_line}
use Rattle.rank_papers.specs.Certificate.{Line, Certified, counted, IsEntry, IsCertified}
use Rattle.rank_papers.specs.Lines.{exactly, number_in, query_in}
use Rattle.rank_papers.specs.CertificateLines.{kth_in, kth_word, entry_with, behind_id, entry_in_columns, behind_word, count_field, with_count, counted_in_columns, entry_in, entries_in, entries_of, counts_in, with_entries, behind_query, behind_title, version_in, certified_lines}
use Rattle.rank_papers.proofs.LineValues.{exactly-some, in_i64-some, option-ok, query_in-is}
use Rattle.rank_papers.proofs.OneKind.{lines_by, values-are}
use Rattle.rank_papers.proofs.Counts.{IsCounted, lines_back, each_entry_of, counts_can}

-- ---- scores and entries

-- a number that was read is inside 64 bits
pub number_in-fits : (field : List ℕ) (z : ℤ) → number_in field ≡ Some z → FitsSigned w64 z
number_in-fits field z e = in_i64-some (exactly signed_decimal field (signed_by natural field)) z e

-- a score that was read
option_some : (o : Option ℤ) (k : Option ℤ) → option_map (λ z. Some z) o ≡ Some k → ((z : ℤ) → o ≡ Some z
    → FitsSigned w64 z) → IfSome k (FitsSigned w64)
option_some None k e f = absurd cc
option_some (Some z) k e f = let same : Some z ≡ k = cc in
    subst (λ (o : Option ℤ). IfSome o (FitsSigned w64)) same (f z refl)

-- a k-th score that was read of a word
kth_word-fits : (word : List ℕ) (k : Option ℤ) → kth_word word ≡ Some k → IfSome k (FitsSigned w64)
kth_word-fits word k e = elim (same_bytes word (codes "none")) as (λ b. cond b (Some None) (option_map (λ z. Some
    z) (number_in word)) ≡ Some k → IfSome k (FitsSigned w64)) [
      | true ↦ λ f. let same : None ≡ k = cc in subst (λ (o : Option ℤ). IfSome o (FitsSigned w64)) same tt
      | false ↦ λ f. option_some (number_in word) k f (number_in-fits word)
    ] e

-- a k-th score that is read is inside 64 bits, and its line is the one it was read of
pub kth_in-is : (line : List ℕ) (k : Option ℤ) → kth_in line ≡ Some k → IfSome k (FitsSigned w64) × (line ≡ kth_line k)
kth_in-is line k h =
    let parts = exactly-some kth_line line (kth_word (slice_range line 4 (length line - 1))) k h in
    (kth_word-fits (slice_range line 4 (length line - 1)) k parts.0, parts.1)

-- an entry that was made of a word, an ID and a number
entry_with-is : (word id : List ℕ) (o : Option ℤ) (e : Line)
    → option_map_or (entry_with word id) o None ≡ Some e → ((z : ℤ) → o ≡ Some z → FitsSigned w64 z) → IsEntry e
entry_with-is word id None e h f = absurd cc
entry_with-is word id (Some z) e h f = elim (is_id id) as (λ b. is_id id ≡ b
    → cond b (Some (record { id = record { 0 = id }; bound = z; skipped = same_bytes word (codes "skip") })) None ≡
    Some e → IsEntry e) [
      | true ↦ λ s g. let same : record { id = record { 0 = id }; bound = z; skipped = same_bytes word (codes "skip") }
          ≡ e = cc in subst IsEntry same (record { id = s; bound = f z refl })
      | false ↦ λ s g. absurd cc
    ] refl h

-- an entry in the columns of a line
columns-is : (line : List ℕ) (e : Line) → entry_in_columns line ≡ Some e → IsEntry e
columns-is line e h =
    entry_with-is (take 4 line) (slice_range line 5 16) (number_in (first_word (behind_id line))) e h
    (number_in-fits (first_word (behind_id line)))

-- a number that was let through is within its limit
up_to-low : (limit : ℕ) (o : Option ℕ) (n : ℕ) → up_to limit o ≡ Some n → n ≤ limit
up_to-low limit None n h = absurd cc
up_to-low limit (Some m) n h = elim (nat_le m limit) as (λ b. nat_le m limit ≡ b → cond b (Some m) None ≡ Some n
    → n ≤ limit) [
      | true ↦ λ t f. let same : m ≡ n = cc in subst (λ (x : ℕ). x ≤ limit) same (leb-true m limit t)
      | false ↦ λ t f. absurd cc
    ] refl h

-- a count that was read is at most a thousand, and 0 if there was none to read
count_in-is : (has : Bool) (field : List ℕ) (n : ℕ) → count_field has field ≡ Some n
    → (n ≤ 1000) × (has ≡ false → n ≡ 0)
count_in-is false field n h = let same : n ≡ 0 = cc in (omega (arith, same), λ e. same)
count_in-is true field n h = (up_to-low 1000 (natural field) n h, λ e. absurd cc)

-- an entry that was read with its count
with_count-is : (w : ℕ) (field : List ℕ) (o : Option Line) (l : Counted)
    → option_map_or (with_count w field) o None ≡ Some l → ((e : Line) → o ≡ Some e → IsEntry e) → IsCounted w l
with_count-is w field None l h f = absurd cc
with_count-is w field (Some e) l h f = by (count_field (has_count w e) field) refl h
  where
    by : (o : Option ℕ) → count_field (has_count w e) field ≡ o
        → option_map (λ n. record { entry = e; count = n }) o ≡ Some l → IsCounted w l
    by None is g = absurd cc
    by (Some n) is g =
        let same : record { entry = e; count = n } ≡ l = cc in
        let count = count_in-is (has_count w e) field n is in
        subst (IsCounted w) same (record { entry = f e refl; few = count.0; none = count.1 })

-- an entry that is read can be, and its line is the one it was read of
pub entry_in-is : (w : ℕ) (line : List ℕ) (l : Counted) → entry_in w line ≡ Some l
    → IsCounted w l × (line ≡ entry_line w l)
entry_in-is w line l h =
    let parts = exactly-some (entry_line w) line (counted_in_columns w line) l h in (
      with_count-is w (behind_word (behind_id line)) (entry_in_columns line) l parts.0 (columns-is line),
      parts.1,
    )

-- ---- a whole certificate

-- the lines in which a certificate is written
abbrev pub written : Certified → List (List ℕ)
written v =
    title_line v.version ∷ query_line v.query ∷ kth_line v.kth
    ∷ (lines_by (λ n. entry_line v.version) 0 (counted v.entries v.counts) ++ end_line (length v.entries) ∷ [])

-- a certificate with these lines
abbrev pub with_lines : ℕ → Query → Option ℤ → List Counted → Certified
with_lines w q s ls =
    record { version = w; query = q; kth = s; entries = entries_of ls; counts = counts_in w ls }

-- a certificate was made of entries
with-some : (w : ℕ) (q : Query) (s : Option ℤ) (r : Result (List Counted) ℕ) (v : Certified)
    → with_entries w q s r ≡ Ok v → (ls : List Counted) × (r ≡ Ok ls) × (v ≡ with_lines w q s ls)
with-some w q s (Ok ls) v h = (ls, refl, cc)
with-some w q s (Err n) v h = absurd cc

-- a version that is read is one, and its first line is the one it was read of
pub version_in-is : (line : List ℕ) (w : ℕ) → version_in line ≡ Some w → ((w ≡ 1) ⊎ (w ≡ 2)) × (line ≡ title_line w)
version_in-is line w h = elim (same_bytes line (title_line 1)) as (λ b. same_bytes line (title_line 1) ≡ b
    → cond b (Some 1) (cond (same_bytes line (title_line 2)) (Some 2) None) ≡ Some w
    → ((w ≡ 1) ⊎ (w ≡ 2)) × (line ≡ title_line w)) [
      | true ↦ λ s f.
          let same : 1 ≡ w = cc in
          (inl (sym same), (bytes_decides line (title_line 1)).0 s ∙ ap title_line same)
      | false ↦ λ s f. elim (same_bytes line (title_line 2)) as (λ b. same_bytes line (title_line 2) ≡ b
          → cond b (Some 2) None ≡ Some w → ((w ≡ 1) ⊎ (w ≡ 2)) × (line ≡ title_line w)) [
            | true ↦ λ t g.
                let same : 2 ≡ w = cc in
                (inr (sym same), (bytes_decides line (title_line 2)).0 t ∙ ap title_line same)
            | false ↦ λ t g. absurd cc
          ] refl f
    ] refl h

-- entries that are read can be, and the lines are those in which they are written with their counts
entries-are : (w : ℕ) (ls : List (List ℕ)) (es : List Counted) → entries_in w 0 ls ≡ Ok es
    → AllByRecursion (IsCounted w) es
    × (ls ≡ lines_by (λ n. entry_line w) 0 (counted (entries_of es) (counts_in w es))
    ++ end_line (length (entries_of es)) ∷ [])
entries-are w ls es h =
    let are = values-are 4 (λ n. entry_in w) end_line (λ n. entry_line w) (IsCounted w) (λ n. ⊤)
    (λ n l x e. let it = entry_in-is w l x e in (tt, it.0, it.1)) ls 0 es tt h in
    let count : 0 + length es ≡ length (entries_of es) = omega (arith, length-map es (λ (l : Counted). l.entry)) in (
      are.each,
      are.lines ∙ ap (λ (n : ℕ). lines_by (λ m. entry_line w) 0 es ++ end_line n ∷ []) count
          ∙ ap (λ (x : List Counted). lines_by (λ m. entry_line w) 0 x ++ end_line (length (entries_of es)) ∷ [])
          (sym (lines_back w es are.each)),
    )

-- what is read of lines can be, and they are the lines in which it is written
pub lines-are : (ls : List (List ℕ)) (v : Certified) → certified_lines ls ≡ Ok v → IsCertified v × (ls ≡ written v)
lines-are [] v h = absurd cc
lines-are (l1 ∷ []) v h =
    let first = option-ok (λ w. behind_title w []) (version_in l1) 1 v h in
    let no = first.2 in absurd cc
lines-are (l1 ∷ l2 ∷ []) v h =
    let first = option-ok (λ w. behind_title w (l2 ∷ [])) (version_in l1) 1 v h in
    let second = option-ok (λ q. behind_query first.0 q []) (query_in l2) 2 v first.2 in
    let no = second.2 in absurd cc
lines-are (l1 ∷ l2 ∷ l3 ∷ ls) v h =
    let first = option-ok (λ w. behind_title w (l2 ∷ l3 ∷ ls)) (version_in l1) 1 v h in
    let w = first.0 in
    let second = option-ok (λ q. behind_query w q (l3 ∷ ls)) (query_in l2) 2 v first.2 in
    let q = second.0 in
    let third = option-ok (λ s. with_entries w q s (entries_in w 0 ls)) (kth_in l3) 3 v second.2 in
    let s = third.0 in
    let rest = with-some w q s (entries_in w 0 ls) v third.2 in
    let es = rest.0 in
    let entries = entries-are w ls es rest.1 in
    let title = version_in-is l1 w first.1 in
    let query = query_in-is l2 q second.1 in
    let kth = kth_in-is l3 s third.1 in
    let can : IsCertified (with_lines w q s es) = record {
      asked = query.0;
      kth = kth.0;
      entries = each_entry_of w es entries.0;
      counts = counts_can w es title.0 entries.0;
    } in
    let lines : l1 ∷ l2 ∷ l3 ∷ ls ≡ written (with_lines w q s es) =
    λ i. title.1 i ∷ query.1 i ∷ kth.1 i ∷ entries.1 i in
    subst (λ (x : Certified). IsCertified x × (l1 ∷ l2 ∷ l3 ∷ ls ≡ written x)) (sym rest.2) (can, lines)
