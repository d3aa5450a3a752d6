-- The text of a certificate is read as what it says.
use Rattle.std.proofs.Common.{◌≡◌, inl, inr, ℕ, suc, ◌+◌, ◌-◌, Bool, true, false, cond, List, [], ◌∷◌, ◌++◌, length, take, Option, Some, None, Result, Ok, Err, refl, sym, ap, ◌∙◌, append_assoc, append-nil, length-append, arith, decimal, FitsSigned, w64}
use Rattle.std.specs.Prelude.{ℤ, pos, negsuc, ◌==◌, ◌≤◌, ◌<◌, ◌^◌, drop, codes, slice_range, slice_index_or, IfSome, IfOk}
use Rattle.std.specs.List.{flat_map, list_all, take_while, join_with_byte, AllByRecursion}
use Rattle.std.specs.Option.{option_map, option_map_or}
use Rattle.std.specs.Cmp.Lexicographic.{bytes_decides}
use Rattle.std.proofs.lemmas.Bool.{and_parts}
use Rattle.std.proofs.lemmas.Int.{ints}
use Rattle.std.proofs.lemmas.List.Sums.{take_while-cons}
use Rattle.ghcn_fields.specs.Meaning.Bytes.{same_bytes}
use Rattle.ghcn_fields.specs.Numbers.{natural, up_to}
use Rattle.std.specs.Fmt.{signed_decimal}
use Rattle.ghcn_fields.proofs.Decimals.{up_to-fits}
use Rattle.ghcn_files.specs.Meaning.Ids.{is_visible}
use Rattle.ghcn_files.specs.Meaning.StationLines.{is_printable}
use Rattle.rank_query.specs.Meaning.Asked.{Query}
use Rattle.rank_query.specs.Meaning.QueryTexts.{query_text}
use Rattle.rank_query.proofs.CanonicalTexts.{canonical}
use Rattle.rank_papers.specs.declared.counted.Counted.{Counted}
use Rattle.rank_papers.specs.Meaning.Report.{text_line, query_line}
use Rattle.rank_papers.specs.ReportLines.{first_word}
use Rattle.rank_papers.specs.Meaning.Certificate.{title_line, kth_line, has_count, entry_line, end_line}
use Rattle.rank_papers.specs.Certificate.{Line, Certified, counted, certificate_text, AreCounts, IsCertified, IsCertificateOf}
use Rattle.rank_papers.specs.Lines.{paper_lines, number_in}
use Rattle.rank_papers.specs.CertificateLines.{kth_in, kth_word, entry_with, behind_id, entry_in_columns, behind_word, count_field, with_count, counted_in_columns, entry_in, entries_in, entries_of, counts_in, with_entries, behind_query, behind_title, version_in, certified_lines, read_certificate}
use Rattle.rank_papers.specs.Laws.{CertificatesAreRead}
use Rattle.rank_papers.proofs.LineValues.{same_text, exactly-some, exactly-from}
use Rattle.rank_papers.proofs.OneKind.{lines_by, values-read}
use Rattle.rank_papers.proofs.CertificateValues.{written, with_lines, lines-are}
use Rattle.rank_papers.proofs.Counts.{IsCounted, entries-counted, length-counted, counts_back, each_counted}
use Rattle.rank_papers.proofs.ReadLines.{query_in-line, is_i64-fits, id_long}
use Rattle.rank_papers.proofs.NumberTexts.{natural-decimal, number_in-whole}
use Rattle.rank_papers.proofs.RowLines.{no_blank, visible_no_blank, word_first}
use Rattle.rank_papers.proofs.ValueTexts.{decimal_visible}
use Rattle.rank_papers.proofs.WrittenLines.{lines-of_fields, printable-append, visible_text, decimal_printable, whole_printable, pass-weaker, take-past, drop-past, between, last_field}

-- ---- the lines of a certificate

-- the word of a k-th score, or of none
abbrev kth_text : Option ℤ → List ℕ
kth_text kth = option_map_or signed_decimal kth (codes "none")

-- a count after its blank, if there is one
abbrev count_text : Bool → ℕ → List ℕ
count_text has n = cond has (32 ∷ decimal n) []

-- the word of an entry
abbrev word_of : Bool → List ℕ
word_of skipped = cond skipped (codes "skip") (codes "scan")

-- it can be printed
word_printable : (skipped : Bool) → list_all is_printable (word_of skipped) ≡ true
word_printable true = refl
word_printable false = refl

-- so can a count after its blank
count_printable : (has : Bool) (n : ℕ) → list_all is_printable (count_text has n) ≡ true
count_printable true n = decimal_printable n
count_printable false n = refl

-- what is in an entry's line can be printed
entry_printable : (w : ℕ) (l : Counted) → IsCounted w l → list_all is_printable (join_with_byte 32
    (word_of l.entry.skipped ∷ l.entry.id.0
    ∷ (signed_decimal l.entry.bound ++ count_text (has_count w l.entry) l.count) ∷ [])) ≡ true
entry_printable w l is =
    let e : Line = l.entry in
    let id = and_parts _ (list_all is_visible e.id.0) is.entry.id in
    let tail : List ℕ = signed_decimal e.bound ++ count_text (has_count w e) l.count in
    printable-append (word_of e.skipped) (32 ∷ (e.id.0 ++ 32 ∷ tail)) (word_printable e.skipped)
    (printable-append e.id.0 (32 ∷ tail) (visible_text e.id.0 id.1)
    (printable-append (signed_decimal e.bound) (count_text (has_count w e) l.count) (whole_printable e.bound)
    (count_printable (has_count w e) l.count)))

-- entries and an end line are cut into their lines
lines-entries : (w : ℕ) (ls : List Counted) (k n : ℕ) → AllByRecursion (IsCounted w) ls
    → paper_lines (flat_map (entry_line w) ls ++ end_line n) ≡ lines_by (λ m. entry_line w) k ls ++ end_line n ∷ []
lines-entries w [] k n h =
    ap paper_lines (sym (append-nil (end_line n)))
    ∙ lines-of_fields (codes "end" ∷ decimal n ∷ []) [] (decimal_printable n)
lines-entries w (l ∷ ls) k n h =
    ap paper_lines (append_assoc (entry_line w l) (flat_map (entry_line w) ls) (end_line n))
    ∙ lines-of_fields (word_of l.entry.skipped ∷ l.entry.id.0
    ∷ (signed_decimal l.entry.bound ++ count_text (has_count w l.entry) l.count) ∷ [])
    (flat_map (entry_line w) ls ++ end_line n) (entry_printable w l h.0)
    ∙ ap (λ (xs : List (List ℕ)). entry_line w l ∷ xs) (lines-entries w ls (suc k) n h.1)

-- a title can be printed
title_printable : (b : Bool)
    → list_all is_printable (cond b (codes "extremes certificate 1") (codes "extremes certificate 2")) ≡ true
title_printable true = refl
title_printable false = refl

-- five texts may be joined from either end
from_the_end : (a b c d e : List ℕ) → (((a ++ b) ++ c) ++ d) ++ e ≡ a ++ (b ++ (c ++ (d ++ e)))
from_the_end a b c d e = simp append_assoc

-- the word of a k-th score can be printed
kth_printable : (k : Option ℤ) → list_all is_printable (kth_text k) ≡ true
kth_printable None = refl
kth_printable (Some z) = whole_printable z

-- a certificate is cut into the lines in which it is written
pub lines-written : (v : Certified) → IsCertified v → paper_lines (certificate_text v) ≡ written v
lines-written v is =
    let ls : List Counted = counted v.entries v.counts in
    let lines : List ℕ = flat_map (entry_line v.version) ls in
    let entries : List ℕ = lines ++ end_line (length v.entries) in
    let title : List ℕ = title_line v.version in
    ap paper_lines (from_the_end title (query_line v.query) (kth_line v.kth) lines (end_line (length v.entries)))
    ∙ lines-of_fields (cond (v.version == 1) (codes "extremes certificate 1") (codes "extremes certificate 2") ∷ [])
    (query_line v.query ++ (kth_line v.kth ++ entries)) (title_printable (v.version == 1))
    ∙ ap (λ (xs : List (List ℕ)). title ∷ xs)
    (lines-of_fields (codes "query" ∷ query_text v.query ∷ []) (kth_line v.kth ++ entries)
    (canonical v.query is.asked).line.printable)
    ∙ ap (λ (xs : List (List ℕ)). title ∷ query_line v.query ∷ xs)
    (lines-of_fields (codes "kth" ∷ kth_text v.kth ∷ []) entries (kth_printable v.kth))
    ∙ ap (λ (xs : List (List ℕ)). title ∷ query_line v.query ∷ kth_line v.kth ∷ xs)
    (lines-entries v.version ls 0 (length v.entries) (each_counted v.version v.entries v.counts is.entries is.counts))

-- ---- each line is read

-- the word of a k-th score is read as it
kth_word-text : (k : Option ℤ) → IfSome k (FitsSigned w64) → kth_word (kth_text k) ≡ Some k
kth_word-text None h = refl
kth_word-text (Some z) h =
    let number : number_in (signed_decimal z) ≡ Some z = number_in-whole z (is_i64-fits z h) in
    elim (same_bytes (signed_decimal z) (codes "none")) as (λ b. same_bytes (signed_decimal z) (codes "none") ≡ b
    → cond b (Some None) (option_map (λ y. Some y) (number_in (signed_decimal z))) ≡ Some (Some z)) [
      | true ↦ λ e. absurd (let none : number_in (codes "none") ≡ Some z =
          ap number_in (sym ((bytes_decides (signed_decimal z) (codes "none")).0 e)) ∙ number in cc)
      | false ↦ λ e. ap (option_map (λ y. Some y)) number
    ] refl

-- so is its line
pub kth_in-line : (k : Option ℤ) → IfSome k (FitsSigned w64) → kth_in (kth_line k) ≡ Some k
kth_in-line k h =
    exactly-from kth_line (kth_word (slice_range (kth_line k) 4 (length (kth_line k) - 1))) k
    (ap kth_word (last_field 4 (codes "kth ") (kth_text k) refl) ∙ kth_word-text k h)

-- ---- an entry is read by its columns

module _ (word id number : List ℕ) (four : length word ≡ 4) (eleven : length id ≡ 11) where
  -- such a line
  abbrev line : List ℕ
  line = (word ++ 32 ∷ (id ++ 32 ∷ number)) ++ 10 ∷ []

  -- its first word
  first_word_of : take 4 line ≡ word
  first_word_of =
      ap (take 4) (append_assoc word (32 ∷ (id ++ 32 ∷ number)) (10 ∷ []))
      ∙ take-past 4 word ((32 ∷ (id ++ 32 ∷ number)) ++ 10 ∷ []) (sym four)

  -- its second word
  second_word : slice_range line 5 16 ≡ id
  second_word =
      let parts : line ≡ (word ++ 32 ∷ []) ++ (id ++ (32 ∷ (number ++ 10 ∷ []))) = simp append_assoc in
      ap (λ (l : List ℕ). slice_range l 5 16) parts
      ∙ between 5 16 (word ++ 32 ∷ []) id (32 ∷ (number ++ 10 ∷ []))
      (omega (arith, four, length-append word (32 ∷ []))) (omega (arith, eleven))

  -- its third word
  third_word : slice_range line 17 (length line - 1) ≡ number
  third_word =
      let front : List ℕ = word ++ 32 ∷ (id ++ 32 ∷ []) in
      let parts : line ≡ (word ++ 32 ∷ (id ++ 32 ∷ [])) ++ (number ++ 10 ∷ []) = simp append_assoc in
      let width : length (word ++ 32 ∷ (id ++ 32 ∷ [])) ≡ 17 =
      omega (arith, four, eleven, length-append word (32 ∷ (id ++ 32 ∷ [])), length-append id (32 ∷ [])) in
      ap (λ (l : List ℕ). slice_range l 17 (length l - 1)) parts
      ∙ last_field 17 (word ++ 32 ∷ (id ++ 32 ∷ [])) number (sym width)

-- the word of an entry has four bytes
word_long : (skipped : Bool) → length (word_of skipped) ≡ 4
word_long true = refl
word_long false = refl

-- and says whether it is a skip
word_says : (skipped : Bool) → same_bytes (word_of skipped) (codes "skip") ≡ skipped
word_says true = refl
word_says false = refl

-- ---- a bound, and a count after it

-- digits have no blank
decimal_plain : (n : ℕ) → n < 2 ^ 64 → list_all no_blank (decimal n) ≡ true
decimal_plain n fits = pass-weaker is_visible no_blank visible_no_blank (decimal n) (decimal_visible n fits)

-- numbers inside 64 bits have magnitudes inside 64 bits
low : (n : ℕ) → FitsSigned w64 (pos n) → n < 2 ^ 64
low n h = grind (arith, ints)

-- also below zero
low_below : (n : ℕ) → FitsSigned w64 (negsuc n) → suc n < 2 ^ 64
low_below n h = grind (arith, ints)

-- so a whole number has no blank
whole_plain : (z : ℤ) → FitsSigned w64 z → list_all no_blank (signed_decimal z) ≡ true
whole_plain (pos n) h = decimal_plain n (low n h)
whole_plain (negsuc n) h = decimal_plain (suc n) (low_below n h)

-- bytes without a blank are all one word
all_one_word : (word : List ℕ) → list_all no_blank word ≡ true → take_while no_blank (word ++ []) ≡ word
all_one_word [] h = refl
all_one_word (b ∷ word) h =
    let both = and_parts (no_blank b) (list_all no_blank word) h in
    take_while-cons no_blank b (word ++ [])
    ∙ ap (λ (t : Bool). cond t (b ∷ take_while no_blank (word ++ [])) []) both.0
    ∙ ap (λ (l : List ℕ). b ∷ l) (all_one_word word both.1)

-- a bound is the first word, whether a count follows or not
bound_first : (has : Bool) (n : ℕ) (word : List ℕ) → list_all no_blank word ≡ true
    → first_word (word ++ count_text has n) ≡ word
bound_first true n word plain = word_first word (decimal n) plain
bound_first false n word plain = all_one_word word plain

-- a count is read of what comes after the bound
count_read : (has : Bool) (n : ℕ) (word : List ℕ) → n ≤ 1000 → (has ≡ false → n ≡ 0)
    → count_field has (drop (length word + 1) (word ++ count_text has n)) ≡ Some n
count_read true n word few none =
    let parts : word ++ 32 ∷ decimal n ≡ (word ++ 32 ∷ []) ++ decimal n = sym
    (append_assoc word (32 ∷ []) (decimal n)) in
    let long : length word + 1 ≡ length (word ++ 32 ∷ []) = omega (arith, length-append word (32 ∷ [])) in
    ap (λ (l : List ℕ). up_to 1000 (natural (drop (length word + 1) l))) parts
    ∙ ap (λ (l : List ℕ). up_to 1000 (natural l)) (drop-past (length word + 1) (word ++ 32 ∷ []) (decimal n) long)
    ∙ ap (up_to 1000) (natural-decimal n (omega (arith, few)))
    ∙ up_to-fits 1000 n few
count_read false n word few none = ap (λ (m : ℕ). Some m) (sym (none refl))

-- the line of an entry is read as it
pub entry_in-line : (w : ℕ) (l : Counted) → IsCounted w l → entry_in w (entry_line w l) ≡ Some l
entry_in-line w l is =
    let e : Line = l.entry in
    let word : List ℕ = word_of e.skipped in
    let four : length (word_of e.skipped) ≡ 4 = word_long e.skipped in
    let eleven : length e.id.0 ≡ 11 = id_long e.id.0 is.entry.id in
    let has : Bool = has_count w e in
    let field : List ℕ = signed_decimal e.bound ++ count_text has l.count in
    let read : List ℕ → List ℕ → List ℕ → Option Line =
    λ x i n. option_map_or (entry_with x i) (number_in n) None in
    let plain : list_all no_blank (signed_decimal e.bound) ≡ true = whole_plain e.bound is.entry.bound in
    let behind : behind_id (entry_line w l) ≡ field = third_word (word_of e.skipped) e.id.0 field four eleven in
    let bound : first_word (behind_id (entry_line w l)) ≡ signed_decimal e.bound =
    ap first_word behind ∙ bound_first has l.count (signed_decimal e.bound) plain in
    let number : number_in (signed_decimal e.bound) ≡ Some e.bound =
    number_in-whole e.bound (is_i64-fits e.bound is.entry.bound) in
    let number_at : List ℕ = first_word (behind_id (entry_line w l)) in
    let id_at : List ℕ = slice_range (entry_line w l) 5 16 in
    let entry : entry_in_columns (entry_line w l) ≡ Some e =
    ap (λ (x : List ℕ). read x id_at number_at) (first_word_of (word_of e.skipped) e.id.0 field four eleven)
    ∙ ap (λ (i : List ℕ). read (word_of e.skipped) i number_at)
    (second_word (word_of e.skipped) e.id.0 field four eleven)
    ∙ ap (λ (n : List ℕ). read (word_of e.skipped) e.id.0 n) bound
    ∙ ap (λ (o : Option ℤ). option_map_or (entry_with (word_of e.skipped) e.id.0) o None) number
    ∙ ap (λ (b : Bool). cond b (Some (record {
      id = e.id;
      bound = e.bound;
      skipped = same_bytes (word_of e.skipped)
          (codes "skip");
    })) None) is.entry.id
    ∙ ap (λ (b : Bool). Some (record { id = e.id; bound = e.bound; skipped = b })) (word_says e.skipped) in
    let rest : List ℕ = behind_word (behind_id (entry_line w l)) in
    let count : count_field has (behind_word (behind_id (entry_line w l))) ≡ Some l.count =
    ap (λ (f : List ℕ). count_field has (drop (length (first_word (behind_id (entry_line w l))) + 1) f)) behind
    ∙ ap (λ (x : List ℕ). count_field has (drop (length x + 1) field)) bound
    ∙ count_read has l.count (signed_decimal e.bound) is.few is.none in
    exactly-from (entry_line w) (counted_in_columns w (entry_line w l)) l (
    ap (λ (o : Option Line). option_map_or (with_count w rest) o None) entry
    ∙ ap (option_map (λ (n : ℕ). record { entry = e; count = n })) count)

-- no end line is an entry's
first_byte : (w : ℕ) (l : Counted) → slice_index_or (entry_line w l) 0 0 ≡ 115
first_byte w l = by l.entry.skipped
  where
    by : (b : Bool) → slice_index_or (text_line (cond b (codes "skip") (codes "scan") ∷ l.entry.id.0
        ∷ (signed_decimal l.entry.bound ++ count_text (has_count w l.entry) l.count) ∷ [])) 0 0 ≡ 115
    by true = refl
    by false = refl

-- so it isn't
pub end_is_other : (n w : ℕ) (l : Counted) → end_line n ≡ entry_line w l → ⊥
end_is_other n w l same =
    let bytes : 101 ≡ 115 = ap (λ (x : List ℕ). slice_index_or x 0 0) same ∙ first_byte w l in
    absurd (omega (arith, bytes))

-- and none is read of it
pub entry_in-end : (n w : ℕ) → entry_in w (end_line n) ≡ None
entry_in-end n w = by (entry_in w (end_line n)) refl
  where
    by : (o : Option Counted) → entry_in w (end_line n) ≡ o → o ≡ None
    by None f = refl
    by (Some l) f = absurd (end_is_other n w l (exactly-some (entry_line w) (end_line n)
        (counted_in_columns w (end_line n)) l f).1)

-- ---- the whole text

-- a first line is read as that of its version
pub version_in-title : (w : ℕ) (es : List Line) (ns : List ℕ) → AreCounts w es ns
    → version_in (title_line w) ≡ Some w
version_in-title w es ns (inl h) =
    ap (λ (v : ℕ). version_in (title_line v)) h.0 ∙ ap (λ (v : ℕ). Some v) (sym h.0)
version_in-title w es ns (inr h) =
    ap (λ (v : ℕ). version_in (title_line v)) h.0 ∙ ap (λ (v : ℕ). Some v) (sym h.0)

-- a certificate is that with its lines
pub whole_again : (v : Certified) → AreCounts v.version v.entries v.counts
    → with_lines v.version v.query v.kth (counted v.entries v.counts) ≡ v
whole_again v are =
    let es : entries_of (counted v.entries v.counts) ≡ v.entries = entries-counted v.entries v.counts in
    let ns : counts_in v.version (counted v.entries v.counts) ≡ v.counts =
    counts_back v.version v.entries v.counts are in
    λ i. record { version = v.version; query = v.query; kth = v.kth; entries = es i; counts = ns i }

-- the lines of a certificate are read as what it says
pub written_read : (v : Certified) → IsCertified v → certified_lines (written v) ≡ Ok v
written_read v is =
    let w : ℕ = v.version in
    let ls : List Counted = counted v.entries v.counts in
    let each = each_counted v.version v.entries v.counts is.entries is.counts in
    let entries : List (List ℕ) = lines_by (λ n. entry_line w) 0 ls ++ end_line (length v.entries) ∷ [] in
    let count : length v.entries ≡ 0 + length (counted v.entries v.counts) =
    omega (arith, length-counted v.entries v.counts) in
    ap (λ (o : Option ℕ). option_map_or (λ x. behind_title x (query_line v.query ∷ kth_line v.kth ∷ entries)) o
    (Err 1)) (version_in-title v.version v.entries v.counts is.counts)
    ∙ ap (λ (o : Option Query). option_map_or (λ q. behind_query w q (kth_line v.kth ∷ entries)) o (Err 2))
    (query_in-line v.query is.asked)
    ∙ ap (λ (o : Option (Option ℤ)). option_map_or (λ s. with_entries w v.query s (entries_in w 0 entries)) o (Err 3))
    (kth_in-line v.kth is.kth)
    ∙ ap (with_entries w v.query v.kth) (values-read 4 (λ n. entry_in w) end_line (λ n. entry_line w) (IsCounted w)
    (length v.entries) (λ n. entry_in-end (length v.entries) w) (λ n l can lt. entry_in-line w l can) ls 0 each count)
    ∙ ap (λ (x : Certified). Ok x) (whole_again v is.counts)

-- so a text is read as a value if and only if it is the text of the value
pub text_read : (bytes : List ℕ) (v : Certified) → IsCertificateOf v bytes → read_certificate bytes ≡ Ok v
text_read bytes v h =
    ap read_certificate h.text ∙ ap certified_lines (lines-written v h.can_be) ∙ written_read v h.can_be

-- what was read is said, and its text is the very bytes
read-is : (bytes : List ℕ) (v : Certified) → read_certificate bytes ≡ Ok v → IsCertificateOf v bytes
read-is bytes v h =
    let are = lines-are (paper_lines bytes) v h in
    record { can_be = are.0; text = same_text bytes (certificate_text v) (are.1 ∙ sym (lines-written v are.0)) }

-- so is what a call returned
pub if_read-is : {X E : Type 0} (said : X → Certified) (bytes : List ℕ) (r : Result X E)
    → IfOk r (λ c. read_certificate bytes ≡ Ok (said c)) → IfOk r (λ c. IsCertificateOf (said c) bytes)
if_read-is said bytes (Ok c) h = read-is bytes (said c) h
if_read-is said bytes (Err e) h = tt

-- both directions
pub certificates_read : CertificatesAreRead
certificates_read bytes v = (read-is bytes v, text_read bytes v)
