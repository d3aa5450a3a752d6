-- Where the reading of a report or a certificate ends is its first bad line, whichever of the two it is.
use Rattle.std.proofs.Common.{◌≡◌, ◌⊎◌, ◌↔◌, inl, inr, ℕ, suc, ◌+◌, Bool, true, false, List, [], ◌∷◌, ◌++◌, length, Option, Some, None, Result, Ok, Err, refl, sym, ap, ◌∙◌, subst, append_assoc, arith}
use Rattle.std.specs.Option.{option_map_or}
use Rattle.std.specs.Cmp.Lexicographic.{bytes_decides}
use Rattle.ghcn_fields.specs.Meaning.Bytes.{same_bytes}
use Rattle.rank_papers.specs.Lines.{paper_lines, and_then, value_or_end, up_to_end}
use Rattle.rank_papers.specs.Places.{Begin, IsFirstBadLine}
use Rattle.rank_papers.proofs.LineValues.{same_text}
use Rattle.rank_papers.proofs.FirstBadLines.{begin-whole, one_first}

-- ---- what reads lines

-- lines of a text
abbrev pub Lines : Type 0
Lines = List (List ℕ)

-- what is read of lines, or the number of the line at which the reading ends
abbrev pub Reader : Type 0 → Type 0
Reader V = Lines → Result V ℕ

-- with some lines after them these are read
pub record Begun {V : Type 0} (read : Reader V) (ls : Lines) : Type 0 where
  pub more : Lines
  pub value : V
  pub is : read (ls ++ more) ≡ Ok value

-- the reading of these lines, counted from a number on, ends at the line of this number, whatever comes after it, or
-- after the last of the lines; the lines before it are read with some after them
pub record EndsAt {V : Type 0} (read : Reader V) (first : ℕ) (ls : Lines) (n : ℕ) : Type 0 where
  pub before : Lines
  pub begun : Begun read before
  pub number : n ≡ length before + first
  pub wrong : ((line : List ℕ) × (behind : Lines) × (ls ≡ before ++ line ∷ behind)
      × ((more : Lines) → read (before ++ line ∷ more) ≡ Err n)) ⊎ (ls ≡ before)

-- lines are read one after the other: some are read, and wherever a reading ends it ends at a line of its number
pub record IsInOrder {V : Type 0} (read : Reader V) (first : ℕ) : Type 0 where
  pub begun : Begun read []
  pub ends : (ls : Lines) (n : ℕ) → read ls ≡ Err n → EndsAt read first ls n

-- what is made of what was read goes wrong at the number at which that does, and only if that does
pub record Keeps {V W : Type 0} (onto : Result V ℕ → Result W ℕ) : Type 0 where
  pub wrong : (n : ℕ) → onto (Err n) ≡ Err n
  pub right : (v : V) → (w : W) × (onto (Ok v) ≡ Ok w)

-- which number a result names
same_err : {V : Type 0} (n m : ℕ) → ◌≡◌ {A = Result V ℕ} (Err n) (Err m) → m ≡ n
same_err n m e = cc

-- so what went wrong went wrong before
went_wrong : {V W : Type 0} (onto : Result V ℕ → Result W ℕ) (keeps : Keeps onto) (r : Result V ℕ) (n : ℕ)
    → onto r ≡ Err n → r ≡ Err n
went_wrong onto keeps (Ok v) n e = let no : Ok (keeps.right v).0 ≡ Err n = sym (keeps.right v).1 ∙ e in absurd cc
went_wrong onto keeps (Err m) n e = ap Err (sym (same_err m n (sym (keeps.wrong m) ∙ e)))

-- ---- one line

module _ {V : Type 0} (read : Reader V) (first : ℕ) (begun : Begun read []) where
  -- lines that stop before the first
  stops : (n : ℕ) → n ≡ first → EndsAt read first [] n
  stops n e = record { before = []; begun = begun; number = omega (arith, e); wrong = inr refl }

  -- a first line with which none are read
  goes_wrong : (l : List ℕ) (ls : Lines) (n : ℕ) → ((more : Lines) → read (l ∷ more) ≡ Err first)
      → read (l ∷ ls) ≡ Err n → EndsAt read first (l ∷ ls) n
  goes_wrong l ls n bad e =
      let same : n ≡ first = same_err {V = V} first n (sym (bad ls) ∙ e) in
      record {
        before = [];
        begun = begun;
        number = omega (arith, same);
        wrong = inl (l, ls, refl, λ more. bad more ∙ ap Err (sym same));
      }

module _ {V W : Type 0} (rest : Reader V) (read : Reader W) (l : List ℕ) (onto : Result V ℕ → Result W ℕ)
    (keeps : Keeps onto) (is : (ls : Lines) → read (l ∷ ls) ≡ onto (rest ls)) where
  -- what is read after a line is read with it
  begun_behind : (ls : Lines) → Begun rest ls → Begun read (l ∷ ls)
  begun_behind ls b = record {
    more = b.more;
    value = (keeps.right b.value).0;
    is = is (ls ++ b.more) ∙ ap onto b.is ∙ (keeps.right b.value).1;
  }

  -- and goes wrong at the number at which it does
  ends_behind : (first n : ℕ) (ls : Lines) → EndsAt rest (suc first) ls n → EndsAt read first (l ∷ ls) n
  ends_behind first n ls e = record {
    before = l ∷ e.before;
    begun = begun_behind e.before e.begun;
    number = omega (arith, e.number);
    wrong = elim e.wrong [
      | inl w ↦ inl (
        w.0,
        w.1,
        ap (λ (x : Lines). l ∷ x) w.2,
        λ more. is (e.before ++ w.0 ∷ more) ∙ ap onto (w.3 more) ∙ keeps.wrong n,
      )
      | inr all ↦ inr (ap (λ (x : Lines). l ∷ x) all)
    ];
  }

-- the first line is read as something, and what comes after it by what that was
pub record IsByLine {A V W : Type 0} (in_line : List ℕ → Option A) (rest : A → Reader V)
    (onto : A → Result V ℕ → Result W ℕ) (read : Reader W) (first : ℕ) : Type 0 where
  pub none : read [] ≡ Err first
  pub some : (l : List ℕ) (ls : Lines)
      → read (l ∷ ls) ≡ option_map_or (λ a. onto a (rest a ls)) (in_line l) (Err first)
  pub keeps : (a : A) → Keeps (onto a)

module _ {A V W : Type 0} (in_line : List ℕ → Option A) (rest : A → Reader V) (onto : A → Result V ℕ → Result W ℕ)
    (read : Reader W) (first : ℕ) (is : IsByLine in_line rest onto read first) where
  -- a line by what it is
  by_value : (l : List ℕ) (o : Option A) → in_line l ≡ o → (ls : Lines)
      → read (l ∷ ls) ≡ option_map_or (λ a. onto a (rest a ls)) o (Err first)
  by_value l o e ls = is.some l ls ∙ ap (λ (x : Option A). option_map_or (λ a. onto a (rest a ls)) x (Err first)) e

  -- so lines are read one after the other if those after the first are
  pub by_line : (l : List ℕ) (a : A) → in_line l ≡ Some a → ((x : A) → IsInOrder (rest x) (suc first))
      → IsInOrder read first
  by_line l a e each = record { begun = begun; ends = ends }
    where
      begun : Begun read []
      begun =
          let b = begun_behind (rest a) read l (onto a) (is.keeps a) (by_value l (Some a) e) [] (each a).begun in
          record { more = l ∷ b.more; value = b.value; is = b.is }

      ends : (ls : Lines) (n : ℕ) → read ls ≡ Err n → EndsAt read first ls n
      ends [] n f = stops read first begun n (same_err {V = W} first n (sym is.none ∙ f))
      ends (l ∷ ls) n f = by (in_line l) refl
        where
          by : (o : Option A) → in_line l ≡ o → EndsAt read first (l ∷ ls) n
          by None s = goes_wrong read first begun l ls n (by_value l None s) f
          by (Some x) s =
              let it = by_value l (Some x) s in
              ends_behind (rest x) read l (onto x) (is.keeps x) it first n ls
              ((each x).ends ls n (went_wrong (onto x) (is.keeps x) (rest x ls) n (sym (it ls) ∙ f)))

-- ---- lines of one kind, up to an end line with their number

module _ {A : Type 0} (first : ℕ) (value_in : ℕ → List ℕ → Option A) (end : ℕ → List ℕ)
    (end_is_other : (n : ℕ) → value_in n (end n) ≡ None) where
  -- the values of lines after that many others
  abbrev read : ℕ → Reader (List A)
  read n = up_to_end first value_in end n

  -- a value more is read if the others are
  keeps_value : (x : A) → Keeps (and_then x)
  keeps_value x = record { wrong = λ n. refl; right = λ xs. (x ∷ xs, refl) }

  -- a line by what it is, and by whether it is the end line
  by_tests : (n : ℕ) (l : List ℕ) (o : Option A) (b : Bool) → value_in n l ≡ o → same_bytes l (end n) ≡ b
      → (ls : Lines) → read n (l ∷ ls) ≡ value_or_end (n + first) o b ls (read (suc n) ls)
  by_tests n l o b s t ls =
      ap (λ (x : Option A). value_or_end (n + first) x (same_bytes l (end n)) ls (read (suc n) ls)) s
      ∙ ap (λ (x : Bool). value_or_end (n + first) o x ls (read (suc n) ls)) t

  -- an end line is read, and nothing after it
  begun_by_end : (n : ℕ) → Begun (read n) []
  begun_by_end n = record {
    more = end n ∷ [];
    value = [];
    is = by_tests n (end n) None true (end_is_other n) ((bytes_decides (end n) (end n)).1 refl) [];
  }

  -- where their reading ends
  ends_up_to_end : (ls : Lines) (n m : ℕ) → read n ls ≡ Err m → EndsAt (read n) (n + first) ls m
  ends_up_to_end [] n m f = stops (read n) (n + first) (begun_by_end n) m (same_err {V = List A} (n + first) m f)
  ends_up_to_end (l ∷ ls) n m f =
      let next : suc n + first ≡ suc (n + first) = omega arith in
      by (λ g. subst (λ (k : ℕ). EndsAt (read (suc n)) k ls m) next (ends_up_to_end ls (suc n) m g))
      (value_in n l) (same_bytes l (end n)) refl refl ls refl f
    where
      by : (read (suc n) ls ≡ Err m → EndsAt (read (suc n)) (suc (n + first)) ls m) → (o : Option A) (b : Bool)
          → value_in n l ≡ o → same_bytes l (end n) ≡ b → (rest : Lines) → ls ≡ rest → read n (l ∷ ls) ≡ Err m
          → EndsAt (read n) (n + first) (l ∷ ls) m
      by again (Some x) b s t rest same g =
          let is = by_tests n l (Some x) b s t in
          ends_behind (read (suc n)) (read n) l (and_then x) (keeps_value x) is (n + first) m ls
          (again (went_wrong (and_then x) (keeps_value x) (read (suc n) ls) m (sym (is ls) ∙ g)))
      by again None false s t rest same g =
          goes_wrong (read n) (n + first) (begun_by_end n) l ls m (by_tests n l None false s t) g
      by again None true s t [] same g =
          let no : Ok [] ≡ Err m =
          sym (by_tests n l None true s t []) ∙ ap (λ (x : Lines). read n (l ∷ x)) (sym same) ∙ g in absurd cc
      by again None true s t (r ∷ rest) same g =
          let bad : (more : Lines) → read n (l ∷ r ∷ more) ≡ Err (n + first + 1) =
          λ more. by_tests n l None true s t (r ∷ more) in
          let number : m ≡ n + first + 1 = same_err {V = List A} (n + first + 1) m
          (sym (ap (λ (x : Lines). read n (l ∷ x)) same ∙ bad rest) ∙ g) in
          record {
            before = l ∷ [];
            begun = record { more = []; value = []; is = by_tests n l None true s t [] };
            number = omega (arith, number);
            wrong = inl (r, rest, ap (λ (x : Lines). l ∷ x) same, λ more. bad more ∙ ap Err (sym number));
          }

  -- so they are read one after the other
  pub values_in_order : IsInOrder (read 0) first
  values_in_order =
      let none : 0 + first ≡ first = omega arith in
      record {
        begun = begun_by_end 0;
        ends = λ ls m f. subst (λ (k : ℕ). EndsAt (read 0) k ls m) none (ends_up_to_end ls 0 m f);
      }

-- ---- a text

-- the texts of a form are those whose lines are read
pub record IsForm {V : Type 0} (IsText : List ℕ → Type 0) (read : Reader V) : Type 0 where
  pub is_read : (bytes : List ℕ) → IsText bytes → (v : V) × (read (paper_lines bytes) ≡ Ok v)
  pub has_text : (ls : Lines) (v : V) → read ls ≡ Ok v → (text : List ℕ) × IsText text × (paper_lines text ≡ ls)

module _ {V : Type 0} (IsText : List ℕ → Type 0) (read : Reader V) (form : IsForm IsText read)
    (order : IsInOrder read 1) where
  -- a line with which the reading ends, whatever comes after it, is one with which no report and no certificate goes on
  no_paper : (ls : Lines) (n : ℕ) → ((more : Lines) → read (ls ++ more) ≡ Err n) → Begin IsText ls → ⊥
  no_paper ls n bad b =
      let said = form.is_read b.text b.has_form in
      let no : Err n ≡ Ok said.0 = sym (bad b.more) ∙ ap read (sym b.lines) ∙ said.1 in absurd cc

  -- a text whose reading ends has the form of no report and no certificate
  not_read : (bytes : List ℕ) (n : ℕ) → read (paper_lines bytes) ≡ Err n → IsText bytes → ⊥
  not_read bytes n f is =
      let said = form.is_read bytes is in let no : Err n ≡ Ok said.0 = sym f ∙ said.1 in absurd cc

  -- where the reading of a text ends is its first bad line
  wrong_at : (bytes : List ℕ) (n : ℕ) → read (paper_lines bytes) ≡ Err n → IsFirstBadLine IsText bytes n
  wrong_at bytes n f =
      let e = order.ends (paper_lines bytes) n f in
      let text = form.has_text (e.before ++ e.begun.more) e.begun.value e.begun.is in
      record {
        before = e.before;
        begun = record { text = text.0; has_form = text.1; more = e.begun.more; lines = text.2 };
        number = e.number;
        wrong = elim e.wrong [
          | inl w ↦ inl (record {
            line = w.0;
            behind = w.1;
            lines = w.2;
            ended = no_paper (e.before ++ w.0 ∷ []) n
                (λ more. ap read (append_assoc e.before (w.0 ∷ []) more) ∙ w.3 more);
          })
          | inr all ↦ inr (record { lines = all; no_paper = not_read bytes n f })
        ];
      }

  -- a text that has the form has no first bad line
  no_wrong : (bytes : List ℕ) (n : ℕ) → IsText bytes → IsFirstBadLine IsText bytes n → ⊥
  no_wrong bytes n is f = elim f.wrong [
    | inl w ↦ w.ended (begin-whole IsText bytes (f.before ++ w.line ∷ []) w.behind is
        (w.lines ∙ sym (append_assoc f.before (w.line ∷ []) w.behind)))
    | inr w ↦ w.no_paper is
  ]

  -- so the reading ends exactly at first bad lines
  pub first_bad : (bytes : List ℕ) (n : ℕ) → (read (paper_lines bytes) ≡ Err n) ↔ IsFirstBadLine IsText bytes n
  first_bad bytes n = (wrong_at bytes n, λ f. ends_at f (read (paper_lines bytes)) refl)
    where
      ends_at : IsFirstBadLine IsText bytes n → (r : Result V ℕ) → read (paper_lines bytes) ≡ r → r ≡ Err n
      ends_at f (Ok v) e =
          let text = form.has_text (paper_lines bytes) v e in
          absurd (no_wrong bytes n (subst IsText (same_text text.0 bytes text.2) text.1) f)
      ends_at f (Err m) e = ap Err (one_first IsText bytes m n (wrong_at bytes m e) f)
