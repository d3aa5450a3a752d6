-- Lines that are printed one after the other.
use Rattle.std.proofs.Common.{◌≡◌, ℕ, zero, suc, ◌-◌, ◌<◌, ◌≤◌, List, [], ◌∷◌, ◌++◌, length, map, Option, None, Some}
use Rattle.std.proofs.Common.{refl, sym, ap, subst, ◌∙◌, inl, inr, arith, append_assoc, Bor, Bool, true, false}
use Rattle.std.proofs.lemmas.Option.{slice_get-map, slice_get_past, slice_get_read}
use Rattle.std.specs.Prelude.{bytes_eq, codes, if◌then◌else◌, option_map, Result, Ok, String, string_bytes}
use Rattle.std.specs.Cmp.Lexicographic.{pointwise}
use Rattle.std.specs.Fmt.{decimal}
use Rattle.std.specs.List.{slice_get}
use Rattle.std.specs.Option.{SomeIff, option_and_then}
use Rattle.std.specs.Slice.{IsItemAt}
use Rattle.ghcn_series.specs.declared.counts.Foreign.{Foreign}
use Rattle.ghcn_series.specs.declared.counts.OddLines.{OddLines}
use Rattle.ghcn_series.specs.declared.counts.LinePlace.{LinePlace}
use Rattle.ghcn_series.specs.declared.counts.Warnings.{Warnings}
use Rattle.ghcn_series.specs.declared.fault.DailyWhy.{DailyWhy}
use Rattle.rank_input.specs.declared.fault.Fault.{Fault}
use Rattle.rank_input.specs.declared.fault.Fault.TheVariants.{StationLine, TooManyStations, Memory, DailyLine}
use Rattle.rank_input.specs.declared.fault.Fault.TheVariants.{TooManyFiles, QueryTooLong, UnexpectedWord, QueryEnds}
use Rattle.rank_input.specs.declared.fault.Fault.TheVariants.{OutOfLimits, BadDate, BadBox, EmptyPeriod, BadWorkers}
use Rattle.rank_input.specs.declared.fault.Fault.TheVariants.{BadGuess}
use Rattle.extremes.specs.declared.papers.Papers.{Papers}
use Rattle.extremes.specs.declared.ending.Ending.{Ending}
use Rattle.extremes.specs.declared.ending.Ending.TheVariants.{Done, Refused, Words, File}
use Rattle.extremes.specs.Targets.{Putting}
use Rattle.extremes.specs.declared.describe.DescriptionText.{DescriptionText}
use Rattle.extremes.specs.declared.judgement.Judgement.{Judgement}
use Rattle.extremes.specs.Printed.{ArePrinted, IsPrinted, IsTextShown, IsTold}
use Rattle.extremes.specs.Messages.{Line, LinePrinting, ArePrintedLines, Streams, streams, after_lines, line_naming}
use Rattle.explanations.specs.Shown.{shown_text}
use Rattle.extremes.specs.Messages.{input_lines, numbered_path, place_lines, place_text, unnumbered_place, warning_lines}
use Rattle.extremes.specs.Messages.{foreign_text, foreign_warning, odd_text, odd_warning, odd_warning_at, unlisted_warning}

module _ {M : Type 0} (prints : LinePrinting M) where
  -- lines that are printed after others are printed with them
  pub lines-then : (before between after : M) (first lines : List Line)
      → ArePrintedLines prints before between first → ArePrintedLines prints between after lines
      → ArePrintedLines prints before after (first ++ lines)
  lines-then before between after [] lines was is =
      subst (λ m. ArePrintedLines prints m after lines) (sym was) is
  lines-then before between after (line ∷ first) lines was is =
      (was.0, was.1, lines-then was.0 between after first lines was.2 is)

  -- a line that is printed is printed alone
  pub line-alone : (before after : M) (text : List ℕ) (lines : List Line) → lines ≡ Some text ∷ []
      → prints before (Some text) after → ArePrintedLines prints before after lines
  line-alone before after text lines same is =
      subst (λ l. ArePrintedLines prints before after l) (sym same) (after, is, refl)

  -- and no line is printed if nothing is
  pub line-none : (m : M) (lines : List Line) → lines ≡ [] → ArePrintedLines prints m m lines
  line-none m lines same = subst (λ l. ArePrintedLines prints m m l) (sym same) refl

-- the line on some lines of unlisted stations
pub unlisted-some : (n : ℕ) → 0 < n → unlisted_warning n ≡ Some (codes "unlisted " ++ decimal n) ∷ []
unlisted-some zero some = absurd (omega (arith, some))
unlisted-some (suc n) some = refl

-- what isn't some is none
pub none-found : {X : Type 0} (found : Option X) → ((x : X) → found ≡ Some x → ⊥) → found ≡ None
none-found None absent = refl
none-found (Some x) absent = absurd (absent x refl)

-- what is found at a place among strings is found there among their bytes
paths-at : {A : Type 0} (files : List (String A)) (place : ℕ) (found : Option (Bor (String A)))
    → IsItemAt files place found
    → slice_get (map string_bytes files) place ≡ option_map (λ path. string_bytes path.now) found
paths-at files place None is =
    slice_get-map string_bytes files place ∙ ap (option_map string_bytes) (slice_get_past files place is.3)
paths-at files place (Some path) is = slice_get-map string_bytes files place
    ∙ ap (option_map string_bytes) (slice_get_read files (length files) place path.now refl is.3.0 is.1)

-- the line on foreign files, by what is at the place of the first
foreign-at : (paths : List (List ℕ)) (foreign : Foreign) (place : ℕ) (found : Option (List ℕ))
    → foreign.first ≡ Some place → slice_get paths place ≡ found
    → foreign_warning paths foreign ≡ line_naming (foreign_text foreign.count) found
foreign-at paths foreign place found first is =
    ap (λ f. line_naming (foreign_text foreign.count) (option_and_then (slice_get paths) f)) first
    ∙ ap (λ path. line_naming (foreign_text foreign.count) path) is

-- the line on odd lines, by what is at the place of the first
odd-at : (paths : List (List ℕ)) (odd : OddLines) (place : LinePlace) (found : Option (List ℕ))
    → odd.first ≡ Some place → slice_get paths place.file ≡ found
    → odd_warning paths odd ≡ line_naming (odd_text odd.count place.line) found
odd-at paths odd place found first is =
    ap (λ f. odd_warning_at paths odd.count f) first
    ∙ ap (λ path. line_naming (odd_text odd.count place.line) path) is

-- the texts of these lines, from their ends
foreign-nested : (count : ℕ) (path : List ℕ)
    → foreign_text count path ≡ codes "foreign " ++ (decimal count ++ (codes " " ++ shown_text path))
foreign-nested count path = append_assoc (codes "foreign " ++ decimal count) (codes " ") (shown_text path)
    ∙ append_assoc (codes "foreign ") (decimal count) (codes " " ++ shown_text path)

odd-nested : (count line : ℕ) (path : List ℕ) → odd_text count line path
    ≡ codes "odd " ++ (decimal count ++ (codes " " ++ (shown_text path ++ (codes ":" ++ decimal line))))
odd-nested count line path = let shown = shown_text path in
    append_assoc (codes "odd " ++ decimal count ++ codes " " ++ shown) (codes ":") (decimal line)
    ∙ append_assoc (codes "odd " ++ decimal count ++ codes " ") shown (codes ":" ++ decimal line)
    ∙ append_assoc (codes "odd " ++ decimal count) (codes " ") (shown ++ (codes ":" ++ decimal line))
    ∙ append_assoc (codes "odd ") (decimal count) (codes " " ++ (shown ++ (codes ":" ++ decimal line)))

module _ {M A : Type 0} (prints : LinePrinting M) (files : List (String A)) (found : Option (Bor (String A))) where
  -- the line on foreign files is printed with the path that is found
  pub foreign-printed : (before after : M) (foreign : Foreign) (place : ℕ) (path : Bor (String A))
      (named : List ℕ) → named ≡ string_bytes path.now
      → foreign.first ≡ Some place → IsItemAt files place found → found ≡ Some path
      → prints before (Some (codes "foreign " ++ (decimal foreign.count ++ (codes " " ++ shown_text named)))) after
      → ArePrintedLines prints before after (foreign_warning (map string_bytes files) foreign)
  foreign-printed before after foreign place path named same first is some printed = line-alone prints before after _ _
      (foreign-at (map string_bytes files) foreign place _ first (paths-at files place found is)
      ∙ ap (λ f. line_naming (foreign_text foreign.count) (option_map (λ path. string_bytes path.now) f)) some)
      (subst (λ t. prints before (Some t) after) (sym (foreign-nested foreign.count (string_bytes path.now)))
      (subst (λ (n : List ℕ). prints before (Some (codes "foreign " ++ (decimal foreign.count ++ (codes " "
      ++ shown_text n)))) after) same printed))

  -- and none if no path is found
  pub foreign-unprinted : (m : M) (foreign : Foreign) (place : ℕ)
      → foreign.first ≡ Some place → IsItemAt files place found → ((path : Bor (String A)) → found ≡ Some path → ⊥)
      → ArePrintedLines prints m m (foreign_warning (map string_bytes files) foreign)
  foreign-unprinted m foreign place first is absent = line-none prints m _
      (foreign-at (map string_bytes files) foreign place _ first (paths-at files place found is)
      ∙ ap (λ f. line_naming (foreign_text foreign.count) (option_map (λ path. string_bytes path.now) f))
      (none-found found absent))

  -- the line on odd lines is printed with the path that is found
  pub odd-printed : (before after : M) (odd : OddLines) (place : LinePlace) (path : Bor (String A))
      (named : List ℕ) → named ≡ string_bytes path.now
      → odd.first ≡ Some place → IsItemAt files place.file found → found ≡ Some path
      → prints before (Some (codes "odd " ++ (decimal odd.count ++ (codes " " ++ (shown_text named ++ (codes ":"
      ++ decimal place.line)))))) after
      → ArePrintedLines prints before after (odd_warning (map string_bytes files) odd)
  odd-printed before after odd place path named same first is some printed = line-alone prints before after _ _
      (odd-at (map string_bytes files) odd place _ first (paths-at files place.file found is)
      ∙ ap (λ f. line_naming (odd_text odd.count place.line) (option_map (λ path. string_bytes path.now) f)) some)
      (subst (λ t. prints before (Some t) after) (sym (odd-nested odd.count place.line (string_bytes path.now)))
      (subst (λ (n : List ℕ). prints before (Some (codes "odd " ++ (decimal odd.count ++ (codes " " ++ (shown_text n
      ++ (codes ":" ++ decimal place.line)))))) after) same printed))

  -- and none if no path is found
  pub odd-unprinted : (m : M) (odd : OddLines) (place : LinePlace)
      → odd.first ≡ Some place → IsItemAt files place.file found → ((path : Bor (String A)) → found ≡ Some path → ⊥)
      → ArePrintedLines prints m m (odd_warning (map string_bytes files) odd)
  odd-unprinted m odd place first is absent = line-none prints m _
      (odd-at (map string_bytes files) odd place _ first (paths-at files place.file found is)
      ∙ ap (λ f. line_naming (odd_text odd.count place.line) (option_map (λ path. string_bytes path.now) f))
      (none-found found absent))

module _ {M : Type 0} (prints : LinePrinting M) (held given : Option (List ℕ)) (before between after : M)
    (first : List Line) (printed : ArePrintedLines prints before between first) where
  -- lines that are printed after the first are printed with them
  with-first : (lines : List Line) → ArePrintedLines prints between after lines
      → ArePrintedLines prints before after (first ++ lines)
  with-first lines is = lines-then prints before between after first lines printed is

  -- after more of them
  with-both : (more lines : List Line) → ArePrintedLines prints between after (more ++ lines)
      → ArePrintedLines prints before after (first ++ more ++ lines)
  with-both more lines is = subst (λ l. ArePrintedLines prints before after l) (sym (append_assoc first more lines))
      (with-first (more ++ lines) is)

  -- so reports and certificates are printed after the first lines
  papers-after : (papers : Papers) (path : Option (List ℕ)) (puts : Putting) (more : List Line) (ending : Ending)
      → ArePrinted (after_lines more (streams (ArePrintedLines prints between after) held given)) papers path puts ending
      → ArePrinted (after_lines (first ++ more) (streams (ArePrintedLines prints before after) held given)) papers path
      puts ending
  papers-after papers path puts more Done is = (is.0, with-both more [] is.1)
  papers-after papers path puts more Refused is = is
  papers-after papers path puts more Words is = is
  papers-after papers path puts more File (inl is) = inl (is.0, with-both more _ is.1)
  papers-after papers path puts more File (inr is) = inr (is.0, with-both more _ is.1)

  -- and an answer that isn't an error
  pub answer-after : {F : Type 0} (lines : F → List Line) (answer : Result Papers F) (papers : Papers)
      (path : Option (List ℕ)) (puts : Putting) (ending : Ending) → answer ≡ Ok papers
      → ArePrinted (after_lines (unlisted_warning papers.unlisted) (streams (ArePrintedLines prints between after) held given))
      papers path puts ending
      → IsPrinted lines (streams (ArePrintedLines prints before after) held given) answer first path puts ending
  answer-after {F} lines answer papers path puts ending same is =
      subst (λ (a : Result Papers F). IsPrinted lines (streams (ArePrintedLines prints before after) held given) a first path
      puts ending) (sym same) (papers-after papers path puts (unlisted_warning papers.unlisted) ending is)

module _ {A : Type 0} (line : Fault → Line) (s : Streams) (files named arguments words : List (String A)) (ending : Ending)
    (same : files ≡ named) (same_words : arguments ≡ words) where
  -- what is printed of files is printed of the same files, under the same arguments
  pub told_of : (judged : Result (Judgement × Warnings) Fault)
      → IsTold line s judged (map string_bytes arguments) (map string_bytes files) ending
      → IsTold line s judged (map string_bytes words) (map string_bytes named) ending
  told_of judged is =
      subst (λ (fs : List (String A)). IsTold line s judged (map string_bytes words) (map string_bytes fs) ending) same
      (subst (λ (ws : List (String A)). IsTold line s judged (map string_bytes ws) (map string_bytes files) ending) same_words
      is)

  -- and what is shown of them is shown of the same files
  pub shown_of : (described : Result DescriptionText Fault)
      → IsTextShown line s described (map string_bytes arguments) (map string_bytes files) ending
      → IsTextShown line s described (map string_bytes words) (map string_bytes named) ending
  shown_of described is =
      subst (λ (fs : List (String A)). IsTextShown line s described (map string_bytes words) (map string_bytes fs) ending) same
      (subst (λ (ws : List (String A)). IsTextShown line s described (map string_bytes ws) (map string_bytes files) ending)
      same_words is)

  -- and what is printed of them, with the certificate in the file of the same path
  pub printed-as : (answer : Result Papers Fault) (warnings : Warnings) (path other : Option (List ℕ)) (puts : Putting)
      → path ≡ other
      → IsPrinted (input_lines line (map string_bytes arguments) (map string_bytes files)) s answer
      (warning_lines (map string_bytes files) warnings) path puts ending
      → IsPrinted (input_lines line (map string_bytes words) (map string_bytes named)) s answer
      (warning_lines (map string_bytes named) warnings) other puts ending
  printed-as answer warnings path other puts same_path is =
      subst (λ (fs : List (String A)). IsPrinted (input_lines line (map string_bytes words) (map string_bytes fs)) s answer
      (warning_lines (map string_bytes fs) warnings) other puts ending) same
      (subst (λ (ws : List (String A)). IsPrinted (input_lines line (map string_bytes ws) (map string_bytes files)) s answer
      (warning_lines (map string_bytes files) warnings) other puts ending) same_words
      (subst (λ (p : Option (List ℕ)). IsPrinted (input_lines line (map string_bytes arguments) (map string_bytes files)) s
      answer (warning_lines (map string_bytes files) warnings) p puts ending) same_path is))

-- an error that isn't of a daily line has no place
no-place : (paths : List (List ℕ)) (fault : Fault)
    → ((file line : ℕ) (why : DailyWhy) → fault ≡ DailyLine file line why → ⊥) → place_lines paths fault ≡ []
no-place paths (StationLine line why) absent = refl
no-place paths TooManyStations absent = refl
no-place paths (Memory m) absent = refl
no-place paths (DailyLine file line why) absent = absurd (absent file line why refl)
no-place paths TooManyFiles absent = refl
no-place paths QueryTooLong absent = refl
no-place paths (UnexpectedWord at) absent = refl
no-place paths QueryEnds absent = refl
no-place paths (OutOfLimits at) absent = refl
no-place paths (BadDate at) absent = refl
no-place paths (BadBox at) absent = refl
no-place paths EmptyPeriod absent = refl
no-place paths BadWorkers absent = refl
no-place paths BadGuess absent = refl

-- the place of an error, by whether the arguments are the paths
place-by : (arguments paths : List (List ℕ)) (fault : Fault) (are : Bool) → are ≡ pointwise bytes_eq paths arguments
    → unnumbered_place arguments paths fault ≡ (if are then [] else place_lines paths fault)
place-by arguments paths fault are same = ap (λ (b : Bool). if b then [] else place_lines paths fault) (sym same)

-- no place is printed if the arguments are the paths
pub numbered-place : (arguments paths : List (List ℕ)) (fault : Fault) (are : Bool)
    → are ≡ pointwise bytes_eq paths arguments → are ≡ true → unnumbered_place arguments paths fault ≡ []
numbered-place arguments paths fault are same is = place-by arguments paths fault are same
    ∙ ap (λ (b : Bool). if b then [] else place_lines paths fault) is

-- if they aren't, that of the error is
pub other-place : (arguments paths : List (List ℕ)) (fault : Fault) (are : Bool)
    → are ≡ pointwise bytes_eq paths arguments → are ≡ false
    → unnumbered_place arguments paths fault ≡ place_lines paths fault
other-place arguments paths fault are same is = place-by arguments paths fault are same
    ∙ ap (λ (b : Bool). if b then [] else place_lines paths fault) is

-- the text of a place, from its end
pub place-nested : (line : ℕ) (path : List ℕ)
    → place_text line path ≡ codes "at " ++ (shown_text path ++ (codes ":" ++ decimal line))
place-nested line path = append_assoc (codes "at " ++ shown_text path) (codes ":") (decimal line)
    ∙ append_assoc (codes "at ") (shown_text path) (codes ":" ++ decimal line)

module _ {M : Type 0} (prints : LinePrinting M) (before after : M) (arguments paths : List (List ℕ)) (fault : Fault)
    (are : Bool) (same : are ≡ pointwise bytes_eq paths arguments) where
  -- an error of a daily line is followed by its place
  pub place-printed : (file line : ℕ) (why : DailyWhy) → are ≡ false → fault ≡ DailyLine file line why
      → ArePrintedLines prints before after (line_naming (place_text line) (numbered_path paths file))
      → ArePrintedLines prints before after (unnumbered_place arguments paths fault)
  place-printed file line why isnt is printed = subst (λ l. ArePrintedLines prints before after l)
      (sym (other-place arguments paths fault are same isnt ∙ ap (place_lines paths) is)) printed

module _ {M : Type 0} (prints : LinePrinting M) (m : M) (arguments paths : List (List ℕ)) (fault : Fault)
    (are : Bool) (same : are ≡ pointwise bytes_eq paths arguments) where
  -- nothing is printed if the arguments are the paths
  pub place-numbered : are ≡ true → ArePrintedLines prints m m (unnumbered_place arguments paths fault)
  place-numbered is = line-none prints m _ (numbered-place arguments paths fault are same is)

  -- or if the error isn't of a daily line
  pub place-absent : are ≡ false → ((file line : ℕ) (why : DailyWhy) → fault ≡ DailyLine file line why → ⊥)
      → ArePrintedLines prints m m (unnumbered_place arguments paths fault)
  place-absent isnt absent = line-none prints m _
      (other-place arguments paths fault are same isnt ∙ no-place paths fault absent)

-- the number of a file is one more than its place
number-of : (file place : ℕ) (found : Option ℕ) → SomeIff found (1 ≤ file) (file - 1) → found ≡ Some place
    → file ≡ suc place
number-of file place found is some =
    let at : SomeIff (Some place) (1 ≤ file) (file - 1) =
    subst (λ (f : Option ℕ). SomeIff f (1 ≤ file) (file - 1)) some is in
    omega (arith, at.0, at.1)

-- a file without a place has number 0
unnumbered : (file : ℕ) (found : Option ℕ) → SomeIff found (1 ≤ file) (file - 1)
    → ((place : ℕ) → found ≡ Some place → ⊥) → file ≡ 0
unnumbered zero found is absent = refl
unnumbered (suc before) None is absent = absurd (is (omega arith))
unnumbered (suc before) (Some place) is absent = absurd (absent place refl)

-- there is no line on it
pub unnumbered-unprinted : {M A : Type 0} (prints : LinePrinting M) (m : M) (files : List (String A)) (file line : ℕ)
    (found : Option ℕ) → SomeIff found (1 ≤ file) (file - 1) → ((place : ℕ) → found ≡ Some place → ⊥)
    → ArePrintedLines prints m m (line_naming (place_text line) (numbered_path (map string_bytes files) file))
unnumbered-unprinted prints m files file line found is absent = line-none prints m _
    (ap (λ n. line_naming (place_text line) (numbered_path (map string_bytes files) n)) (unnumbered file found is absent))

module _ {M A : Type 0} (prints : LinePrinting M) (files : List (String A)) (found : Option (Bor (String A)))
    (file place line : ℕ) (before : Option ℕ) (counted : SomeIff before (1 ≤ file) (file - 1)) (was : before ≡ Some place)
    (at : IsItemAt files place found) where
  -- the line on a place, by what is found there
  numbered-found : line_naming (place_text line) (numbered_path (map string_bytes files) file)
      ≡ line_naming (place_text line) (option_map (λ path. string_bytes path.now) found)
  numbered-found = ap (λ n. line_naming (place_text line) (numbered_path (map string_bytes files) n))
      (number-of file place before counted was)
      ∙ ap (λ path. line_naming (place_text line) path) (paths-at files place found at)

  -- it is printed with the path that is found
  pub line-of-printed : (old new : M) (path : Bor (String A)) (named : List ℕ) → named ≡ string_bytes path.now
      → found ≡ Some path → prints old (Some (codes "at " ++ (shown_text named ++ (codes ":" ++ decimal line)))) new
      → ArePrintedLines prints old new (line_naming (place_text line) (numbered_path (map string_bytes files) file))
  line-of-printed old new path named same some printed = line-alone prints old new _ _
      (numbered-found ∙ ap (λ f. line_naming (place_text line) (option_map (λ path. string_bytes path.now) f)) some)
      (subst (λ t. prints old (Some t) new) (sym (place-nested line (string_bytes path.now)))
      (subst (λ (n : List ℕ). prints old (Some (codes "at " ++ (shown_text n ++ (codes ":" ++ decimal line)))) new) same
      printed))

  -- and isn't if no path is found
  pub line-of-unprinted : (m : M) → ((path : Bor (String A)) → found ≡ Some path → ⊥)
      → ArePrintedLines prints m m (line_naming (place_text line) (numbered_path (map string_bytes files) file))
  line-of-unprinted m absent = line-none prints m _
      (numbered-found ∙ ap (λ f. line_naming (place_text line) (option_map (λ path. string_bytes path.now) f))
      (none-found found absent))
