-- What is read of a parse, by the words of its meaning.
use Rattle.std.proofs.Common.{◌≡◌, Bool, true, false, List, ◌∷◌, Option, Some, None, IsSomeAnd, unwrap_or, option_map}
use Rattle.std.proofs.Common.{is_some, IsSome, true≢false, codes, refl, sym, ap, subst, arith, length, ◌%◌, map, get_or, ◌∙◌, ◌⊎◌, ◌↔◌, inl, inr, ◌||◌}
use Rattle.std.specs.Prelude.{Box, if◌then◌else◌, ℤ, ℕ, [], Result, Ok, Err}
use Rattle.std.specs.Option.{option_eq}
use Rattle.std.specs.Str.{bytes_eq}
use Rattle.std.proofs.lemmas.List.{length-map}
use Rattle.std.proofs.lemmas.Option.{none-some}
use Rattle.std.proofs.lemmas.Slice.Eq.{bytes_eq-Decides}
use denote.Ref.{Bor}
use Rattle.std.specs.Int.{w64}
use Rattle.std.specs.Str.Parse.{ParsesSigned, ParsesUnsigned, ParsesBool}
use Rattle.clap.specs.declared.builder.ValueParser.{ValueParser}
use Rattle.clap.specs.Words.{Row, Rule, Text, Shape, Kinds, IsAmong, ReadsOne, subcommand_of, subcommand_rows}
use Rattle.clap.specs.declared.error.ErrorKind.{ErrorKind}
use Rattle.clap.specs.declared.error.ErrorKind.TheVariants.{OutOfMemory, DisplayVersion}
use Rattle.command_line.specs.declared.asked.CommandFault.{CommandFault}
use Rattle.command_line.specs.declared.asked.CommandFault.TheVariants as fault
use Rattle.command_line.specs.CommandLine.{TellsVersion, OnVersion, extremes_app, IsGuess, IsCount, IsFlag, IsName}
use Rattle.clap.specs.Walk.{answers_to, stop_after}
use Rattle.clap.specs.Simple.{argument_words, built, entered, names_of, rows_at}
use Rattle.clap.specs.declared.parser.matches.SubCommand.{SubCommand}
use Rattle.command_line.specs.Fitting.{papers_to_merge, AreInPairs}

-- what is some value is it
pub some_is : {X : Type 0} (o : Option X) (v : X) → IsSomeAnd o (λ r. r ≡ v) → o ≡ Some v
some_is None v h = absurd h
some_is {X} (Some x) v h = ap (λ (r : X). Some r) h

module _ {X Y : Type 0} (f : X → Y) where
  -- a value or another, read by f
  mapped_or : (o : Option X) (d : X) → f (unwrap_or o d) ≡ unwrap_or (option_map f o) (f d)
  mapped_or None d = refl
  mapped_or (Some x) d = refl

  -- the same, if the value is known by what f reads
  pub read_or : (o : Option X) (given d : X) (v : Option Y) (e : Y) → given ≡ unwrap_or o d
      → option_map f o ≡ v → f d ≡ e → f given ≡ unwrap_or v e
  read_or o given d v e g h k = ap f g ∙ mapped_or o d ∙ ap (λ q. unwrap_or q (f d)) h ∙ ap (λ y. unwrap_or v y) k

-- a rule whose value is read so
abbrev pub parsed_by : Option ValueParser → Rule → Rule
parsed_by p r = record r { parser = p }

-- one or the other
abbrev pub either : Bool → Bool → Bool
either a b = a || b

-- if no kind of error may come, an error is out of memory
pub only_memory : (k : ErrorKind) (kinds : Kinds) → kinds ≡ [] → (k ≡ OutOfMemory) ⊎ IsAmong k kinds → k ≡ OutOfMemory
only_memory k [] none (inl memory) = memory
only_memory k [] none (inr among) = absurd among
only_memory k (x ∷ xs) none has = absurd cc

-- if only the version is to be reported, an error reports it, or memory ran out
pub only_version : (k : ErrorKind) (kinds : Kinds) (f : CommandFault) → kinds ≡ DisplayVersion ∷ []
    → (k ≡ OutOfMemory) ⊎ IsAmong k kinds → (k ≡ OutOfMemory → f ≡ fault.Memory)
    → (k ≡ DisplayVersion → TellsVersion f) → TellsVersion f
only_version k kinds f alone (inl memory) refuses tells = subst TellsVersion (sym (refuses memory)) tt
only_version k kinds f alone (inr among) refuses tells = elim (subst (λ ks. IsAmong k ks) alone among) [
  | inl is ↦ tells is
  | inr none ↦ absurd none
]

-- if the version is reported, it is among what may be reported
pub version_among : (k : ErrorKind) (kinds : Kinds) (f : CommandFault) → OnVersion (k ≡ DisplayVersion) f
    → (k ≡ OutOfMemory) ⊎ IsAmong k kinds → OnVersion (IsAmong DisplayVersion kinds) f
version_among k kinds (fault.Words text) told has = tt
version_among k kinds (fault.Version text) told (inl memory) = absurd cc
version_among k kinds (fault.Version text) told (inr among) = subst (λ x. IsAmong x kinds) told among
version_among k kinds fault.Memory told has = tt

-- if the version is never reported, anything is true if it is
pub never_told : (P : Type 0) (f : CommandFault) → OnVersion ⊥ f → OnVersion P f
never_told P (fault.Words text) none = tt
never_told P (fault.Version text) none = absurd none
never_told P fault.Memory none = tt

-- if no kind of error may come, the version isn't asked for
pub not_asked : (kinds : Kinds) → kinds ≡ [] → kinds ≡ DisplayVersion ∷ [] → ⊥
not_asked [] none asks = cc
not_asked (k ∷ ks) none asks = cc

-- the name of what was met, if that is known
met_is : (name : Text) (rows : List Row) (r : Text × List Row) → Some (name, rows) ≡ Some r → r.0 ≡ name
met_is name rows r e = ap (λ (q : Option (Text × List Row)). (unwrap_or q r).0) (sym e)

-- of five subcommands only their names can be met
one_of_five : (s t u v w : Shape) (p : Text × List Text) (r : Text × List Row) (first second third fourth fifth : Bool)
    → option_map (λ (x : Shape). rows_at x p.1) (if first then Some s else (if second then Some t
    else (if third then Some u else (if fourth then Some v else (if fifth then Some w else None))))) ≡ Some r
    → (r.0 ≡ s.name) ⊎ ((r.0 ≡ t.name) ⊎ ((r.0 ≡ u.name) ⊎ ((r.0 ≡ v.name) ⊎ (r.0 ≡ w.name))))
one_of_five s t u v w p r true second third fourth fifth e = inl (met_is _ _ r e)
one_of_five s t u v w p r false true third fourth fifth e = inr (inl (met_is _ _ r e))
one_of_five s t u v w p r false false true fourth fifth e = inr (inr (inl (met_is _ _ r e)))
one_of_five s t u v w p r false false false true fifth e = inr (inr (inr (inl (met_is _ _ r e))))
one_of_five s t u v w p r false false false false true e = inr (inr (inr (inr (met_is _ _ r e))))
one_of_five s t u v w p r false false false false false e = absurd cc

-- a subcommand that the program's arguments name is one of these
met_name : (stop : Option (Text × List Text)) (r : Text × List Row) → entered (built extremes_app) stop ≡ Some r
    → IsName r.0
met_name None r e = absurd cc
met_name (Some p) r e = one_of_five _ _ _ _ _ p r (answers_to p.0 (codes "rank", []))
    (answers_to p.0 (codes "merge", [])) (answers_to p.0 (codes "check", [])) (answers_to p.0 (codes "describe", []))
    (answers_to p.0 (codes "table", [])) e

-- so is one that is met anywhere in them
pub only_name : (words : List Text) (r : Text × List Row) → subcommand_of extremes_app words ≡ Some r → IsName r.0
only_name words r e =
    met_name (stop_after (built extremes_app).top.rules (names_of (built extremes_app))
    (argument_words extremes_app words)) r e

-- if one was met, and none but some names can be, it has one of them
pub met_one : {Z : Type 0} (P : Text → Type 0) (o : Option (Box SubCommand Z)) (t : Option (Text × List Row))
    → is_some o ≡ true → subcommand_rows o ≡ t → ((r : Text × List Row) → t ≡ Some r → P r.0)
    → IsSomeAnd (subcommand_rows o) (λ r. P r.0)
met_one P None t some e only = absurd cc
met_one P (Some s) t some e only = only _ (sym e)

-- and it has rows
pub met_some : {Z : Type 0} (o : Option (Box SubCommand Z)) → is_some o ≡ true → IsSome (subcommand_rows o)
met_some None some = absurd cc
met_some (Some s) some = refl

-- equal texts begin alike
first_code : (a : ℕ) (more bs : List ℕ) → a ∷ more ≡ bs → a ≡ get_or bs 0 a
first_code a more bs e = ap (λ (t : List ℕ). get_or t 0 a) e

-- of two that are read as one the second is there if the first is
pub mapped_some : {X Y Z : Type 0} (f : X → Z) (g : Y → Z) (a : Option X) (b : Option Y) → option_map f a ≡ option_map g b
    → IsSome a → IsSome b
mapped_some f g a (Some y) e some = refl
mapped_some f g (Some x) None e some = absurd cc
mapped_some f g None None e some = some

module _ {X Z : Type 0} (f : X → Z) where
  -- what is read of a value is there if and only if that is
  pub is_some-read : (o : Option X) (t : Option Z) → option_map f o ≡ t → is_some o ≡ is_some t
  is_some-read (Some x) t e = ap (λ q. is_some q) e
  is_some-read None t e = ap (λ q. is_some q) e

-- a text that may be lent is this one if and only if their bytes are equal
pub is_text : (o : Option (Bor Text)) (l : Bor Text) (t : Option Text) (b : Bool)
    → b ≡ option_eq (λ x y. bytes_eq x.now y.now) o (Some l) → option_map (λ s. s.now) o ≡ t
    → (b ≡ true) ↔ (t ≡ Some l.now)
is_text None l t b is same = (
  λ yes. absurd (true≢false (sym yes ∙ is)),
  λ e. absurd (none-some l.now (same ∙ e)),
)
is_text (Some x) l t b is same = let decides = bytes_eq-Decides x.now l.now in (
  λ yes. sym same ∙ ap (λ (y : Text). Some y) (decides.0 (sym is ∙ yes)),
  λ e. is ∙ decides.1 (ap (λ (q : Option Text). unwrap_or q x.now) (same ∙ e)),
)

-- a value that is read of another is there if that is
pub some_read : {X Z : Type 0} (f : X → Z) (a : Option X) (b : Option Z) → option_map f a ≡ b → IsSome a → IsSome b
some_read f (Some x) b e some = subst (λ o. IsSome o) e refl
some_read f None b e some = absurd cc

-- and it is there only if that is
pub read_some : {X Z : Type 0} (f : X → Z) (a : Option X) (b : Option Z) → option_map f a ≡ b → IsSome b → IsSome a
read_some f (Some x) b e some = refl
read_some f None b e some = subst (λ o. IsSome o) (sym e) some

-- reports and certificates that are lent come in pairs if those of the rows do
pub lent-pairs : (papers : List (Bor Text)) (rows : List Row) → map (λ s. s.now) papers ≡ papers_to_merge rows
    → AreInPairs rows → length papers % 2 ≡ 0
lent-pairs papers rows same pairs =
    ap (λ (n : ℕ). n % 2) (sym (length-map papers (λ (s : Bor Text). s.now)) ∙ ap (λ (ts : List Text). length ts) same)
    ∙ pairs

-- what is read of the text of a guess is the number that it writes
pub guess_read : {E : Type 0} (gives : List ℕ → Result ℤ E → Type 0)
    → ((bs : List ℕ) (r : Result ℤ E) → gives bs r → ParsesSigned w64 10 bs r) → (text : Option Text) (guess : Option ℤ)
    → (text ≡ None → guess ≡ None) → ((t : Text) → text ≡ Some t → ReadsOne gives t guess) → IsGuess text guess
guess_read gives parses None guess none value = none refl
guess_read gives parses (Some t) None none value = let r = value t refl in parses t (Err r.0) r.1
guess_read gives parses (Some t) (Some n) none value = let r = parses t (Ok n) (value t refl) in (r.0.0, r.1)

-- and so is what is read of the text of a count
pub count_read : {E : Type 0} (gives : List ℕ → Result ℕ E → Type 0)
    → ((bs : List ℕ) (r : Result ℕ E) → gives bs r → ParsesUnsigned 64 10 bs r)
    → (text : Option Text) (count : Option ℕ)
    → (text ≡ None → count ≡ None) → ((t : Text) → text ≡ Some t → ReadsOne gives t count) → IsCount text count
count_read gives parses None count none value = none refl
count_read gives parses (Some t) None none value = let r = value t refl in parses t (Err r.0) r.1
count_read gives parses (Some t) (Some n) none value = let r = parses t (Ok n) (value t refl) in (r.0.0, r.1)

-- what is read of the text of a flag is whether it is `true`
pub flag_read : (E : Type 0) (text : Option Text) (read : Option Bool) (on : Bool) → on ≡ unwrap_or read false
    → (text ≡ None → read ≡ None) → ((t : Text) → text ≡ Some t → ReadsOne {E = E} ParsesBool t read) → IsFlag text on
flag_read E None read on is none value = (
  λ yes. absurd (true≢false (sym yes ∙ is ∙ ap (λ r. unwrap_or r false) (none refl))),
  λ e. absurd cc,
)
flag_read E (Some t) (Some true) on is none value = (λ yes. ap (λ (x : Text). Some x) (value t refl), λ e. is)
flag_read E (Some t) (Some false) on is none value = (
  λ yes. absurd (true≢false (sym yes ∙ is)),
  λ e. let bad : 102 ≡ 116 = first_code _ _ _ (sym (value t refl) ∙ ap (λ (o : Option Text). unwrap_or o t) e) in
      absurd (omega (arith, bad)),
)
flag_read E (Some t) None on is none value = (
  λ yes. absurd (true≢false (sym yes ∙ is)),
  λ e. absurd ((value t refl).1.0 (ap (λ (o : Option Text). unwrap_or o t) e)),
)
