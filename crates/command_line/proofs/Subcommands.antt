-- What `clap` is given, and the subcommand that it meets.
use Rattle.std.proofs.Common.{◌≡◌, ◌∙◌, ◌↔◌, List, map, true, false, Option, Some, None, IsSome, IfSome, IsSomeAnd}
use Rattle.std.proofs.Common.{Bor, codes, inl, inr, refl, ap, ap₂, sym, subst}
use Rattle.std.specs.Prelude.{Box, Result, IfOk}
use Rattle.std.specs.Option.{option_map, unwrap_or}
use Rattle.std.specs.Box.{box_value}
use Rattle.std.proofs.lemmas.Result.{IfOk-weaker}
use Rattle.clap.specs.Words.{App, Row, Text, is_simple, is_simple_and_free, fault_of, subcommand_of, subcommand_rows}
use Rattle.clap.specs.declared.parser.matches.SubCommand.{SubCommand}
use Rattle.clap.specs.declared.parser.matches.ArgMatches.TheViews.{out-SubCommand}
use Rattle.clap.proofs.OnLiterals.{clap_on_literals}
use Rattle.command_line.specs.declared.asked.Command.{Command}
use Rattle.command_line.specs.declared.asked.CommandFault.{CommandFault}
use Rattle.command_line.specs.CommandLine.{extremes_app, IsName, IsCommand}
use Rattle.command_line.specs.Fitting.{FitTogether}

-- ---- what `clap` is given

-- the program's command line is simple
is_simple_app : is_simple extremes_app ≡ true
unfolding clap_on_literals
is_simple_app = refl

-- and no argument of it has a rule on another
is_free_app : is_simple_and_free extremes_app ≡ true
unfolding clap_on_literals
is_free_app = refl

-- what holds if `clap` is given the program's command line and these arguments
pub record AreGiven (app : App) (given words : List Text) : Type 0 where
  pub simple : is_simple app ≡ true
  pub free : is_simple_and_free app ≡ true
  pub needs : app.top.subcommand_required ≡ true
  pub faults : fault_of app given ≡ fault_of extremes_app words
  pub subcommand : subcommand_of app given ≡ subcommand_of extremes_app words

-- it is given them as texts that are lent
pub are-given : (app : App) (lent all : List (Bor Text)) (words : List Text) → app ≡ extremes_app → lent ≡ all
    → map (λ s. s.now) all ≡ words → AreGiven app (map (λ s. s.now) lent) words
are-given app lent all words is same are =
    let texts = ap (map (λ (s : Bor Text). s.now)) same ∙ are in record {
      simple = ap is_simple is ∙ is_simple_app;
      free = ap is_simple_and_free is ∙ is_free_app;
      needs = ap (λ (a : App). a.top.subcommand_required) is;
      faults = ap₂ fault_of is texts;
      subcommand = ap₂ subcommand_of is texts;
    }

-- ---- the subcommand that it meets

-- what isn't found isn't there
pub not-found : {X A : Type 0} (o : Option X) → (IsSome o ↔ A) → o ≡ None → A → ⊥
not-found o found none there =
    let bad : false ≡ true = subst (λ q. IsSome q) none (found.1 there) in cc

module _ {Z : Type 0} (o : Option (Box SubCommand Z)) where
  -- it is the name of the subcommand
  abbrev HasName : Text → Type 0
  HasName name = option_map (λ b. (out-SubCommand (box_value b)).name.now) o ≡ Some name

  module _ (rank : HasName (codes "rank") → ⊥) (merge : HasName (codes "merge") → ⊥)
      (check : HasName (codes "check") → ⊥) (describe : HasName (codes "describe") → ⊥)
      (table : HasName (codes "table") → ⊥) where
    -- it has no name of a subcommand if it has none of the five
    none-named : (name : Text) → IsName name → HasName name → ⊥
    none-named name (inl is) has = rank (has ∙ ap (λ (t : Text). Some t) is)
    none-named name (inr (inl is)) has = merge (has ∙ ap (λ (t : Text). Some t) is)
    none-named name (inr (inr (inl is))) has = check (has ∙ ap (λ (t : Text). Some t) is)
    none-named name (inr (inr (inr (inl is)))) has = describe (has ∙ ap (λ (t : Text). Some t) is)
    none-named name (inr (inr (inr (inr is)))) has = table (has ∙ ap (λ (t : Text). Some t) is)

-- one that was met has one of them
pub one-named : {Z : Type 0} (o : Option (Box SubCommand Z)) → IsSomeAnd (subcommand_rows o) (λ met. IsName met.0)
    → (HasName o (codes "rank") → ⊥) → (HasName o (codes "merge") → ⊥) → (HasName o (codes "check") → ⊥)
    → (HasName o (codes "describe") → ⊥) → (HasName o (codes "table") → ⊥) → ⊥
one-named None met rank merge check describe table = absurd met
one-named (Some s) met rank merge check describe table = none-named (Some s) rank merge check describe table _ met refl

-- one that has a name was met by it, with the rows after it
met-by : {Z : Type 0} (o : Option (Box SubCommand Z)) (name : Text) (rows : List Row) → HasName o name
    → option_map (λ met. met.1) (subcommand_rows o) ≡ Some rows → subcommand_rows o ≡ Some (name, rows)
met-by None name rows has after = absurd cc
met-by (Some s) name rows has after = ap₂ (λ (t : Text) (rs : List Row). Some (t, rs))
    (ap (λ (q : Option Text). unwrap_or q name) has) (ap (λ (q : Option (List Row)). unwrap_or q rows) after)

-- so was one that is found by it
pub found-by : {Z X : Type 0} (o : Option (Box SubCommand Z)) (name : Text) (rows : List Row) (r : Option X) (x : X)
    → (IsSome r ↔ HasName o name) → r ≡ Some x → option_map (λ met. met.1) (subcommand_rows o) ≡ Some rows
    → subcommand_rows o ≡ Some (name, rows)
found-by o name rows r x found is after =
    met-by o name rows (found.0 (subst (λ q. IsSome q) (sym is) refl)) after

module _ (o : Option (Text × List Row)) (name : Text) (rows : List Row) (is : o ≡ Some (name, rows)) where
  -- what is read of the rows of what was met is its command
  pub command-read : (Is : Command → Type 0) → ((c : Command) → Is c → IsCommand name rows c)
      → (result : Result Command CommandFault) → IfOk result Is
      → IfOk result (λ c. IfSome o (λ met. IsCommand met.0 met.1 c))
  command-read Is named result = IfOk-weaker result _ _ (λ c read.
      subst (λ q. IfSome q (λ (met : Text × List Row). IsCommand met.0 met.1 c)) (sym is) (named c read))

  -- these rows fit together if those of what was met do
  pub fits-together : IfSome o (λ met. FitTogether met.0 met.1) → FitTogether name rows
  fits-together fit = subst (λ q. IfSome q (λ (met : Text × List Row). FitTogether met.0 met.1)) is fit
