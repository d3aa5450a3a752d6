use Rattle.std.proofs.Common.{codes, refl, inl, inr}
use Rattle.std.specs.Prelude.{Ok}
use Rattle.command_line.specs.declared.asked.Command.TheVariants.{Table}
use Rattle.command_line.specs.CommandLine.{IsTabling}
use Rattle.command_line.proofs.Subcommands.{not-found, one-named, found-by, command-read, fits-together}
use Rattle.command_line.proofs.words.command_of.Goals as goal

-- one of the five was met
pub unreachable-requires : goal.unreachable-requires
unreachable-requires c =
    one-named _ c.requires
    (not-found _ c.subcommand_matches.ensures.found c.in_default.is)
    (not-found _ c.subcommand_matches-2.ensures.found c.in_default-subcommand_matches.is)
    (not-found _ c.subcommand_matches-3.ensures.found c.in_default-subcommand_matches-2.is)
    (not-found _ c.subcommand_matches-4.ensures.found c.in_default-subcommand_matches-3.is)
    (not-found _ c.subcommand_matches-5.ensures.found c.in_default-subcommand_matches-4.is)

-- what is read after `rank` is its command, and what fits together is refused for memory alone
pub returns-in-Some : goal.returns-in-Some
returns-in-Some c =
    let met = found-by _ (codes "rank") _ _ _ c.subcommand_matches.ensures.found c.in-Some.is
    c.in-Some.ensures.rows in
    record {
      ok = command-read _ _ _ met _ (λ command is. inl (refl, is)) _ c.rank_of.ensures.ok;
      together = λ fit. c.rank_of.ensures.fit ((fits-together _ _ _ met fit).rank refl);
      asked = c.rank_of.ensures.asked;
    }

-- what is read after `merge` is its command, and what fits together is refused for memory alone
pub returns-in-Some-subcommand_matches : goal.returns-in-Some-subcommand_matches
returns-in-Some-subcommand_matches c =
    let met = found-by _ (codes "merge") _ _ _ c.subcommand_matches-2.ensures.found c.in-Some-subcommand_matches.is
    c.in-Some-subcommand_matches.ensures.rows in
    record {
      ok = command-read _ _ _ met _ (λ command is. inr (inl (refl, is))) _ c.merge_of.ensures.ok;
      together = λ fit. c.merge_of.ensures.paired ((fits-together _ _ _ met fit).merge refl);
      asked = c.merge_of.ensures.asked;
    }

-- what is read after `check` is its command, and what fits together is refused for memory alone
pub returns-in-Some-subcommand_matches-2 : goal.returns-in-Some-subcommand_matches-2
returns-in-Some-subcommand_matches-2 c =
    let met = found-by _ (codes "check") _ _ _ c.subcommand_matches-3.ensures.found c.in-Some-subcommand_matches-2.is
    c.in-Some-subcommand_matches-2.ensures.rows in
    record {
      ok = command-read _ _ _ met _ (λ command is. inr (inr (inl (refl, is)))) _ c.check_of.ensures.ok;
      together = λ fit. c.check_of.ensures.fit ((fits-together _ _ _ met fit).check refl);
      asked = c.check_of.ensures.asked;
    }

-- what is read after `describe` is its command, and what fits together is refused for memory alone
pub returns-in-Some-subcommand_matches-3 : goal.returns-in-Some-subcommand_matches-3
returns-in-Some-subcommand_matches-3 c =
    let met = found-by _ (codes "describe") _ _ _ c.subcommand_matches-4.ensures.found c.in-Some-subcommand_matches-3.is
    c.in-Some-subcommand_matches-3.ensures.rows in
    record {
      ok = command-read _ _ _ met _ (λ command is. inr (inr (inr (inl (refl, is))))) _ c.describe_of.ensures.ok;
      together = λ fit. c.describe_of.ensures.listed ((fits-together _ _ _ met fit).describe refl);
      asked = c.describe_of.ensures.asked;
    }

-- what is read after `table` is its command
pub returns-clause-ok : goal.returns-clause-ok
returns-clause-ok c =
    let met = found-by _ (codes "table") _ _ _ c.subcommand_matches-5.ensures.found c.in-Some-subcommand_matches-4.is
    c.in-Some-subcommand_matches-4.ensures.rows in
    command-read _ _ _ met (IsTabling _) (λ command is. inr (inr (inr (inr (refl, is)))))
    (Ok (Table c.in_ok-table_of.field-0)) c.in_ok-table_of.ensures
