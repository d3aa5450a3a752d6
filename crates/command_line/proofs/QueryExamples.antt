-- The meaning of arguments with a list of queries, written out.
use Rattle.std.proofs.Common.{◌≡◌, List, [], ◌∷◌, Some, None, option_map, codes, refl, true, false, IfSome, inl, inr}
use Rattle.std.proofs.Common.{Option, ap, unwrap_or}
use Rattle.clap.specs.Words.{Text, fault_of, subcommand_of, first_of, one_of, all_of}
use Rattle.clap.specs.declared.error.ErrorKind.TheVariants.{MissingRequiredArgument}
use Rattle.clap.proofs.OnLiterals.{clap_on_literals}
use Rattle.command_line.specs.CommandLine.{extremes_app}
use Rattle.command_line.specs.Fitting.{FitTogether}
use Rattle.command_line.proofs.Fitting.{other_text}

-- a command line to rank a list of queries, with a folder, and daily files of which a list is standard input
abbrev each : List Text
each = codes "extremes" ∷ codes "rank" ∷ codes "--stations=s" ∷ codes "--queries" ∷ codes "q" ∷ codes "--papers=p"
    ∷ codes "a" ∷ codes "--files-from=-" ∷ []

-- `clap` has no error to report
each_read : fault_of extremes_app each ≡ []
unfolding clap_on_literals
each_read = refl

-- its list of queries is q
each_queries : option_map (λ p. first_of (codes "queries") p.1) (subcommand_of extremes_app each)
    ≡ Some (Some (codes "q"))
unfolding clap_on_literals
each_queries = refl

-- its folder is p
each_papers : option_map (λ p. first_of (codes "papers") p.1) (subcommand_of extremes_app each)
    ≡ Some (Some (codes "p"))
unfolding clap_on_literals
each_papers = refl

-- it has no query of its own
each_query : option_map (λ p. first_of (codes "query") p.1) (subcommand_of extremes_app each) ≡ Some None
unfolding clap_on_literals
each_query = refl

-- its file is a
each_files : option_map (λ p. all_of (codes "files") p.1) (subcommand_of extremes_app each)
    ≡ Some (Some (codes "a" ∷ []))
unfolding clap_on_literals
each_files = refl

-- what it is given fits together
each_fits : IfSome (subcommand_of extremes_app each) (λ met. FitTogether met.0 met.1)
unfolding clap_on_literals
each_fits = record {
  rank = λ same. record {
    queries = inr (record {
      queries = refl;
      alone = record { query = refl; guess = refl; certificate = refl };
      input = λ both. other_text (codes "q") (codes "-") refl (ap (λ (o : Option Text). unwrap_or o []) both.0);
    });
    listed = λ null. refl;
  };
  merge = λ same. absurd (other_text (codes "rank") (codes "merge") refl same);
  check = λ same. absurd (other_text (codes "rank") (codes "check") refl same);
  describe = λ same. absurd (other_text (codes "rank") (codes "describe") refl same);
}

-- a command line to rank that has neither a query nor a list of queries
abbrev neither : List Text
neither = codes "extremes" ∷ codes "rank" ∷ codes "--stations=s" ∷ codes "a" ∷ []

-- `clap` has no error to report
neither_read : fault_of extremes_app neither ≡ []
unfolding clap_on_literals
neither_read = refl

-- but what it is given doesn't fit together
neither_misfit : IfSome (subcommand_of extremes_app neither) (λ met. FitTogether met.0 met.1) → ⊥
unfolding clap_on_literals
neither_misfit fit = elim (fit.rank refl).queries [
  | inl one ↦ let bad : false ≡ true = one.query in cc
  | inr several ↦ let bad : false ≡ true = several.queries in cc
]

-- a command line to rank that has both
abbrev both : List Text
both = codes "extremes" ∷ codes "rank" ∷ codes "--stations=s" ∷ codes "--query=q" ∷ codes "--queries=l" ∷ []

-- it doesn't fit together either
both_misfit : IfSome (subcommand_of extremes_app both) (λ met. FitTogether met.0 met.1) → ⊥
unfolding clap_on_literals
both_misfit fit = elim (fit.rank refl).queries [
  | inl one ↦ let bad : true ≡ false = one.queries in cc
  | inr several ↦ let bad : true ≡ false = several.alone.query in cc
]

-- a command line whose list of queries and list of daily files are both standard input
abbrev inputs : List Text
inputs = codes "extremes" ∷ codes "rank" ∷ codes "--stations=s" ∷ codes "--queries=-" ∷ codes "--files-from=-" ∷ []

-- nor does that
inputs_misfit : IfSome (subcommand_of extremes_app inputs) (λ met. FitTogether met.0 met.1) → ⊥
unfolding clap_on_literals
inputs_misfit fit = elim (fit.rank refl).queries [
  | inl one ↦ let bad : false ≡ true = one.query in cc
  | inr several ↦ several.input (refl, refl)
]

-- without the stations an argument is lacking
each_without : fault_of extremes_app (codes "extremes" ∷ codes "rank" ∷ codes "--queries=q" ∷ [])
    ≡ MissingRequiredArgument ∷ []
unfolding clap_on_literals
each_without = refl

-- a command line to check the report and the certificate of each query of a list, by a part of the archive
abbrev check_each : List Text
check_each = codes "extremes" ∷ codes "check" ∷ codes "--stations=s" ∷ codes "--queries=-" ∷ codes "--papers=p"
    ∷ codes "--part" ∷ codes "--files-from=l" ∷ []

-- `clap` has no error to report
check_each_read : fault_of extremes_app check_each ≡ []
unfolding clap_on_literals
check_each_read = refl

-- its list of queries is -
check_each_queries : option_map (λ p. first_of (codes "queries") p.1) (subcommand_of extremes_app check_each)
    ≡ Some (Some (codes "-"))
unfolding clap_on_literals
check_each_queries = refl

-- its folder is p
check_each_papers : option_map (λ p. first_of (codes "papers") p.1) (subcommand_of extremes_app check_each)
    ≡ Some (Some (codes "p"))
unfolding clap_on_literals
check_each_papers = refl

-- its files are a part
check_each_part : option_map (λ p. one_of (codes "part") p.1) (subcommand_of extremes_app check_each)
    ≡ Some (Some (codes "true"))
unfolding clap_on_literals
check_each_part = refl

-- what it is given fits together
check_each_fits : IfSome (subcommand_of extremes_app check_each) (λ met. FitTogether met.0 met.1)
unfolding clap_on_literals
check_each_fits = record {
  rank = λ same. absurd (other_text (codes "check") (codes "rank") refl same);
  merge = λ same. absurd (other_text (codes "check") (codes "merge") refl same);
  check = λ same. record {
    queries = inr (record {
      queries = refl;
      papers = refl;
      alone = record { query = refl; report = refl; certificate = refl };
      input = λ both. other_text (codes "l") (codes "-") refl (ap (λ (o : Option Text). unwrap_or o []) both.1);
    });
    listed = λ null. refl;
  };
  describe = λ same. absurd (other_text (codes "check") (codes "describe") refl same);
}

-- a command line to check a report without a certificate
abbrev uncertified : List Text
uncertified = codes "extremes" ∷ codes "check" ∷ codes "--query=q" ∷ codes "--stations=s" ∷ codes "--report=r" ∷ []

-- `clap` has no error to report
uncertified_read : fault_of extremes_app uncertified ≡ []
unfolding clap_on_literals
uncertified_read = refl

-- but what it is given doesn't fit together
uncertified_misfit : IfSome (subcommand_of extremes_app uncertified) (λ met. FitTogether met.0 met.1) → ⊥
unfolding clap_on_literals
uncertified_misfit fit = elim (fit.check refl).queries [
  | inl one ↦ let bad : false ≡ true = one.whole.certificate in cc
  | inr several ↦ let bad : false ≡ true = several.queries in cc
]
