-- Files that are named by the arguments and the list of a command.
use Rattle.std.proofs.Common.{◌≡◌, ℕ, List, [], ◌∷◌, Option, option_map, map, Bor, Global, subst}
use Rattle.std.specs.Prelude.{IfErr, IfOk, Result, String, string_bytes}
use Rattle.command_line.specs.declared.asked.NamedFiles.{NamedFiles}
use Rattle.rank_input.specs.declared.fault.Fault.{Fault}
use Rattle.rank_input.specs.declared.named.NotNamed.{NotNamed}
use Rattle.rank_input.specs.Feeding.{Opening}
use Rattle.rank_input.specs.Named.{StandFor}
use Rattle.rank_input.specs.NamingStops.{StopsNaming}
use Rattle.extremes.specs.declared.ending.Ending.{Ending}
use Rattle.extremes.specs.Environments.{Folders}
use Rattle.extremes.specs.Merges.{Known}
use Rattle.extremes.specs.Messages.{Line, Streams, naming_line}
use Rattle.extremes.specs.NamedRuns.{EndsUnnamed, Paths, RunsOver, StandForNamed, StopsNamed, naming_ending}

module _ (bytes_of : Known) (opens : Opening) (names_of : Folders) (files : NamedFiles) (list : Option (Bor (List ℕ)))
    (words : List (String Global)) (same_list : option_map (λ l. l.now) list ≡ option_map string_bytes files.list)
    (same_words : words ≡ files.paths.items) where
  -- what stands for the arguments and the list stands for the files that are named
  pub stand-named : (result : Result Paths NotNamed)
      → IfOk result (λ (paths : Paths). StandFor bytes_of opens names_of files.null (option_map (λ l. l.now) list)
      (map string_bytes words) (map string_bytes paths.items))
      → IfOk result (StandForNamed bytes_of opens names_of files)
  stand-named result stand = subst (λ (ws : List (String Global)). IfOk result (λ (paths : Paths). StandFor bytes_of opens
      names_of files.null (option_map string_bytes files.list) (map string_bytes ws) (map string_bytes paths.items))) same_words
      (subst (λ (l : Option (List ℕ)). IfOk result (λ (paths : Paths). StandFor bytes_of opens names_of files.null l
      (map string_bytes words) (map string_bytes paths.items))) same_list stand)

  -- and naming that stops at them stops at these
  pub stops-named : (result : Result Paths NotNamed)
      → IfErr result (StopsNaming bytes_of opens names_of files.null (option_map (λ l. l.now) list) (map string_bytes words))
      → IfErr result (StopsNamed bytes_of opens names_of files)
  stops-named result stops = subst (λ (ws : List (String Global)). IfErr result (StopsNaming bytes_of opens names_of
      files.null (option_map string_bytes files.list) (map string_bytes ws))) same_words
      (subst (λ (l : Option (List ℕ)). IfErr result (StopsNaming bytes_of opens names_of files.null l
      (map string_bytes words))) same_list stops)

module _ (bytes_of : Known) (opens : Opening) (names_of : Folders) (files : NamedFiles) (ending : Ending) where
  -- a run whose naming stops ends so
  pub ends-unnamed : (line : Fault → Line) (s : Streams) (why : NotNamed) → StopsNamed bytes_of opens names_of files why
      → ending ≡ naming_ending why → s.after ≡ s.before → s.says (naming_line line why ∷ [])
      → EndsUnnamed bytes_of opens names_of line s files ending
  ends-unnamed line s why stops ends unprinted said = record {
    why = why;
    stops = stops;
    ends = ends;
    unprinted = unprinted;
    said = said;
  }

  -- and one whose files are named runs over them
  pub runs-over : (runs : Paths → Ending → Type 0) (paths : Paths) → StandForNamed bytes_of opens names_of files paths
      → runs paths ending → RunsOver bytes_of opens names_of files runs ending
  runs-over runs paths stand ran = record { paths = paths; stand = stand; ran = ran }
