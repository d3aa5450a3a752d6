-- What is known of a run.
use Rattle.std.specs.Prelude.{ℕ, List}
use Rattle.rank_input.specs.declared.fault.Fault.{Fault}
use Rattle.rank_input.specs.Feeding.{Opening}
use Rattle.rank_input.specs.Named as named
use Rattle.extremes.specs.declared.merge.MergingFault.{MergingFault}
use Rattle.extremes.specs.Merges.{Known}
use Rattle.extremes.specs.Messages.{Line, Streams}
use Rattle.extremes.specs.PapersFolder.{Finding}
use Rattle.extremes.specs.Targets.{Holding, Putting, Sharing, Storing}

-- what is known of the folders of paths: the names in them
abbrev pub Folders : Type 0
Folders = List ℕ → named.Known

-- what is known of a run: the bytes of files, whether they can be opened, and the names in folders; what the
-- certificate's file may be found to share and to hold, and what is put into it; which new files may be found to be
-- there, and what is put into these; the lines of errors; and what was printed
pub record Environment : Type 1 where
  pub bytes_of : Known
  pub opens : Opening
  pub names_of : Folders
  pub shares : List ℕ → Sharing
  pub holds : List ℕ → Holding
  pub puts : Putting
  pub there : Finding
  pub stores : Storing
  pub line : Fault → Line
  pub merging_line : MergingFault → Line
  pub streams : Streams

-- an environment of these
abbrev pub environment : Known → Opening → Folders → (List ℕ → Sharing) → (List ℕ → Holding) → Putting
    → Finding → Storing → (Fault → Line) → (MergingFault → Line) → Streams → Environment
environment bytes_of opens names_of shares holds puts there stores line merging_line streams = record {
  bytes_of = bytes_of;
  opens = opens;
  names_of = names_of;
  shares = shares;
  holds = holds;
  puts = puts;
  there = there;
  stores = stores;
  line = line;
  merging_line = merging_line;
  streams = streams;
}
