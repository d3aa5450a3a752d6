-- What an intake takes, and what it returns at its end.
use Rattle.std.proofs.Common.{◌≡◌, List, ℕ, refl, subst}
use Rattle.std.specs.Prelude.{Result, Ok, Err}
use Rattle.ghcn_files.specs.declared.station.Station.{Station}
use Rattle.ghcn_files.specs.Listed.{listed}
use Rattle.ghcn_series.specs.declared.cutter.Cutter.{Cutter}
use Rattle.ghcn_series.specs.declared.fault.DataFault.{DataFault}
use Rattle.ghcn_series.specs.declared.fault.DataFault.TheVariants as daily
use Rattle.ghcn_series.specs.Cut.{TakesPiece, EndsFile, MakesFed, RefusesFed}
use Rattle.ghcn_series.specs.DailyFaults.{is_memory as is_data_memory}
use Rattle.ghcn_series.specs.Fed.{files_of}
use Rattle.ghcn_series.specs.LinesRead.{Reading, Making}
use Rattle.ghcn_series.specs.Says.{data_of}
use Rattle.ghcn_fields.specs.Refusals.{IsRefusal}
use Rattle.rank_input.specs.declared.fault.Fault.{Fault}
use Rattle.rank_input.specs.declared.intake.Intake.{Intake}
use Rattle.rank_input.specs.Input.{of_data, is_memory, read_files}
use Rattle.rank_input.specs.Takes.{FileInput, fed_for, IsReading, IsRead, HasTaken, TakesBytes, TakesFileEnd}
use Rattle.rank_input.specs.Takes.{MakesTaken, RefusesTaken}

-- the refusal of the daily files is that of all files
refused_files : (stations : List ℕ) (files : List (List ℕ)) (list : List Station) (fault : DataFault)
    → listed stations ≡ Ok list → IsRefusal is_data_memory fault (data_of list files)
    → IsRefusal is_memory (of_data fault) (read_files stations files)
refused_files stations files list (daily.Memory m) lists is = tt
refused_files stations files list daily.TooManyFiles lists is = rw (lists, is) refl
refused_files stations files list (daily.DailyLine file line why) lists is = rw (lists, is) refl

module _ {L : Type 0} (has_read : Reading L) where
  -- an intake with a cutter reads what it was given
  reading_of : (t : Intake L) (c : Cutter L) (s : FileInput) → t.read ≡ Ok c → HasTaken has_read t s
      → IsReading has_read s c
  reading_of t c s is taken = subst (λ (read : Result (Cutter L) Fault). IsRead has_read read s) is taken

  -- an intake takes the bytes that its cutter takes
  pub cutter_takes : (old : Intake L) (c c' : Cutter L) (count : ℕ) (bytes : List ℕ) → old.read ≡ Ok c
      → TakesPiece has_read c c' bytes → TakesBytes has_read old (record { bytes = count; read = Ok c' }) bytes
  cutter_takes old c c' count bytes is takes = record {
    holds = λ s taken.
        let reading = reading_of old c s is taken in
        record {
          list = reading.list;
          lists = reading.lists;
          fed = takes.holds (fed_for s reading.list) reading.fed;
        };
  }

  -- an intake ends the file that its cutter ends
  pub cutter_ends : (old : Intake L) (c c' : Cutter L) (count : ℕ) → old.read ≡ Ok c
      → EndsFile has_read c c' → TakesFileEnd has_read old (record { bytes = count; read = Ok c' })
  cutter_ends old c c' count is ends = record {
    holds = λ s taken.
        let reading = reading_of old c s is taken in
        record {
          list = reading.list;
          lists = reading.lists;
          fed = ends.holds (fed_for s reading.list) reading.fed;
        };
  }

  -- what is made of the files that a cutter was fed is made of those that were given
  pub makes_taken : {D : Type 0} (makes : Making D) (t : Intake L) (c : Cutter L) (done : D) → t.read ≡ Ok c
      → MakesFed has_read makes c done → MakesTaken has_read makes t done
  makes_taken makes t c done is made = record {
    is = λ s taken.
        let reading = reading_of t c s is taken in
        record {
          list = reading.list;
          lists = reading.lists;
          made = made.is (fed_for s reading.list) reading.fed;
        };
  }

  -- a cutter's refusal is that of the files that were given
  pub refuses_taken : (t : Intake L) (c : Cutter L) (fault : DataFault) → t.read ≡ Ok c
      → RefusesFed has_read c fault → RefusesTaken has_read t (of_data fault)
  refuses_taken t c fault is refuses = record {
    is = λ s taken.
        let reading = reading_of t c s is taken in
        refused_files s.stations (files_of s.files) reading.list fault reading.lists
        (refuses.is (fed_for s reading.list) reading.fed);
  }

  -- an error before the daily files is that of all files
  pub refused_before : (t : Intake L) (fault : Fault) → t.read ≡ Err fault → RefusesTaken has_read t fault
  refused_before t fault is = record {
    is = λ s taken.
        (subst (λ (read : Result (Cutter L) Fault). IsRead has_read read s) is taken).whatever (files_of s.files);
  }
