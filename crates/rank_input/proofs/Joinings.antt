-- Two intakes, joined.
use Rattle.std.proofs.Common.{◌≡◌, ◌⊎◌, inl, inr, sym, ◌∙◌, subst}
use Rattle.std.specs.Prelude.{Option, None, Some, Result, Ok, Err, IfSome, IfNone}
use Rattle.std.specs.Result.{result_transpose}
use Rattle.ghcn_fields.specs.declared.memory.Memory.{Memory}
use Rattle.ghcn_series.specs.declared.cutter.Cutter.{Cutter}
use Rattle.ghcn_series.specs.Cut as cut
use Rattle.ghcn_series.specs.Cut.{HasFed}
use Rattle.ghcn_series.specs.Fed.{Files, with_files, followed_by}
use Rattle.ghcn_series.specs.LinesRead.{Reading}
use Rattle.rank_input.specs.declared.fault.Fault.{Fault}
use Rattle.rank_input.specs.declared.fault.Fault.TheVariants as faults
use Rattle.rank_input.specs.Takes.{FileInput, fed_for, with_daily, IsReading, IsRead, IsRefusedBefore}
use Rattle.rank_input.specs.Takes.{AreReadAlike, JoinsReadings, AreApart}

-- two values that are returned alike are the same
ok_same : {A E : Type 0} {a b : A} → ◌≡◌ {A = Result A E} (Ok a) (Ok b) → a ≡ b
ok_same e = cc

module _ {L : Type 0} (has_read : Reading L) where
  -- what was read by a cutter
  opened : (read : Result (Cutter L) Fault) (c : Cutter L) (s : FileInput) → read ≡ Ok c → IsRead has_read read s
      → IsReading has_read s c
  opened read c s is taken = subst (λ (o : Result (Cutter L) Fault). IsRead has_read o s) is taken

  -- or has an error before the daily files
  unopened : (read : Result (Cutter L) Fault) (fault : Fault) (s : FileInput) → read ≡ Err fault
      → IsRead has_read read s → IsRefusedBefore s fault
  unopened read fault s is taken = subst (λ (o : Result (Cutter L) Fault). IsRead has_read o s) is taken

  -- what is read of a station list with other daily files is read for the same stations
  same_list : (s : FileInput) (files : Files) (c d : Cutter L) (reading : IsReading has_read s c)
      → IsReading has_read (with_daily s files) d → HasFed has_read d (with_files (fed_for s reading.list) files)
  same_list s files c d reading other =
      let list : other.list ≡ reading.list = ok_same (sym other.lists ∙ reading.lists) in
      rw list at other.fed

  module _ (first next : Result (Cutter L) Fault) where
    -- two cutters were fed for the same stations
    pub cutters_alike : (c d : Cutter L) → first ≡ Ok c → next ≡ Ok d → AreReadAlike (IsRead has_read) first next
        → cut.WereFedAlike has_read c d
    cutters_alike c d is of alike =
        let reading = opened first c alike.input is alike.of_first in
        let other = opened next d (with_daily alike.input alike.files) of alike.of_next in
        record {
          fed = fed_for alike.input reading.list;
          files = alike.files;
          of_first = reading.fed;
          of_next = same_list alike.input alike.files c d reading other;
        }

    -- what both were given is read by one
    cutter_joined : (c d both : Cutter L) → first ≡ Ok c → next ≡ Ok d → cut.Joins has_read c d both
        → JoinsReadings (IsRead has_read) first next (Ok both)
    cutter_joined c d both is of joins = record {
      holds = λ s files taken more.
          let reading = opened first c s is taken in
          let other = opened next d (with_daily s files) of more in
          record {
            list = reading.list;
            lists = reading.lists;
            fed = joins.holds (fed_for s reading.list) files reading.fed (same_list s files c d reading other);
          };
    }

    -- if there is one
    pub cutters_joined : (c d : Cutter L) (o : Option (Cutter L)) → first ≡ Ok c → next ≡ Ok d
        → IfSome o (cut.Joins has_read c d)
        → IfSome (result_transpose {E = Fault} (Ok o)) (JoinsReadings (IsRead has_read) first next)
    cutters_joined c d None is of joins = tt
    cutters_joined c d (Some both) is of joins = cutter_joined c d both is of joins

    -- or both stay apart
    pub cutters_apart : (c d : Cutter L) (o : Option (Cutter L)) → first ≡ Ok c → next ≡ Ok d
        → IfNone o (cut.StayApart has_read c d)
        → IfNone (result_transpose {E = Fault} (Ok o)) (AreApart has_read first next)
    cutters_apart c d None is of apart = rw (is, of) apart
    cutters_apart c d (Some both) is of apart = tt

    -- the error before the daily files, of one of two intakes, is that of both
    pub refused_by : (fault : Fault) → (first ≡ Err fault) ⊎ (next ≡ Err fault)
        → JoinsReadings (IsRead has_read) first next (Err fault)
    refused_by fault (inl is) = record {
      holds = λ s files taken more. record { whatever = (unopened first fault s is taken).whatever };
    }
    refused_by fault (inr is) = record {
      holds = λ s files taken more. record { whatever = (unopened next fault (with_daily s files) is more).whatever };
    }

    -- so is out of memory
    pub out_of_memory : (m : Memory) → JoinsReadings (IsRead has_read) first next (Err (faults.Memory m))
    out_of_memory m = record { holds = λ s files taken more. record { whatever = λ fs. tt } }

    -- what both were given is something
    pub going-joined : (both : Result (Cutter L) Fault) → JoinsReadings (IsRead has_read) first next both
        → AreReadAlike (IsRead has_read) first next → (s : FileInput) × IsRead has_read both s
    going-joined both joins alike = (
      with_daily alike.input (followed_by alike.input.files alike.files),
      joins.holds alike.input alike.files alike.of_first alike.of_next,
    )
