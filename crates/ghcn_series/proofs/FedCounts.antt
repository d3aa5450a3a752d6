-- A cutter that counts files.
use Rattle.ghcn_series.proofs.Cited.{◌≡◌, ℕ, true, false, ◌+◌, ◌<◌, ◌≤◌, ◌^◌, min, List, [], ◌∷◌, ◌++◌, length, ◌∙◌}
use Rattle.ghcn_series.proofs.Cited.{refl, length-append, arith, nat_tests, Cutter, in_64_bits, Files, more, with_end}
use Rattle.ghcn_series.proofs.Cited.{and_current, files_of, HasCounted}

-- a current file with a byte counts
pub and_current-some : (ended : List (List ℕ)) (current : List ℕ) → 0 < length current
    → and_current ended current ≡ ended ++ current ∷ []
and_current-some ended [] lt = absurd (omega arith)
and_current-some ended (b ∷ bs) lt = refl

-- there are as many files as were ended, and one more if the current one has a byte
with_current : (ended : List (List ℕ)) (current : List ℕ)
    → length (and_current ended current) ≡ length ended + min 1 (length current)
with_current ended [] = omega arith
with_current ended (b ∷ bs) = omega (arith, length-append ended ((b ∷ bs) ∷ []))

-- more bytes of the current file are counted
pub counted-more : {L : Type 0} (old new : Cutter L) (files : Files) (bytes : List ℕ) → 0 < length bytes
    → new.ended ≡ old.ended → new.begun ≡ true → HasCounted old files → HasCounted new (more files bytes)
counted-more old new files bytes some ended begun is = let long = length-append files.current bytes in
    record { ended = ended ∙ is.ended; begun = begun ∙ grind (arith, nat_tests, some, long) }

-- the end of the current file is counted
pub counted-end : {L : Type 0} (old new : Cutter L) (files : Files) → new.ended ≡ in_64_bits (old.ended + 1)
    → new.begun ≡ false → HasCounted old files → HasCounted new (with_end files)
counted-end old new files ended begun is =
    record { ended = omega (arith, ended, is.ended, length-append files.ended (files.current ∷ [])); begun = begun }

-- if the files are few, the cutter is at the one after those that were ended
pub at_file : {L : Type 0} (c : Cutter L) (files : Files) → length (files_of files) ≤ 2 ^ 20 → HasCounted c files
    → c.ended ≡ length files.ended
at_file c files few is = omega (arith, is.ended, few, with_current files.ended files.current)

-- whose place is one of the first
pub at_place : {L : Type 0} (c : Cutter L) (files : Files) → length (files_of files) ≤ 2 ^ 20 → HasCounted c files
    → c.ended ≤ 2 ^ 20
at_place c files few is = omega (arith, at_file c files few is, few, with_current files.ended files.current)

-- and there is a number for that one, if it has a byte
pub may_be_read : {L : Type 0} (c : Cutter L) (files : Files) → length (files_of files) ≤ 2 ^ 20
    → 0 < length files.current → HasCounted c files → c.ended < 2 ^ 20
may_be_read c files few some is =
    omega (arith, at_file c files few is, few, some, with_current files.ended files.current)

-- there were no more files before the last bytes of the current one
pub few_before : (files : Files) (bytes : List ℕ) → length (files_of (more files bytes)) ≤ 2 ^ 20
    → length (files_of files) ≤ 2 ^ 20
few_before files bytes few = let all = with_current files.ended files.current in
    omega (arith, few, all, with_current files.ended (files.current ++ bytes), length-append files.current bytes)

-- nor before the end of the current one
pub few_at_end : (files : Files) → length (files_of (with_end files)) ≤ 2 ^ 20 → length (files_of files) ≤ 2 ^ 20
few_at_end files few =
    omega (arith, few, with_current files.ended files.current, length-append files.ended (files.current ∷ []))
