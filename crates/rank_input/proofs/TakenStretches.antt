-- Bytes of one daily file that are taken in shares.
use Rattle.std.proofs.Common.{◌≡◌, refl, sym, subst, ap, ◌∙◌, ℕ, true, List, [], ◌++◌, take, drop}
use Rattle.std.specs.Prelude.{Option, None, Some}
use Rattle.std.specs.Option.{option_map}
use Rattle.std.specs.Io.Take.{take_limit, take_inner, take_remaining}
use Rattle.std.specs.declared.io.traits.Take.{Take}
use Rattle.std.proofs.Math.Seq.{take-add}
use Rattle.std.proofs.lemmas.List.{take-append-drop}
use Rattle.ghcn_files.specs.declared.element.Keep.{Keep}
use Rattle.ghcn_series.specs.Fed.{Files, followed_by}
use Rattle.ghcn_series.specs.LinesRead.{Reading}
use Rattle.rank_input.specs.declared.intake.Intake.{Intake}
use Rattle.rank_input.specs.Feeding.{AreAllOf, FeedsBytes, FeedsFile, Opening}
use Rattle.rank_input.specs.Takes.{file_input, HasTaken, WereGivenAlike, JoinsFiles}
use Rattle.rank_input.specs.Shares.{TakesStretch, RestsFrom, one_file, stretch_of}

-- the bytes that a reader of some bytes has left
pub bytes_taken : {R : Type 0} (remaining : R → Option (List ℕ)) (t : Take R) (file : R) (count : ℕ)
    → take_limit t ≡ count → take_inner t ≡ file
    → take_remaining remaining t ≡ option_map (λ bytes. take count bytes) (remaining file)
bytes_taken remaining t file count limit inner =
    ap (λ (n : ℕ). option_map (λ (bytes : List ℕ). take n bytes) (remaining t.inner)) limit
    ∙ ap (λ (r : _). option_map (λ (bytes : List ℕ). take count bytes) (remaining r)) inner

-- what is known of a text, twice in another form
pub mapped_twice : {A B C : Type 0} (f : A → B) (g : B → C) (o : Option A)
    → option_map g (option_map f o) ≡ option_map (λ x. g (f x)) o
mapped_twice f g None = refl
mapped_twice f g (Some x) = refl

-- the first bytes of a file and those after them are all bytes that go as far as the latter
cut_bytes : (until : Option ℕ) (cut : ℕ) (count : Option ℕ) (bytes : List ℕ) → RestsFrom until cut count
    → stretch_of 0 (Some cut) bytes ++ stretch_of cut count bytes ≡ stretch_of 0 until bytes
cut_bytes None cut None bytes rests = take-append-drop cut bytes
cut_bytes None cut (Some count) bytes rests = absurd cc
cut_bytes (Some until) cut None bytes rests = absurd rests
cut_bytes (Some until) cut (Some count) bytes rests = rw rests (sym (take-add cut count bytes))

-- so it is with what is known of them
pub cut_known : (until : Option ℕ) (cut : ℕ) (count : Option ℕ) (known : Option (List ℕ)) (one two : List ℕ)
    → RestsFrom until cut count → AreAllOf (option_map (λ bytes. stretch_of 0 (Some cut) bytes) known) one
    → AreAllOf (option_map (λ bytes. stretch_of cut count bytes) known) two
    → AreAllOf (option_map (λ bytes. stretch_of 0 until bytes) known) (one ++ two)
cut_known until cut count None one two rests is of = tt
cut_known until cut count (Some bytes) one two rests is of = rw (is, of) (cut_bytes until cut count bytes rests)

-- a file that goes on is one file
cut_file : (until : Option ℕ) (cut : ℕ) (count : Option ℕ) (one two : List ℕ) → RestsFrom until cut count
    → followed_by (one_file (Some cut) one) (one_file count two) ≡ one_file until (one ++ two)
cut_file None cut None one two rests = refl
cut_file None cut (Some count) one two rests = absurd cc
cut_file (Some until) cut None one two rests = absurd rests
cut_file (Some until) cut (Some count) one two rests = refl

module _ {L : Type 0} (has_read : Reading L) (bytes_of : List ℕ → Option (List ℕ)) (opens : Opening) (keep : Keep)
    (stations : List ℕ) where
  -- an intake to which a stretch of a file was fed, which doesn't go to its end, was given it
  pub fed_bytes : (path : List ℕ) (from count : ℕ) (old new : Intake L) (left known : Option (List ℕ))
      → HasTaken has_read old (file_input keep stations [])
      → left ≡ option_map (λ bytes. drop from bytes) (bytes_of path)
      → known ≡ option_map (λ bytes. take count bytes) left → opens path true → FeedsBytes has_read old new known
      → TakesStretch has_read bytes_of opens keep stations path from (Some count) new
  fed_bytes path from count old new left known was at stretch opened fed = record {
    opened = opened;
    bytes = fed.bytes;
    all = subst (λ (k : Option (List ℕ)). AreAllOf k fed.bytes)
        (stretch ∙ ap (option_map (λ (bytes : List ℕ). take count bytes)) at
        ∙ mapped_twice (λ bytes. drop from bytes) (λ bytes. take count bytes) (bytes_of path)) fed.all;
    taken = fed.taken (file_input keep stations []) was;
  }

  -- or one that does
  pub fed_to_end : (path : List ℕ) (from : ℕ) (old new : Intake L) (left : Option (List ℕ))
      → HasTaken has_read old (file_input keep stations [])
      → left ≡ option_map (λ bytes. drop from bytes) (bytes_of path) → opens path true
      → FeedsFile has_read old new left → TakesStretch has_read bytes_of opens keep stations path from None new
  fed_to_end path from old new left was at opened fed = record {
    opened = opened;
    bytes = fed.bytes;
    all = subst (λ (k : Option (List ℕ)). AreAllOf k fed.bytes) at fed.all;
    taken = fed.taken (file_input keep stations []) was;
  }

  -- two stretches of one file, cut in two, are of one station list
  pub stretches_alike : (path : List ℕ) (cut : ℕ) (count : Option ℕ) (first last : Intake L)
      → TakesStretch has_read bytes_of opens keep stations path 0 (Some cut) first
      → TakesStretch has_read bytes_of opens keep stations path cut count last → WereGivenAlike has_read first last
  stretches_alike path cut count first last one two = record {
    input = record { keep = keep; stations = stations; files = one_file (Some cut) one.bytes };
    files = one_file count two.bytes;
    of_first = one.taken;
    of_next = two.taken;
  }

  -- and the intake of both was given all of them
  pub joined_stretches : (path : List ℕ) (until : Option ℕ) (cut : ℕ) (count : Option ℕ) (first last both : Intake L)
      → RestsFrom until cut count → TakesStretch has_read bytes_of opens keep stations path 0 (Some cut) first
      → TakesStretch has_read bytes_of opens keep stations path cut count last → JoinsFiles has_read first last both
      → TakesStretch has_read bytes_of opens keep stations path 0 until both
  joined_stretches path until cut count first last both rests one two joins = record {
    opened = one.opened;
    bytes = one.bytes ++ two.bytes;
    all = cut_known until cut count (bytes_of path) one.bytes two.bytes rests one.all two.all;
    taken = subst (λ (files : Files). HasTaken has_read both
        (record { keep = keep; stations = stations; files = files }))
        (cut_file until cut count one.bytes two.bytes rests)
        (joins.holds (record { keep = keep; stations = stations; files = one_file (Some cut) one.bytes })
        (one_file count two.bytes) one.taken two.taken);
  }
