-- Worked examples of a worker that broke off, by computation.
use Rattle.std.proofs.Common.{◌≡◌, ℕ, List, [], ◌∷◌, ◌++◌, ◌≤◌, length, length-append, Option, None, Some, refl, sym}
use Rattle.std.proofs.Common.{ap, ◌∙◌, false, arith, ℤ, pos, option_to_list}
use Rattle.rank_board.specs.declared.seat.Seat.{Seat}
use Rattle.rank_board.specs.Seats.{claims_of, raised_of, seen_of}
use Rattle.rank_sched.specs.declared.record.Record.{Record}
use Rattle.rank_sched.specs.Exchanges.{exchanges, morsels_of, raised_in, seen_in}
use Rattle.rank_sched.specs.Task.{Task, task_of}
use Rattle.rank_sched.proofs.Examples.{plan}
use Rattle.rank_crew.specs.Workers.{BreaksOff}

-- the highest temperature of the three stations is wanted
abbrev asked : Task
asked = task_of (plan 1)

-- between two moments a seat claimed these numbers, saw these floors and raised these scores
record Adds (before after : Seat) (claims : List ℕ) (seen raised : List ℤ) : Type 0 where
  pub claimed : claims_of after ≡ claims_of before ++ claims
  pub saw : seen_of after ≡ seen_of before ++ seen
  pub gave : raised_of after ≡ raised_of before ++ raised

-- a worker may break off at once, after its first claim, or after its first look
at_first : (before after : Seat) →
    (Adds before after [] [] [] → BreaksOff asked 0 before after)
    × (Adds before after (0 ∷ []) [] [] → BreaksOff asked 0 before after)
    × (Adds before after (0 ∷ []) (pos 311 ∷ []) [] → BreaksOff asked 0 before after)
at_first before after = (off None None, off (Some 0) None, off (Some 0) (Some (pos 311)))
  where
    off : (drawn : Option ℕ) (looked : Option ℤ)
        → Adds before after (option_to_list drawn) (option_to_list looked) [] → BreaksOff asked 0 before after
    off drawn looked a = record {
      records = [];
      named = tt;
      within = tt;
      skips = tt;
      drawn = drawn;
      looked = looked;
      claims = a.claimed;
      seen = a.saw;
      raised = a.gave;
    }

-- or if it has scanned the first morsel, raised its best score, which is 31.1 degrees, claimed the second and looked
after_one : (before after : Seat) → Adds before after (0 ∷ 1 ∷ []) (pos 311 ∷ []) (pos 311 ∷ [])
    → BreaksOff asked 0 before after
after_one before after a = record {
  records = record { morsel = 0; worker = 0; seen = None; skipped = false } ∷ [];
  named = (refl, tt);
  within = (omega arith, tt);
  skips = (refl, tt);
  drawn = Some 1;
  looked = Some (pos 311);
  claims = a.claimed;
  seen = a.saw;
  raised = a.gave;
}

-- but a worker that claimed nothing has neither raised a score nor seen two floors
not_without_a_claim : (before after : Seat) →
    (Adds before after [] [] (pos 311 ∷ []) → BreaksOff asked 0 before after → ⊥)
    × (Adds before after [] (pos 311 ∷ pos 311 ∷ []) [] → BreaksOff asked 0 before after → ⊥)
not_without_a_claim before after = (
  λ a h. raises a.claimed a.gave h.records h.drawn h.claims h.raised,
  λ a h. sees a.claimed a.saw h.records h.drawn h.looked h.claims h.seen,
)
  where
    -- there is no record without a claim
    no_record : (r : Record) (rs : List Record) (drawn : Option ℕ) → claims_of after ≡ claims_of before ++ []
        → claims_of after ≡ claims_of before ++ (morsels_of (r ∷ rs) ++ option_to_list drawn) → ⊥
    no_record r rs drawn none is = absurd (omega (
      arith,
      ap length (sym none ∙ is),
      length-append (claims_of before) [],
      length-append (claims_of before) (morsels_of (r ∷ rs) ++ option_to_list drawn),
    ))

    -- and no score raised without a record
    raises : claims_of after ≡ claims_of before ++ []
        → raised_of after ≡ raised_of before ++ pos 311 ∷ [] → (rs : List Record) (drawn : Option ℕ)
        → claims_of after ≡ claims_of before ++ (morsels_of rs ++ option_to_list drawn)
        → raised_of after ≡ raised_of before ++ raised_in (exchanges asked [] rs) → ⊥
    raises none gave (r ∷ rs) drawn claims raised = no_record r rs drawn none claims
    raises none gave [] drawn claims raised = absurd (omega (
      arith,
      ap length (sym gave ∙ raised),
      length-append (raised_of before) (pos 311 ∷ []),
      length-append (raised_of before) [],
    ))

    -- and no second floor seen without a record
    sees : claims_of after ≡ claims_of before ++ []
        → seen_of after ≡ seen_of before ++ pos 311 ∷ pos 311 ∷ [] → (rs : List Record) (drawn : Option ℕ)
        (looked : Option ℤ) → claims_of after ≡ claims_of before ++ (morsels_of rs ++ option_to_list drawn)
        → seen_of after ≡ seen_of before ++ (seen_in (exchanges asked [] rs) ++ option_to_list looked) → ⊥
    sees none saw (r ∷ rs) drawn looked claims seen = no_record r rs drawn none claims
    sees none saw [] drawn looked claims seen = absurd (omega (
      arith,
      ap length (sym saw ∙ seen),
      length-append (seen_of before) (pos 311 ∷ pos 311 ∷ []),
      length-append (seen_of before) (option_to_list looked),
      one_at_most looked,
    ))
      where
        one_at_most : (o : Option ℤ) → length (option_to_list o) ≤ 1
        one_at_most None = omega arith
        one_at_most (Some z) = omega arith
