-- The words of a season: those that are read as a season spell it, and those that spell it are read as it.
use Rattle.rank_query.proofs.Cited.{◌≡◌, ℕ, true, List, [], ◌∷◌, ◌++◌, Option, Some, None, Ok, codes, refl, sym, subst}
use Rattle.rank_query.proofs.Cited.{is_season, Word, says, Read, Everywhere, Season, AllYear, Months, Dates, one_word}
use Rattle.rank_query.proofs.Cited.{months, dates, region_at, months_at, dates_at, all_year_at, season_at, dates_text}
use Rattle.rank_query.proofs.Cited.{QueryWord, Exactly, TwoMonths, season_words, period_words, per_words, Per, Each}
use Rattle.rank_query.proofs.Cited.{Station, Year, ℤ}
use Rattle.rank_query.proofs.ReadingSteps.{unnumbered}
use Rattle.rank_query.proofs.SpeltWords.{TakesBehind, took_same, word_took, made_took, rows_took, ReadsAs, word_read}
use Rattle.rank_query.proofs.SpeltWords.{made_read, behind_read, PassesBy, passed_by}
use Rattle.rank_query.proofs.WordValues.{months_joined, joined_months}
use Rattle.rank_query.proofs.DaysOfYear.{dates_written, written_dates}

-- a season after its word
abbrev pub season_rows : List (List ℕ × (List Word → Read Season))
season_rows = (codes "months", months_at) ∷ (codes "days", dates_at) ∷ []

-- the words that are read as a season spell it
pub season_took : TakesBehind [] season_words season_at
unfolding season_at
season_took = rows_took season_words season_rows all_year_at (
  made_took (codes "months") (λ s. Months s.0 s.1) (λ s. TwoMonths s.0 s.1 ∷ []) season_words (one_word months)
      (λ s. refl) (word_took months (λ s. TwoMonths s.0 s.1) (λ w s clean. months_joined w s)),
  (
    made_took (codes "days") (λ s. Dates s.0 s.1) (λ s. Exactly (dates_text s.0 s.1) ∷ []) season_words (one_word dates)
        (λ s. refl) (word_took dates (λ s. Exactly (dates_text s.0 s.1)) (λ w s clean. dates_written w s)),
    tt,
  ),
) (λ ws rest s e. took_same season_words (unnumbered ws) AllYear s ws rest e (λ others more. more))

-- what spells a season that can be asked for is read as it, if none begins what comes after all year
pub season_read : (s : Season) (others : List QueryWord) → is_season s ≡ true → PassesBy season_at AllYear others
    → ReadsAs season_at s (season_words s ++ others) others
unfolding season_at says
season_read AllYear others is passes = passed_by season_at AllYear others passes
season_read (Months a b) others is passes = behind_read season_at months_at (codes "months") (λ at ws. refl)
    (made_read (λ s. Months s.0 s.1)
    (word_read months (TwoMonths a b) (a, b) (λ at word. joined_months (a, b) at word is)))
season_read (Dates a b) others is passes = behind_read season_at dates_at (codes "days") (λ at ws. refl)
    (made_read (λ s. Dates s.0 s.1) (word_read dates (Exactly (dates_text a b)) (a, b)
    (λ at word same. subst (λ (v : List ℕ). dates (at, v) ≡ Ok (a, b)) (sym same) (written_dates at a b is))))

-- neither a season nor a period nor a group begins a region
pub no_region : (s : Season) (p : Option (ℤ × ℤ)) (g : Per) → PassesBy region_at Everywhere
    (season_words s ++ (period_words p ++ (per_words g ++ [])))
unfolding region_at says
no_region AllYear None Each = refl
no_region AllYear None Station = (codes "per", refl, λ at ws. refl)
no_region AllYear None Year = (codes "per", refl, λ at ws. refl)
no_region AllYear (Some p) g = (codes "from", refl, λ at ws. refl)
no_region (Months a b) p g = (codes "months", refl, λ at ws. refl)
no_region (Dates a b) p g = (codes "days", refl, λ at ws. refl)
