-- The words of a period: those that are read as a period spell it, and those that spell it are read as it.
use Rattle.rank_query.proofs.Cited.{◌≡◌, ℕ, true, cond, ◌&&◌, List, [], ◌∷◌, ◌++◌, Option, Some, None, Ok, Err, codes}
use Rattle.rank_query.proofs.Cited.{refl, sym, ap, subst, ℤ, int_le, and_parts, is_day, date_text, EmptyPeriod}
use Rattle.rank_query.proofs.Cited.{is_period, AllYear, Word, says, Read, keyword, one_word, date, season_at, days_at}
use Rattle.rank_query.proofs.Cited.{between_at, always_at, period_at, QueryWord, Exactly, period_words, per_words, Per}
use Rattle.rank_query.proofs.Cited.{Each, Station, Year}
use Rattle.rank_query.proofs.ReadingSteps.{bind_ok, test_ok, keyword_took, unnumbered}
use Rattle.rank_query.proofs.SpeltWords.{TakesBehind, Spell, took_same, word_took, made_took, rows_took, ReadsAs}
use Rattle.rank_query.proofs.SpeltWords.{word_read, made_read, then_read, behind_read, always_read, PassesBy, passed_by}
use Rattle.rank_query.proofs.WordValues.{date_written, written_date}

-- a period after its word
abbrev pub period_rows : List (List ℕ × (List Word → Read (Option (ℤ × ℤ))))
period_rows = (codes "from", between_at) ∷ []

-- the words of two days after "from"
abbrev days_words : ℤ × ℤ → List QueryWord
days_words p = Exactly (date_text p.0) ∷ Exactly (codes "to") ∷ Exactly (date_text p.1) ∷ []

-- a day is spelt by the word that it was read of
day_took : TakesBehind [] (λ day. Exactly (date_text day) ∷ []) (one_word date)
day_took = word_took date (λ day. Exactly (date_text day)) (λ w day clean. date_written w day)

-- and so are two days
days_took : TakesBehind [] days_words days_at
unfolding days_at
days_took = λ ws rest p e.
    let first = bind_ok (one_word date ws) _ (p, rest) e in
    let to = bind_ok (keyword (codes "to") first.0.1) _ (p, rest) first.2 in
    let last = bind_ok (one_word date to.0) _ (p, rest) to.2 in
    let test = test_ok (int_le first.0.0 last.0.0) ((first.0.0, last.0.0), last.0.1) (p, rest) EmptyPeriod last.2 in
    took_same days_words (unnumbered ws) (first.0.0, last.0.0) p last.0.1 rest (ap Ok test.1) (λ others more.
    day_took ws first.0.1 first.0.0 first.1 (Exactly (codes "to") ∷ Exactly (date_text last.0.0) ∷ others)
    (subst (λ words. Spell words (Exactly (codes "to") ∷ Exactly (date_text last.0.0) ∷ others))
    (sym (keyword_took (codes "to") first.0.1 to.0 to.1))
    (λ clean. (refl, day_took to.0 last.0.1 last.0.0 last.1 others more clean.1))))

-- the words that are read as a period spell it
pub period_took : TakesBehind [] period_words period_at
unfolding period_at
period_took = rows_took period_words period_rows always_at (
  made_took (codes "from") Some days_words period_words days_at (λ p. refl) days_took,
  tt,
) (λ ws rest p e. took_same period_words (unnumbered ws) None p ws rest e (λ others more. more))

-- the date of a day is read as it
day_read : (day : ℤ) {others : List QueryWord} → is_day day ≡ true
    → ReadsAs (one_word date) day (Exactly (date_text day) ∷ others) others
day_read day is = word_read date (Exactly (date_text day)) day
    (λ at word same. subst (λ (v : List ℕ). date (at, v) ≡ Ok day) (sym same) (written_date at day is))

-- the words of two days, the second not before the first, are read as these
days_read : (first last : ℤ) (others : List QueryWord) → is_period (Some (first, last)) ≡ true
    → ReadsAs days_at (first, last) (days_words (first, last) ++ others) others
unfolding days_at keyword says
days_read first last others is =
    let order = and_parts (is_day first && is_day last) (int_le first last) is in
    let days = and_parts (is_day first) (is_day last) order.0 in
    then_read _ (day_read first days.0) (behind_read _ _ (codes "to") (λ at ws. refl)
    (then_read _ (day_read last days.1)
    (always_read (λ ws. ap (λ b. cond b (Ok ((first, last), ws)) (Err EmptyPeriod)) order.1))))

-- what spells a period that can be asked for is read as it, if none begins what comes after all days
pub period_read : (p : Option (ℤ × ℤ)) (others : List QueryWord) → is_period p ≡ true → PassesBy period_at None others
    → ReadsAs period_at p (period_words p ++ others) others
unfolding period_at says
period_read None others is passes = passed_by period_at None others passes
period_read (Some p) others is passes = behind_read period_at between_at (codes "from") (λ at ws. refl)
    (made_read Some (days_read p.0 p.1 others is))

-- neither a period nor a group begins a season
pub no_season : (p : Option (ℤ × ℤ)) (g : Per) → PassesBy season_at AllYear (period_words p ++ (per_words g ++ []))
unfolding season_at says
no_season None Each = refl
no_season None Station = (codes "per", refl, λ at ws. refl)
no_season None Year = (codes "per", refl, λ at ws. refl)
no_season (Some p) g = (codes "from", refl, λ at ws. refl)
