-- Where the reading of a score stops.
use Rattle.rank_query.proofs.Cited.{◌≡◌, true, inl, inr, List, [], ◌∷◌, Ok, Err, codes, refl, sym, ◌∙◌, AllByRecursion}
use Rattle.rank_query.proofs.Cited.{is_within, Prcp, Tmax, Score, Highest, Lowest, Sum, Dry, Wet, Hot, Cold, QueryFault}
use Rattle.rank_query.proofs.Cited.{UnexpectedWord, QueryEnds, may_be_negative, is_fall, is_heat, is_score, Word, says}
use Rattle.rank_query.proofs.Cited.{Read, number, sum_at, ℤ, heat, made_into, no_score_at, one_word, score_at}
use Rattle.rank_query.proofs.RegionWords.{and_true}
use Rattle.rank_query.proofs.ScoreWords.{score_rows}
use Rattle.rank_query.proofs.Stops.{GoesOn, Stops, TakesAll, Ended, ReadsPart, stops_behind, stops_word, stops_end}
use Rattle.rank_query.proofs.Stops.{takes_behind, part_then}
use Rattle.rank_query.proofs.PartStops.{part_word, part_made, part_always, by_first}
use Rattle.rank_query.proofs.WordStops.{reads_number, reads_element, reads_heat, told}

-- a score that can be asked for
abbrev pub GoodScore : Score → Type 0
GoodScore s = is_score s ≡ true

-- a sum
sum_part : ReadsPart Score GoodScore sum_at
unfolding sum_at number
sum_part =
    part_then _ (part_word (reads_number 1 366 refl)) (λ n few.
    part_then (λ e ws. Ok (Sum n e, ws)) (part_word (reads_element is_fall Prcp refl refl)) (λ e fall.
    part_always (Sum n e) (and_true (is_within 1 366 n) (is_fall e) few fall)))

-- hot spells, and cold ones
heat_part : (make : ℤ → Score) → ((t : ℤ) → is_heat t ≡ true → GoodScore (make t))
    → ReadsPart Score GoodScore (λ ws. made_into make (one_word heat ws))
heat_part make good = part_made make good (part_word reads_heat)

-- all of them are parts
parts : AllByRecursion (λ row. ReadsPart Score GoodScore row.1) score_rows
parts = (
  part_made Highest (λ e is. refl) (part_word (reads_element (λ e. true) Prcp refl refl)),
  (
    part_made Lowest (λ e is. is) (part_word (reads_element may_be_negative Tmax refl refl)),
    (
      sum_part,
      (
        part_always Dry refl,
        (part_always Wet refl, (heat_part Hot (λ t is. is), (heat_part Cold (λ t is. is), tt))),
      ),
    ),
  ),
)

-- dry spells need one word
score_on : GoesOn (Score × List Word) Ended score_at
unfolding score_at says
score_on =
    record { tail = (0, codes "dry") ∷ []; clean = (refl, tt); value = (Dry, []); good = refl; reads = refl }

-- a first word that no score has is wrong, and its row determines what comes after one
score_stops : (ws : List Word) (fault : QueryFault) → score_at ws ≡ Err fault
    → Stops (Score × List Word) Ended score_at fault ws
unfolding score_at no_score_at
score_stops [] fault e = stops_end [] score_on (let same : fault ≡ QueryEnds = cc in same)
score_stops (w ∷ ws) fault e = elim (by_first GoodScore score_rows no_score_at w parts) [
  | inl found ↦ stops_behind Ended score_at found.0 (w ∷ []) ws fault found.2
      (found.1.first.stops ws fault (sym (found.2 ws) ∙ e))
  | inr none ↦
      let here : ◌≡◌ {A = Read Score} (Err (UnexpectedWord w.0)) (Err fault) = sym (none ws) ∙ e in
      stops_word [] w ws score_on (told (UnexpectedWord w.0) fault w refl here) (λ more. none more ∙ here)
]

-- a score is taken with its first word
score_takes : TakesAll Score GoodScore score_at
unfolding score_at no_score_at
score_takes [] r e = absurd cc
score_takes (w ∷ ws) r e = elim (by_first GoodScore score_rows no_score_at w parts) [
  | inl found ↦ takes_behind GoodScore score_at found.0 (w ∷ []) ws r found.2
      (found.1.takes ws r (sym (found.2 ws) ∙ e))
  | inr none ↦ let here : ◌≡◌ {A = Read Score} (Err (UnexpectedWord w.0)) (Ok r) = sym (none ws) ∙ e in absurd cc
]

-- a score is a part of a query
pub score_part : ReadsPart Score GoodScore score_at
score_part = record { first = record { on = score_on; stops = score_stops }; takes = score_takes }
