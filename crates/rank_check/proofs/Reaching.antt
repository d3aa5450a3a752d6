-- What one scan of a series finds for a line by itself.
use Rattle.std.proofs.Common.{◌≡◌, Bool, true, false, not, List, [], ◌∷◌, ◌++◌, Option, refl, sym, ap, ◌∙◌}
use Rattle.std.proofs.Common.{append-nil, append_assoc, ◌||◌}
use Rattle.std.specs.Prelude.{◌&&◌}
use Rattle.std.specs.List.{fold, list_any, list_all}
use Rattle.std.specs.Ordering.{is_eq}
use Rattle.std.proofs.lemmas.List.Folds.{list_any-append}
use Rattle.rank_scores.specs.declared.candidate.Candidate.{Candidate}
use Rattle.rank_scores.specs.Order.{full_cmp}
use Rattle.rank_papers.specs.declared.paper.Row.{Row}
use Rattle.rank_papers.specs.Papers.{candidates_of}
use Rattle.rank_check.specs.declared.pieces.Wanted.{Wanted}
use Rattle.rank_check.specs.declared.pieces.Reached.{Reached}
use Rattle.rank_check.specs.Survey.{top_score}
use Rattle.rank_check.specs.Tests.{is_one_of}
use Rattle.rank_check.specs.Pieces.{is_within_worst}
use Rattle.rank_check.specs.Reach.{wanted_by, is_printed, is_missing, reached_by}
use Rattle.rank_check.proofs.Surveying.{or_false, top-more}

-- ---- a candidate that is looked for

-- one or two others
or_apart : (a b c : Bool) → ((a || b) || c) ≡ (a || (b || c))
or_apart true b c = refl
or_apart false b c = refl

-- it is found if it is among those that were offered
pub wanted-found : (w : Wanted) (cs : List Candidate)
    → (fold wanted_by w cs).found ≡ (w.found || is_one_of cs w.candidate)
wanted-found w [] = sym (or_false w.found)
wanted-found w (c ∷ cs) =
    wanted-found (wanted_by w c) cs ∙ or_apart w.found (is_eq (full_cmp c w.candidate)) (is_one_of cs w.candidate)

-- ---- rows and candidates

module _ (start : Reached) where
  -- what is known once these were offered to it, at first nothing
  abbrev pub reached : List Candidate → Reached
  reached cs = record {
    rows = start.rows;
    worst = start.worst;
    left_out = list_any (is_missing start.rows.now start.worst) cs;
    highest = top_score cs;
  }

  -- one more
  reached-more : (cs : List Candidate) (d : Candidate) → reached_by (reached cs) d ≡ reached (cs ++ d ∷ [])
  reached-more cs d =
      let missing : Candidate → Bool = is_missing start.rows.now start.worst in
      let out : (list_any (is_missing start.rows.now start.worst) cs || is_missing start.rows.now start.worst d)
      ≡ list_any (is_missing start.rows.now start.worst) (cs ++ d ∷ []) =
      ap (λ (b : Bool). list_any missing cs || b) (sym (or_false (missing d)))
      ∙ sym (list_any-append missing cs (d ∷ [])) in
      λ i. record { rows = start.rows; worst = start.worst; left_out = out i; highest = top-more cs d i }

  -- and some more
  pub reached-all : (cs ds : List Candidate) → fold reached_by (reached cs) ds ≡ reached (cs ++ ds)
  reached-all cs [] = ap reached (sym (append-nil cs))
  reached-all cs (d ∷ ds) =
      ap (λ (r : Reached). fold reached_by r ds) (reached-more cs d)
      ∙ reached-all (cs ++ d ∷ []) ds
      ∙ ap reached (append_assoc cs (d ∷ []) ds)

-- a candidate of a row
printed-among : (rows : List Row) (c : Candidate) → is_printed rows c ≡ is_one_of (candidates_of rows) c
printed-among [] c = refl
printed-among (r ∷ rows) c = ap (λ (b : Bool). is_eq (full_cmp r.candidate c) || b) (printed-among rows c)

-- one that is missing, or others
missing_or : (w p m : Bool) → ((w && not p) || not m) ≡ not ((not w || p) && m)
missing_or true true m = refl
missing_or true false m = refl
missing_or false p m = refl

-- none is missing if the rows have all
pub missing-all : (rows : List Row) (worst : Option Candidate) (cs : List Candidate)
    → list_any (is_missing rows worst) cs
    ≡ not (list_all (λ c. not (is_within_worst worst c) || is_one_of (candidates_of rows) c) cs)
missing-all rows worst [] = refl
missing-all rows worst (c ∷ cs) =
    ap (λ (b : Bool). is_missing rows worst c || b) (missing-all rows worst cs)
    ∙ ap (λ (b : Bool). (is_within_worst worst c && not b)
    || not (list_all (λ d. not (is_within_worst worst d) || is_one_of (candidates_of rows) d) cs))
    (printed-among rows c)
    ∙ missing_or (is_within_worst worst c) (is_one_of (candidates_of rows) c)
    (list_all (λ d. not (is_within_worst worst d) || is_one_of (candidates_of rows) d) cs)
