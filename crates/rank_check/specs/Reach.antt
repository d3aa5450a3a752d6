-- What one scan of a series finds for a line by itself, without memory.
use Rattle.std.specs.Prelude.{Bool, ◌&&◌, ◌||◌, not, List, Option, Some}
use Rattle.std.specs.List.{list_any}
use Rattle.std.specs.Ordering.{is_eq}
use Rattle.rank_scores.specs.declared.candidate.Candidate.{Candidate}
use Rattle.rank_scores.specs.Order.{full_cmp}
use Rattle.rank_papers.specs.declared.paper.Row.{Row}
use Rattle.rank_check.specs.declared.pieces.Wanted.{Wanted}
use Rattle.rank_check.specs.declared.pieces.Reached.{Reached}
use Rattle.rank_check.specs.Survey.{raised}
use Rattle.rank_check.specs.Pieces.{is_within_worst}

-- a candidate that is looked for, once one more was offered
abbrev pub wanted_by : Wanted → Candidate → Wanted
wanted_by w c = record { candidate = w.candidate; found = w.found || is_eq (full_cmp c w.candidate) }

-- a candidate is that of a row
abbrev pub is_printed : List Row → Candidate → Bool
is_printed rows c = list_any (λ row. is_eq (full_cmp row.candidate c)) rows

-- a candidate that is within isn't a row
abbrev pub is_missing : List Row → Option Candidate → Candidate → Bool
is_missing rows worst c = is_within_worst worst c && not (is_printed rows c)

-- what is known of the rows, once one more candidate was offered
abbrev pub reached_by : Reached → Candidate → Reached
reached_by r c = record {
  rows = r.rows;
  worst = r.worst;
  left_out = r.left_out || is_missing r.rows.now r.worst c;
  highest = Some (raised r.highest c.score);
}
