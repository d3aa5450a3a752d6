use Rattle.ghcn_series.proofs.Cited.{◌≡◌, ◌+◌, sym, subst, Cutter, in_64_bits, EndsFile}
use Rattle.ghcn_series.proofs.KeptFaults as kept
use Rattle.ghcn_series.proofs.cutter.Cutter.end_of_file.Goals as goal
use Rattle.ghcn_series.proofs.cutter.Cutter.end_of_file.Goals.{then-is_reading, else-is_reading}

-- a last line without its feed belongs to a file with a number
pub read_end-requires-clause-few : goal.read_end-requires-clause-few
read_end-requires-clause-few g c =
    kept.end-few c.args.self.now (rw c.if-is_reading.true at c.is_reading.ensures) c.requires

-- and the file's place is one of the first
pub read_end-requires-clause-place : goal.read_end-requires-clause-place
read_end-requires-clause-place g c =
    kept.end-place c.args.self.now (rw c.if-is_reading.true at c.is_reading.ensures) c.requires

-- before it, lines were read
pub read_end-requires-clause-read : goal.read_end-requires-clause-read
read_end-requires-clause-read g c =
    kept.end-some c.args.self.now (rw c.if-is_reading.true at c.is_reading.ensures) c.requires

-- the file is read to its end, or skipped
pub returns-clause-fed : goal.returns-clause-fed
returns-clause-fed g c =
    let old = c.args.self.now in let ended = c.saturating_add-self.result in
    let P : Cutter g.row.L.Denot → Type 0 = λ r. ended ≡ in_64_bits (r.ended + 1)
    → EndsFile g.L.LineReader.has_read old (kept.ending r ended) in
    elim c.if-is_reading.branch [
      | then-is_reading w ↦ let looks = rw w.if-is_reading.true at c.is_reading.ensures in
          subst P (sym w.self-is) (λ one_more.
          kept.ends-read old w.read_end.new.self w.read_end.result w.err-self.result ended looks
          w.read_end.ensures.ended w.read_end.ensures.read w.read_end.ensures.fault w.err-self.ensures.value one_more)
          c.saturating_add-self.ensures
      | else-is_reading w ↦ let looks = rw w.if-is_reading.false at c.is_reading.ensures in
          subst P (sym w.self-is) (kept.ends-passed old ended looks) c.saturating_add-self.ensures
    ]

-- and more can follow
pub returns-clause-going : goal.returns-clause-going
returns-clause-going g c = kept.going-end _ _ (returns-clause-fed g c) c.requires
