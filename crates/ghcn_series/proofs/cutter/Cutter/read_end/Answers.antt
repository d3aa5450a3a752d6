use Rattle.ghcn_series.proofs.Cited.{arith, ◌≡◌, ◌<◌, [], length, ap, refl, ◌∙◌, nat_tests, nil_from_length}
use Rattle.ghcn_series.proofs.Cited.{err_from_is_err_and, Cutter, with_end, with_files}
use Rattle.ghcn_series.proofs.FedPieces.{end-read, last-read, last-found, memory-found}
use Rattle.ghcn_series.proofs.cutter.Cutter.read_end.Goals as goal
use Rattle.ghcn_series.proofs.cutter.Cutter.read_end.Goals.{then-not-is_empty+in_ok-end_line, else-not-is_empty}

-- a last line with an error is found
pub returns-in_err-end_line-clause-fault : goal.returns-in_err-end_line-clause-fault
returns-in_err-end_line-clause-fault g c =
    let p = err_from_is_err_and c.from_residual.result c.from_residual.ensures.1 in
    let old = c.args.self.now in
    let some : 0 < length old.rest.items = grind
    (arith, nat_tests, c.if-not-is_empty.true, c.is_empty.ensures, old.rest.ok.0) in rw (p.1, p.2) (record {
      found = λ fed at is. last-found old fed c.in_err-end_line.field-0.0 at some c.in_err-end_line.ensures.fault is;
    })

-- the file is read to its end, in its last line or after it
pub returns-in-Some-clause-read : goal.returns-in-Some-clause-read
returns-in-Some-clause-read g c =
    let old = c.args.self.now in let mid = c.if-not-is_empty.self in
    let new : Cutter g.row.L.Denot = record mid { counts = c.end_file.new.self; line = 0 } in
    elim c.if-not-is_empty.branch [
      | then-not-is_empty+in_ok-end_line w ↦
          let some : 0 < length old.rest.items = grind
          (arith, nat_tests, w.if-not-is_empty.true, c.is_empty.ensures, old.rest.ok.0) in record {
            holds = λ fed at is. last-read old w.end_line.new.self new fed at some w.in_ok-end_line.ensures.added
                w.end_line.ensures.ended (ap (λ (r : Cutter g.row.L.Denot). r.reader) w.self-is)
                (λ files whole place number counted.
                c.in-Some.ensures files whole (rw w.self-is place) (rw w.self-is number) (rw w.self-is counted)) refl
                (ap (λ (r : Cutter g.row.L.Denot). r.rest.items) w.self-is ∙ w.in_ok-end_line.ensures.added.rest) is;
          }
      | else-not-is_empty w ↦
          let none : old.rest.items ≡ [] = nil_from_length old.rest.items
          (grind (arith, nat_tests, w.if-not-is_empty.false, c.is_empty.ensures, old.rest.ok.0)) in record {
            holds = λ fed at is. end-read old new fed at none (ap (λ (r : Cutter g.row.L.Denot). r.reader) w.self-is)
                (λ files whole place number counted.
                c.in-Some.ensures files whole (rw w.self-is place) (rw w.self-is number) (rw w.self-is counted)) refl
                (ap (λ (r : Cutter g.row.L.Denot). r.rest.items) w.self-is ∙ none) is;
          }
    ]

-- unless a number gets too great
pub returns-in-None-clause-fault : goal.returns-in-None-clause-fault
returns-in-None-clause-fault g c = record {
  found = λ fed at is. memory-found (with_files fed (with_end fed.files)) _ tt;
}
