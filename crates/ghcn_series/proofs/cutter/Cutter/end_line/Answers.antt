use Rattle.ghcn_series.proofs.Cited.{rules, arith, ◌≡◌, ℕ, ◌+◌, ◌++◌, List, [], sym, subst, ◌∙◌, nat_tests}
use Rattle.ghcn_series.proofs.Cited.{nil_from_length, err_from_is_err_and, strip_carriage_return, BeginAlike}
use Rattle.ghcn_series.proofs.AlikeLines.{same_kind}
use Rattle.ghcn_series.proofs.AlikeBeginnings.{begin-line, begin-more, begin-alike}
use Rattle.ghcn_series.proofs.cutter.Cutter.end_line.Goals as goal
use Rattle.ghcn_series.proofs.cutter.Cutter.end_line.Goals.{then-is_empty+in_ok-kind}
use Rattle.ghcn_series.proofs.cutter.Cutter.end_line.Goals.{else-is_empty+in_ok-keep+in_ok-kind-2}

-- a line is added
pub returns-in-Some-clause-added : goal.returns-in-Some-clause-added
returns-in-Some-clause-added g c =
    let line : c.in_ok-line.line ≡ c.args.self.now.line + 1 = search rules in
    let old = c.args.self.now in elim c.if-is_empty.branch [
      | then-is_empty+in_ok-kind w ↦
          let none : old.rest.items ≡ [] = nil_from_length old.rest.items
          (grind (arith, nat_tests, w.if-is_empty.true, c.is_empty.ensures, old.rest.ok.0)) in
          let whole = λ (rest : List ℕ) (alike : BeginAlike rest old.rest.items).
          begin-line (rest ++ c.args.bytes.now) c.args.bytes.now
          (begin-more rest [] c.args.bytes.now (subst (BeginAlike rest) none alike)) in record {
            numbered = line;
            rest = rw w.self-is none;
            counted = λ rest alike. let text = strip_carriage_return (rest ++ c.args.bytes.now) in
                rw (w.self-is, line) at (c.in-Some.ensures text (w.kind-is ∙ w.in_ok-kind.ensures.kind
                ∙ sym (same_kind text (strip_carriage_return c.args.bytes.now) (whole rest alike))));
            read = λ rest alike.
                rw (w.self-is, ← line) (w.in_ok-kind.ensures.read.holds (rest ++ c.args.bytes.now) (whole rest alike));
          }
      | else-is_empty+in_ok-keep+in_ok-kind-2 w ↦
          let kept : List ℕ = w.deref.result.now in
          let same_bytes : BeginAlike (old.rest.items ++ c.args.bytes.now) kept =
          rw w.deref.ensures.value w.in_ok-keep.ensures.kept in
          let whole = λ (rest : List ℕ) (alike : BeginAlike rest old.rest.items).
          begin-line (rest ++ c.args.bytes.now) kept
          (begin-alike (rest ++ c.args.bytes.now) (old.rest.items ++ c.args.bytes.now) kept
          (begin-more rest old.rest.items c.args.bytes.now alike) same_bytes) in record {
            numbered = line;
            rest = rw w.self-is (search rules);
            counted = λ rest alike. let text = strip_carriage_return (rest ++ c.args.bytes.now) in
                rw (w.self-is, w.in_ok-keep.ensures.counts, w.in_ok-keep.ensures.ended, line) at
                (c.in-Some.ensures text (w.kind-is ∙ w.in_ok-kind-2.ensures.kind
                ∙ sym (same_kind text (strip_carriage_return kept) (whole rest alike))));
            read = λ rest alike. rw (w.self-is, ← line, ← w.in_ok-keep.ensures.reader)
                (w.in_ok-kind-2.ensures.read.holds (rest ++ c.args.bytes.now) (whole rest alike));
          }
    ]

-- the error of a line that came in pieces
pub returns-in_err-kind-2-clause-fault : goal.returns-in_err-kind-2-clause-fault
returns-in_err-kind-2-clause-fault g c =
    let p = err_from_is_err_and c.from_residual-in_err-kind-2.result c.from_residual-in_err-kind-2.ensures.1 in
    let old = c.args.self.now in let kept : List ℕ = c.deref.result.now in
    let same_bytes : BeginAlike (old.rest.items ++ c.args.bytes.now) kept =
    rw c.deref.ensures.value c.in_ok-keep.ensures.kept in
    let line : c.in_ok-line.line ≡ old.line + 1 = search rules in rw (p.1, p.2) (record {
      found = λ rest alike. rw (← line, ← c.in_ok-keep.ensures.reader)
          (c.in_err-kind-2.ensures.fault.holds (rest ++ c.args.bytes.now) (begin-line (rest ++ c.args.bytes.now) kept
          (begin-alike (rest ++ c.args.bytes.now) (old.rest.items ++ c.args.bytes.now) kept
          (begin-more rest old.rest.items c.args.bytes.now alike) same_bytes)));
    })
