use Rattle.std.proofs.Common.{◌≡◌, Result, Some, IfErr, sym, subst, ◌∙◌}
use Rattle.ghcn_files.specs.declared.fault.LineWhy.{LineWhy}
use Rattle.ghcn_files.specs.Months.{head_why}
use Rattle.ghcn_files.proofs.Errors.{err_given}
use Rattle.ghcn_files.proofs.Months.{unless_err}
use Rattle.ghcn_files.proofs.KnownHeads.{one_head, head_ends, head_stands}
use Rattle.ghcn_files.proofs.heads.MonthReader.learn.Goals as goal

-- a test that failed
pub returns-in_err-head-clause-err : goal.returns-in_err-head-clause-err
returns-in_err-head-clause-err c =
    let line = c.args.line.now in
    let why = unless_err _ _ _ c.head_of.ensures.value c.in_err-head.was in
    subst (λ (r : Result (Unit {0}) LineWhy). IfErr r (λ why. head_why line ≡ Some why))
    (sym (err_given _ _ c.from_residual.ensures.1)) why

-- lines that begin as this one have its head
pub invariant_of-self : goal.invariant_of-self
invariant_of-self c =
    let line = c.args.line.now in
    let is = sym c.head_of.ensures.value ∙ c.in_ok-head.was in
    record {
      knows = λ known. record {
        head = λ other begins.
            one_head c.in-Some.front.now other line begins (record {
              long = c.in_ok-head.ensures.long;
              ends = head_ends line (head_stands line c.in_ok-head.head is).0;
              front = sym c.in-Some.ensures.cases.same;
            }) ∙ is;
        many = c.days_in_month-self.ensures;
      };
    }

-- the row has the line's
pub returns-clause-head : goal.returns-clause-head
returns-clause-head c =
    let line = c.args.line.now in
    let is = sym c.head_of.ensures.value ∙ c.in_ok-head.was in
    let head = head_stands line c.in_ok-head.head is in
    record { long = c.in_ok-head.ensures.long; fine = head.0; head = head.1; many = c.days_in_month-self.ensures }
