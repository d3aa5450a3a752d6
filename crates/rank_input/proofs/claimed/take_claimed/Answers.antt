use Rattle.std.proofs.Common.{◌≡◌, ◌+◌, ℕ, List, Bor, Ok, length, take, subst, sym, ap, ◌∙◌, arith, rules}
use Rattle.std.proofs.Math.Seq.{take-length}
use Rattle.std.specs.Prelude.{Option, IfNone, IfSome, Vec}
use Rattle.std.specs.List.{AllByRecursion}
use Rattle.ghcn_files.specs.Listed.{listed}
use Rattle.rank_input.specs.declared.intake.Intake.{Intake}
use Rattle.rank_input.specs.Shares.{paths_of, TakesShare, TakesWhole}
use Rattle.rank_input.specs.Takes.{JoinsFiles}
use Rattle.rank_input.proofs.TakenShares.{each-permutation, last-and-others, shares_alike, taken-from}
use Rattle.rank_input.proofs.TakenShares.{joined-first, joined-next}
use Rattle.rank_input.proofs.claimed.take_claimed.Goals.{in-Some+in_ok-join-in-Some, in-None}
use Rattle.rank_input.proofs.claimed.take_claimed.Goals as goal

-- at first none is joined
pub loop-place-init : goal.loop-place-init
loop-place-init g c =
    let has_read = g.L.LineReader.has_read in
    let bytes_of = g.A.Archive.bytes_of c.args.archive.now in
    let opens = g.A.Archive.opens c.args.archive.now in
    let takes = λ (text : List ℕ) (shares : List (Bor _)). TakesShare has_read bytes_of opens c.args.keep text shares in
    record {
      paths = search rules;
      none = search rules;
      each = λ text is.
          let all = subst (λ (o : Option (Vec _ _)). IfSome o (λ taken. AllByRecursion
          (takes text c.deref.result.now) taken.items)) c.in_ok-taken.was (c.take_by.ensures text is) in
          each-permutation (takes text c.in_ok-shares.shares.items) c.in_ok-taken.taken.items
          c.sort_unstable_by.new.self.items c.sort_unstable_by.ensures.permutation
          (subst (λ (shares : List (Bor _)). AllByRecursion (takes text shares) c.in_ok-taken.taken.items)
          c.deref.ensures.value all);
      joined = λ text is. tt;
    }

-- the share that comes next is of the same station list
pub join-requires : goal.join-requires
join-requires g c =
    let has_read = g.L.LineReader.has_read in
    let bytes_of = g.A.Archive.bytes_of c.args.archive.now in
    let opens = g.A.Archive.opens c.args.archive.now in
    let keep = c.args.keep in
    let text = c.requires.list.0 in
    let shares = c.in_ok-shares.shares.items in
    let takes = TakesShare has_read bytes_of opens keep text shares in
    let next = last-and-others takes c.pop.new.self.items c.in_ok-next.next
    (subst (AllByRecursion takes) (search rules) (c.loop-place.invariant.each text c.requires.list.1)) in
    let share = taken-from has_read bytes_of opens keep text shares c.in_ok-next.next c.loop-place.place
    (search (rules, arith)) c.if-next-place.false next.0 in
    let before = subst (λ (o : Option (Intake _)). IfSome o
    (TakesWhole has_read bytes_of opens keep text (paths_of (take c.loop-place.place shares)))) c.in-Some.is
    (c.loop-place.invariant.joined text c.requires.list.1) in
    shares_alike has_read bytes_of opens keep text (paths_of (take c.loop-place.place shares)) share.0.now
    c.in-Some.before c.in_ok-next.next.intake before share.2

-- it is joined with those before it
pub loop-place-preserved : goal.loop-place-preserved
loop-place-preserved g c =
    let has_read = g.L.LineReader.has_read in
    let bytes_of = g.A.Archive.bytes_of c.args.archive.now in
    let opens = g.A.Archive.opens c.args.archive.now in
    let keep = c.args.keep in
    let shares = c.in_ok-shares.shares.items in
    let next = λ (text : List ℕ) (is : listed text ≡ Ok c.args.list.now).
    last-and-others (TakesShare has_read bytes_of opens keep text shares) c.pop.new.self.items c.in_ok-next.next
    (subst (AllByRecursion (TakesShare has_read bytes_of opens keep text shares)) (search rules)
    (c.loop-place.invariant.each text is)) in
    record {
      paths = c.loop-place.invariant.paths;
      none = tt;
      each = λ text is. (next text is).1;
      joined = λ text is.
          let share = taken-from has_read bytes_of opens keep text shares c.in_ok-next.next c.loop-place.place
          (search (rules, arith)) c.if-next-place.false (next text is).0 in
          elim c.match-all-5.branch [
            | in-Some+in_ok-join-in-Some w ↦
                let before = subst (λ (o : Option (Intake _)). IfSome o
                (TakesWhole has_read bytes_of opens keep text (paths_of (take c.loop-place.place shares)))) w.in-Some.is
                (c.loop-place.invariant.joined text is) in
                joined-next has_read bytes_of opens keep text shares c.loop-place.place share.0 w.in-Some.before
                c.in_ok-next.next.intake c.match-all-5.all share.1 before share.2
                (subst (JoinsFiles has_read w.in-Some.before c.in_ok-next.next.intake) (sym w.all-is)
                w.in_ok-join-in-Some.ensures.joined)
            | in-None w ↦
                let first = subst (λ (o : Option (Intake _)). IfNone o (c.loop-place.place ≡ 0)) w.in-None.is
                c.loop-place.invariant.none in
                subst (TakesWhole has_read bytes_of opens keep text (paths_of (take (c.loop-place.place + 1) shares)))
                (sym w.all-is)
                (joined-first has_read bytes_of opens keep text shares c.loop-place.place share.0
                c.in_ok-next.next.intake share.1 first share.2)
          ];
    }

-- all shares are all files
pub returns : goal.returns
returns g c = λ text is.
    let end : c.loop-place.place ≡ length c.in_ok-shares.shares.items = search (rules, arith) in
    let whole = TakesWhole g.L.LineReader.has_read (g.A.Archive.bytes_of c.args.archive.now)
    (g.A.Archive.opens c.args.archive.now) c.args.keep text in
    let shares = c.in_ok-shares.shares.items in
    subst (λ (paths : List (_)). IfSome c.loop-place.all (whole paths))
    (ap (λ (n : ℕ). paths_of (take n shares)) end ∙ ap paths_of (take-length shares) ∙ c.loop-place.invariant.paths)
    (c.loop-place.invariant.joined text is)
