use Rattle.std.proofs.Common.{◌∙◌, refl, sym, subst, arith, inr, inl}
use Rattle.std.proofs.lemmas.Bool.Decides.{nat_tests}
use Rattle.std.proofs.lemmas.Result.{err_from_is_err_and}
use Rattle.rank_input.specs.Named.{AreListed, names_in}
use Rattle.rank_input.proofs.Naming.{are-listed, adds-none, adds-both, stops-after}
use Rattle.rank_input.proofs.NamingFolders.{named_by, IsNamed, Turn, turn, names-more, more-are-some}
use Rattle.rank_input.proofs.NamingFolders.{none-there, some-there}
use Rattle.rank_input.proofs.named.add_listed.Goals as goal
use Rattle.rank_input.proofs.named.add_listed.Goals.{then-null, else-null, then-null-2, else-null-2}
use Rattle.rank_input.proofs.named.add_listed.Goals.{After-next, After-add_named}

-- at first nothing is added
pub loop-part-init : goal.loop-part-init
loop-part-init g c = record { adds = adds-none _ _; empty = refl }

-- the text that is read is that of the list
listed : (g : _) (c : After-next g) → AreListed (g.A.Archive.bytes_of c.args.archive.now)
    (g.A.Archive.opens c.args.archive.now) c.args.null c.args.list.now
    (names_in c.args.null c.in-Ok-from_utf8.text.now)
listed g c = are-listed _ _ _ _ c.list_path.result.now _ c.in-Ok.text.items _ c.list_path.ensures
    (c.in-Ok-from_utf8.ensures.cases.0 ∙ c.deref.ensures.value) c.in-Ok.ensures.whole c.in-Ok.ensures.opened refl

-- the loop goes over its parts
at-turn : (g : _) (c : After-next g) → Turn c.args.null c.in-Ok-from_utf8.text.now c.loop-part.yielded c.next.result
at-turn g c =
    let split = c.split-part-items.ensures in
    turn c.args.null c.in-Ok-from_utf8.text.now c.if-null.end c.loop-part.yielded _ _ _ _ _
    c.into_iter-part-iterator.ensures.into_iter_gives split.text split.has_more split.pattern
    (elim c.if-null.branch [
      | then-null w ↦ rw (w.end-is, w.if-null.true) refl
      | else-null w ↦ rw (w.end-is, w.if-null.false) refl
    ]) c.loop-part.yielded_by c.next.ensures.steps

-- a part that isn't passed over is this name
named : (g : _) (c : After-add_named g) → IsNamed c.args.null c.in-Some.part c.if-null-2.name.now
named g c = record {
  same = elim c.if-null-2.branch [
    | then-null-2 w ↦ rw (w.name-is, w.if-null-2.true) refl
    | else-null-2 w ↦ rw (w.name-is, w.if-null-2.false) w.without_return-name.ensures
  ];
  some = grind (arith, nat_tests, c.is_empty.ensures, c.if-not-is_empty.true);
}

-- a name stands for nothing
pub returns-in_err-add_named-clause-stopped : goal.returns-in_err-add_named-clause-stopped
returns-in_err-add_named-clause-stopped g c =
    let at = goal.at.returns-in_err-add_named-clause-stopped g c in
    let among = (at-turn g at.After-next).among c.in-Some.part _ c.in-Some.is (named g at.After-add_named) in
    let p = err_from_is_err_and c.from_residual-in_err-add_named.result c.from_residual-in_err-add_named.ensures.1 in
    rw (p.1, p.2) (inr (record {
      names = names_in c.args.null c.in-Ok-from_utf8.text.now;
      listed = listed g at.After-next;
      stops = stops-after _ (g.A.Archive.opens c.args.archive.now) _ _ _ _ c.in_err-add_named.field-0.0 _ _ among.1
          c.loop-part.invariant.adds c.in_err-add_named.ensures.stopped;
    }))

-- one name more
pub loop-part-preserved-then-not-is_empty : goal.loop-part-preserved-then-not-is_empty
loop-part-preserved-then-not-is_empty g c =
    let at = goal.at.loop-part-preserved-then-not-is_empty g c in
    let more = names-more c.args.null c.loop-part.yielded c.in-Some.part _ (named g at.After-add_named) in
    record {
      adds = adds-both _ _ _ _ _ _ _ more c.loop-part.invariant.adds c.in_ok-add_named.ensures.added;
      empty = more-are-some _ _ _ more;
    }

-- a list has no name
pub returns-then-is_empty-clause-stopped : goal.returns-then-is_empty-clause-stopped
returns-then-is_empty-clause-stopped g c =
    let at = goal.at.returns-then-is_empty-clause-stopped g c in
    inl (
      c.in_ok-from_str-3.ensures.ok,
      subst (AreListed _ _ _ _) (sym ((at-turn g at.After-next).all c.in-None.is)
          ∙ none-there _ (sym c.loop-part.invariant.empty ∙ c.if-is_empty.true)) (listed g at.After-next),
    )

-- all names are added
pub returns-clause-added : goal.returns-clause-added
returns-clause-added g c =
    let at = goal.at.returns-clause-added g c in
    record {
      names = named_by c.args.null c.loop-part.yielded;
      listed = (
        subst (AreListed _ _ _ _) (sym ((at-turn g at.After-next).all c.in-None.is)) (listed g at.After-next),
        some-there _ (sym c.loop-part.invariant.empty ∙ c.if-is_empty.false),
      );
      adds = c.loop-part.invariant.adds;
    }
