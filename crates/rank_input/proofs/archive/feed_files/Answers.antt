use Rattle.std.proofs.Common.{◌≡◌, ℕ, List, true, false, map, sym, ap, ◌∙◌, subst, arith}
use Rattle.std.specs.Prelude.{string_bytes}
use Rattle.rank_input.specs.Feeding.{FeedsFiles, StopsAt}
use Rattle.rank_input.proofs.Feedings.{files-none, files-next, known-all}
use Rattle.rank_input.proofs.Openings.{opened-next, opened-all, stops-next}
use Rattle.rank_input.proofs.archive.feed_files.Goals as goal

-- at first no file is fed
pub loop-path-init : goal.loop-path-init
loop-path-init g c = record {
  some = c.requires;
  fed = files-none g.L.LineReader.has_read c.args.intake.now;
  opened = tt;
}

-- the intake was given something
pub feed-requires : goal.feed-requires
feed-requires g c = c.loop-path.invariant.some

-- one file more is fed
pub loop-path-preserved : goal.loop-path-preserved
loop-path-preserved g c =
    let bytes_of = g.A.Archive.bytes_of c.args.archive.now in
    let same : g.A.File.Read.remaining c.in-Ok.file ≡ bytes_of (string_bytes c.path-item.result) =
    c.in-Ok.ensures.bytes ∙ ap (λ (t : List ℕ). bytes_of t) c.deref.ensures in
    record {
      some = c.in-Ok-feed.ensures.going;
      fed = files-next g.L.LineReader.has_read c.args.intake.now c.loop-path.intake c.feed.new.intake
          (λ path. bytes_of (string_bytes path))
          c.args.paths.now c.loop-path.path-index c.path-item.result (g.A.File.Read.remaining c.in-Ok.file)
          c.loop-path-test.true (sym c.path-item.is) same c.loop-path.invariant.fed c.in-Ok-feed.ensures.fed;
      opened = opened-next (g.A.Archive.opens c.args.archive.now) string_bytes c.args.paths.now c.loop-path.path-index
          c.path-item.result c.loop-path-test.true (sym c.path-item.is) c.loop-path.invariant.opened
          (subst (λ (p : List ℕ). g.A.Archive.opens c.args.archive.now p true) c.deref.ensures c.in-Ok.ensures.opened);
    }

-- a file can't be opened
pub returns-in_default-clause-stopped : goal.returns-in_default-clause-stopped
returns-in_default-clause-stopped g c =
    let opens = g.A.Archive.opens c.args.archive.now in
    subst (λ (p : List ℕ). StopsAt opens (map string_bytes c.args.paths.now) p) (sym c.deref-in_default.ensures)
    (stops-next opens string_bytes c.args.paths.now c.loop-path.path-index c.path-item.result c.loop-path-test.true
    (sym c.path-item.is) c.loop-path.invariant.opened
    (false, subst (λ (p : List ℕ). opens p false) c.deref.ensures c.in_default.ensures.failed))

-- or can't be read
pub returns-in_default-feed-clause-stopped : goal.returns-in_default-feed-clause-stopped
returns-in_default-feed-clause-stopped g c =
    let opens = g.A.Archive.opens c.args.archive.now in
    subst (λ (p : List ℕ). StopsAt opens (map string_bytes c.args.paths.now) p) (sym c.deref-in_default-feed.ensures)
    (stops-next opens string_bytes c.args.paths.now c.loop-path.path-index c.path-item.result c.loop-path-test.true
    (sym c.path-item.is) c.loop-path.invariant.opened
    (true, subst (λ (p : List ℕ). opens p true) c.deref.ensures c.in-Ok.ensures.opened))

-- all files are opened
pub returns-clause-opened : goal.returns-clause-opened
returns-clause-opened g c =
    opened-all (g.A.Archive.opens c.args.archive.now) string_bytes c.args.paths.now c.loop-path.path-index
    (omega (arith, c.loop-path-test.false)) c.loop-path.invariant.opened

-- all files are fed
pub returns-clause-fed : goal.returns-clause-fed
returns-clause-fed g c =
    let bytes_of = g.A.Archive.bytes_of c.args.archive.now in
    subst (FeedsFiles g.L.LineReader.has_read c.args.intake.now c.loop-path.intake)
    (known-all (λ path. bytes_of (string_bytes path)) c.args.paths.now c.loop-path.path-index
    (omega (arith, c.loop-path-test.false))) c.loop-path.invariant.fed
