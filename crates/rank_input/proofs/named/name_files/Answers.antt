use Rattle.std.proofs.Common.{◌≡◌, ◌∷◌, [], List, ℕ, map, take, drop, suc, refl, sym, ap, subst, arith, Global}
use Rattle.std.specs.Prelude.{String, string_bytes, option_map, None}
use Rattle.std.proofs.lemmas.Result.{err_from_is_err_and}
use Rattle.rank_input.specs.NamingStops.{IsNothing}
use Rattle.rank_input.specs.Named.{AddsNamed}
use Rattle.rank_input.proofs.Naming.{first-next, first-all, cut-map, none-left, adds-none, adds-both, adds-all, stops-after, stops-at-word, stops-after-words}
use Rattle.rank_input.proofs.named.name_files.Goals as goal
use Rattle.rank_input.proofs.named.name_files.Goals.{in-Some+in_ok-add_listed, in_default}

-- one word more
pub loop-word-preserved : goal.loop-word-preserved
loop-word-preserved g c =
    let names_of = g.A.Archive.names_of c.args.archive.now in
    let was = map string_bytes (take c.loop-word.word-index c.args.words.now) in
    let word = string_bytes c.word-item.result in
    let adds : AddsNamed names_of (word ∷ []) (map string_bytes c.loop-word.paths.items)
    (map string_bytes c.add_named.new.paths.items) =
    subst (λ (t : List ℕ). AddsNamed names_of (t ∷ []) (map string_bytes c.loop-word.paths.items)
    (map string_bytes c.add_named.new.paths.items)) c.deref.ensures c.in_ok-add_named.ensures.added in
    adds-both names_of _ was (word ∷ []) [] (map string_bytes c.loop-word.paths.items)
    (map string_bytes c.add_named.new.paths.items) (first-next string_bytes c.args.words.now c.loop-word.word-index
    c.word-item.result c.loop-word-test.true (sym c.word-item.is)) c.loop-word.invariant adds

-- a word stands for nothing
pub returns-in_err-add_named-clause-stopped : goal.returns-in_err-add_named-clause-stopped
returns-in_err-add_named-clause-stopped g c =
    let names_of = g.A.Archive.names_of c.args.archive.now in
    let opens = g.A.Archive.opens c.args.archive.now in
    let bytes_of = g.A.Archive.bytes_of c.args.archive.now in
    let words = c.args.words.now in
    let i = c.loop-word.word-index in
    let p = err_from_is_err_and c.from_residual-in_err-add_named.result c.from_residual-in_err-add_named.ensures.1 in
    rw (p.1, p.2) (stops-at-word names_of opens bytes_of c.args.null (option_map (λ l. l.now) c.args.list)
    (map string_bytes words) c.in_err-add_named.field-0.0
    (stops-after names_of opens (map string_bytes words) (map string_bytes (take i words))
    (map string_bytes (drop (suc i) words)) (string_bytes c.word-item.result) c.in_err-add_named.field-0.0 []
    (map string_bytes c.loop-word.paths.items)
    (cut-map string_bytes words i c.word-item.result c.loop-word-test.true (sym c.word-item.is)) c.loop-word.invariant
    (subst (λ (t : List ℕ). IsNothing opens names_of t c.in_err-add_named.field-0.0) c.deref.ensures
    c.in_err-add_named.ensures.stopped)))

-- words stand for files, and the list stops
pub returns-in_err-add_listed-clause-stopped : goal.returns-in_err-add_listed-clause-stopped
returns-in_err-add_listed-clause-stopped g c =
    let names_of = g.A.Archive.names_of c.args.archive.now in
    let opens = g.A.Archive.opens c.args.archive.now in
    let bytes_of = g.A.Archive.bytes_of c.args.archive.now in
    let words = map string_bytes c.args.words.now in
    let paths = map string_bytes c.loop-word.paths.items in
    let p = err_from_is_err_and c.from_residual-in_err-add_listed.result c.from_residual-in_err-add_listed.ensures.1 in
    rw (p.1, p.2) (stops-after-words names_of opens bytes_of c.args.null (option_map (λ l. l.now) c.args.list) words
    c.in_err-add_listed.field-0.0 (record {
      at = c.in-Some.list.now;
      is = ap (λ o. option_map (λ l. l.now) o) c.in-Some.is;
      paths = paths;
      stood = adds-all names_of words paths
          (subst (λ (ws : List (String Global)). AddsNamed names_of (map string_bytes ws) [] paths)
          (first-all c.args.words.now c.loop-word.word-index (omega (arith, c.loop-word-test.false)))
          c.loop-word.invariant);
      stops = c.in_err-add_listed.ensures.stopped;
    }))

-- words stand for files, and so do the names of a list, if there is one
pub returns-clause-stand : goal.returns-clause-stand
returns-clause-stand g c =
    let names_of = g.A.Archive.names_of c.args.archive.now in
    let words = map string_bytes c.args.words.now in
    let old = map string_bytes c.loop-word.paths.items in
    let were : AddsNamed names_of words [] old =
    subst (λ (ws : List (String Global)). AddsNamed names_of (map string_bytes ws) [] old)
    (first-all c.args.words.now c.loop-word.word-index (omega (arith, c.loop-word-test.false))) c.loop-word.invariant in
    elim c.match-list.branch [
      | in-Some+in_ok-add_listed w ↦
          let is = w.in_ok-add_listed.ensures.added in
          let new = map string_bytes w.add_listed.new.paths.items in
          rw (w.paths-is, w.in-Some.is) (record {
            names = is.names;
            listed = is.listed;
            stand = adds-all names_of _ new (adds-both names_of _ words is.names [] old new refl were is.adds);
          })
      | in_default w ↦
          let none : c.args.list ≡ None = none-left c.args.list w.in_default.not-Some in
          rw (w.paths-is, none) (record {
            names = [];
            listed = refl;
            stand = adds-all names_of _ old (adds-both names_of _ words [] [] old old refl were (adds-none names_of old));
          })
    ]
