use Rattle.std.proofs.Common.{ℕ, ◌++◌, sym, ap, subst, ◌∙◌, rules}
use Rattle.std.specs.List.Sorted.{IsBinarySearchResult}
use Rattle.std.proofs.lemmas.List.Sorted.{answers_always}
use Rattle.ghcn_files.specs.KeptStations.{id_key, key_cmp}
use Rattle.ghcn_files.proofs.OrderedKeys.{place_found, searched}
use Rattle.ghcn_files.proofs.keys.place_among.Goals as goal

-- the key of the ID is found beside its place
pub returns-in-Ok : goal.returns-in-Ok
returns-in-Ok c =
    let keys = c.args.keys.now in
    let found = c.binary_search_by_key.result in
    let facts = c.binary_search_by_key.ensures in
    let answered : ℕ × ℕ → Type 0 = λ k. IsBinarySearchResult (λ x. key_cmp (id_key x) k) keys found in
    let by_key = subst answered c.key.ensures.key
    (facts.position (λ k. (k.0, k.1)) (answers_always _ _ _ (λ f a r g called. search rules))) in
    ap (place_found keys (0, 0, 0)) (sym c.in-Ok.is)
    ∙ searched (c.args._list.now ++ c.args._rest.now) c.args.id.now c.requires.list c.key.ensures.bytes keys found (0, 0, 0) c.requires.rise
    c.requires.own facts.bound by_key

-- if it isn't found, the ID has no place
pub returns-in-Err : goal.returns-in-Err
returns-in-Err c =
    let keys = c.args.keys.now in
    let found = c.binary_search_by_key.result in
    let facts = c.binary_search_by_key.ensures in
    let answered : ℕ × ℕ → Type 0 = λ k. IsBinarySearchResult (λ x. key_cmp (id_key x) k) keys found in
    let by_key = subst answered c.key.ensures.key
    (facts.position (λ k. (k.0, k.1)) (answers_always _ _ _ (λ f a r g called. search rules))) in
    ap (place_found keys (0, 0, 0)) (sym c.in-Err.is)
    ∙ searched (c.args._list.now ++ c.args._rest.now) c.args.id.now c.requires.list c.key.ensures.bytes keys found (0, 0, 0) c.requires.rise
    c.requires.own facts.bound by_key
