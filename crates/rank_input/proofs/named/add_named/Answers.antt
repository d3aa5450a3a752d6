use Rattle.std.proofs.Common.{◌∷◌, [], ◌++◌, List, ℕ, map, ap, ◌∙◌, Global}
use Rattle.std.specs.Prelude.{Vec, String, string_bytes}
use Rattle.std.proofs.lemmas.List.{map-append}
use Rattle.rank_input.proofs.Naming.{adds-one, folder-stands, file-stands}
use Rattle.rank_input.proofs.named.add_named.Goals as goal
use Rattle.rank_input.proofs.named.add_named.Goals.{in-Folder+in_ok-daily-in-Folder+in_ok-append-in-Folder, in_default+in_ok-from_str-in_default+in_ok-push-in_default}

-- a folder adds its daily files, and anything else itself
pub returns-clause-added : goal.returns-clause-added
returns-clause-added g c =
    let names_of = g.A.Archive.names_of c.args.archive.now in
    let path = c.args.path.now in
    let old = c.args.paths.now.items in
    elim c.match-look.branch [
      | in-Folder+in_ok-daily-in-Folder+in_ok-append-in-Folder w ↦
          let daily = w.in_ok-daily-in-Folder.daily.items in
          adds-one names_of path (map string_bytes daily) (map string_bytes old) (map string_bytes c.match-look.paths.items)
          (folder-stands (names_of path) path (map string_bytes daily) w.in_ok-daily-in-Folder.ensures.files)
          (ap (λ (v : Vec (String Global) Global). map string_bytes v.items) w.paths-is
          ∙ ap (λ (ss : List (String Global)). map string_bytes ss) w.in_ok-append-in-Folder.ensures.items
          ∙ map-append string_bytes old daily)
      | in_default+in_ok-from_str-in_default+in_ok-push-in_default w ↦
          let name = w.in_ok-from_str-in_default.field-0 in
          adds-one names_of path (path ∷ []) (map string_bytes old) (map string_bytes c.match-look.paths.items)
          (file-stands (names_of path) c.look.result path c.look.ensures w.in_default.not-Folder)
          (ap (λ (v : Vec (String Global) Global). map string_bytes v.items) w.paths-is
          ∙ ap (λ (ss : List (String Global)). map string_bytes ss) w.in_ok-push-in_default.ensures.items
          ∙ map-append string_bytes old (name ∷ [])
          ∙ ap (λ (t : List ℕ). map string_bytes old ++ t ∷ []) w.in_ok-from_str-in_default.ensures.ok)
    ]
