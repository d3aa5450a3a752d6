use Rattle.std.proofs.Common.{◌≡◌, ℕ, List, [], ◌∷◌, ◌++◌, cond, Some, sym, ap, subst, ◌∙◌, length}
use Rattle.std.specs.Ordering.{is_eq}
use Rattle.ghcn_files.specs.declared.station.Station.{Station}
use Rattle.ghcn_files.specs.KeptStations.{AreKept, key_cmp, key_of, kept_place}
use Rattle.ghcn_files.specs.StationLines.{station_of}
use Rattle.ghcn_files.proofs.Adding.{kept_more}
use Rattle.ghcn_files.proofs.listing.push_with_place.Goals as goal

-- the place of the station's ID is kept with it
pub returns-in-Ok-clause-kept : goal.returns-in-Ok-clause-kept
returns-in-Ok-clause-kept c =
    let station = station_of c.args.line.now in
    let held = c.args.list.now.items in
    let places = c.args.places.now.entries in
    let place : c.len-place.result ≡ length held = c.len-place.ensures ∙ c.args.list.now.ok.0 in
    let P : List Station → Type 0 = λ ss. AreKept ss c.insert.new.self.entries in
    let added = c.in_ok-push.ensures.items ∙ ap (λ (s : Station). held ++ s ∷ []) c.of_numbers.ensures in
    subst P (sym added) (
    kept_more held places c.insert.new.self.entries station c.requires.kept c.requires.new c.requires.room
    c.requires.right
    (λ id.
    c.in-Ok.ensures.updates.0 (key_of id.0)
    ∙ ap (λ (k : ℕ × ℕ). cond (is_eq (key_cmp k (key_of id.0))) (Some c.len-place.result) (kept_place places id))
    c.key_of_line.ensures.key
    ∙ ap (λ (n : ℕ). cond (is_eq (key_cmp (key_of station.id.0) (key_of id.0))) (Some n) (kept_place places id))
    place))
