use Rattle.std.proofs.Common.{◌≡◌, ℕ, List, [], ◌∷◌, ◌++◌, ◌∙◌, ap, append_assoc, rules, w32}
use Rattle.std.proofs.lemmas.Int.{to_z-of_z}
use Rattle.csv.specs.Records.{fields_of}
use Rattle.ghcn_fields.specs.Meaning.NumberTexts.{four_places}
use Rattle.rank_table.specs.Tables.{Fields}
use Rattle.rank_table.proofs.records.add_place.Goals as goal

-- three fields that are added one after the other
three : (old one two new : Fields) (a b c x y z : List ℕ) → one ≡ old ++ a ∷ [] → two ≡ one ++ b ∷ []
    → a ≡ x → b ≡ y → c ≡ z → new ≡ two ++ c ∷ [] → new ≡ old ++ (x ∷ y ∷ z ∷ [])
three old one two new a b c x y z first second is_a is_b is_c third =
    third ∙ ap (λ (fs : Fields). fs ++ c ∷ []) (second ∙ ap (λ (fs : Fields). fs ++ b ∷ []) first)
    ∙ append_assoc (old ++ a ∷ []) (b ∷ []) (c ∷ []) ∙ append_assoc old (a ∷ []) (b ∷ c ∷ [])
    ∙ ap (λ (f : List ℕ). old ++ f ∷ b ∷ c ∷ []) is_a ∙ ap (λ (f : List ℕ). old ++ x ∷ f ∷ c ∷ []) is_b
    ∙ ap (λ (f : List ℕ). old ++ x ∷ y ∷ f ∷ []) is_c

-- the three fields of a place
pub returns : goal.returns
returns c =
    three (fields_of c.args.row.now) (fields_of c.push.new.row) (fields_of c.push-2.new.row)
    (fields_of c.push-3.new.row) _ _ _ _ _ _ c.in_ok-push.ensures.fields c.in_ok-push-2.ensures.fields
    (c.deref.ensures.value ∙ c.in_ok-degrees_text.ensures
    ∙ ap four_places (to_z-of_z w32 c.args.station.now.latitude (search rules)))
    (c.deref-2.ensures.value ∙ c.in_ok-degrees_text-2.ensures
    ∙ ap four_places (to_z-of_z w32 c.args.station.now.longitude (search rules)))
    (c.deref-3.ensures.value ∙ c.in_ok-elevation_text.ensures) c.in_ok-push-3.ensures.fields
