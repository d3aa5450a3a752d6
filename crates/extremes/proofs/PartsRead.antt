-- Reports and certificates of parts that are read one after the other.
use Rattle.std.proofs.Common.{◌≡◌, ℕ, zero, suc, ◌+◌, ◌<◌, ◌≤◌, List, [], ◌∷◌, ◌++◌, length, map, take, get_or}
use Rattle.std.proofs.Common.{refl, sym, ap, ◌∙◌, subst, add-one, arith}
use Rattle.std.proofs.lemmas.List.{map-append}
use Rattle.std.specs.List.{AllZip}
use Rattle.std.specs.Prelude.{Option, None, Some, Err}
use Rattle.ghcn_fields.specs.declared.memory.Memory.{Memory as WantOfMemory}
use Rattle.command_line.specs.declared.asked.Part.{Part}
use Rattle.rank_input.specs.Feeding.{AreAllOf, AreOpened, Opening, StopsAt}
use Rattle.rank_input.proofs.Openings.{stops-before, stops-behind}
use Rattle.rank_merge.specs.declared.fault.MergeFault.TheVariants.{Memory}
use Rattle.rank_merge.specs.Merging.{Texts}
use Rattle.extremes.specs.declared.merge.PartTexts.{PartTexts}
use Rattle.extremes.specs.declared.merge.MergingFault.TheVariants.{Parts}
use Rattle.extremes.specs.Merges.{Known, KnownPart, AreBothOf, MergesFiles, known_part, part_paths, parts_paths, texts_of}

-- one part more has all of its bytes
both-more : (known : List KnownPart) (texts : List Texts) (one : KnownPart) (text : Texts)
    → AllZip AreBothOf known texts → AreBothOf one text → AllZip AreBothOf (known ++ one ∷ []) (texts ++ text ∷ [])
both-more [] [] one text all is = (is, tt)
both-more [] (t ∷ ts) one text all is = absurd all
both-more (k ∷ ks) [] one text all is = absurd all
both-more (k ∷ ks) (t ∷ ts) one text all is = (all.0, both-more ks ts one text all.1 is)

module _ {X : Type 0} (f : X → KnownPart) where
  -- what is known of the first parts, and of one more
  first-more : (xs : List X) (i : ℕ) (d : X) → i < length xs
      → map f (take (suc i) xs) ≡ map f (take i xs) ++ f (get_or xs i d) ∷ []
  first-more [] i d lt = absurd (omega arith)
  first-more (x ∷ xs) zero d lt = refl
  first-more (x ∷ xs) (suc i) d lt = ap (λ (ks : List KnownPart). f x ∷ ks) (first-more xs i d (omega arith))

  -- one part more is read
  pub next-read : (xs : List X) (i : ℕ) (x : X) (texts : List PartTexts) (text : PartTexts) → i < length xs
      → get_or xs i x ≡ x → AllZip AreBothOf (map f (take i xs)) (texts_of texts)
      → AreBothOf (f x) (text.report.items, text.certificate.items)
      → AllZip AreBothOf (map f (take (i + 1) xs)) (texts_of (texts ++ text ∷ []))
  next-read xs i x texts text lt at was is =
      subst (λ (ks : List KnownPart). AllZip AreBothOf ks (texts_of (texts ++ text ∷ [])))
      (sym (ap (λ k. map f (take k xs)) (add-one i) ∙ first-more xs i x lt
      ∙ ap (λ y. map f (take i xs) ++ f y ∷ []) at))
      (subst (λ (ts : List Texts). AllZip AreBothOf (map f (take i xs) ++ f x ∷ []) ts)
      (sym (map-append (λ (p : PartTexts). (p.report.items, p.certificate.items)) texts (text ∷ [])))
      (both-more (map f (take i xs)) (texts_of texts) (f x) (text.report.items, text.certificate.items) was is))

-- some texts have all the bytes that are known
some_texts : (known : Option (List ℕ)) → (text : List ℕ) × AreAllOf known text
some_texts None = ([], tt)
some_texts (Some bytes) = (bytes, refl)

-- there are reports and certificates of parts whose bytes are all of those that are known
some_parts : (known : List KnownPart) → (texts : List Texts) × AllZip AreBothOf known texts
some_parts [] = ([], tt)
some_parts (k ∷ ks) =
    let report = some_texts k.0 in
    let certificate = some_texts k.1 in
    let rest = some_parts ks in
    ((report.0, certificate.0) ∷ rest.0, ((report.1, certificate.1), rest.1))

-- out of memory may be returned for any reports and certificates
pub merges-memory : (bytes_of : Known) (opens : Opening) (query : List ℕ) (parts : List Part) (m : WantOfMemory)
    → MergesFiles bytes_of opens query parts (Err (Parts (Memory m)))
merges-memory bytes_of opens query parts m = record {
  opened = tt;
  texts = (some_parts (map (known_part bytes_of) parts)).0;
  all = (some_parts (map (known_part bytes_of) parts)).1;
  merged = (tt, λ asked is. tt);
}

module _ (opens : Opening) where
  opened-more : (parts : List Part) (i : ℕ) (d : Part) → i < length parts
      → AreOpened opens (parts_paths (take i parts)) → AreOpened opens (part_paths (get_or parts i d))
      → AreOpened opens (parts_paths (take (suc i) parts))
  opened-more [] i d lt was is = absurd (omega arith)
  opened-more (p ∷ ps) zero d lt was is = is
  opened-more (p ∷ ps) (suc i) d lt was is =
      (was.0, (was.1.0, opened-more ps i d (omega arith) was.1.1 is))

  -- the report and the certificate of one part more are opened
  pub parts-opened : (parts : List Part) (i : ℕ) (part : Part) → i < length parts → get_or parts i part ≡ part
      → AreOpened opens (parts_paths (take i parts)) → AreOpened opens (part_paths part)
      → AreOpened opens (parts_paths (take (i + 1) parts))
  parts-opened parts i part lt at was is =
      subst (λ k. AreOpened opens (parts_paths (take k parts))) (sym (add-one i))
      (opened-more parts i part lt was (subst (λ p. AreOpened opens (part_paths p)) (sym at) is))

  stops-there : (parts : List Part) (i : ℕ) (d : Part) (path : List ℕ) → i < length parts
      → AreOpened opens (parts_paths (take i parts)) → StopsAt opens (part_paths (get_or parts i d)) path
      → StopsAt opens (parts_paths parts) path
  stops-there [] i d path lt was is = absurd (omega arith)
  stops-there (p ∷ ps) zero d path lt was is = stops-before opens path (part_paths p) (parts_paths ps) is
  stops-there (p ∷ ps) (suc i) d path lt was is =
      stops-behind opens path (part_paths p) (parts_paths ps) (was.0, (was.1.0, tt))
      (stops-there ps i d path (omega arith) was.1.1 is)

  -- or reading stops at one of them
  pub parts-stop : (parts : List Part) (i : ℕ) (part : Part) (path : List ℕ) → i < length parts
      → get_or parts i part ≡ part → AreOpened opens (parts_paths (take i parts))
      → StopsAt opens (part_paths part) path → StopsAt opens (parts_paths parts) path
  parts-stop parts i part path lt at was is =
      stops-there parts i part path lt was (subst (λ p. StopsAt opens (part_paths p) path) (sym at) is)

  -- all of them are opened
  pub parts-all : (parts : List Part) (i : ℕ) → length parts ≤ i → AreOpened opens (parts_paths (take i parts))
      → AreOpened opens (parts_paths parts)
  parts-all [] i le was = tt
  parts-all (p ∷ ps) zero le was = absurd (omega arith)
  parts-all (p ∷ ps) (suc i) le was = (was.0, (was.1.0, parts-all ps i (omega arith) was.1.1))
