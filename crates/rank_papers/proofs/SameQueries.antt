-- Queries that can be asked are the same if their texts are, and scores if the test says so.
use Rattle.std.proofs.Common.{◌≡◌, inl, ℕ, true, List, [], ◌∷◌, ◌++◌, Option, Some, None, Ok, refl, ap, ◌∙◌, ℤ}
use Rattle.std.specs.Prelude.{codes}
use Rattle.std.specs.List.{flat_map}
use Rattle.std.specs.Option.{option_eq}
use Rattle.std.specs.Ordering.{int_eq}
use Rattle.std.specs.Cmp.Lexicographic.{bytes_decides}
use Rattle.std.proofs.lemmas.Bool.Decides.{Decides-int_eq}
use Rattle.rank_query.specs.Meaning.Asked.{Query, IsAsked}
use Rattle.rank_query.specs.Meaning.QueryTexts.{query_text}
use Rattle.rank_papers.specs.Meaning.Report.{text_line}
use Rattle.rank_papers.specs.Papers.{same_query}
use Rattle.rank_papers.specs.Meaning.Certificate.{title_line, kth_line, entry_line, end_line}
use Rattle.rank_papers.specs.Certificate.{Certified, certificate_text, counted}
use Rattle.rank_papers.specs.CertificateLines.{read_certificate}
use Rattle.rank_papers.specs.Laws.{CertificatesAreRead}

-- ---- queries

module _ (certificates : CertificatesAreRead) where
  -- a certificate of a query that says nothing else
  abbrev bare : Query → Certified
  bare q = record { version = 1; query = q; kth = None; entries = []; counts = [] }

  -- its text is read as it
  bare_read : (q : Query) → IsAsked q → read_certificate (certificate_text (bare q)) ≡ Ok (bare q)
  bare_read q asked = (certificates (certificate_text (bare q)) (bare q)).1
      (record { can_be = record { asked = asked; kth = tt; entries = tt; counts = inl (refl, refl) }; text = refl })

  -- queries that can be asked are the same if their texts are
  pub one_query : (a b : Query) → IsAsked a → IsAsked b → same_query a b ≡ true → a ≡ b
  one_query a b can_a can_b e =
      let texts : query_text a ≡ query_text b = (bytes_decides (query_text a) (query_text b)).0 e in
      let papers : certificate_text (bare a) ≡ certificate_text (bare b) =
      ap (λ (t : List ℕ). title_line 1
      ++ text_line (codes "query" ∷ t ∷ [])
      ++ kth_line None
      ++ flat_map (entry_line 1) (counted [] [])
      ++ end_line 0) texts in
      let read_a = bare_read a can_a in
      let read_b = bare_read b can_b in
      let other : read_certificate (certificate_text (bare a)) ≡ Ok (bare b) = ap read_certificate papers ∙ read_b in
      let same : bare a ≡ bare b = cc in
      ap (λ (z : Certified). z.query) same

-- a query has one text
pub own_query : (a b : Query) → a ≡ b → same_query a b ≡ true
own_query a b e =
    ap (λ (x : Query). same_query x b) e ∙ (bytes_decides (query_text b) (query_text b)).1 refl

-- ---- scores

-- scores that are the same are equal
pub score_from : (a b : Option ℤ) → option_eq int_eq a b ≡ true → a ≡ b
score_from None None e = refl
score_from None (Some b) e = absurd cc
score_from (Some a) None e = absurd cc
score_from (Some a) (Some b) e = ap (λ (z : ℤ). Some z) ((Decides-int_eq a b).0 e)

-- and back
pub score_to : (a b : Option ℤ) → a ≡ b → option_eq int_eq a b ≡ true
score_to a b e = ap (λ (o : Option ℤ). option_eq int_eq o b) e ∙ own b
  where
    own : (o : Option ℤ) → option_eq int_eq o o ≡ true
    own None = refl
    own (Some z) = (Decides-int_eq z z).1 refl
