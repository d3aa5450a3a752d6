-- A station list that is read piece by piece.
use Rattle.std.proofs.Common.{◌≡◌, ℕ, ◌<◌, Bool, true, List, [], ◌∷◌, ◌++◌, length, take, drop, refl, sym, ap, subst, ◌∙◌}
use Rattle.std.proofs.Common.{append_assoc, arith, get_or, inl, inr, ◌+◌}
use Rattle.std.specs.Prelude.{Option, None, Some, IfSome}
use Rattle.std.specs.Option.{option_map}
use Rattle.std.specs.Io.KnownBytes.{Consumes, Keeps, IsAtEnd}
use Rattle.std.proofs.lemmas.Bool.Decides.{nat_tests}
use Rattle.std.proofs.lemmas.List.{append-nil, take-append-drop, take_more}
use Rattle.memchr.specs.Find.{IsLastByte, Passes, is_byte}
use Rattle.ghcn_fields.specs.Lines.{EndsLine}
use Rattle.ghcn_files.specs.declared.station.Station.{Station}
use Rattle.ghcn_files.specs.Listed.{AreOfLines, FollowLines, ListLines, ListTogether}
use Rattle.ghcn_files.proofs.Following.{no_lines}
use Rattle.rank_input.specs.Feeding.{AreAllOf}
use Rattle.rank_input.specs.Lists.{ListsStretch, TakesLines, TakesSource}
use Rattle.rank_input.specs.Shares.{stretch_of}
use Rattle.rank_input.proofs.Feedings.{all-read, consumes-kept, consumes-more, consumes-nil}
use Rattle.rank_input.proofs.TakenStretches.{cut_known}

-- a list that has no length is empty
pub no_items : (xs : List ℕ) → length xs ≡ 0 → xs ≡ []
no_items [] e = refl
no_items (x ∷ xs) e = absurd (omega (arith, e))

-- whole lines and then others are whole lines
ends_both : (xs ys : List ℕ) → EndsLine xs → EndsLine ys → EndsLine (xs ++ ys)
ends_both xs ys one (inl none) =
    subst EndsLine (sym (append-nil xs) ∙ ap (λ (zs : List ℕ). xs ++ zs) (sym none)) one
ends_both xs ys one (inr line) =
    inr (xs ++ line.0, ap (λ (zs : List ℕ). xs ++ zs) line.1 ∙ sym (append_assoc xs line.0 (10 ∷ [])))

-- what comes before a line feed, and this, end a line
ends_at : (text : List ℕ) (last : ℕ) → last < length text → Passes (is_byte 10) text last → EndsLine (take (last + 1) text)
ends_at text last lt feed =
    let is : get_or text last 0 ≡ 10 = grind (arith, nat_tests) in
    inr (take last text, take_more text last 0 lt ∙ ap (λ (b : ℕ). take last text ++ b ∷ []) is)

-- whole lines of a text are taken, and the rest is left
pub taken_whole : (stations more : List Station) (text lines tail rest : List ℕ) (last : ℕ)
    → IsLastByte (is_byte 10) text (Some last) → lines ≡ take (last + 1) text → tail ≡ drop (last + 1) text
    → rest ≡ tail → FollowLines stations lines more → TakesLines stations text rest more
taken_whole stations more text lines tail rest last found front back same follow = record {
  lines = lines;
  parts = sym (ap (λ (zs : List ℕ). lines ++ zs) (same ∙ back) ∙ ap (λ (zs : List ℕ). zs ++ drop (last + 1) text) front
      ∙ take-append-drop (last + 1) text);
  ends = subst EndsLine (sym front) (ends_at text last found.0.high found.1);
  taken = follow;
}

-- none is taken if no line is whole
pub taken_none : (stations : List Station) (text : List ℕ) → TakesLines stations text text stations
taken_none stations text = record {
  lines = [];
  parts = refl;
  ends = inl refl;
  taken = record { holds = λ before ends of. subst (λ (t : List ℕ). AreOfLines t stations) (sym (append-nil before)) of };
}

-- of all bytes that a source had, whole lines were taken, a text after them was read, and these are left
pub record AreTakenTo (all left : Option (List ℕ)) (stations : List Station) (text : List ℕ) : Type 0 where
  pub lines : List ℕ
  pub parts : Consumes all left (lines ++ text)
  pub ends : EndsLine lines
  pub of : AreOfLines lines stations

-- at first nothing is
pub taken-nothing : (all : Option (List ℕ)) (stations : List Station) (text : List ℕ) → stations ≡ [] → text ≡ []
    → AreTakenTo all all stations text
taken-nothing all stations text none empty = record {
  lines = [];
  parts = subst (Consumes all all) (sym empty) (consumes-nil all);
  ends = inl refl;
  of = subst (AreOfLines []) (sym none) no_lines;
}

-- a piece more is read, and its whole lines are taken
pub taken-more : (all left next : Option (List ℕ)) (stations more : List Station) (text piece longer rest : List ℕ)
    → AreTakenTo all left stations text → Consumes left next piece → longer ≡ text ++ piece
    → TakesLines stations longer rest more → AreTakenTo all next more rest
taken-more all left next stations more text piece longer rest was is added takes = record {
  lines = was.lines ++ takes.lines;
  parts = subst (Consumes all next)
      (append_assoc was.lines text piece ∙ ap (λ (zs : List ℕ). was.lines ++ zs) (sym added ∙ takes.parts)
      ∙ sym (append_assoc was.lines takes.lines rest))
      (consumes-more all left next (was.lines ++ text) piece was.parts is);
  ends = ends_both was.lines takes.lines was.ends takes.ends;
  of = takes.taken.holds was.lines was.ends was.of;
}

-- a read that returned nothing
pub taken-kept : (all left next : Option (List ℕ)) (stations : List Station) (text : List ℕ)
    → AreTakenTo all left stations text → Keeps left next → AreTakenTo all next stations text
taken-kept all left next stations text was is = record {
  lines = was.lines;
  parts = consumes-kept all left next (was.lines ++ text) was.parts is;
  ends = was.ends;
  of = was.of;
}

-- all is taken if a read returned nothing, and then what is left
pub taken-end : (all left next : Option (List ℕ)) (stations more : List Station) (text : List ℕ) (n : ℕ)
    (buffer : List ℕ) (is_whole : Bool) → AreTakenTo all left stations text → n ≡ 0
    → Consumes left next (take n buffer) × (n ≡ 0 → 0 < length buffer → IsAtEnd next) → 0 < length buffer
    → FollowLines stations text more → (is_whole ≡ true → text ≡ []) → TakesSource all more is_whole
taken-end all left next stations more text n buffer is_whole was none is some follow whole = record {
  text = was.lines ++ text;
  all = all-read all left next (was.lines ++ text) was.parts
      (subst (λ k. Consumes left next (take k buffer)) none is.0) (is.1 none some);
  lines = follow.holds was.lines was.ends was.of;
  ends = λ e. ends_both was.lines text was.ends (inl (whole e));
}

-- ---- stretches

-- the list of a source that is a stretch of a file
pub stretch_listed : (known left : Option (List ℕ)) (opened : Type 0) (from : ℕ) (count : Option ℕ)
    (reader : List Station) (kept : Option (List Station)) (is_whole : Bool) → opened
    → left ≡ option_map (λ bytes. stretch_of from count bytes) known → TakesSource left reader is_whole
    → IfSome count (λ n. is_whole ≡ true) → IfSome kept (λ ss. ss ≡ reader) → IfSome kept ListLines
    → IfSome kept (ListsStretch known opened from count)
stretch_listed known left opened from count reader None is_whole was stretch takes whole is lists = tt
stretch_listed known left opened from count reader (Some ss) is_whole was stretch takes whole is lists = record {
  was_opened = was;
  text = takes.text;
  all = subst (λ (k : Option (List ℕ)). AreAllOf k takes.text) stretch takes.all;
  is = lists takes.text (subst (AreOfLines takes.text) (sym is) takes.lines);
  ends = by count whole;
}
  where
    by : (count : Option ℕ) → IfSome count (λ n. is_whole ≡ true) → IfSome count (λ n. EndsLine takes.text)
    by None none = tt
    by (Some n) e = takes.ends e

-- the list of two stretches of a file, cut in two, is that of the file
pub stretches_listed : (known : Option (List ℕ)) (opened : Type 0) (cut : ℕ) (first next : List Station)
    (both : Option (List Station)) → ListsStretch known opened 0 (Some cut) first
    → ListsStretch known opened cut None next → IfSome both (ListTogether first next)
    → IfSome both (ListsStretch known opened 0 None)
stretches_listed known opened cut first next None one two together = tt
stretches_listed known opened cut first next (Some ss) one two together = record {
  was_opened = one.was_opened;
  text = one.text ++ two.text;
  all = cut_known None cut None known one.text two.text refl one.all two.all;
  is = together.holds one.text two.text one.ends one.is two.is;
  ends = tt;
}

-- a stretch that is all of a file
pub whole_stretch : (known : Option (List ℕ)) (text : List ℕ)
    → AreAllOf (option_map (λ bytes. stretch_of 0 None bytes) known) text → AreAllOf known text
whole_stretch None text all = tt
whole_stretch (Some bytes) text all = all
