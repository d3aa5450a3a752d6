-- Lines that are taken after others: their stations follow those of the others, or they are refused.
use Rattle.std.proofs.Common.{◌≡◌, ℕ, ◌+◌, ◌<◌, Bool, true, false, List, [], ◌∷◌, ◌++◌, length, take, drop}
use Rattle.std.proofs.Common.{get_or, refl, sym, ap, subst, ◌∙◌, arith, inl, inr, is_some, length-append}
use Rattle.std.specs.Prelude.{◌&&◌, ◌||◌, Option, None, Some, Ok, IfSome}
use Rattle.std.specs.List.{All, enumerate_from, list_all, list_any}
use Rattle.std.proofs.lemmas.List.{drop_more, length-map, take-append-drop, take_all}
use Rattle.std.proofs.lemmas.List.Elements.{All-append, All-from_recursion, recursion_from_All}
use Rattle.std.proofs.lemmas.List.Folds.{list_all-append, list_any-append}
use Rattle.ghcn_fields.specs.Meaning.Bytes.{is_blank}
use Rattle.ghcn_fields.specs.Meaning.Lines.{lines}
use Rattle.ghcn_fields.specs.Lines.{numbered_lines, EndsLine}
use Rattle.ghcn_files.specs.declared.station.Station.{Station}
use Rattle.ghcn_files.specs.StationLines.{is_station, line_why, station_of}
use Rattle.ghcn_files.specs.Listed.{AreOfLines, AreRefusedAfter, FollowLines, ListLines, Numbered, listed, station_lines}
use Rattle.ghcn_files.specs.Listed.{stations_of}
use Rattle.ghcn_files.specs.KeptStations.{AreTaken, IsRefusedLine}
use Rattle.ghcn_files.proofs.Gathered.{HasGathered, IsRight, right_stations, stations-append}
use Rattle.ghcn_files.proofs.LineLaws.{enumerate_from-append, lines-append}
use Rattle.ghcn_files.proofs.ReadLines.{filter-append, not_blank, not_blank-line}
use Rattle.ghcn_files.proofs.Together.{right_again, stations_again}

-- ---- all lines are taken

-- after all lines their stations are held after the others
pub held_at_end : (before : List Station) (text : List ℕ) (k : ℕ) (held : List Station) (keys : List (ℕ × ℕ × ℕ))
    → k ≡ length (numbered_lines text) → HasGathered before (numbered_lines text) k held keys
    → AreOfLines text (stations_of (station_lines text)) × (held ≡ before ++ stations_of (station_lines text))
held_at_end before text k held keys e h =
    let all : take k (numbered_lines text) ≡ numbered_lines text =
    take_all k (numbered_lines text) (omega (arith, e)) in (
      record { right = subst (λ (ls : List Numbered). All IsRight (not_blank ls)) all h.right; all = refl },
      h.held_is ∙ ap (λ (ls : List Numbered). before ++ stations_of (not_blank ls)) all,
    )

-- and have their fields in range
pub taken_at_end : (before : List Station) (text : List ℕ) (k : ℕ) (held : List Station) (keys firsts : List (ℕ × ℕ × ℕ))
    → k ≡ length (numbered_lines text) → AreTaken before firsts → HasGathered before (numbered_lines text) k held keys
    → AreTaken held keys
taken_at_end before text k held keys firsts e taken h =
    let end = held_at_end before text k held keys e h in
    record {
      own = h.own;
      few = h.few;
      right = ap (list_all is_station) end.1
          ∙ list_all-append is_station before (stations_of (station_lines text))
          ∙ ap (λ (b : Bool). b && list_all is_station (stations_of (station_lines text))) taken.right
          ∙ right_stations (station_lines text) end.0.right;
    }

-- a text without lines has no stations
pub no_lines : AreOfLines [] []
no_lines = record { right = λ k d lt. absurd (omega (arith, lt)); all = refl }

-- the stations of whole lines, and then those of a text, are those of both
both_lines : (before text : List ℕ) (first next : List Station) → EndsLine before → AreOfLines before first
    → AreOfLines text next → AreOfLines (before ++ text) (first ++ next)
both_lines before text first next ends one two =
    let n : ℕ = 1 + length (lines before) in
    let others : List Numbered = not_blank (enumerate_from n (lines text)) in
    let whole : station_lines (before ++ text) ≡ station_lines before ++ others =
    ap (λ (ls : List (List ℕ)). not_blank (enumerate_from 1 ls)) (lines-append before text ends)
    ∙ ap not_blank (enumerate_from-append 1 (lines before) (lines text))
    ∙ filter-append (numbered_lines before) (enumerate_from n (lines text)) in
    record {
      right = subst (All IsRight) (sym whole) (All-append IsRight (station_lines before) others one.right
          (All-from_recursion IsRight others
          (right_again 1 n (lines text) (recursion_from_All IsRight (station_lines text) two.right))));
      all = ap (λ (ss : List Station). ss ++ next) one.all
          ∙ ap (λ (ss : List Station). stations_of (station_lines before) ++ ss)
          (two.all ∙ stations_again 1 n (lines text))
          ∙ sym (stations-append (station_lines before) others) ∙ ap stations_of (sym whole);
    }

-- so the stations of a text follow those of the lines before it
pub follow_lines : (before : List Station) (text : List ℕ) (k : ℕ) (held : List Station) (keys : List (ℕ × ℕ × ℕ))
    → k ≡ length (numbered_lines text) → HasGathered before (numbered_lines text) k held keys
    → FollowLines before text held
follow_lines before text k held keys e h =
    let end = held_at_end before text k held keys e h in
    record {
      holds = λ earlier ends of.
          subst (AreOfLines (earlier ++ text)) (sym end.1)
          (both_lines earlier text before (stations_of (station_lines text)) ends of end.0);
    }

-- the stations of a text that is taken alone are its list, if they are kept
pub listed_alone : (text : List ℕ) (first read : List Station) (kept : Option (List Station)) → first ≡ []
    → FollowLines first text read → IfSome kept (λ ss. ss ≡ read) → IfSome kept ListLines
    → IfSome kept (λ ss. listed text ≡ Ok ss)
listed_alone text first read None none follow is lists = tt
listed_alone text first read (Some ss) none follow is lists =
    let of : AreOfLines text read = follow.holds [] (inl refl) (subst (AreOfLines []) (sym none) no_lines) in
    lists text (subst (AreOfLines text) (sym is) of)

-- ---- a line is refused

-- one of two is true if the second is
or_true : (b : Bool) → (b || true) ≡ true
or_true true = refl
or_true false = refl

-- the lines of a text are refused if one of them is
pub refused_after : (before : List Station) (text : List ℕ) (k : ℕ) (held : List Station) (keys : List (ℕ × ℕ × ℕ))
    (l : Numbered) → k < length (numbered_lines text) → l ≡ get_or (numbered_lines text) k l → is_blank l.1 ≡ false
    → IsRefusedLine l.1 held → HasGathered before (numbered_lines text) k held keys → AreRefusedAfter before text
refused_after before text k held keys l lt is shown bad h =
    let all : List Numbered = numbered_lines text in
    let has_error = λ (x : Numbered). is_some (line_why x.1) in
    let earlier : List Numbered = not_blank (take k all) in
    let later : List Numbered = not_blank (drop (k + 1) all) in
    let parts : all ≡ take k all ++ l ∷ drop (k + 1) all =
    sym (take-append-drop k all) ∙ ap (λ (ls : List Numbered). take k all ++ ls) (drop_more all k l lt)
    ∙ ap (λ (x : Numbered). take k all ++ x ∷ drop (k + 1) all) (sym is) in
    let whole : station_lines text ≡ earlier ++ l ∷ later =
    ap not_blank parts ∙ filter-append (take k all) (l ∷ drop (k + 1) all)
    ∙ ap (λ (ls : List Numbered). earlier ++ ls) (not_blank-line l (drop (k + 1) all) shown) in
    elim bad [
      | inl error ↦ inl (ap (list_any has_error) whole ∙ list_any-append has_error earlier (l ∷ later)
          ∙ ap (λ (b : Bool). list_any has_error earlier || (b || list_any has_error later)) error
          ∙ or_true (list_any has_error earlier))
      | inr full ↦ inr (omega (
        arith,
        full,
        ap (λ (ss : List Station). length ss) h.held_is,
        length-append before (stations_of earlier),
        length-map earlier (λ (x : Numbered). station_of x.1),
        ap (λ (ls : List Numbered). length ls) whole,
        length-append earlier (l ∷ later),
      ))
    ]
