-- What goes through the sink that holds the best of the open group: the leaders of all contenders.
use Rattle.std.proofs.Common.{◌≡◌, Bool, true, false, cond, ◌&&◌, List, [], ◌∷◌, Some, None}
use Rattle.std.proofs.Common.{refl, sym, ap, ◌∙◌, arith, inl, inr, ℤ, ◌<ℤ◌, int_le}
use Rattle.std.specs.List.{AllByRecursion, fold}
use Rattle.std.specs.Ordering.{is_lt, ordering_reverse}
use Rattle.std.specs.declared.cmp.Ordering.{Ordering}
use Rattle.std.specs.declared.cmp.Ordering.TheVariants.{Less, Equal, Greater}
use Rattle.std.proofs.lemmas.Bool.{cases_Bool, and_parts, and_from}
use Rattle.std.proofs.lemmas.Int.{ints}
use Rattle.ghcn_files.specs.declared.station.StationId.{StationId}
use Rattle.ghcn_files.specs.Meaning.Ids.{same_id}
use Rattle.ghcn_files.proofs.Ordered.{less}
use Rattle.ghcn_files.proofs.IdLaws.{same_id-laws, same_id-turned, same_id-is}
use Rattle.ghcn_fields.specs.Meaning.Days.{is_day}
use Rattle.rank_query.specs.declared.per.Per.{Per}
use Rattle.rank_scores.specs.declared.candidate.Candidate.{Candidate}
use Rattle.rank_scores.specs.declared.floor.Floorless.{Floorless}
use Rattle.rank_scores.specs.declared.leading.Leading.{Leading}
use Rattle.rank_scores.specs.declared.leading.Open.{Open}
use Rattle.rank_scores.specs.Meaning.Order.{precedes, rank_cmp}
use Rattle.rank_scores.specs.Order.{begin_alike}
use Rattle.rank_scores.specs.Meaning.Groups.{same_group, are_rivals}
use Rattle.rank_scores.specs.Groups.{leaders}
use Rattle.rank_scores.specs.Floorless.{offered_to, IgnoresBelow}
use Rattle.rank_scores.specs.Leading.{Held, better, group_end, held_with, leading_with, let_go, opened}
use Rattle.rank_scores.proofs.Rising.{from_each, from_both}
use Rattle.rank_scores.proofs.Ranks.{rank_cmp_total, asym}
use Rattle.rank_scores.proofs.Listing.{tied_alike}
use Rattle.rank_scores.proofs.GroupDays.{group-stretch, group-turned, group-joined, group-alike}
use Rattle.rank_scores.proofs.Leaders.{leaders-first_outdone, leaders-second_outdone, leaders-first_alone}

-- ---- rivals, and which of two precedes

-- rivals are rivals both ways
pub rivals-turned : (per : Per) (a b : Candidate) → are_rivals per a b ≡ true → are_rivals per b a ≡ true
rivals-turned per a b h =
    let parts = and_parts (same_group per a.first b.first) (same_id a.id b.id) h in
    and_from _ _ (group-turned per a.first b.first parts.0) (same_id-turned b.id a.id ∙ parts.1)

-- two rivals of a third are rivals
pub rivals-joined : (per : Per) (a b c : Candidate) → are_rivals per a b ≡ true → are_rivals per b c ≡ true
    → are_rivals per a c ≡ true
rivals-joined per a b c first second =
    let one = and_parts (same_group per a.first b.first) (same_id a.id b.id) first in
    let two = and_parts (same_group per b.first c.first) (same_id b.id c.id) second in
    and_from _ _ (group-joined per a.first b.first c.first one.0 two.0)
    (ap (λ (i : StationId). same_id i c.id) (same_id-is a.id b.id one.1) ∙ two.1)

-- what precedes one that precedes a third precedes this one too
pub precedes-on : (a b c : Candidate) → precedes a b ≡ true → precedes b c ≡ true → precedes a c ≡ true
precedes-on a b c first second =
    ap is_lt (rank_cmp_total.trans a b c (less (rank_cmp a b) first) (less (rank_cmp b c) second))

-- none precedes itself
pub precedes-unlike : (a : Candidate) → precedes a a ≡ false
precedes-unlike a = elim (cases_Bool (precedes a a)) [ inl is ↦ asym a a is | inr fails ↦ fails ]

-- of two that don't begin alike one precedes the other
pub precedes-decided : (a b : Candidate) → begin_alike a b ≡ false → precedes a b ≡ false → precedes b a ≡ true
precedes-decided a b unlike fails = by (rank_cmp a b) refl fails where
  by : (o : Ordering) → rank_cmp a b ≡ o → is_lt o ≡ false → precedes b a ≡ true
  by Less is fails = absurd cc
  by Equal is fails = let alike = tied_alike a b is in absurd cc
  by Greater is fails = ap is_lt (rank_cmp_total.antisymm b a ∙ ap ordering_reverse is)

-- ---- the leaders of contenders that rise

-- each begins later than those before it
abbrev pub Later : List Candidate → Type 0
Later [] = Unit {0}
Later (c ∷ cs) = AllByRecursion (λ d. c.first <ℤ d.first) cs × Later cs

-- a later contender of a station isn't one that begins alike
later-unlike : (a b : Candidate) → a.first <ℤ b.first → begin_alike a b ≡ false
later-unlike a b lt = grind (arith, ints)

-- if one precedes an earlier rival, that one isn't a leader
leaders-better : (per : Per) (o c : Candidate) (cs : List Candidate) → are_rivals per o c ≡ true
    → begin_alike o c ≡ false → leaders per (o ∷ c ∷ cs) ≡ leaders per (better o c ∷ cs)
leaders-better per o c cs rivals unlike = elim (cases_Bool (precedes c o)) [
  | inl before ↦
      leaders-first_outdone (are_rivals per) precedes (rivals-turned per) (rivals-joined per) precedes-on precedes-unlike
      o c (c ∷ cs) (inl refl) (and_from _ _ (rivals-turned per o c rivals) before)
      ∙ ap (λ (b : Bool). leaders per (cond b c o ∷ cs)) (sym before)
  | inr fails ↦
      leaders-second_outdone (are_rivals per) precedes (rivals-turned per) (rivals-joined per) precedes-on
      precedes-unlike o c cs (and_from _ _ rivals (precedes-decided c o (grind (arith, ints)) fails))
      ∙ ap (λ (b : Bool). leaders per (cond b c o ∷ cs)) (sym fails)
]

-- what is true of both is true of the better
better-has : (P : Candidate → Type 0) (o c : Candidate) → P o → P c → P (better o c)
better-has P o c one two = elim (precedes c o) as (λ b. P (cond b c o)) [ true ↦ two | false ↦ one ]

-- the better of two of one group is of their groups
better-group : (per : Per) (o c : Candidate) (day : ℤ) → same_group per o.first c.first ≡ true
    → same_group per o.first day ≡ same_group per (better o c).first day
better-group per o c day same = better-has (λ x. same_group per o.first day ≡ same_group per x.first day) o c refl
    (group-alike per o.first c.first day same)

-- what holds of the contenders that come after those of an open group
record AreAhead (per : Per) (o : Open) (cs : List Candidate) : Type 0 where
  ends : AllByRecursion (λ c. int_le c.first o.end ≡ same_group per o.best.first c.first) cs
  later : AllByRecursion (λ c. o.best.first <ℤ c.first) cs
  own : AllByRecursion (λ c. c.id ≡ o.best.id) cs
  rise : Later cs
  days : AllByRecursion (λ c. is_day c.first ≡ true) cs

-- it holds of those after a contender that opens a group
ahead-opened : (per : Per) (c : Candidate) (cs : List Candidate) → is_day c.first ≡ true
    → AllByRecursion (λ d. d.id ≡ c.id) cs → AllByRecursion (λ d. is_day d.first ≡ true) cs → Later (c ∷ cs)
    → AreAhead per (opened per c) cs
ahead-opened per c cs is own days rise = record {
  ends = from_both (λ d. is_day d.first ≡ true) (λ d. c.first <ℤ d.first)
      (λ d. int_le d.first (group_end per c.first) ≡ same_group per c.first d.first) cs
      (λ d day lt. group-stretch per c.first d.first is day lt) days rise.0;
  later = rise.0;
  own = own;
  rise = rise.1;
  days = days;
}

-- and of those after one more of the group
ahead-better : (per : Per) (o : Open) (c : Candidate) (cs : List Candidate)
    → same_group per o.best.first c.first ≡ true → AreAhead per o (c ∷ cs)
    → AreAhead per (record { best = better o.best c; end = o.end }) cs
ahead-better per o c cs same h = record {
  ends = from_each (λ d. int_le d.first o.end ≡ same_group per o.best.first d.first)
      (λ d. int_le d.first o.end ≡ same_group per (better o.best c).first d.first) cs
      (λ d e. e ∙ better-group per o.best c d.first same) h.ends.1;
  later = better-has (λ x. AllByRecursion (λ d. x.first <ℤ d.first) cs) o.best c h.later.1 h.rise.0;
  own = better-has (λ x. AllByRecursion (λ d. d.id ≡ x.id) cs) o.best c h.own.1
      (from_each (λ d. d.id ≡ o.best.id) (λ d. d.id ≡ c.id) cs (λ d e. e ∙ sym h.own.0) h.own.1);
  rise = h.rise.1;
  days = h.days.1;
}

-- a contender past the end of a group isn't a rival of one in it
no_rival : (per : Per) (o c : Candidate) → same_group per o.first c.first ≡ false → are_rivals per o c ≡ false
no_rival per o c other = ap (λ (b : Bool). b && same_id o.id c.id) other

-- nor is any after it
none_ahead : (per : Per) (o : Open) (c : Candidate) (cs : List Candidate)
    → same_group per o.best.first c.first ≡ false → AreAhead per o (c ∷ cs)
    → AllByRecursion (λ x. are_rivals per o.best x ≡ false) (c ∷ cs)
none_ahead per o c cs other h = (
  no_rival per o.best c other,
  from_both (λ d. int_le d.first o.end ≡ same_group per o.best.first d.first) (λ d. c.first <ℤ d.first)
      (λ d. are_rivals per o.best d ≡ false) cs
      (λ d e lt. no_rival per o.best d (sym e ∙ past d.first lt)) h.ends.1 h.rise.0,
) where
  past : (day : ℤ) → c.first <ℤ day → int_le day o.end ≡ false
  past day lt = let before = h.ends.0 ∙ other in grind (arith, ints)

module _ {S : Type 0} (per : Per) (taken : S → Candidate → S) where
  -- what is let go at the end
  abbrev goes : Held S → List Candidate → S
  goes h cs = let_go taken (fold (held_with per taken) h cs)

  -- the leaders of an open group and of what comes after it
  led : (o : Open) (s : S) (cs : List Candidate) → AreAhead per o cs
      → goes (Some o, s) cs ≡ fold taken s (leaders per (o.best ∷ cs))
  led o s [] h = sym (ap (fold taken s) (leaders-first_alone (are_rivals per) precedes (rivals-turned per)
      (rivals-joined per) precedes-on precedes-unlike o.best [] tt))
  led o s (c ∷ cs) h =
      let more : Held S = (Some (record { best = better o.best c; end = o.end }), s) in
      let next : Held S = (Some (opened per c), taken s o.best) in
      elim (cases_Bool (same_group per o.best.first c.first)) [
        | inl same ↦
            let rivals = and_from _ _ same (ap (λ (i : StationId). same_id o.best.id i) h.own.0
            ∙ same_id-laws.refl o.best.id) in
            ap (λ (b : Bool). goes (cond b more next) cs) (h.ends.0 ∙ same)
            ∙ led (record { best = better o.best c; end = o.end }) s cs (ahead-better per o c cs same h)
            ∙ ap (fold taken s) (sym (leaders-better per o.best c cs rivals (later-unlike o.best c h.later.0)))
        | inr other ↦
            ap (λ (b : Bool). goes (cond b more next) cs) (h.ends.0 ∙ other)
            ∙ led (opened per c) (taken s o.best) cs (ahead-opened per c cs h.days.0
            (from_each (λ d. d.id ≡ o.best.id) (λ d. d.id ≡ c.id) cs (λ d e. e ∙ sym h.own.0) h.own.1) h.days.1 h.rise)
            ∙ ap (fold taken s) (sym (leaders-first_alone (are_rivals per) precedes (rivals-turned per)
            (rivals-joined per) precedes-on precedes-unlike o.best (c ∷ cs) (none_ahead per o c cs other h)))
      ]

  -- the leaders of contenders of one station, which rise by first day
  pub leaders_taken : (id : StationId) (s : S) (cs : List Candidate) → Later cs → AllByRecursion (λ c. c.id ≡ id) cs
      → AllByRecursion (λ c. is_day c.first ≡ true) cs → goes (None, s) cs ≡ fold taken s (leaders per cs)
  leaders_taken id s [] rise own days = refl
  leaders_taken id s (c ∷ cs) rise own days =
      led (opened per c) s cs (ahead-opened per c cs days.0
      (from_each (λ d. d.id ≡ id) (λ d. d.id ≡ c.id) cs (λ d e. e ∙ sym own.0) own.1) days.1 rise)

  -- ---- the sink

  -- the sink goes along with what is held
  pub held_along : (l : Leading S) (cs : List Candidate) → l.per ≡ per
      → ((fold (leading_with taken) l cs).group, (fold (leading_with taken) l cs).sink.now)
      ≡ fold (held_with per taken) (l.group, l.sink.now) cs
  held_along l [] e = refl
  held_along l (c ∷ cs) e = held_along (leading_with taken l c) cs e
      ∙ ap (λ (p : Per). fold (held_with per taken) (held_with p taken (l.group, l.sink.now) c) cs) e

  -- and stays the same one
  pub same_sink : (l : Leading S) (cs : List Candidate)
      → (fold (leading_with taken) l cs).sink.ghost_name ≡ l.sink.ghost_name
  same_sink l [] = refl
  same_sink l (c ∷ cs) = same_sink (leading_with taken l c) cs

-- of the sink after some contenders
pub same_sink-after : {S : Type 0} (taken : S → Candidate → S) (l after : Leading S) (cs : List Candidate)
    → after ≡ fold (leading_with taken) l cs → after.sink.ghost_name ≡ l.sink.ghost_name
same_sink-after {S} taken l after cs e = ap (λ (l : Leading S). l.sink.ghost_name) e ∙ same_sink l.per taken l cs

-- and what is held after them
pub held-after : {S : Type 0} (taken : S → Candidate → S) (l after : Leading S) (cs : List Candidate)
    → after ≡ fold (leading_with taken) l cs
    → (after.group, after.sink.now) ≡ fold (held_with l.per taken) (l.group, l.sink.now) cs
held-after {S} taken l after cs e =
    ap (λ (l : Leading S). (l.group, l.sink.now)) e ∙ held_along l.per taken l cs refl

-- ---- a sink without a floor

-- what it was offered is offered to its own sink
offered_on : {S : Type 0} (taken : S → Candidate → S) (f : Floorless S) (cs : List Candidate)
    → (fold (offered_to taken) f cs).sink.now ≡ fold taken f.sink.now cs
offered_on taken f [] = refl
offered_on taken f (c ∷ cs) = offered_on taken (offered_to taken f c) cs

-- which stays the same one
same_on : {S : Type 0} (taken : S → Candidate → S) (f : Floorless S) (cs : List Candidate)
    → (fold (offered_to taken) f cs).sink.ghost_name ≡ f.sink.ghost_name
same_on taken f [] = refl
same_on taken f (c ∷ cs) = same_on taken (offered_to taken f c) cs

-- of the sink after some candidates
pub same_on-after : {S : Type 0} (taken : S → Candidate → S) (f after : Floorless S) (cs : List Candidate)
    → after ≡ fold (offered_to taken) f cs → after.sink.ghost_name ≡ f.sink.ghost_name
same_on-after {S} taken f after cs e = ap (λ (f : Floorless S). f.sink.ghost_name) e ∙ same_on taken f cs

-- and what it has taken
pub offered_on-after : {S : Type 0} (taken : S → Candidate → S) (f after : Floorless S) (cs : List Candidate)
    → after ≡ fold (offered_to taken) f cs → after.sink.now ≡ fold taken f.sink.now cs
offered_on-after {S} taken f after cs e = ap (λ (f : Floorless S). f.sink.now) e ∙ offered_on taken f cs

-- candidates that it ignores, each by itself, it ignores together
pub ignored : {S : Type 0} (taken : S → Candidate → S) (f : Floorless S) (floor : ℤ) (cs : List Candidate)
    → IgnoresBelow taken f floor → AllByRecursion (λ c. c.score <ℤ floor) cs → fold (offered_to taken) f cs ≡ f
ignored taken f floor [] _ _ = refl
ignored {S} taken f floor (c ∷ cs) ignores (low, lows) =
    ap (λ (g : Floorless S). fold (offered_to taken) g cs) (ignores c low) ∙ ignored taken f floor cs ignores lows
