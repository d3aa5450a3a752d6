-- Parts without a common day: a part more, and no day of theirs occurs twice.
use Rattle.ghcn_series.proofs.Cited.{◌≡◌, ℕ, zero, suc, ◌+◌, false, List, [], ◌∷◌, ◌++◌, length, get_or, Option, Some}
use Rattle.ghcn_series.proofs.Cited.{None, IsSome, inl, inr, refl, sym, ap, subst, ◌∙◌, arith, ℤ, pos, bit_or}
use Rattle.ghcn_series.proofs.Cited.{IsDistinct, AllByRecursion, keys_of, lookup, option_or, int_eq, cases_Bool}
use Rattle.ghcn_series.proofs.Cited.{false≢true, int_eq_equiv, none-some, DayValue, value_on, Block, block_days}
use Rattle.ghcn_series.proofs.Cited.{days_of_blocks, blocks_of, AreBlocks, AreRising, AreNew, AreDisjoint, AreJoined}
use Rattle.ghcn_series.proofs.Cited.{each-mapped}
use Rattle.std.proofs.Common.{set}
use Rattle.std.proofs.lemmas.Map.{lookup-none, none_passes_from_lookup}
use Rattle.ghcn_files.proofs.Ordered.{each-map}
use Rattle.ghcn_series.proofs.Lookups.{value_on-append}
use Rattle.ghcn_series.proofs.JoinedDays.{both-none, same_block, last-joined, pushed-blocks}
use Rattle.ghcn_series.proofs.PartsAdded.{days-pushed, join-last, IsJoin}
use Rattle.ghcn_series.proofs.RisingDays.{before_all, behind, front, block-rises}

-- days that are new beside two lists are new beside both together
new-both : (days one two both : List DayValue) → AreNew days one → AreNew days two → AreJoined one two both
    → AreNew days both
new-both days one two both new_one new_two is d some =
    elim (value_on one d) as (λ o. value_on one d ≡ o → value_on days d ≡ None) [
      | Some v ↦ λ e. new_one d (subst IsSome (sym e) refl)
      | None ↦ λ e. new_two d (subst IsSome (is d ∙ ap (λ (o : Option ℤ). option_or o (value_on two d)) e) some)
    ] refl

-- days that are new beside two lists in a row are new beside each
pub new-each : (xs ys more : List DayValue) → AreNew (xs ++ ys) more → AreNew xs more × AreNew ys more
new-each xs ys more new = (λ d some. (none d some).0, λ d some. (none d some).1)
  where
    none : (d : ℤ) → IsSome (value_on more d) → (value_on xs d ≡ None) × (value_on ys d ≡ None)
    none d some = both-none (value_on xs d) (value_on ys d) (sym (value_on-append xs ys d) ∙ new d some)

-- a part that is new beside others is apart from them
pub push-apart : (bs : List Block) (b : Block) → AreDisjoint bs → AreNew (days_of_blocks bs) (block_days b)
    → AreDisjoint (bs ++ b ∷ [])
push-apart [] b apart fresh = ((λ d some. absurd cc), tt)
push-apart (x ∷ xs) b apart fresh =
    let each = new-each (block_days x) (days_of_blocks xs) (block_days b) fresh in (
      new-both (block_days x) (days_of_blocks xs) (block_days b) (days_of_blocks (xs ++ b ∷ [])) apart.0 each.0
          (days-pushed xs b),
      push-apart xs b apart.1 each.1,
    )

-- and so are the others if its days are joined to the last of them
pub last-apart : (ns : List ℤ) (ws : List ℕ) (vs : List (List ℤ)) (i : ℕ) (p : ℕ) (r : List ℤ) (more : List DayValue)
    → length ws ≡ length ns → length vs ≡ length ns → i + 1 ≡ length ns
    → AreJoined (block_days (get_or ns i (pos 0), (get_or ws i 0, get_or vs i []))) more
    (block_days (get_or ns i (pos 0), (p, r)))
    → AreDisjoint (blocks_of ns ws vs) → AreNew (days_of_blocks (blocks_of ns ws vs)) more
    → AreDisjoint (blocks_of ns (set ws i p) (set vs i r))
last-apart (n ∷ []) (w ∷ ws) (v ∷ vs) zero p r more lw lv last is apart fresh = ((λ d some. absurd cc), tt)
last-apart (n ∷ ns) (w ∷ ws) (v ∷ vs) (suc i) p r more lw lv last is apart fresh =
    let each = new-each (block_days (n, (w, v))) (days_of_blocks (blocks_of ns ws vs)) more fresh in
    let joined = last-joined ns ws vs i p r more (omega arith) (omega arith) (omega arith) is in (
      new-both (block_days (n, (w, v))) (days_of_blocks (blocks_of ns ws vs)) more
          (days_of_blocks (blocks_of ns (set ws i p) (set vs i r))) apart.0 each.0 joined,
      last-apart ns ws vs i p r more (omega arith) (omega arith) (omega arith) is apart.1 each.1,
    )
last-apart ns ws vs i p r more lw lv last is apart fresh = absurd (omega arith)

-- a part more
pub pushed-apart : (ns : List ℤ) (ws : List ℕ) (vs : List (List ℤ)) → AreBlocks ns ws vs → (n : ℤ) (w : ℕ) (v : List ℤ)
    → AreDisjoint (blocks_of ns ws vs) → AreNew (days_of_blocks (blocks_of ns ws vs)) (block_days (n, (w, v)))
    → AreDisjoint (blocks_of (ns ++ n ∷ []) (ws ++ w ∷ []) (vs ++ v ∷ []))
pushed-apart ns ws vs bs n w v apart fresh =
    subst AreDisjoint (sym (pushed-blocks ns ws vs n w v bs.enough_words bs.enough_values))
    (push-apart (blocks_of ns ws vs) (n, (w, v)) apart fresh)

-- more days of the last part
pub join-apart : (ns : List ℤ) (ws : List ℕ) (vs : List (List ℤ)) (i p : ℕ) (u r : List ℤ) → IsJoin ns ws vs i p u r
    → AreDisjoint (blocks_of ns ws vs) → AreDisjoint (blocks_of ns (set ws i (bit_or (get_or ws i 0) p)) (set vs i r))
join-apart ns ws vs i p u r is apart =
    last-apart ns ws vs i (bit_or (get_or ws i 0) p) r (block_days (get_or ns i (pos 0), (p, u)))
    is.blocks.enough_words is.blocks.enough_values is.last (join-last ns ws vs i p u r is) apart is.fresh

-- ---- no day occurs twice

-- a day is looked up among pairs as it is in a map
pub lookup-is : (q : ℤ) (xs : List DayValue) → lookup (int_eq q) xs ≡ value_on xs q
lookup-is q [] = refl
lookup-is q (x ∷ xs) = rw (int_eq_equiv.symm q x.0)
    (elim (cases_Bool (int_eq x.0 q)) [ inl here ↦ rw here | inr other ↦ rw other (lookup-is q xs) ])

-- a day without a value isn't one of the days
none-is : (xs : List DayValue) (d : ℤ) → value_on xs d ≡ None → AllByRecursion (λ k. int_eq d k ≡ false) (keys_of xs)
none-is xs d none = each-map (λ (x : DayValue). x.0) (λ (k : ℤ). int_eq d k ≡ false) xs
    (none_passes_from_lookup (int_eq d) xs (lookup-is d xs ∙ none))

-- and a day that isn't one of them has no value
pub none-from : (xs : List DayValue) (d : ℤ) → AllByRecursion (λ k. int_eq d k ≡ false) (keys_of xs)
    → value_on xs d ≡ None
none-from xs d all = sym (lookup-is d xs)
    ∙ lookup-none (int_eq d) xs (each-mapped (λ (x : DayValue). x.0) (λ (k : ℤ). int_eq d k ≡ false) xs all)

-- of days in a row, of which no two are the same, the later are new
pub new-behind : (xs ys : List DayValue) → IsDistinct int_eq (keys_of (xs ++ ys)) → AreNew xs ys
unfolding IsDistinct
new-behind [] ys distinct d some = refl
new-behind (x ∷ xs) ys distinct d some = elim (same_block x.0 d) [
  | inl here ↦
      let none = both-none (value_on xs x.0) (value_on ys x.0) (sym (value_on-append xs ys x.0)
      ∙ none-from (xs ++ ys) x.0 distinct.0) in
      absurd (false≢true (subst IsSome (ap (value_on ys) (sym here) ∙ none.1) some))
  | inr other ↦ behind x xs d other ∙ new-behind xs ys distinct.1 d some
]

-- distinct days, and new ones after them, are distinct
new-distinct : (xs ys : List DayValue) → AreNew xs ys → IsDistinct int_eq (keys_of xs) → IsDistinct int_eq (keys_of ys)
    → IsDistinct int_eq (keys_of (xs ++ ys))
unfolding IsDistinct
new-distinct [] ys fresh p q = q
new-distinct (x ∷ xs) ys fresh p q =
    let later : value_on ys x.0 ≡ None =
    elim (value_on ys x.0) as (λ o. value_on ys x.0 ≡ o → o ≡ None) [
      | None ↦ λ e. refl
      | Some v ↦ λ e. absurd (none-some x.1 (sym (sym (front x xs) ∙ fresh x.0 (subst IsSome (sym e) refl))))
    ] refl in (
      none-is (xs ++ ys) x.0 (rw (value_on-append xs ys x.0, none-from xs x.0 p.0) later),
      new-distinct xs ys (new-each (x ∷ []) xs ys fresh).1 p.1 q,
    )

-- rising days are distinct
pub rising-distinct : (xs : List DayValue) → AreRising xs → IsDistinct int_eq (keys_of xs)
unfolding IsDistinct
rising-distinct [] rise = tt
rising-distinct (x ∷ xs) rise = (none-is xs x.0 (before_all xs x.0 rise.0), rising-distinct xs rise.1)

-- parts that are apart have no day twice
pub apart-distinct : (bs : List Block) → AreDisjoint bs → IsDistinct int_eq (keys_of (days_of_blocks bs))
unfolding IsDistinct
apart-distinct [] apart = tt
apart-distinct (b ∷ bs) apart =
    new-distinct (block_days b) (days_of_blocks bs) apart.0 (rising-distinct (block_days b) (block-rises b))
    (apart-distinct bs apart.1)
