-- Counts of other codes, and those of other lines.
use Rattle.std.proofs.Common.{◌≡◌, ℕ, ◌+◌, ◌-◌, ◌<◌, ◌≤◌, cond, List, [], length, get_or, take, refl, ap, ◌∙◌}
use Rattle.std.proofs.Common.{arith, inl, inr, Ordering}
use Rattle.std.specs.Prelude.{◌⊎◌}
use Rattle.std.specs.List.{sum_by}
use Rattle.std.specs.Cmp.Lexicographic.{slice_cmp}
use Rattle.std.specs.Ordering.{nat_cmp, is_lt}
use Rattle.std.specs.declared.cmp.Ordering.TheVariants.{Less, Equal, Greater}
use Rattle.std.proofs.lemmas.List.{length-take, take_all}
use Rattle.std.proofs.lemmas.List.Sums.{count_by-le-length, sum_by_more}
use Rattle.ghcn_description.specs.declared.counts.CodeCount.{CodeCount}
use Rattle.ghcn_description.specs.declared.others.Others.{Others}
use Rattle.ghcn_description.specs.Described.{CountSmallest, Precedes, codes_before, lines_for, most_codes}
use Rattle.ghcn_description.specs.Steps.{CountsCode}
use Rattle.ghcn_description.proofs.OtherCodes.{IsInOrFar, beyond, counted, lines_at, one_before, same-counts}

-- if as many as are named come before a code, the last of these does
last-before : (cs : List CodeCount) (k : List ℕ) (i : ℕ) (d : CodeCount) → i + 1 ≡ length cs
    → length cs ≤ codes_before cs k → Precedes (get_or cs i d).code k
last-before cs k i d last many =
    let more = sum_by_more (one_before k) cs i d (omega (arith, last)) in
    let all : sum_by (one_before k) (take (i + 1) cs) ≡ codes_before cs k =
    ap (sum_by (one_before k)) (take_all (i + 1) cs (omega (arith, last))) in
    let front = count_by-le-length (λ (c : CodeCount). is_lt (slice_cmp nat_cmp c.code k)) (take i cs) in
    is-less (slice_cmp nat_cmp (get_or cs i d).code k)
    (omega (arith, last, many, more, all, front, length-take i cs))
  where
    is-less : (o : Ordering) → 1 ≤ cond {A = ℕ} (is_lt o) 1 0 → o ≡ Less
    is-less Less one = refl
    is-less Equal one = absurd (omega (arith, one))
    is-less Greater one = absurd (omega (arith, one))

-- the lines that others have counted are counted, and their further ones are further ones
pub joined : (f g : List ℕ → ℕ) (all more : ℕ) (cs ds : List CodeCount) (n m : ℕ)
    → CountSmallest (λ k. f k + lines_for ds k) (all + sum_by (λ c. c.lines) ds) cs n
    → CountSmallest g more ds m → CountSmallest (λ k. f k + g k) (all + more) cs (n + m)
joined f g all more cs ds n m is of = record {
  few = is.few;
  codes = record {
    rising = is.codes.rising;
    some = is.codes.some;
    each = λ k. go k (is.codes.each k) (of.codes.each k);
    total = omega (arith, is.codes.total, of.codes.total);
  };
}
  where
    in_or_far : (i : ℕ) (d : CodeCount) → i < length ds → IsInOrFar cs (get_or ds i d).code
    in_or_far i d lt = elim (is.codes.each (get_or ds i d).code) [
      | inl has ↦ inl (omega (arith, has, counted ds i d of.codes.some lt))
      | inr far ↦ inr far
    ]

    go : (k : List ℕ) → (lines_for cs k ≡ f k + lines_for ds k) ⊎ (most_codes ≤ codes_before cs k)
        → (lines_for ds k ≡ g k) ⊎ (most_codes ≤ codes_before ds k)
        → (lines_for cs k ≡ f k + g k) ⊎ (most_codes ≤ codes_before cs k)
    go k (inr far) there = inr far
    go k (inl has) (inl all) = inl (has ∙ ap (λ m. f k + m) all)
    go k (inl has) (inr far) =
        let none : CodeCount = record { code = []; lines = 0 } in
        let few = count_by-le-length (λ (c : CodeCount). is_lt (slice_cmp nat_cmp c.code k)) ds in
        let i : ℕ = length ds - 1 in
        let full : i + 1 ≡ length ds = omega (arith, far, few) in
        let many : length ds ≡ most_codes = omega (arith, far, few, of.few) in
        inr (beyond ds cs of.codes.rising in_or_far k i none (omega (arith, full, many)) (omega (arith, full))
        (last-before ds k i none full (omega (arith, many, far))))

-- ---- code by code

-- counts with those of the first codes of others
abbrev pub HasCounted : (List ℕ → ℕ) → ℕ → List CodeCount → Others → Type 0
HasCounted f all ds o =
    CountSmallest (λ k. f k + lines_for ds k) (all + sum_by (λ c. c.lines) ds) o.counts.items o.further

-- with those of none
pub counted-none : (f : List ℕ → ℕ) (all : ℕ) (o : Others) → CountSmallest f all o.counts.items o.further
    → HasCounted f all [] o
counted-none f all o is =
    same-counts f (λ k. f k + lines_for [] k) all (all + 0) o.counts.items o.further (λ k. omega arith) (omega arith) is

-- with those of one code more
pub counted-more : (f : List ℕ → ℕ) (all : ℕ) (ds : List CodeCount) (i : ℕ) (d : CodeCount) (old new : Others)
    → i < length ds → CountsCode old new (get_or ds i d).code (get_or ds i d).lines → HasCounted f all (take i ds) old
    → HasCounted f all (take (i + 1) ds) new
counted-more f all ds i d old new lt adds is =
    let now : List CodeCount = take i ds in
    let sum : ℕ = sum_by (λ (c : CodeCount). c.lines) now in
    let one : CodeCount = get_or ds i d in
    same-counts (λ k. (f k + lines_for now k) + lines_at k one) (λ k. f k + lines_for (take (i + 1) ds) k)
    ((all + sum) + one.lines) (all + sum_by (λ (c : CodeCount). c.lines) (take (i + 1) ds)) new.counts.items new.further
    (λ k. omega (arith, sum_by_more (lines_at k) ds i d lt))
    (omega (arith, sum_by_more (λ (c : CodeCount). c.lines) ds i d lt))
    (adds.holds (λ k. f k + lines_for now k) (all + sum) is)
