-- Lists that begin with others.
use Rattle.std.proofs.Common.{◌≡◌, List, ◌++◌, ap, ◌∙◌, subst, append_assoc}
use Rattle.rank_crew.specs.Workers.{BeginsWith}

-- with more after it
pub begins_more : {A : Type 0} {xs ys : List A} (more : List A) → ys ≡ xs ++ more → BeginsWith xs ys
begins_more more e = record { more = more; parts = e }

-- with what begins with it
pub begins_through : {A : Type 0} {xs ys zs : List A} → BeginsWith xs ys → BeginsWith ys zs → BeginsWith xs zs
begins_through {A} {xs} {ys} {zs} p q = record {
  more = p.more ++ q.more;
  parts = q.parts ∙ ap (λ (l : List A). l ++ q.more) p.parts ∙ append_assoc xs p.more q.more;
}

-- with its equal
pub begins_after : {A : Type 0} {xs ys zs : List A} → ys ≡ xs → BeginsWith ys zs → BeginsWith xs zs
begins_after {A} {xs} {ys} {zs} e p = subst (λ (l : List A). BeginsWith l zs) e p
