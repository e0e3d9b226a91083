-- Keys tell their values apart.
use mathlib.Core.Path.{◌≡◌, refl}
use mathlib.Core.List.{[], ◌∷◌}
use Prim.Native.Nat.{ℕ}
use native.Mathlib.Omega.{arith}
use Rattle.order.specs.Keys.{Injective}
use Rattle.context.specs.Listing.{span_key}
use Rattle.length.specs.Total.{total_key}
use Rattle.length.proofs.Total.{total-key-inj}
use Rattle.serial_merging.specs.Keys.{source_key, sources_key, observation_key}

pub span-inj : Injective span_key
unfolding span_key
span-inj s t e =
    let f : s.a.x ≡ t.a.x = cc in
    let g : s.a.y ≡ t.a.y = cc in
    let h : s.b.x ≡ t.b.x = cc in
    let k : s.b.y ≡ t.b.y = cc in
    λ i. record { a = record { x = f i; y = g i }; b = record { x = h i; y = k i } }

pub source-inj : Injective source_key
unfolding source_key
source-inj s t e = let f : s.from ≡ t.from = cc in let g : s.to ≡ t.to = cc in λ i. record { from = f i; to = g i }

pub sources-inj : Injective sources_key
unfolding sources_key
sources-inj [] [] e = refl
sources-inj [] (t ∷ ts) e = let z : ◌≡◌ {A = ℕ} 0 1 = cc in absurd (omega arith)
sources-inj (s ∷ ss) [] e = let z : ◌≡◌ {A = ℕ} 0 1 = cc in absurd (omega arith)
sources-inj (s ∷ ss) (t ∷ ts) e =
    let f : s.from ≡ t.from = cc in
    let g : s.to ≡ t.to = cc in
    let h : sources_key ss ≡ sources_key ts = cc in
    let k = sources-inj ss ts h in
    let m : s ≡ t = λ i. record { from = f i; to = g i } in
    cc

pub observation-inj : Injective observation_key
unfolding observation_key span_key
observation-inj o p e =
    let h : total_key o.bits ≡ total_key p.bits = cc in
    let i : sources_key o.sources ≡ sources_key p.sources = cc in
    let j : span_key o.ends ≡ span_key p.ends = cc in
    let f = total-key-inj o.bits p.bits h in
    let g = sources-inj o.sources p.sources i in
    let k = span-inj o.ends p.ends j in
    λ i. record { ends = k i; bits = f i; sources = g i }
