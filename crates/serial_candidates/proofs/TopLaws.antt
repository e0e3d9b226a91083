-- The three parts together.
use mathlib.Core.Path.{◌∙◌, ap}
use mathlib.Core.Bool.{Bool, cond}
use mathlib.Core.List.{List}
use Prim.Native.Nat.{ℕ, ◌≤◌}
use native.Mathlib.Omega.{arith}
use Rattle.serial_candidates.specs.Owners.{OwnersBelow, Firsts}
use Rattle.serial_candidates.specs.Linkable.{can_link, Flags}
use Rattle.serial_candidates.specs.Found.{given, AllFound}
use Rattle.serial_candidates.specs.Top.{CandidateLinks}
use Rattle.serial_candidates.proofs.OwnerLaws.{first-pairs-are, linkable-is}
use Rattle.serial_candidates.proofs.FoundLaws.{linked}

pub below_all : {owners : List ℕ} {k n : ℕ} → n ≤ 256 → OwnersBelow owners k n → OwnersBelow owners k 256
below_all l h = record { each = λ i m. omega (arith, h.each i m) }

pub answered : (among : List ℕ) {n : ℕ} (own : List ℕ) {ramps removed separated : List ℕ} (owners lefts rights : List ℕ)
    (records : ℕ) {counts lowers highers marks regions firsts seconds : List ℕ} {r : ℕ}
    → Firsts owners lefts rights records counts lowers highers → Flags (can_link own ramps removed separated counts) n marks
    → AllFound (given among own marks lowers highers owners lefts rights records) regions firsts seconds r
    → CandidateLinks among n own ramps removed separated owners lefts rights records counts lowers highers regions firsts seconds r
answered among own owners lefts rights records {counts} {lowers} {highers} {marks} f m a = record {
  first-pairs = λ dirs g l bits e b p. first-pairs-are dirs g l b.few p f;
  linked = λ dirs g anchors l bits e b c p an.
      let fp = first-pairs-are dirs g l b.few p f in
      linked dirs g anchors l (given among own marks lowers highers owners lefts rights records) (record {
        ends = b.ends;
        marks-are = λ i h. m.marks-are i (omega arith) ∙ ap (λ (t : Bool). cond t 1 0) (linkable-is dirs g l b c fp i h);
        firsts = λ i h. (fp.lower-is i h, fp.higher-is i h);
        paired = p;
        anchored = an;
      }) a;
}
